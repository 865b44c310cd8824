use mathlib.Core.Path.{◌≡◌, ap, ◌∙◌}
use Prim.Native.Nat.{ℕ, ◌+◌, ◌*◌, ◌/◌, ◌^◌, ◌≤◌}
use native.Mathlib.Omega.{arith}
use borrow.Author.Rules.{rules}
use lib.Dec.{lit≤}
use lib.IntN.{ℤ, pos, ◌*ℤ◌}
use mir.Syntax.{w64}
use Rattle.whole.specs.Round.{Round2}
use Rattle.whole.proofs.Signed.{loc, lit, ◌⊗◌, rd_ok, fits, value, within}
use Rattle.whole.specs.Within.{Within}
use Rattle.whole.proofs.Round.{round2_within}
use Rattle.whole.proofs.Within.{within_le, within_mul, within_lit}
use Rattle.steps.specs.Inner.{turned}
use Rattle.blocks.specs.Inner.{dc_value}
use Rattle.dc.proofs.dc_value.Goals as goal
use Rattle.dc.proofs.dc_value.Goals.{After-round2-col, After-round2-row}

-- the first product rounded, and the second
row_is : (c : After-round2-row) → c.round2-row.result ≡ turned c.args.x
unfolding turned
row_is c = c.round2-row.ensures ∙ ap (λ (u : ℤ). Round2 u 14) (value w64 (loc c.requires.2 ⊗ lit (pos 11585)) tt)

turned_within : (m k : ℕ) {x : ℤ} → (m * 11585 + 8192) / 16384 ≤ k → Within m x → Within k (turned x)
unfolding turned
turned_within m k {x} h b = within_le h (round2_within 14 {x = x *ℤ pos 11585} (omega arith) (within_mul b (within_lit 11585 (pos 11585) tt)))

row : (c : After-round2-row) → Within (2 ^ 31) c.round2-row.result
row c = rw (row_is c) (turned_within (2 ^ 31) (2 ^ 31) (lit≤ tt) c.requires.2)

column_is : (c : After-round2-col) → c.round2-col.result ≡ turned c.round2-row.result
unfolding turned
column_is c = c.round2-col.ensures ∙ ap (λ (u : ℤ). Round2 u 14) (value w64 (loc (row c.before) ⊗ lit (pos 11585)) tt)

column : (c : After-round2-col) → Within (2 ^ 31) c.round2-col.result
column c = rw (column_is c) (turned_within (2 ^ 31) (2 ^ 31) (lit≤ tt) (row c.before))

pub overflow_mul-x : goal.overflow_mul-x
overflow_mul-x c = fits w64 (loc c.requires.2 ⊗ lit (pos 11585)) tt

pub round2-row-requires : goal.round2-row-requires
round2-row-requires c = (lit≤ tt, lit≤ tt, within w64 (2 ^ 62) (loc c.requires.2 ⊗ lit (pos 11585)) tt tt)

pub overflow_mul-row : goal.overflow_mul-row
overflow_mul-row c = fits w64 (loc (row c) ⊗ lit (pos 11585)) tt

pub round2-col-requires : goal.round2-col-requires
round2-col-requires c = (lit≤ tt, lit≤ tt, within w64 (2 ^ 62) (loc (row c) ⊗ lit (pos 11585)) tt tt)

pub round2-requires : goal.round2-requires
round2-requires c = (search rules, search rules, within w64 (2 ^ 62) (loc (column c.before)) tt tt)

pub returns : goal.returns
unfolding dc_value
returns c =
    rd_ok w64 c.round2.type_inv
    ∙ c.round2.ensures
    ∙ ap (λ (u : ℤ). Round2 u c.rounding_bits.result) (value w64 (loc (column c.before.before)) tt ∙ column_is c.before.before ∙ ap turned (row_is c.before.before.before))
    ∙ ap (λ (k : ℕ). Round2 (turned (turned c.args.x)) k) c.rounding_bits.ensures.0
