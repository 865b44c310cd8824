use mathlib.Core.Path.{◌≡◌, ap, ◌∙◌}
use Prim.Native.Nat.{ℕ, ◌≤◌}
use native.Mathlib.Omega.{arith}
use borrow.Author.Tests.{ne_eqb}
use lib.IntN.{ℤ, pos}
use mir.Syntax.{w32}
use Rattle.whole.specs.Round.{Round2}
use Rattle.whole.specs.Within.{Within}
use Rattle.whole.proofs.Signed.{C, loc, lit, ◌⊗◌, rd_ok, fits, value, within}
use Rattle.whole.proofs.Within.{within_le}
use Rattle.steps.specs.Inner.{turned}
use Rattle.blocks.specs.Inner.{dc_value}
use Rattle.idct32.proofs.Flat.{turned_within, bits_most}
use Rattle.idct32.specs.Inner.{rounded}
use Rattle.idct32.proofs.flat_value.Goals as goal
use Rattle.idct32.proofs.flat_value.Goals.{After-round14-column, After-round14-row}

-- a number of 16 bits by 11585
abbrev product : {x : ℤ} → Within 32768 x → C
product b = loc b ⊗ lit (pos 11585)

-- the first product rounded, and the second
row_is : (c : After-round14-row) → c.round14-row.result ≡ turned c.args.x
unfolding turned
row_is c = c.round14-row.ensures ∙ ap (λ (u : ℤ). Round2 u 14) (value w32 (product c.requires.2) tt)

row : (c : After-round14-row) → Within 32768 c.round14-row.result
row c = rw (row_is c) (within_le (omega arith) (turned_within c.requires.2))

column_is : (c : After-round14-column) → c.round14-column.result ≡ turned c.round14-row.result
unfolding turned
column_is c = c.round14-column.ensures ∙ ap (λ (u : ℤ). Round2 u 14) (value w32 (product (row c.before)) tt)

column : (c : After-round14-column) → Within 32768 c.round14-column.result
column c = rw (column_is c) (within_le (omega arith) (turned_within (row c.before)))

pub round2-requires : goal.round2-requires
round2-requires c =
    let r = c.rounding_bits.ensures in
    (rw r.0 (bits_most c.args.n c.requires.0 c.requires.1), within w32 32768 (loc (column c.before)) tt tt)

some_bits : (x : ℤ) (k : ℕ) → 1 ≤ k → rounded x k ≡ Round2 x k
unfolding rounded
some_bits x k h = rw (ne_eqb k 0 (λ e. omega arith))

pub returns : goal.returns
unfolding dc_value
returns c =
    rd_ok w32 c.round2.type_inv
    ∙ c.round2.ensures
    ∙ some_bits _ c.rounding_bits.result c.rounding_bits.ensures.1
    ∙ ap (λ (u : ℤ). Round2 u c.rounding_bits.result) (value w32 (loc (column c.before.before)) tt ∙ column_is c.before.before ∙ ap turned (row_is c.before.before.before))
    ∙ ap (λ (k : ℕ). Round2 (turned (turned c.args.x)) k) c.rounding_bits.ensures.0

pub overflow_mul-x : goal.overflow_mul-x
overflow_mul-x c = fits w32 (product c.requires.2) tt

pub round14-row-requires : goal.round14-row-requires
round14-row-requires c = within w32 2147475455 (product c.requires.2) tt tt

pub overflow_mul-row : goal.overflow_mul-row
overflow_mul-row c = fits w32 (product (row c)) tt

pub round14-column-requires : goal.round14-column-requires
round14-column-requires c = within w32 2147475455 (product (row c)) tt tt
