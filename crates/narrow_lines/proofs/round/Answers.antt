-- `narrow_lines::round` meets its contract.
use mathlib.Core.Path.{◌≡◌, ap, ◌∙◌}
use mathlib.Core.List.{List}
use Prim.Native.Nat.{ℕ, ◌≤◌}
use native.Mathlib.Nat.{le_refl}
use native.Mathlib.Omega.{arith}
use lib.Dec.{lit≤}
use lib.IntN.{ℤ, pos}
use lib.ListN.{get_or, set}
use mir.Syntax.{w16}
use mir.ValLaws.{to_z-of_z}
use Rattle.whole.proofs.Lists.{fill_none, fill_more, fill_done, fill_rest}
use Rattle.whole.proofs.Signed.{rd_ok}
use Rattle.answers.specs.Sizes.{area}
use Rattle.dct.proofs.Dct.{two_to_five}
use Rattle.blocks.specs.Inverse.{bits, rounding}
use Rattle.narrow_lines.proofs.round.Goals as goal

five_or_six : (n : ℕ) → 3 ≤ n → n ≤ 5 → (5 ≤ bits n) × (bits n ≤ 6)
five_or_six n l h =
    two_to_five (λ n. 3 ≤ n → (5 ≤ bits n) × (bits n ≤ 6)) (λ l. absurd (omega arith)) (λ _. (lit≤ tt, lit≤ tt)) (λ _. (lit≤ tt, lit≤ tt)) (λ _. (lit≤ tt, lit≤ tt)) n (omega arith) h l

pub loop-k-preserved : goal.loop-k-preserved
loop-k-preserved c =
    let l = c.loop-k in
    let t = to_z-of_z w16 (get_or l.z l.k (pos 0)) (record { sfits = c.rounded-arg-1.given }) in
    let old : get_or l.z l.k (pos 0) ≡ get_or c.args.z.now l.k (pos 0) =
    ap (λ (y : List ℤ). get_or y l.k (pos 0)) l.invariant.1 ∙ fill_rest (pos 0) l.k _ c.args.z.now l.k (le_refl l.k) in
    let e = rd_ok w16 {z = c.rounded.result} c.rounded.type_inv ∙ rw (t, old, c.rounding_bits-shift.ensures.0) at c.rounded.ensures in
    (omega arith, fill_more _ _ l.k l.invariant.1 (ap (set l.z l.k) e))

pub returns : goal.returns
unfolding rounding
returns c =
    let e = c.area-k-end.ensures.0 in
    fill_done _ _ c.loop-k.k (area c.args.n) (rw e at c.loop-k.invariant.0) (rw e at c.loop-k-test.false) c.loop-k.invariant.1

pub loop-k-init : goal.loop-k-init
loop-k-init c = (omega arith, fill_none _ _)

pub rounded-requires : goal.rounded-requires
rounded-requires c = rw c.rounding_bits-shift.ensures.0 (five_or_six c.args.n c.requires.0 c.requires.1)
