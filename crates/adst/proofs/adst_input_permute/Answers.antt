-- `adst::adst_input_permute` meets its contract.
use mathlib.Core.Path.{◌≡◌, refl, subst}
use mathlib.Core.List.{List}
use Prim.Native.Nat.{ℕ, ◌-◌, ◌+◌, ◌*◌, ◌%◌, ◌^◌}
use native.Mathlib.Omega.{arith}
use lib.IntN.{ℤ, pos}
use lib.ListN.{get_or, set}
use mir.Syntax.{w64}
use borrow.Author.Tests.{eq-eqb, ne_eqb}
use Rattle.whole.specs.Lists.{fill, move}
use Rattle.whole.proofs.Lists.{fill_none, fill_more, fill_done}
use Rattle.whole.proofs.Round.{two_halves}
use Rattle.whole.proofs.Signed.{rd_ok}
use Rattle.steps.specs.Step.{step}
use Rattle.adst.specs.Adst.{adst_in}
use Rattle.adst.proofs.adst_input_permute.Goals as goal

-- where the two numbers of a turn come from
from_end : (n i : ℕ) → adst_in n (2 * i) ≡ 2 ^ n - 1 - 2 * i
unfolding adst_in
from_end n i = rw (eq-eqb (2 * i % 2) 0 (omega arith))

from_start : (n i : ℕ) → adst_in n (2 * i + 1) ≡ 2 * i
unfolding adst_in
from_start n i = rw (ne_eqb ((2 * i + 1) % 2) 0 (λ e. omega arith)) (omega arith)

-- a turn that fills two places
fill_two : (g : ℕ → ℤ) (u : List ℤ) (i : ℕ) {y z : List ℤ} → y ≡ fill (2 * i) g u → z ≡ set (set y (2 * i) (g (2 * i))) (2 * i + 1) (g (2 * i + 1))
    → z ≡ fill (2 * (i + 1)) g u
fill_two g u i {y} {z} p q =
    let e : 2 * i + 1 + 1 ≡ 2 * (i + 1) = omega arith in
    subst (λ (k : ℕ). z ≡ fill k g u) e (fill_more g u (2 * i + 1) (fill_more g u (2 * i) p refl) q)

pub loop-i-init : goal.loop-i-init
loop-i-init c = fill_none _ _

pub loop-i-preserved : goal.loop-i-preserved
loop-i-preserved c =
    let n = c.args.n in
    let i = c.loop-i.i in
    let t = c.args.t.now in
    let e = rd_ok w64 {z = get_or t (c.side-n0.result - 1 - 2 * i) (pos 0)} c.t-1.given in
    let f = rd_ok w64 {z = get_or t (2 * i) (pos 0)} c.t-in-loop-i-1.given in
    fill_two (λ k. get_or t (adst_in n k) (pos 0)) t i c.loop-i.invariant (rw (e, f, c.side-n0.ensures.0, from_end n i, from_start n i))

pub returns : goal.returns
unfolding step move
returns c =
    let n = c.args.n in
    let h = two_halves n (omega arith) in
    fill_done _ _ (2 * c.loop-i.i) (2 ^ n) (omega (arith, c.side-n0.ensures.0, h)) (omega (arith, c.side-n0.ensures.0, h)) c.loop-i.invariant
