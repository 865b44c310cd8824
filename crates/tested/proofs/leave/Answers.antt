-- `tested::leave` meets its contract: the bits as the code has them are the definition's, by computation.
use mathlib.Core.Path.{◌≡◌, ◌∙◌}
use Prim.Native.Nat.{ℕ, ◌≤◌, ◌<◌, ◌/◌, ◌^◌}
use native.Mathlib.Omega.{arith}
use lib.Bits.{bit_xor}
use lib.Dec.{T, eqb, eqb→eq}
use lib.IntN.{pos}
use lib.ListN.{get_or}
use lib.Pow.{pow_mono}
use mir.Syntax.{w16}
use Rattle.whole.specs.Lists.{move}
use Rattle.whole.proofs.Lists.{fill_none, fill_more, fill_done}
use Rattle.whole.proofs.Signed.{rd_ok}
use Rattle.whole.proofs.Tests.{all_below, below}
use Rattle.primitives.specs.Brev.{Brev}
use Rattle.primitives.proofs.Reversal.{brev_lt}
use Rattle.steps.specs.Step.{step}
use Rattle.adst.specs.Adst.{out8, out16, adst_out}
use Rattle.adst.proofs.Adst.{two_to_four}
use Rattle.tested.proofs.leave.Goals as goal
use Rattle.tested.proofs.leave.Goals.{After-brev}

same : ℕ → ℕ → Type 0
same n m = T (all_below m (λ k. eqb (Brev n (bit_xor k (k / 2))) (adst_out n k)))

out_is : (n k : ℕ) → 3 ≤ n → n ≤ 4 → k < 2 ^ n → Brev n (bit_xor k (k / 2)) ≡ adst_out n k
unfolding same Brev adst_out out8 out16
out_is n k l h = two_to_four (λ n. 3 ≤ n → k < 2 ^ n → Brev n (bit_xor k (k / 2)) ≡ adst_out n k) (λ q _. absurd (omega arith)) (λ _. at 3 8 tt) (λ _. at 4 16 tt) n (omega arith) h l
  where
    at : (n m : ℕ) → same n m → k < m → Brev n (bit_xor k (k / 2)) ≡ adst_out n k
    at n m t b = eqb→eq (Brev n (bit_xor k (k / 2))) (adst_out n k) (below m (λ k. eqb (Brev n (bit_xor k (k / 2))) (adst_out n k)) t k b)

-- the number's place is one of t
inside : (c : After-brev) → c.brev.result < 32
inside c =
    omega (arith, c.brev.ensures, brev_lt c.args.n (bit_xor c.loop-k.k (c.loop-k.k / 2)), pow_mono {i = c.args.n} {j = 5} (omega arith))

pub loop-k-preserved : goal.loop-k-preserved
loop-k-preserved c =
    let r = c.brev in
    let e = rd_ok w16 {z = get_or c.args.t.now r.result (pos 0)} c.t-1.given in
    let f = r.ensures ∙ out_is c.args.n c.loop-k.k c.requires.0 c.requires.1 (omega (arith, c.side-k-end.ensures.0, c.loop-k-test.true)) in
    (omega arith, fill_more _ _ _ c.loop-k.invariant.1 (rw (e, f)))

pub returns : goal.returns
unfolding step move
returns c =
    let n = c.args.n in
    fill_done _ _ c.loop-k.k (2 ^ n) (omega (arith, c.side-k-end.ensures.0)) (omega (arith, c.side-k-end.ensures.0)) c.loop-k.invariant.1

pub loop-k-init : goal.loop-k-init
loop-k-init c = (omega arith, fill_none _ _)

pub offset_bounds-copy_t-brev : goal.offset_bounds-copy_t-brev
offset_bounds-copy_t-brev c = omega (arith, inside c)

pub bounds-copy_t-brev : goal.bounds-copy_t-brev
bounds-copy_t-brev c = inside c
