-- `place` of `Input` meets its contract.
use mathlib.Core.Path.{◌≡◌, sym, ap, ◌∙◌}
use Prim.Native.Nat.{ℕ, ◌-◌, ◌%◌, ◌^◌}
use native.Mathlib.Omega.{arith}
use lib.Pow.{pow_mono}
use borrow.Author.Tests.{eq-eqb, ne_eqb}
use Rattle.adst.specs.Adst.{adst_in}
use Rattle.narrow_adst.proofs.InputOrder.place.Goals as goal
use Rattle.narrow_adst.proofs.InputOrder.place.Goals.{Else-n-eq4, Then-n-eq4}

odd : (n k : ℕ) → (k % 2 ≡ 0 → ⊥) → k - 1 ≡ adst_in n k
unfolding adst_in
odd n k h = rw (ne_eqb (k % 2) 0 h)

even : (n k : ℕ) → k % 2 ≡ 0 → 2 ^ n - 1 - k ≡ adst_in n k
unfolding adst_in
even n k h = rw (eq-eqb (k % 2) 0 h)

pub returns-then-k-ne0 : goal.returns-then-k-ne0
returns-then-k-ne0 c =
    let n = c.args.n in
    (odd n c.args.k c.if-k-ne0.true, omega (arith, pow_mono {i = n} {j = 4} c.requires.1))

-- of 16 numbers, and of 8
sixteen : (c : Then-n-eq4) → 2 ^ c.args.n ≡ 16
sixteen c = ap (λ (n : ℕ). 2 ^ n) c.if-n-eq4.true

eight : (c : Else-n-eq4) → 2 ^ c.args.n ≡ 8
eight c = let e : c.args.n ≡ 3 = omega (arith, c.if-n-eq4.false) in ap (λ (n : ℕ). 2 ^ n) e

pub overflow_sub-result-then-n-eq4 : goal.overflow_sub-result-then-n-eq4
overflow_sub-result-then-n-eq4 c = omega (arith, sixteen c)

pub returns-then-n-eq4 : goal.returns-then-n-eq4
returns-then-n-eq4 c =
    (ap (λ (m : ℕ). m - 1 - c.args.k) (sym (sixteen c)) ∙ even c.args.n c.args.k (omega arith), omega arith)

pub overflow_sub-result-2 : goal.overflow_sub-result-2
overflow_sub-result-2 c = omega (arith, eight c)

pub returns : goal.returns
returns c =
    (ap (λ (m : ℕ). m - 1 - c.args.k) (sym (eight c)) ∙ even c.args.n c.args.k (omega arith), omega arith)
