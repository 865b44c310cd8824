-- ADST4 by six products: 15212 = 5283 + 9929.
use mathlib.Core.Path.{◌≡◌, sym, subst}
use mathlib.Core.List.{List}
use Prim.Native.Nat.{ℕ, ◌^◌}
use native.Mathlib.Omega.{arith}
use lib.Dec.{lit≤}
use lib.IntN.{ℤ, pos, ◌+ℤ◌, ◌-ℤ◌, ◌*ℤ◌}
use Rattle.whole.proofs.Ring.{E, at, ◌⊕◌, ◌⊖◌, ◌⊗◌, ring}
use Rattle.whole.specs.Inner.{Ok}
use Rattle.whole.specs.Within.{Within}
use Rattle.whole.proofs.Steps.{ok_here}
use Rattle.whole.proofs.Within.{within_self, within_le, within_add, within_sub, within_mul}
use Rattle.steps.specs.Inner.{FourWithin, Fine2}
use Rattle.steps.specs.Step2.{step2, fresh}
use Rattle.adst.specs.Adst.{adst_steps}

abbrev by : ℕ → E → E
by n e = at (pos n) ⊗ e

module _ (a b c d : ℤ) where
  abbrev pub sum0 : ℤ
  sum0 = pos 5283 *ℤ (a +ℤ c) +ℤ pos 9929 *ℤ (c +ℤ d)

  abbrev pub sum1 : ℤ
  sum1 = pos 9929 *ℤ (a -ℤ d) -ℤ pos 5283 *ℤ (c +ℤ d)

  pub sum0_is : sum0 ≡ pos 5283 *ℤ a +ℤ pos 15212 *ℤ c +ℤ pos 9929 *ℤ d
  sum0_is = ring (by 5283 (at a ⊕ at c) ⊕ by 9929 (at c ⊕ at d)) (by 5283 (at a) ⊕ by 15212 (at c) ⊕ by 9929 (at d)) (omega arith)

  pub sum1_is : sum1 ≡ pos 9929 *ℤ a -ℤ pos 5283 *ℤ c -ℤ pos 15212 *ℤ d
  sum1_is = ring (by 9929 (at a ⊖ at d) ⊖ by 5283 (at c ⊕ at d)) (by 9929 (at a) ⊖ by 5283 (at c) ⊖ by 15212 (at d)) (omega arith)

  -- the last sum is shorter than its parts
  shorter : sum0 +ℤ sum1 -ℤ pos 13377 *ℤ b ≡ pos 15212 *ℤ a +ℤ pos 9929 *ℤ c -ℤ pos 5283 *ℤ d -ℤ pos 13377 *ℤ b
  shorter =
      ring ((by 5283 (at a ⊕ at c) ⊕ by 9929 (at c ⊕ at d)) ⊕ (by 9929 (at a ⊖ at d) ⊖ by 5283 (at c ⊕ at d)) ⊖ by 13377 (at b))
      (by 15212 (at a) ⊕ by 9929 (at c) ⊖ by 5283 (at d) ⊖ by 13377 (at b)) (omega arith)

  pub last_within : Within (2 ^ 46) a → Within (2 ^ 46) b → Within (2 ^ 46) c → Within (2 ^ 46) d → Within (2 ^ 62) (sum0 +ℤ sum1 -ℤ pos 13377 *ℤ b)
  last_within p q r s =
      subst (Within (2 ^ 62)) (sym shorter)
      (within_le (lit≤ tt) (within_sub (within_sub (within_add (within_mul (within_self (pos 15212)) p) (within_mul (within_self (pos 9929)) r)) (within_mul (within_self (pos 5283)) s)) (within_mul (within_self (pos 13377)) q)))

-- what the one step of ADST4 reads
pub four_within : (t : List ℤ) → Ok step2 (Fine2 (2 ^ 46)) (adst_steps 2) (fresh t) → FourWithin (2 ^ 46) t
unfolding adst_steps fresh
four_within t h = ok_here h
