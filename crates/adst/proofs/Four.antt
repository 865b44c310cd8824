-- The last sum of ADST4, x0 + x1 − x3, is shorter than its parts: 15212 a + 9929 c − 5283 d − 13377 b.
use mathlib.Core.Path.{◌≡◌, sym, subst}
use Prim.Native.Nat.{ℕ, ◌+◌, ◌*◌}
use native.Mathlib.Omega.{arith}
use lib.IntN.{ℤ, pos, ◌+ℤ◌, ◌-ℤ◌, ◌*ℤ◌}
use Rattle.whole.proofs.Ring.{E, at, ◌⊕◌, ◌⊖◌, ◌⊗◌, ring}
use Rattle.whole.specs.Within.{Within}
use Rattle.whole.proofs.Within.{within_self, within_add, within_sub, within_mul}

abbrev by : ℕ → ℤ → E
by n z = at (pos n) ⊗ at z

module _ (a b c d : ℤ) where
  abbrev sum : ℤ
  sum = (pos 5283 *ℤ a +ℤ pos 15212 *ℤ c +ℤ pos 9929 *ℤ d) +ℤ (pos 9929 *ℤ a -ℤ pos 5283 *ℤ c -ℤ pos 15212 *ℤ d) -ℤ pos 13377 *ℤ b

  shorter : sum ≡ pos 15212 *ℤ a +ℤ pos 9929 *ℤ c -ℤ pos 5283 *ℤ d -ℤ pos 13377 *ℤ b
  shorter =
      ring ((by 5283 a ⊕ by 15212 c ⊕ by 9929 d) ⊕ (by 9929 a ⊖ by 5283 c ⊖ by 15212 d) ⊖ by 13377 b) (by 15212 a ⊕ by 9929 c ⊖ by 5283 d ⊖ by 13377 b) (omega arith)

  pub sum_within : {m : ℕ} → Within m a → Within m b → Within m c → Within m d → Within (15212 * m + 9929 * m + 5283 * m + 13377 * m) sum
  sum_within {m} p q r s =
      subst (Within (15212 * m + 9929 * m + 5283 * m + 13377 * m)) (sym shorter)
      (within_sub (within_sub (within_add (within_mul (within_self (pos 15212)) p) (within_mul (within_self (pos 9929)) r)) (within_mul (within_self (pos 5283)) s)) (within_mul (within_self (pos 13377)) q))
