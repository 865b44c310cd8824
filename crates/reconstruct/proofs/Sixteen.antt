-- The sixteen numbers of a 4 by 4 block by themselves.
use mathlib.Core.Path.{◌≡◌}
use mathlib.Core.List.{List}
use Prim.Native.Nat.{ℕ, ◌+◌, ◌*◌, ◌<◌}
use native.Mathlib.Decide.{dec_lt}
use native.Mathlib.Omega.{arith}
use lib.IntN.{ℤ, pos}
use lib.ListN.{length, get_or, get_or-eq_default}
use Rattle.whole.specs.Lists.{tabulate}
use Rattle.whole.specs.Within.{Within}
use Rattle.whole.specs.Inner.{AllWithin}
use Rattle.whole.proofs.Lists.{length_tabulate, get_d_tabulate}
use Rattle.whole.proofs.Within.{within_zero}
use Rattle.blocks.specs.Inner.{FirstWithin}

-- a place of the block is below 16
pub below_sixteen : (i j : ℕ) → i < 4 → j < 4 → i * 4 + j < 16
below_sixteen i j h l = omega arith

module _ (block : List ℤ) where
  pub few_length : length (tabulate (λ k. get_or block k (pos 0)) 16) ≡ 16
  few_length = length_tabulate (λ k. get_or block k (pos 0)) 16

  pub few_at : (k : ℕ) → k < 16 → get_or (tabulate (λ k. get_or block k (pos 0)) 16) k (pos 0) ≡ get_or block k (pos 0)
  few_at k h = get_d_tabulate (λ k. get_or block k (pos 0)) 16 k (pos 0) h

  pub few_within : (m : ℕ) → AllWithin m block → AllWithin m (tabulate (λ k. get_or block k (pos 0)) 16)
  few_within m a = record { each = λ k. go k (dec_lt k 16) }
    where
      go : (k : ℕ) → Dec (k < 16) → Within m (get_or (tabulate (λ k. get_or block k (pos 0)) 16) k (pos 0))
      go k (yes h) = rw (few_at k h) (a.each k)
      go k (no h) = rw (get_or-eq_default (tabulate (λ k. get_or block k (pos 0)) 16) (pos 0) {n = k} (omega (arith, few_length))) within_zero

  pub few_first : {m : ℕ} → FirstWithin m 16 block → FirstWithin m 16 (tabulate (λ k. get_or block k (pos 0)) 16)
  few_first b = record { each = λ k h. rw (few_at k h) (b.each k h) }
