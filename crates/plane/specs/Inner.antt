-- What only the contract of one row reads.
use Rattle.std.specs.Prelude.{cond, List, ℕ, ◌-◌, ℤ, pos, ◌+ℤ◌, get_or}
use Rattle.plane.specs.Plane.{clip, inside}

-- the sample at k after n samples from `at` on got the residuals r 0, r 1, ..
unfoldable pub row_after : ℕ → (ℕ → ℤ) → ℕ → ℕ → List ℕ → ℕ → ℕ
row_after top r at n samples k =
    cond (inside at n k) (clip top (pos (get_or samples k 0) +ℤ r (k - at))) (get_or samples k 0)
