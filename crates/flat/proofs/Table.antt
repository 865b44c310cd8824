-- A lent table of places.
use Prim.Native.Nat.{ℕ, ◌+◌, ◌<◌}
use mathlib.Core.List.{List}
use lib.Dec.{T, ltb, ltb→lt}
use lib.ListN.{get_or}
use Rattle.whole.proofs.Tests.{all_below, below}

-- n entries of a table from place a on are places of t
pub places : (table : List ℕ) (a n : ℕ) → T (all_below n (λ i. ltb (get_or table (a + i) 0) 32)) → (i : ℕ) → i < n → get_or table (a + i) 0 < 32
places table a n t i h = ltb→lt (get_or table (a + i) 0) 32 (below n (λ j. ltb (get_or table (a + j) 0) 32) t i h)
