-- The limit of a coefficient where only place 0 is live: place 0 alone.
use mathlib.Core.Path.{◌≡◌, refl}
use mathlib.Core.Bool.{Bool, true, false, ◌||◌}
use mathlib.Core.List.{List}
use Prim.Native.Nat.{ℕ, zero, suc, ◌+◌, ◌-◌, ◌≤◌, ◌<◌}
use native.Mathlib.Omega.{arith}
use borrow.Author.Tests.{le-ltb}
use lib.Dec.{ltb}
use lib.IntN.{ℤ, pos, nat_abs}
use lib.ListN.{get_or}
use Rattle.whole.specs.Tests.{any_below}
use Rattle.answers.specs.Bad.{any_beyond}
use Rattle.blocks.specs.Block.{live}
use Rattle.blocks.proofs.Live.{dead_at}

any_first : (p : ℕ → Bool) (n : ℕ) → 0 < n → ((k : ℕ) → 0 < k → k < n → p k ≡ false) → any_below p n ≡ p 0
unfolding any_below
any_first p zero h f = absurd (omega arith)
any_first p (suc zero) h f = or_false (p 0)
  where
    or_false : (b : Bool) → b || false ≡ b
    or_false true = refl
    or_false false = refl
any_first p (suc (suc n)) h f = rw (f (suc n) (omega arith) (omega arith)) (any_first p (suc n) (omega arith) (λ k z l. f k z (omega arith)))

pub first_beyond : (m n : ℕ) (l : List ℤ) → 1 ≤ n → live 1 (n - 1) l ≡ false → any_beyond m n l ≡ ltb m (nat_abs (get_or l 0 (pos 0)))
unfolding any_beyond
first_beyond m n l h dead =
    any_first (λ k. ltb m (nat_abs (get_or l k (pos 0)))) n h
    (λ k z q.
    let e : 1 + (k - 1) ≡ k = omega arith in
    let d : get_or l k (pos 0) ≡ pos 0 = rw e at (dead_at 1 (n - 1) l dead (k - 1) (omega arith)) in
    rw d (le-ltb m 0 (omega arith)))
