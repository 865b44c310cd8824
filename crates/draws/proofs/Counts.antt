-- A count that is no longer than a list counts its front.
use Rattle.std.proofs.Common.{◌≡◌, ℕ, ◌≤◌, List, length, take, sym, length-take-le}

pub counts : {X : Type 0} (n : ℕ) (xs : List X) → n ≤ length xs → (n ≤ length xs) × (n ≡ length (take n xs))
counts n xs h = (h, sym (length-take-le n xs h))
