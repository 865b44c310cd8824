-- A scan of a list by an iterator, as the definitions have it: by place.
use mathlib.Core.Path.{◌≡◌, refl, sym, ap, ◌∙◌}
use mathlib.Core.Bool.{Bool, true, false, ◌||◌}
use mathlib.Core.List.{List, [], ◌∷◌}
use Prim.Native.Nat.{ℕ, zero, suc, ◌≤◌}
use native.Mathlib.Omega.{arith}
use native.Mathlib.Nat as NatL
use lib.ListN.{length, get_or, take}
use Rattle.std.specs.List.{list_any}
use Rattle.whole.specs.Tests.{any_below}

swap : (a b c : Bool) → a || (b || c) ≡ b || (a || c)
swap true true c = refl
swap true false c = refl
swap false b c = refl

-- the first place by itself
any_first : (p : ℕ → Bool) (n : ℕ) → any_below p (suc n) ≡ p 0 || any_below (λ k. p (suc k)) n
unfolding any_below
any_first p zero = refl
any_first p (suc n) = ap (λ (b : Bool). p (suc n) || b) (any_first p n) ∙ swap (p (suc n)) (p 0) (any_below (λ k. p (suc k)) n)

-- some of the first n of a list has p
pub any_front : {A : Type 0} (test : A → Bool) (d : A) (n : ℕ) (l : List A) → n ≤ length l → list_any test (take n l) ≡ any_below (λ k. test (get_or l k d)) n
unfolding any_below
any_front test d zero l h = refl
any_front test d (suc n) [] h = absurd (omega arith)
any_front test d (suc n) (x ∷ xs) h =
    ap (λ (b : Bool). test x || b) (any_front test d n xs (NatL.le_of_suc-le-suc h)) ∙ sym (any_first (λ k. test (get_or (x ∷ xs) k d)) n)
