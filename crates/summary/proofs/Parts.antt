-- A line that is looked at in two parts.
use mathlib.Core.Path.{◌≡◌, refl, sym, ◌∙◌}
use mathlib.Core.Bool.{Bool, true, false, ◌||◌}
use mathlib.Core.List.{List}
use Prim.Native.Nat.{ℕ, zero, suc, ◌+◌, ◌-◌, ◌≤◌}
use native.Mathlib.Omega.{arith}
use lib.Dec.{ltb}
use lib.IntN.{ℤ, pos, nat_abs}
use lib.ListN.{get_or}
use Rattle.whole.specs.Tests.{any_below}
use Rattle.blocks.specs.Block.{live}

or_moved : (a b c : Bool) → a || (b || c) ≡ b || (a || c)
or_moved true true c = refl
or_moved true false c = refl
or_moved false true c = refl
or_moved false false c = refl

or_false : (b : Bool) → b ≡ b || false
or_false true = refl
or_false false = refl

pub live_parts : (start a b : ℕ) (s : List ℤ) → live start (a + b) s ≡ live start a s || live (start + a) b s
unfolding live any_below
live_parts start a zero s = let e : a + 0 ≡ a = omega arith in rw e (or_false (live start a s))
live_parts start a (suc b) s =
    let e : a + suc b ≡ suc (a + b) = omega arith in
    let f : start + (a + b) ≡ start + a + b = omega arith in
    let h = live_parts start a b s in
    rw (e, f, h) (or_moved (ltb 0 (nat_abs (get_or s (start + a + b) (pos 0)))) (live start a s) (live (start + a) b s))

pub live_early : (start a n : ℕ) (s : List ℤ) → a ≤ n → live start a s ≡ true → true ≡ live start n s
live_early start a n s l h =
    let e : a + (n - a) ≡ n = omega arith in
    sym (rw (e, h) at (live_parts start a (n - a) s))

pub live_late : (start a n : ℕ) (s : List ℤ) {b : Bool} → a ≤ n → live start a s ≡ false → b ≡ live (start + a) (n - a) s → b ≡ live start n s
live_late start a n s l h q =
    let e : a + (n - a) ≡ n = omega arith in
    q ∙ sym (rw (e, h) at (live_parts start a (n - a) s))
