-- Bytes that stand in a file from a place on, and the numbers read there.
use mathlib.Core.Path.{◌≡◌, sym, ap, ◌∙◌, subst}
use mathlib.Core.List.{List, [], ◌∷◌, ◌++◌}
use Prim.Native.Nat.{ℕ, zero, suc, ◌+◌, ◌-◌, ◌*◌, ◌/◌, ◌%◌, ◌≤◌, ◌<◌, ◌^◌}
use native.Mathlib.Nat as NatL
use native.Mathlib.Omega.{arith}
use borrow.Author.Tests.{lt-ltb, le-ltb}
use lib.IntN.{ℤ, pos, negsuc}
use lib.ListN.{length, get_or, length-append, get_or-append}
use lib.Seq.{get_or-append-add}
use lib.Signed.{mag}
use Rattle.vbk_read.specs.Bytes.{le2, le4, signed32}
use Rattle.vbk_write.specs.Bytes.{two, word32, four, joined}

-- the bytes t stand in s from `at` on
pub record At (s : List ℕ) (at : ℕ) (t : List ℕ) : Type 0 where
  pub within : at + length t ≤ length s
  pub there : (i : ℕ) → i < length t → get_or s (at + i) 0 ≡ get_or t i 0

pub at_rest : (h t : List ℕ) → At (h ++ t) (length h) t
at_rest h t = record { within = omega (arith, length-append h t); there = λ i l. get_or-append-add h t i 0 }

pub at_first : {s : List ℕ} {at : ℕ} (t u : List ℕ) → At s at (t ++ u) → At s at t
at_first t u a =
    record {
      within = omega (arith, a.within, length-append t u);
      there = λ i l. a.there i (omega (arith, length-append t u)) ∙ get_or-append t u 0 i l;
    }

pub at_second : {s : List ℕ} {at : ℕ} (t u : List ℕ) → At s at (t ++ u) → At s (at + length t) u
at_second {s} {at} t u a = record { within = omega (arith, a.within, length-append t u); there = go }
  where
    go : (i : ℕ) → i < length u → get_or s (at + length t + i) 0 ≡ get_or u i 0
    go i l =
        let e : at + length t + i ≡ at + (length t + i) = omega arith in
        ap (λ (k : ℕ). get_or s k 0) e ∙ a.there (length t + i) (omega (arith, length-append t u)) ∙ get_or-append-add t u i 0

pub at_place : {s t : List ℕ} {at to : ℕ} → at ≡ to → At s at t → At s to t
at_place {s} {t} e a = subst (λ (k : ℕ). At s k t) e a

-- elements of w bytes each: where element k stands
pub at_joined : {A : Type 0} (f : A → List ℕ) (w : ℕ) → ((x : A) → length (f x) ≡ w) → (d : A) (l : List A) (s : List ℕ) (at : ℕ) → At s at (joined f l) → (k : ℕ) → k < length l → At s (at + w * k) (f (get_or l k d))
unfolding joined
at_joined f w h d [] s at a k p = absurd (omega arith)
at_joined f w h d (x ∷ xs) s at a zero p = at_place (omega (arith, NatL.mul-zero w)) (at_first (f x) (joined f xs) a)
at_joined f w h d (x ∷ xs) s at a (suc k) p =
    at_place (omega (arith, h x, NatL.mul-suc w k)) (at_joined f w h d xs s (at + length (f x)) (at_second (f x) (joined f xs) a) k (omega arith))

-- ---- numbers
pub le2_is : (s : List ℕ) (at n : ℕ) → get_or s at 0 ≡ n % 256 → get_or s (at + 1) 0 ≡ n / 256 → le2 s at ≡ n
le2_is s at n p q = omega (arith, NatL.div-add-mod' n 256)

pub read_two : {s : List ℕ} {at : ℕ} (n : ℕ) → At s at (two n) → le2 s at ≡ n
unfolding two
read_two {s} {at} n a =
    le2_is s at n (ap (λ (k : ℕ). get_or s k 0) (sym (NatL.add-zero at)) ∙ a.there 0 (omega arith)) (a.there 1 (omega arith))

four_parts : (u : ℕ) → u % 256 + 256 * (u / 256 % 256) + 65536 * (u / 65536 % 256) + 16777216 * (u / 16777216) ≡ u
four_parts u = omega arith

pub read_four : {s : List ℕ} {at : ℕ} (z : ℤ) → At s at (four z) → le4 s at ≡ word32 z
unfolding four
read_four {s} {at} z a =
    let p = ap (λ (k : ℕ). get_or s k 0) (sym (NatL.add-zero at)) ∙ a.there 0 (omega arith) in
    omega (arith, p, a.there 1 (omega arith), a.there 2 (omega arith), a.there 3 (omega arith), four_parts (word32 z))

pub signed_word : (z : ℤ) → mag z < 2 ^ 31 → signed32 (word32 z) ≡ z
unfolding word32
signed_word (pos n) h = rw (lt-ltb n 2147483648 (omega arith))
signed_word (negsuc n) h = rw (le-ltb (4294967295 - n) 2147483648 (omega arith)) (ap negsuc (omega arith))
