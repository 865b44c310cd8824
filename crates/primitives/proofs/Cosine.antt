-- Laws of the remainder, of the wrap-around of i32 and of the two waves.
use mathlib.Core.Path.{◌≡◌, sym, ap, ◌∙◌}
use mathlib.Core.Bool.{Bool, true, cond}
use Prim.Native.Nat.{ℕ, ◌+◌, ◌-◌, ◌*◌, ◌/◌, ◌%◌, ◌≤◌, ◌<◌}
use native.Mathlib.Decide.{dec_lt}
use native.Mathlib.Nat as NatL
use native.Mathlib.Omega.{arith}
use lib.Dec.{T, leb, eqb, eqb→eq}
use lib.IntN.{ℤ, pos, negsuc, neg_ℤ, ◌-ℤ◌}
use lib.ListN.{get_or}
use borrow.Author.Tests.{le-leb, lt-leb, lt-ltb, le-ltb, eq-eqb, ne_eqb}
use mir.Syntax.{w32}
use Rattle.std.specs.Int.{int_wrap, cast_signed}
use Rattle.whole.specs.Parts.{P, N}
use Rattle.whole.specs.Within.{Within}
use Rattle.whole.proofs.Tests.{both, all_below, below, b₁, b₂}
use Rattle.whole.proofs.Parts.{sum_parts, eq_parts, neg_P, neg_N}
use Rattle.whole.proofs.Within.{within_neg, within_cond, table_within}
use Rattle.primitives.specs.Cosine.{cos64_lookup, modulo, cos_at, Cos64, Sin64}

-- ---- the remainder
-- z is its remainder and a multiple of m, which is q_p m z − q_n m z
abbrev q_p : ℕ → ℤ → ℕ
q_p m (pos a) = a / m
q_p m (negsuc a) = 0

abbrev q_n : ℕ → ℤ → ℕ
q_n m (pos a) = 0
q_n m (negsuc a) = a / m + 1

module _ (m : ℕ) (h : 0 < m) where
  pub modulo_lt : (z : ℤ) → modulo m z < m
  modulo_lt (pos a) = NatL.mod-lt a h
  modulo_lt (negsuc a) = omega (arith, NatL.mod-lt a h)

  split : (z : ℤ) → P z + q_n m z * m ≡ N z + modulo m z + q_p m z * m
  split (pos a) = omega (arith, NatL.div-add-mod' a m)
  split (negsuc a) = omega (arith, NatL.div-add-mod' a m, NatL.mod-lt a h)

  alone : (a b j k : ℕ) → a < m → b < m → a + j * m ≡ b + k * m → a ≡ b
  alone a b j k p q e =
      sym (NatL.mod-eq_of_lt p) ∙ sym (NatL.add-mul-mod_self_right a j m) ∙ ap (λ x. x % m) e ∙ NatL.add-mul-mod_self_right b k m ∙ NatL.mod-eq_of_lt q

  -- numbers that differ by a multiple of m have one remainder
  pub modulo_same : (y z : ℤ) (j k : ℕ) → P y + N z + j * m ≡ P z + N y + k * m → modulo m y ≡ modulo m z
  modulo_same y z j k e =
      alone (modulo m y) (modulo m z) (q_p m y + q_n m z + j) (q_n m y + q_p m z + k) (modulo_lt y) (modulo_lt z) (omega (arith, split y, split z))

-- ---- the wrap-around of i32: 128 divides 2^32, so it changes no remainder by 128
wrap_split : (m : ℕ) → m < 4294967296 → modulo 128 (cast_signed w32 m) ≡ m % 128
wrap_split m h = go (dec_lt m 2147483648)
  where
    go : Dec (m < 2147483648) → modulo 128 (cast_signed w32 m) ≡ m % 128
    go (yes l) = rw (lt-ltb m 2147483648 l)
    go (no l) = rw (le-ltb m 2147483648 (omega arith)) (omega arith)

pub modulo_wrap : (z : ℤ) → modulo 128 (int_wrap w32 z) ≡ modulo 128 z
unfolding int_wrap
modulo_wrap (pos a) = wrap_split (a % 4294967296) (omega arith) ∙ omega arith
modulo_wrap (negsuc a) = wrap_split (4294967295 - a % 4294967296) (omega arith) ∙ omega arith

-- ---- the waves
pub cos_1 : (a : ℕ) → a ≤ 32 → cos_at a ≡ get_or cos64_lookup a (pos 0)
unfolding cos_at
cos_1 a h = simp (le-leb a 32 h)

pub cos_2 : (a : ℕ) → 32 < a → a ≤ 64 → cos_at a ≡ neg_ℤ (get_or cos64_lookup (64 - a) (pos 0))
unfolding cos_at
cos_2 a g h = simp (lt-leb a 32 g, le-leb a 64 h)

pub cos_3 : (a : ℕ) → 64 < a → a ≤ 96 → cos_at a ≡ neg_ℤ (get_or cos64_lookup (a - 64) (pos 0))
unfolding cos_at
cos_3 a g h = simp (lt-leb a 32 (omega arith), lt-leb a 64 g, le-leb a 96 h)

pub cos_4 : (a : ℕ) → 96 < a → cos_at a ≡ get_or cos64_lookup (128 - a) (pos 0)
unfolding cos_at
cos_4 a g = simp (lt-leb a 32 (omega arith), lt-leb a 64 (omega arith), lt-leb a 96 g)

pub cos_is : (z : ℤ) (a : ℕ) → a ≡ modulo 128 z → Cos64 z ≡ cos_at a
unfolding Cos64
cos_is z a e = ap cos_at (sym e)

pub cos_at_within : (a : ℕ) → Within 16384 (cos_at a)
unfolding cos_at
cos_at_within a =
    within_cond (leb a 32) (table_within 16384 cos64_lookup tt a)
    (within_cond (leb a 64) (within_neg (table_within 16384 cos64_lookup tt (64 - a)))
    (within_cond (leb a 96) (within_neg (table_within 16384 cos64_lookup tt (a - 64))) (table_within 16384 cos64_lookup tt (128 - a))))

pub cos_within : (g : ℤ) → Within 16384 (Cos64 g)
unfolding Cos64
cos_within g = cos_at_within (modulo 128 g)

pub sin_within : (g : ℤ) → Within 16384 (Sin64 g)
unfolding Sin64
sin_within g = cos_within (g -ℤ pos 32)

-- the wrapped difference has the same cosine, so sin64 is right at every i32 angle
pub sin_wrap : (z : ℤ) → Cos64 (int_wrap w32 (z -ℤ pos 32)) ≡ Sin64 z
unfolding Cos64 Sin64
sin_wrap z = ap cos_at (modulo_wrap (z -ℤ pos 32))

-- the sine, read off the cosine's own remainder
sin_is : (z : ℤ) (a : ℕ) → a ≡ modulo 128 z → Sin64 z ≡ cos_at ((a + 96) % 128)
unfolding Cos64 Sin64
sin_is z a e =
    ap cos_at (modulo_same 128 (omega arith) (z -ℤ pos 32) (pos (a + 96)) (q_n 128 z + 1) (q_p 128 z) (omega (arith, sum_parts z (negsuc 31), split 128 (omega arith) z)))

-- ---- angles 16 + 32k: the sine is the cosine for even k, its opposite for odd k, by one test over the whole turn
unfoldable same_at : ℕ → Bool
same_at a = both (eqb (P (cos_at ((a + 96) % 128))) (P (cos_at a))) (eqb (N (cos_at ((a + 96) % 128))) (N (cos_at a)))

unfoldable mirror_at : ℕ → Bool
mirror_at a = both (eqb (P (cos_at ((a + 96) % 128))) (N (cos_at a))) (eqb (N (cos_at ((a + 96) % 128))) (P (cos_at a)))

unfoldable quarter_at : ℕ → Bool
quarter_at a = cond (eqb (a % 32) 16) (cond (eqb (a / 32 % 2) 0) (same_at a) (mirror_at a)) true

quarters : T (all_below 128 quarter_at)
unfolding quarter_at same_at mirror_at cos_at
quarters = tt

-- two numbers with the same parts, or with the parts exchanged
parts_same : (y z : ℤ) → T (both (eqb (P y) (P z)) (eqb (N y) (N z))) → y ≡ z
parts_same y z t =
    eq_parts y z (omega (arith, eqb→eq (P y) (P z) (b₁ (eqb (P y) (P z)) (eqb (N y) (N z)) t), eqb→eq (N y) (N z) (b₂ (eqb (P y) (P z)) (eqb (N y) (N z)) t)))

parts_mirror : (y z : ℤ) → T (both (eqb (P y) (N z)) (eqb (N y) (P z))) → y ≡ neg_ℤ z
parts_mirror y z t =
    eq_parts y (neg_ℤ z) (omega (arith, neg_P z, neg_N z, eqb→eq (P y) (N z) (b₁ (eqb (P y) (N z)) (eqb (N y) (P z)) t), eqb→eq (N y) (P z) (b₂ (eqb (P y) (N z)) (eqb (N y) (P z)) t)))

module _ (g : ℤ) (a : ℕ) (e : a ≡ modulo 128 g) (h : a % 32 ≡ 16) where
  quarter : T (quarter_at a)
  quarter = below 128 quarter_at quarters a (rw e (modulo_lt 128 (omega arith) g))

  pub sin_even : a / 32 % 2 ≡ 0 → Sin64 g ≡ Cos64 g
  unfolding quarter_at same_at
  sin_even k =
      sin_is g a e ∙ parts_same (cos_at ((a + 96) % 128)) (cos_at a) (simp (eq-eqb (a % 32) 16 h, eq-eqb (a / 32 % 2) 0 k) at quarter) ∙ sym (cos_is g a e)

  pub sin_odd : a / 32 % 2 ≡ 1 → Sin64 g ≡ neg_ℤ (Cos64 g)
  unfolding quarter_at mirror_at
  sin_odd k =
      sin_is g a e ∙ parts_mirror (cos_at ((a + 96) % 128)) (cos_at a) (simp (eq-eqb (a % 32) 16 h, ne_eqb (a / 32 % 2) 0 (λ z. omega arith)) at quarter) ∙ ap neg_ℤ (sym (cos_is g a e))
