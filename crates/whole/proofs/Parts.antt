-- Laws of the positive and negative parts: the operations of ℤ, its order, the floor shift, quotient and remainder, in terms that `omega` reads.
use mathlib.Core.Path.{◌≡◌, refl, sym, ap, ◌∙◌, subst}
use mathlib.Core.Bool.{Bool, true, false, not, cond}
use Prim.Native.Nat.{ℕ, suc, zero, pred, min, ◌+◌, ◌-◌, ◌*◌, ◌/◌, ◌%◌, ◌≤◌, ◌<◌}
use native.Mathlib.Nat as NatL
use native.Mathlib.Omega.{arith}
use lib.Dec.{T, ltb, ltb→lt, nltb→le}
use lib.IntN.{ℤ, pos, negsuc, neg_ℤ, nat_abs, sub_ℕ, ◌+ℤ◌, ◌-ℤ◌, ◌*ℤ◌, +ℤ_idl}
use lib.Signed.{mag, lt_z, shr_z, quot_z, rem_z, non_neg}
use Rattle.whole.specs.Parts.{P, N}

-- one of the two is 0
pub apart : (z : ℤ) → min (P z) (N z) ≡ 0
apart (pos a) = omega arith
apart (negsuc a) = omega arith

pub abs_parts : (z : ℤ) → nat_abs z ≡ P z + N z
abs_parts (pos a) = omega arith
abs_parts (negsuc a) = omega arith

pub mag_parts : (z : ℤ) → mag z ≡ P z + pred (N z)
mag_parts (pos a) = omega arith
mag_parts (negsuc a) = omega arith

-- ---- the operations
by_cond : (c : Bool) (x y : ℤ) (Q : ℤ → Type 0) → (T c → Q x) → (T (not c) → Q y) → Q (cond c x y)
by_cond true x y Q f g = f tt
by_cond false x y Q f g = g tt

sub_case₁ : (a b : ℕ) → a < b → (P (negsuc (b - suc a)) ≡ a - b) × (N (negsuc (b - suc a)) ≡ b - a)
sub_case₁ a b h = (omega arith, omega arith)

sub_case₂ : (a b : ℕ) → b ≤ a → (P (pos (a - b)) ≡ a - b) × (N (pos (a - b)) ≡ b - a)
sub_case₂ a b h = (omega arith, omega arith)

pub sub_parts : (a b : ℕ) → (P (sub_ℕ a b) ≡ a - b) × (N (sub_ℕ a b) ≡ b - a)
sub_parts a b =
    by_cond (ltb a b) (negsuc (b - suc a)) (pos (a - b)) (λ z. (P z ≡ a - b) × (N z ≡ b - a))
    (λ t. sub_case₁ a b (ltb→lt a b t)) (λ t. sub_case₂ a b (nltb→le a b t))

pub sum_parts : (a b : ℤ) → P (a +ℤ b) + (N a + N b) ≡ N (a +ℤ b) + (P a + P b)
sum_parts (pos a) (pos b) = omega arith
sum_parts (pos a) (negsuc b) = omega (arith, sub_parts a (suc b))
sum_parts (negsuc a) (pos b) = omega (arith, sub_parts b (suc a))
sum_parts (negsuc a) (negsuc b) = omega arith

-- the sum's parts are no more than the sums of the parts
pub sum_P : (a b : ℤ) → P (a +ℤ b) ≤ P a + P b
sum_P a b = omega (arith, sum_parts a b, apart (a +ℤ b))

pub sum_N : (a b : ℤ) → N (a +ℤ b) ≤ N a + N b
sum_N a b = omega (arith, sum_parts a b, apart (a +ℤ b))

pub neg_P : (a : ℤ) → P (neg_ℤ a) ≡ N a
neg_P (pos zero) = refl
neg_P (pos (suc a)) = refl
neg_P (negsuc a) = refl

pub neg_N : (a : ℤ) → N (neg_ℤ a) ≡ P a
neg_N (pos zero) = refl
neg_N (pos (suc a)) = refl
neg_N (negsuc a) = refl

pub mul_P : (a b : ℤ) → P (a *ℤ b) ≡ P a * P b + N a * N b
mul_P (pos a) (pos b) = omega arith
mul_P (pos a) (negsuc b) = omega (arith, neg_P (pos (a * suc b)))
mul_P (negsuc a) (pos b) = omega (arith, neg_P (pos (suc a * b)))
mul_P (negsuc a) (negsuc b) = omega arith

pub mul_N : (a b : ℤ) → N (a *ℤ b) ≡ P a * N b + N a * P b
mul_N (pos a) (pos b) = omega arith
mul_N (pos a) (negsuc b) = omega (arith, neg_N (pos (a * suc b)))
mul_N (negsuc a) (pos b) = omega (arith, neg_N (pos (suc a * b)))
mul_N (negsuc a) (negsuc b) = omega arith

-- ---- equality and order
pub eq_parts : (a b : ℤ) → P a + N b ≡ P b + N a → a ≡ b
eq_parts (pos a) (pos b) h = ap pos (omega arith)
eq_parts (pos a) (negsuc b) h = absurd (omega arith)
eq_parts (negsuc a) (pos b) h = absurd (omega arith)
eq_parts (negsuc a) (negsuc b) h = ap negsuc (omega arith)

tl' : (a b : ℤ) → T (lt_z a b) → P a + N b < P b + N a
tl' (pos a) (pos b) t = omega (arith, ltb→lt a b t)
tl' (pos a) (negsuc b) t = absurd t
tl' (negsuc a) (pos b) t = omega arith
tl' (negsuc a) (negsuc b) t = omega (arith, ltb→lt b a t)

pub lt_z_true : (a b : ℤ) → lt_z a b ≡ true → P a + N b < P b + N a
lt_z_true a b e = tl' a b (subst T (sym e) tt)

nlt' : (a b : ℤ) → T (not (lt_z a b)) → P b + N a ≤ P a + N b
nlt' (pos a) (pos b) t = omega (arith, nltb→le a b t)
nlt' (pos a) (negsuc b) t = omega arith
nlt' (negsuc a) (pos b) t = absurd t
nlt' (negsuc a) (negsuc b) t = omega (arith, nltb→le b a t)

pub lt_z_false : (a b : ℤ) → lt_z a b ≡ false → P b + N a ≤ P a + N b
lt_z_false a b e = nlt' a b (subst (λ (t : Bool). T (not t)) (sym e) tt)

-- ---- the floor shift: q * m ≤ z < (q + 1) * m
div_low : (a m : ℕ) → 0 < m → (a / m) * m ≤ a
div_low a m h = NatL.div-mul-le_self a m

div_high : (a m : ℕ) → 0 < m → a < (a / m) * m + m
div_high a m h = omega (arith, NatL.div-add-mod' a m, NatL.mod-lt a h)

pub shr_low : (z : ℤ) (m : ℕ) → 0 < m → P (shr_z z m) * m + N z ≤ P z + N (shr_z z m) * m
shr_low (pos a) m h = omega (arith, div_low a m h)
shr_low (negsuc a) m h = omega (arith, div_high a m h)

pub shr_high : (z : ℤ) (m : ℕ) → 0 < m → P z + N (shr_z z m) * m < P (shr_z z m) * m + m + N z
shr_high (pos a) m h = omega (arith, div_high a m h)
shr_high (negsuc a) m h = omega (arith, div_low a m h)

-- ---- the quotient and the remainder toward zero, by a positive number
pub quot_P : (z : ℤ) (d : ℕ) → P (quot_z z (pos d)) ≡ P z / d
quot_P (pos a) d = refl
quot_P (negsuc a) d = neg_P (pos (suc a / d)) ∙ sym (NatL.zero-div d)

pub quot_N : (z : ℤ) (d : ℕ) → N (quot_z z (pos d)) ≡ N z / d
quot_N (pos a) d = sym (NatL.zero-div d)
quot_N (negsuc a) d = neg_N (pos (suc a / d))

pub rem_P : (z : ℤ) (d : ℕ) → P (rem_z z (pos d)) ≡ P z % d
rem_P (pos a) d = refl
rem_P (negsuc a) d = neg_P (pos (suc a % d)) ∙ sym (NatL.zero-mod d)

pub rem_N : (z : ℤ) (d : ℕ) → N (rem_z z (pos d)) ≡ N z % d
rem_N (pos a) d = sym (NatL.zero-mod d)
rem_N (negsuc a) d = neg_N (pos (suc a % d))

-- a number that is not negative, for a cast to an unsigned type
pub non_neg_parts : (z : ℤ) → N z ≤ P z → T (non_neg z)
non_neg_parts (pos a) h = tt
non_neg_parts (negsuc a) h = absurd (omega arith)

-- `-x` of the source is 0 - x
pub zero_minus : (z : ℤ) → pos 0 -ℤ z ≡ neg_ℤ z
zero_minus z = +ℤ_idl (neg_ℤ z)
