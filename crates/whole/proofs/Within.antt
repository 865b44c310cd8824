-- Laws of ranges: what the operations do to them, the signed widths that hold them, tables and lists.
use mathlib.Core.Path.{◌≡◌, sym, ap₂, subst}
use mathlib.Core.Bool.{Bool, true, false, cond}
use mathlib.Core.List.{List, [], ◌∷◌}
use Prim.Native.Nat.{ℕ, suc, zero, ◌+◌, ◌*◌, ◌^◌, ◌≤◌, ◌<◌, zero-le}
use native.Mathlib.Nat as NatL
use native.Mathlib.Omega.{arith}
use lib.Dec.{T, leb, leb→le}
use lib.IntN.{ℤ, pos, negsuc, neg_ℤ, nat_abs, ◌+ℤ◌, ◌-ℤ◌, ◌*ℤ◌}
use lib.ListN.{length, get_or, set, replicate, length-replicate, get_or-replicate}
use lib.Signed.{mag_shr, shr_z}
use mir.Syntax.{Width}
use mir.Val.{SFits, hbits, to_z, of_z}
use mir.Facts.{to_z-of_z}
use Rattle.whole.specs.Parts.{P, N}
use Rattle.whole.specs.Within.{Within}
use Rattle.whole.specs.Inner.{AllWithin}
use Rattle.whole.proofs.Tests.{every_within, b₁, b₂}
use Rattle.whole.proofs.Parts.{apart, abs_parts, mag_parts, sum_P, sum_N, neg_P, neg_N, mul_P, mul_N}

-- ---- ranges
pub within_abs : {m : ℕ} {z : ℤ} → nat_abs z ≤ m → Within m z
within_abs {m} {z} h = record { hi = omega (arith, abs_parts z); lo = omega (arith, abs_parts z) }

pub abs_bd : {m : ℕ} {z : ℤ} → Within m z → nat_abs z ≤ m
abs_bd {m} {z} h = omega (arith, abs_parts z, apart z)

pub within_self : (z : ℤ) → Within (nat_abs z) z
within_self z = within_abs (NatL.le_refl (nat_abs z))

-- from a bound on the difference of the parts alone
pub within_parts : (m : ℕ) (z : ℤ) → P z ≤ N z + m → N z ≤ P z + m → Within m z
within_parts m z h k = record { hi = omega (arith, apart z); lo = omega (arith, apart z) }

pub within_le : {m n : ℕ} {z : ℤ} → m ≤ n → Within m z → Within n z
within_le h b = record { hi = NatL.le_trans b.hi h; lo = NatL.le_trans b.lo h }

pub within_neg : {m : ℕ} {z : ℤ} → Within m z → Within m (neg_ℤ z)
within_neg {m} {z} b = record { hi = omega (arith, neg_P z); lo = omega (arith, neg_N z) }

pub within_add : {m n : ℕ} {a b : ℤ} → Within m a → Within n b → Within (m + n) (a +ℤ b)
within_add {m} {n} {a} {b} h k = record { hi = omega (arith, sum_P a b); lo = omega (arith, sum_N a b) }

pub within_sub : {m n : ℕ} {a b : ℤ} → Within m a → Within n b → Within (m + n) (a -ℤ b)
within_sub h k = within_add h (within_neg k)

within_prod : (x y m n : ℕ) → x ≤ m → y ≤ n → x * y ≤ m * n
within_prod x y m n h k = NatL.mul-le-mul h k

pub abs_mul : (a b : ℤ) → nat_abs (a *ℤ b) ≡ nat_abs a * nat_abs b
abs_mul a b =
    omega (arith, abs_parts (a *ℤ b), mul_P a b, mul_N a b, ap₂ (λ (x y : ℕ). x * y) (abs_parts a) (abs_parts b))

pub within_mul : {m n : ℕ} {a b : ℤ} → Within m a → Within n b → Within (m * n) (a *ℤ b)
within_mul {m} {n} {a} {b} h k =
    within_abs (subst (λ (x : ℕ). x ≤ m * n) (sym (abs_mul a b)) (within_prod (nat_abs a) (nat_abs b) m n (abs_bd h) (abs_bd k)))

-- a shift's range: P z < (q + 1) * m and N z ≤ q * m
pub within_shr : (q m : ℕ) (z : ℤ) → 0 < m → P z < q * m + m → N z ≤ q * m → Within q (shr_z z m)
within_shr q m (pos a) p h k = record { hi = NatL.le_of_suc-le-suc ((NatL.div-lt_iff_lt-mul p).1 (omega (arith, NatL.suc-mul q m))); lo = zero-le }
within_shr q m (negsuc a) p h k = record { hi = zero-le; lo = (NatL.div-lt_iff_lt-mul p).1 k }

-- ---- the signed widths
pub sfits_parts : (w : Width) (z : ℤ) → P z < N z + 2 ^ hbits w → N z ≤ P z + 2 ^ hbits w → SFits w z
sfits_parts w z h k = record { sfits = omega (arith, mag_parts z, apart z) }

pub within_sfits : {w : Width} {m : ℕ} {z : ℤ} → m < 2 ^ hbits w → Within m z → SFits w z
within_sfits {w} {m} {z} h b = sfits_parts w z (omega arith) (omega arith)

pub sfits_P : {w : Width} {z : ℤ} → SFits w z → P z < 2 ^ hbits w
sfits_P {w} {z} f = omega (arith, mag_parts z)

pub sfits_N : {w : Width} {z : ℤ} → SFits w z → N z ≤ 2 ^ hbits w
sfits_N {w} {z} f = omega (arith, mag_parts z)

pub sfits_shr : {w : Width} {z : ℤ} (m : ℕ) → SFits w z → SFits w (shr_z z m)
sfits_shr {w} {z} m f = record { sfits = NatL.lt_of_le_of_lt (mag_shr z m) f.sfits }

-- ---- a table's range, by one test that antt computes: `table-within 16384 table tt i`
pub table_within : (m : ℕ) (l : List ℤ) → T (every_within m l) → (i : ℕ) → Within m (get_or l i (pos 0))
table_within m [] t i = record { hi = zero-le; lo = zero-le }
table_within m (z ∷ zs) t zero = within_abs (leb→le (nat_abs z) m (b₁ (leb (nat_abs z) m) (every_within m zs) t))
table_within m (z ∷ zs) t (suc i) = table_within m zs (b₂ (leb (nat_abs z) m) (every_within m zs) t) i

-- written and read back: what the machine does with each i64 that is stored in a local
pub back : (w : Width) {m : ℕ} {z : ℤ} → m < 2 ^ hbits w → Within m z → to_z w (of_z w z) ≡ z
back w h b = to_z-of_z (within_sfits h b)

-- a literal: `within-lit 32 (pos 32) tt`
pub within_lit : (m : ℕ) (z : ℤ) → T (leb (nat_abs z) m) → Within m z
within_lit m z t = within_abs (leb→le (nat_abs z) m t)

-- ---- every element of a list within a bound
pub within_zero : {m : ℕ} → Within m (pos 0)
within_zero = record { hi = zero-le; lo = zero-le }

pub within_cond : {m : ℕ} (c : Bool) {x y : ℤ} → Within m x → Within m y → Within m (cond c x y)
within_cond true h k = h
within_cond false h k = k

-- ---- each by a bound of its own
-- number k of t is within number k of bs, as far as bs goes; past its end an element of t counts as 0
pub record EachWithin (bs : List ℕ) (t : List ℤ) : Type 0 where
  pub each : (k : ℕ) → k < length bs → Within (get_or bs k 0) (get_or t k (pos 0))

set_each : (bs : List ℕ) (t : List ℤ) (i m : ℕ) (v : ℤ) → ((k : ℕ) → k < length bs → Within (get_or bs k 0) (get_or t k (pos 0))) → Within m v
    → (k : ℕ) → k < length (set bs i m) → Within (get_or (set bs i m) k 0) (get_or (set t i v) k (pos 0))
set_each [] t i m v h b k l = absurd (omega arith)
set_each (x ∷ xs) [] i m v h b k l = within_zero
set_each (x ∷ xs) (z ∷ zs) zero m v h b zero l = b
set_each (x ∷ xs) (z ∷ zs) zero m v h b (suc k) l = h (suc k) l
set_each (x ∷ xs) (z ∷ zs) (suc i) m v h b zero l = h zero (omega arith)
set_each (x ∷ xs) (z ∷ zs) (suc i) m v h b (suc k) l = set_each xs zs i m v (λ j q. h (suc j) (omega arith)) b k (omega arith)

pub each_set : {bs : List ℕ} {t : List ℤ} {m : ℕ} {v : ℤ} (i : ℕ) → EachWithin bs t → Within m v → EachWithin (set bs i m) (set t i v)
each_set {bs} {t} {m} {v} i h b = record { each = set_each bs t i m v h.each b }

-- all of one bound
pub each_all : (n m : ℕ) {t : List ℤ} → AllWithin m t → EachWithin (replicate n m) t
each_all n m {t} h = record { each = go }
  where
    go : (k : ℕ) → k < length (replicate n m) → Within (get_or (replicate n m) k 0) (get_or t k (pos 0))
    go k l = rw (get_or-replicate n k m 0 (rw length-replicate at l)) (h.each k)
