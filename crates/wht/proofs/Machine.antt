-- The code's numbers, each against the definition's: what it is, and how far it reaches from inputs within 2^46.
use mathlib.Core.Path.{◌≡◌, ap}
use mathlib.Core.List.{List}
use Prim.Native.Nat.{ℕ, ◌+◌, ◌*◌, ◌^◌, ◌≤◌}
use native.Mathlib.Nat as NatL
use native.Mathlib.Omega.{arith}
use lib.Dec.{lit<}
use lib.IntN.{ℤ, pos, ◌+ℤ◌, ◌-ℤ◌}
use lib.ListN.{get_or, set}
use lib.Pow.{pow_pos}
use lib.Signed.{shr_z}
use mir.Syntax.{w64}
use Rattle.whole.specs.Within.{Within}
use Rattle.whole.proofs.Signed.{rd, Is, is_in, is_rd, add, sub, shr}
use Rattle.whole.proofs.Within.{within_shr}
use Rattle.steps.specs.Step.{halfway}
use Rattle.steps.specs.Inner.{FourWithin}

pub put_four : (l : List ℤ) {x y z u x' y' z' u' : ℤ} → x ≡ x' → y ≡ y' → z ≡ z' → u ≡ u'
    → set (set (set (set l 0 x) 1 y) 2 z) 3 u ≡ set (set (set (set l 0 x') 1 y') 2 z') 3 u'
put_four l e f g h = rw (e, f, g, h)

-- a floor shift does not widen
within_down : (k : ℕ) {m : ℕ} {z : ℤ} → Within m z → Within m (shr_z z (2 ^ k))
within_down k {m} {z} b =
    let p = pow_pos k in
    let q : m * 1 ≤ m * 2 ^ k = NatL.mul-le-mul_left m p in
    within_shr m (2 ^ k) z p (omega arith) (omega arith)

module _ (k : ℕ) (t : List ℤ) (h : FourWithin (2 ^ 46) t) where
  abbrev in0 : ℤ
  in0 = get_or t 0 (pos 0)

  abbrev in1 : ℤ
  in1 = get_or t 1 (pos 0)

  abbrev in2 : ℤ
  in2 = get_or t 2 (pos 0)

  abbrev in3 : ℤ
  in3 = get_or t 3 (pos 0)

  -- after the shift by k: as the definition has them, and as the code reads them
  abbrev a : ℤ
  a = shr_z in0 (2 ^ k)

  abbrev c : ℤ
  c = shr_z in1 (2 ^ k)

  abbrev d : ℤ
  d = shr_z in2 (2 ^ k)

  abbrev b : ℤ
  b = shr_z in3 (2 ^ k)

  down : {z : ℤ} → Within (2 ^ 46) z → Is (2 ^ 46) (rd w64 (shr_z (rd w64 z) (2 ^ k))) (shr_z z (2 ^ k))
  down w = let i = is_in w64 (lit< tt) w in is_rd w64 (lit< tt) (record { eq = ap (λ (z : ℤ). shr_z z (2 ^ k)) i.eq; bd = within_down k w })

  abbrev ra : ℤ
  ra = rd w64 (shr_z (rd w64 in0) (2 ^ k))

  abbrev rc : ℤ
  rc = rd w64 (shr_z (rd w64 in1) (2 ^ k))

  abbrev rd' : ℤ
  rd' = rd w64 (shr_z (rd w64 in2) (2 ^ k))

  abbrev rb : ℤ
  rb = rd w64 (shr_z (rd w64 in3) (2 ^ k))

  abbrev rp : ℤ
  rp = rd w64 (ra +ℤ rc)

  abbrev rq : ℤ
  rq = rd w64 (rd' -ℤ rb)

  abbrev re : ℤ
  re = rd w64 (shr_z (rd w64 (rp -ℤ rq)) 2)

  -- a + c, d − b, their difference, e
  pub p_is : Is (2 ^ 47) (ra +ℤ rc) (a +ℤ c)
  p_is = add (down h.0) (down h.1)

  pub q_is : Is (2 ^ 47) (rd' -ℤ rb) (d -ℤ b)
  q_is = sub (down h.2) (down h.3)

  pub s_is : Is (2 ^ 48) (rp -ℤ rq) ((a +ℤ c) -ℤ (d -ℤ b))
  s_is = sub (is_rd w64 (lit< tt) p_is) (is_rd w64 (lit< tt) q_is)

  pub e_is : Is (2 ^ 47) (shr_z (rd w64 (rp -ℤ rq)) 2) (halfway a c d b)
  unfolding halfway
  e_is = shr (2 ^ 47) 2 (omega arith) (is_rd w64 (lit< tt) s_is)

  -- the four results
  pub b_is : Is (2 ^ 47 + 2 ^ 46) (re -ℤ rb) (halfway a c d b -ℤ b)
  b_is = sub (is_rd w64 (lit< tt) e_is) (down h.3)

  pub c_is : Is (2 ^ 47 + 2 ^ 46) (re -ℤ rc) (halfway a c d b -ℤ c)
  c_is = sub (is_rd w64 (lit< tt) e_is) (down h.1)

  pub a_is : Is (2 ^ 47 + (2 ^ 47 + 2 ^ 46)) (rp -ℤ rd w64 (re -ℤ rb)) ((a +ℤ c) -ℤ (halfway a c d b -ℤ b))
  a_is = sub (is_rd w64 (lit< tt) p_is) (is_rd w64 (lit< tt) b_is)

  pub d_is : Is (2 ^ 47 + (2 ^ 47 + 2 ^ 46)) (rq +ℤ rd w64 (re -ℤ rc)) ((d -ℤ b) +ℤ (halfway a c d b -ℤ c))
  d_is = add (is_rd w64 (lit< tt) q_is) (is_rd w64 (lit< tt) c_is)
