-- How far values grow: a list of bounds goes through the steps beside T (and one beside S), and whether every step is fine there is a test that is computed.
use mathlib.Core.Bool.{Bool, true, false}
use mathlib.Core.List.{List, [], ◌∷◌}
use Prim.Native.Nat.{ℕ, max, ◌+◌, ◌-◌, ◌*◌, ◌/◌, ◌^◌, zero, suc, ◌≤◌, ◌<◌}
use lib.Dec.{leb, ltb, T, leb→le, ltb→lt}
use lib.ListN.{length, get_or, set, replicate, length-replicate, get_or-replicate}
use Rattle.whole.specs.Within.{Within}
use Rattle.whole.proofs.Within.{EachWithin, within_self, within_le, within_parts, within_neg, within_add, within_sub, within_mul, within_shr, each_set, each_all, table_within}
use Rattle.whole.proofs.Tests.{both, all_below, b₁, b₂, below}
use Rattle.whole.specs.Lists.{move, fill}
use Rattle.whole.specs.Steps.{run}
use Rattle.whole.proofs.Steps.{checks, checks_sound}
use Rattle.whole.specs.Inner.{Ok}
use Rattle.primitives.proofs.Growth.{grown_round, grown_x, grown_y, within_rounded, within_turn_x, within_turn_y}
use Rattle.steps.specs.Step.{Step, Bf, Hd, Neg, Move, A4, Wh, step, adst4, halfway, wht4}
use Rattle.steps.specs.Inner.{Fine, Fine2}
use Rattle.steps.specs.Step2.{Arrays, Step2, on, SB, SH, step2, fresh}
use native.Mathlib.Nat as NatL
use native.Mathlib.Omega.{arith}
use lib.IntN.{ℤ, pos, ◌+ℤ◌, ◌-ℤ◌}
use lib.Pow.{pow_pos}
use lib.Signed.{shr_z}
use Rattle.whole.proofs.Ring.{E, at, ◌⊕◌, ◌⊖◌, ev, pp, pn, sound}
use Rattle.whole.proofs.Parts.{shr_low, shr_high}
use Rattle.primitives.specs.Rotations.{set_pair, apply_b, apply_h, apply_sb, apply_sh}

-- of floor(x / 2^k), for x within m
abbrev pub shifted : ℕ → ℕ → ℕ
shifted k m = (m + (2 ^ k - 1)) / 2 ^ k

-- what a step does to the bounds
unfoldable pub after : Step → List ℕ → List ℕ
after (Bf a b g false) bs = set (set bs a (grown_round (grown_x (get_or bs a 0) (get_or bs b 0) g))) b (grown_round (grown_y (get_or bs a 0) (get_or bs b 0) g))
after (Bf a b g true) bs = set (set bs a (grown_round (grown_y (get_or bs a 0) (get_or bs b 0) g))) b (grown_round (grown_x (get_or bs a 0) (get_or bs b 0) g))
after (Hd a b false) bs = set (set bs a (get_or bs a 0 + get_or bs b 0)) b (get_or bs a 0 + get_or bs b 0)
after (Hd a b true) bs = set (set bs b (get_or bs b 0 + get_or bs a 0)) a (get_or bs b 0 + get_or bs a 0)
after (Neg i) bs = set bs i (get_or bs i 0)
after (Move k f) bs = move 0 k f bs
after A4 bs =
    let a = get_or bs 0 0 in
    let b = get_or bs 1 0 in
    let c = get_or bs 2 0 in
    let d = get_or bs 3 0 in
    let x0 = 5283 * a + 15212 * c + 9929 * d in
    let x1 = 9929 * a + 5283 * c + 15212 * d in
    let x2 = 13377 * (a + c + d) in
    let x3 = 13377 * b in
    set (set (set (set bs 0 (grown_round (x0 + x3))) 1 (grown_round (x1 + x3))) 2 (grown_round x2)) 3 (grown_round (x0 + x1 + x3))
-- each result is half of a sum of the four up to sign, rounded
after (Wh k) bs =
    let h = (shifted k (get_or bs 0 0) + shifted k (get_or bs 1 0) + shifted k (get_or bs 2 0) + shifted k (get_or bs 3 0) + 1) / 2 in
    set (set (set (set bs 0 h) 1 h) 2 h) 3 h

-- place a is below n, has a bound, and the bound is at most m
abbrev pub place : ℕ → ℕ → List ℕ → ℕ → Bool
place n m bs a = both (ltb a n) (both (ltb a (length bs)) (leb (get_or bs a 0) m))

-- the step's places exist, and what it reads is within m
unfoldable pub fine : ℕ → Step → List ℕ → Bool
fine m (Bf a b g f) bs = both (place 32 m bs a) (place 32 m bs b)
fine m (Hd a b f) bs = both (place 32 m bs a) (place 32 m bs b)
fine m (Neg i) bs = place 32 m bs i
fine m (Move k f) bs = both (leb k 32) (all_below k (λ i. ltb (f i) (length bs)))
fine m A4 bs = both (both (place 32 m bs 0) (place 32 m bs 1)) (both (place 32 m bs 2) (place 32 m bs 3))
fine m (Wh k) bs = both (both (place 32 m bs 0) (place 32 m bs 1)) (both (place 32 m bs 2) (place 32 m bs 3))

-- the first n bounds are there, and at most o
abbrev pub under : ℕ → ℕ → List ℕ → Bool
under n o bs = all_below n (λ k. both (ltb k (length bs)) (leb (get_or bs k 0) o))

-- a whole transform of n values, from all within i to all within o, no step reading beyond m
unfoldable pub passes : ℕ → List Step → ℕ → ℕ → ℕ → Bool
passes m ss n i o = both (checks after (fine m) ss (replicate n i)) (under n o (run after ss (replicate n i)))

-- ---- over T and S
pub record Bounds : Type 0 where
  pub T : List ℕ
  pub S : List ℕ

pub record EachWithin2 (v : Bounds) (u : Arrays) : Type 0 where
  pub of_t : EachWithin v.T u.T
  pub of_s : EachWithin v.S u.S

unfoldable pub after2 : Step2 → Bounds → Bounds
after2 (on s) v = record { T = after s v.T; S = v.S }
after2 (SB a b g false) v =
    record { T = v.T; S = set (set v.S a (grown_x (get_or v.T a 0) (get_or v.T b 0) g)) b (grown_y (get_or v.T a 0) (get_or v.T b 0) g) }
after2 (SB a b g true) v =
    record { T = v.T; S = set (set v.S a (grown_y (get_or v.T a 0) (get_or v.T b 0) g)) b (grown_x (get_or v.T a 0) (get_or v.T b 0) g) }
after2 (SH a b) v =
    record { T = set (set v.T a (grown_round (get_or v.S a 0 + get_or v.S b 0))) b (grown_round (get_or v.S a 0 + get_or v.S b 0)); S = v.S }

unfoldable pub fine2 : ℕ → Step2 → Bounds → Bool
fine2 m (on s) v = fine m s v.T
fine2 m (SB a b g f) v = both (place 16 m v.T a) (place 16 m v.T b)
fine2 m (SH a b) v = both (place 16 (m * 32768) v.S a) (place 16 (m * 32768) v.S b)

-- S starts as zeros
abbrev pub clean : List ℕ → Bounds
clean bs = record { T = bs; S = replicate 16 0 }

unfoldable pub passes2 : ℕ → List Step2 → ℕ → ℕ → ℕ → Bool
passes2 m ss n i o = both (checks after2 (fine2 m) ss (clean (replicate n i))) (under n o (run after2 ss (clean (replicate n i))).T)

-- ---- the largest bound, to name it exactly
unfoldable pub largest : List ℕ → ℕ
largest [] = 0
largest (b ∷ bs) = max b (largest bs)

-- after a transform of n values within i
unfoldable pub grown : List Step → ℕ → ℕ → ℕ
grown ss n i = largest (run after ss (replicate n i))

unfoldable pub grown2 : List Step2 → ℕ → ℕ → ℕ
grown2 ss n i = largest (run after2 ss (clean (replicate n i))).T

-- ---- The range theorem: where the computed test holds, every step is fine, and the values stay within the computed bounds.
-- ---- one operation
pub within_shifted : (k : ℕ) {m : ℕ} {x : ℤ} → Within m x → Within (shifted k m) (shr_z x (2 ^ k))
within_shifted k {m} {x} b =
    let q = NatL.lt-div-mul-add {a = m + (2 ^ k - 1)} {b = 2 ^ k} (pow_pos k) in
    within_shr (shifted k m) (2 ^ k) x (pow_pos k) (omega (arith, pow_pos k)) (omega (arith, pow_pos k))

-- ---- a place whose test holds
record At (n m : ℕ) (bs : List ℕ) (t : List ℤ) (a : ℕ) : Type 0 where
  room : a < n
  low : Within m (get_or t a (pos 0))
  own : Within (get_or bs a 0) (get_or t a (pos 0))

at_place : (n m : ℕ) (bs : List ℕ) (t : List ℤ) (a : ℕ) → T (place n m bs a) → EachWithin bs t → At n m bs t a
at_place n m bs t a h b =
    let r = b₂ (ltb a n) (both (ltb a (length bs)) (leb (get_or bs a 0) m)) h in
    let o = b.each a (ltb→lt a (length bs) (b₁ (ltb a (length bs)) (leb (get_or bs a 0) m) r)) in
    record {
      room = ltb→lt a n (b₁ (ltb a n) (both (ltb a (length bs)) (leb (get_or bs a 0) m)) h);
      low = within_le (leb→le (get_or bs a 0) m (b₂ (ltb a (length bs)) (leb (get_or bs a 0) m) r)) o;
      own = o;
    }

record Two (n m : ℕ) (bs : List ℕ) (t : List ℤ) (a b : ℕ) : Type 0 where
  fst : At n m bs t a
  snd : At n m bs t b

two : (n m : ℕ) (bs : List ℕ) (t : List ℤ) (a b : ℕ) → T (both (place n m bs a) (place n m bs b)) → EachWithin bs t → Two n m bs t a b
two n m bs t a b h k =
    record { fst = at_place n m bs t a (b₁ (place n m bs a) (place n m bs b) h) k; snd = at_place n m bs t b (b₂ (place n m bs a) (place n m bs b) h) k }

record Four (m : ℕ) (bs : List ℕ) (t : List ℤ) : Type 0 where
  at0 : At 32 m bs t 0
  at1 : At 32 m bs t 1
  at2 : At 32 m bs t 2
  at3 : At 32 m bs t 3

four : (m : ℕ) (bs : List ℕ) (t : List ℤ) → T (both (both (place 32 m bs 0) (place 32 m bs 1)) (both (place 32 m bs 2) (place 32 m bs 3))) → EachWithin bs t → Four m bs t
four m bs t h k =
    let l = two 32 m bs t 0 1 (b₁ (both (place 32 m bs 0) (place 32 m bs 1)) (both (place 32 m bs 2) (place 32 m bs 3)) h) k in
    let r = two 32 m bs t 2 3 (b₂ (both (place 32 m bs 0) (place 32 m bs 1)) (both (place 32 m bs 2) (place 32 m bs 3)) h) k in
    record { at0 = l.fst; at1 = l.snd; at2 = r.fst; at3 = r.snd }

-- ---- one step
each_fill : (k : ℕ) (f : ℕ → ℕ) (bs : List ℕ) (t : List ℤ) → T (all_below k (λ i. ltb (f i) (length bs))) → EachWithin bs t → (l : ℕ) → l ≤ k
    → EachWithin (fill l (λ i. get_or bs (f i) 0) bs) (fill l (λ i. get_or t (f i) (pos 0)) t)
unfolding fill
each_fill k f bs t h b zero le = b
each_fill k f bs t h b (suc l) le =
    each_set l (each_fill k f bs t h b l (omega arith)) (b.each (f l) (ltb→lt (f l) (length bs) (below k (λ i. ltb (f i) (length bs)) h l (omega arith))))

lit : (n : ℕ) → Within n (pos n)
lit n = within_self (pos n)

each_a4 : {m : ℕ} {bs : List ℕ} {t : List ℤ} → EachWithin bs t → Four m bs t → EachWithin (after A4 bs) (step A4 t)
unfolding after step adst4
each_a4 h f =
    let a = f.at0.own in
    let b = f.at1.own in
    let c = f.at2.own in
    let d = f.at3.own in
    let x0 = within_add (within_add (within_mul (lit 5283) a) (within_mul (lit 15212) c)) (within_mul (lit 9929) d) in
    let x1 = within_sub (within_sub (within_mul (lit 9929) a) (within_mul (lit 5283) c)) (within_mul (lit 15212) d) in
    let x2 = within_mul (lit 13377) (within_add (within_sub a c) d) in
    let x3 = within_mul (lit 13377) b in
    each_set 3
    (each_set 2 (each_set 1 (each_set 0 h (within_rounded (within_add x0 x3))) (within_rounded (within_add x1 x3))) (within_rounded x2))
    (within_rounded (within_sub (within_add x0 x1) x3))

-- the four results of the WHT: twice each is the sum of the four up to sign, or one more or less
module _ {ma mc md mb : ℕ} {a c d b : ℤ} (wa : Within ma a) (wc : Within mc c) (wd : Within md d) (wb : Within mb b) where
  abbrev h : ℕ
  h = (ma + mc + md + mb + 1) / 2

  sum : E
  sum = (at a ⊕ at c) ⊖ (at d ⊖ at b)

  wh_by : (y : E) → pp y + pp y ≤ pn y + pn y + (ma + mc + md + mb + 1) → pn y + pn y ≤ pp y + pp y + (ma + mc + md + mb + 1) → Within h (ev y)
  wh_by y p q = within_parts h (ev y) (omega (arith, sound y)) (omega (arith, sound y))

  within_wh0 : Within h ((a +ℤ c) -ℤ (halfway a c d b -ℤ b))
  unfolding halfway sum
  within_wh0 =
      wh_by ((at a ⊕ at c) ⊖ (at (shr_z (ev sum) 2) ⊖ at b))
      (omega (arith, sound sum, shr_low (ev sum) 2 (omega arith), shr_high (ev sum) 2 (omega arith)))
      (omega (arith, sound sum, shr_low (ev sum) 2 (omega arith), shr_high (ev sum) 2 (omega arith)))

  within_wh1 : Within h (halfway a c d b -ℤ b)
  unfolding halfway sum
  within_wh1 =
      wh_by (at (shr_z (ev sum) 2) ⊖ at b)
      (omega (arith, sound sum, shr_low (ev sum) 2 (omega arith), shr_high (ev sum) 2 (omega arith)))
      (omega (arith, sound sum, shr_low (ev sum) 2 (omega arith), shr_high (ev sum) 2 (omega arith)))

  within_wh2 : Within h (halfway a c d b -ℤ c)
  unfolding halfway sum
  within_wh2 =
      wh_by (at (shr_z (ev sum) 2) ⊖ at c)
      (omega (arith, sound sum, shr_low (ev sum) 2 (omega arith), shr_high (ev sum) 2 (omega arith)))
      (omega (arith, sound sum, shr_low (ev sum) 2 (omega arith), shr_high (ev sum) 2 (omega arith)))

  within_wh3 : Within h ((d -ℤ b) +ℤ (halfway a c d b -ℤ c))
  unfolding halfway sum
  within_wh3 =
      wh_by ((at d ⊖ at b) ⊕ (at (shr_z (ev sum) 2) ⊖ at c))
      (omega (arith, sound sum, shr_low (ev sum) 2 (omega arith), shr_high (ev sum) 2 (omega arith)))
      (omega (arith, sound sum, shr_low (ev sum) 2 (omega arith), shr_high (ev sum) 2 (omega arith)))

each_wh : (k : ℕ) {m : ℕ} {bs : List ℕ} {t : List ℤ} → EachWithin bs t → Four m bs t → EachWithin (after (Wh k) bs) (step (Wh k) t)
unfolding after step wht4
each_wh k h f =
    let a = within_shifted k f.at0.own in
    let c = within_shifted k f.at1.own in
    let d = within_shifted k f.at2.own in
    let b = within_shifted k f.at3.own in
    each_set 3 (each_set 2 (each_set 1 (each_set 0 h (within_wh0 a c d b)) (within_wh1 a c d b)) (within_wh2 a c d b)) (within_wh3 a c d b)

pub step_sound : (m : ℕ) (s : Step) (bs : List ℕ) (t : List ℤ) → T (fine m s bs) → EachWithin bs t → Fine m s t × EachWithin (after s bs) (step s t)
unfolding after fine step apply_b apply_h set_pair move
step_sound m (Bf a b g false) bs t h k =
    let w = two 32 m bs t a b h k in
    let p = w.fst in
    let q = w.snd in (
      (p.room, q.room, p.low, q.low),
      each_set b (each_set a k (within_rounded (within_turn_x g p.own q.own))) (within_rounded (within_turn_y g p.own q.own)),
    )
step_sound m (Bf a b g true) bs t h k =
    let w = two 32 m bs t a b h k in
    let p = w.fst in
    let q = w.snd in (
      (p.room, q.room, p.low, q.low),
      each_set b (each_set a k (within_rounded (within_turn_y g p.own q.own))) (within_rounded (within_turn_x g p.own q.own)),
    )
step_sound m (Hd a b false) bs t h k =
    let w = two 32 m bs t a b h k in
    let p = w.fst in
    let q = w.snd in
    ((p.room, q.room, p.low, q.low), each_set b (each_set a k (within_add p.own q.own)) (within_sub p.own q.own))
step_sound m (Hd a b true) bs t h k =
    let w = two 32 m bs t a b h k in
    let p = w.fst in
    let q = w.snd in
    ((p.room, q.room, p.low, q.low), each_set a (each_set b k (within_add q.own p.own)) (within_sub q.own p.own))
step_sound m (Neg i) bs t h k =
    let p = at_place 32 m bs t i h k in
    ((p.room, p.low), each_set i k (within_neg p.own))
step_sound m (Move n f) bs t h k = (
  leb→le n 32 (b₁ (leb n 32) (all_below n (λ i. ltb (f i) (length bs))) h),
  each_fill n f bs t (b₂ (leb n 32) (all_below n (λ i. ltb (f i) (length bs))) h) k n (NatL.le_refl n),
)
step_sound m A4 bs t h k =
    let f = four m bs t h k in
    ((f.at0.low, f.at1.low, f.at2.low, f.at3.low), each_a4 k f)
step_sound m (Wh s) bs t h k =
    let f = four m bs t h k in
    ((f.at0.low, f.at1.low, f.at2.low, f.at3.low), each_wh s k f)

-- THE range theorem
pub range : (m : ℕ) (ss : List Step) (bs : List ℕ) (t : List ℤ) → T (checks after (fine m) ss bs) → EachWithin bs t
    → Ok step (Fine m) ss t × EachWithin (run after ss bs) (run step ss t)
range m = checks_sound step (Fine m) after (fine m) EachWithin (step_sound m)

-- ---- a whole transform
pub each_under : (n o : ℕ) (bs : List ℕ) {t : List ℤ} → T (under n o bs) → EachWithin bs t → EachWithin (replicate n o) t
each_under n o bs {t} h b = record { each = go }
  where
    go : (k : ℕ) → k < length (replicate n o) → Within (get_or (replicate n o) k 0) (get_or t k (pos 0))
    go k l =
        let lt : k < n = rw length-replicate at l in
        let r = below n (λ k. both (ltb k (length bs)) (leb (get_or bs k 0) o)) h k lt in
        rw (get_or-replicate n k o 0 lt)
        (within_le (leb→le (get_or bs k 0) o (b₂ (ltb k (length bs)) (leb (get_or bs k 0) o) r))
        (b.each k (ltb→lt k (length bs) (b₁ (ltb k (length bs)) (leb (get_or bs k 0) o) r))))

pub pass_sound : (m : ℕ) (ss : List Step) (n i o : ℕ) {t : List ℤ} → T (passes m ss n i o) → EachWithin (replicate n i) t
    → Ok step (Fine m) ss t × EachWithin (replicate n o) (run step ss t)
unfolding passes
pass_sound m ss n i o {t} h b =
    let bs = replicate n i in
    let c = checks after (fine m) ss bs in
    let u = under n o (run after ss bs) in
    let r = range m ss bs t (b₁ c u h) b in
    (r.0, each_under n o (run after ss bs) (b₂ c u h) r.1)

-- ---- over T and S
pub step_sound2 : (m : ℕ) (s : Step2) (v : Bounds) (u : Arrays) → T (fine2 m s v) → EachWithin2 v u → Fine2 m s u × EachWithin2 (after2 s v) (step2 s u)
unfolding after2 fine2 step2 apply_sb apply_sh set_pair
step_sound2 m (on s) v u h k = let r = step_sound m s v.T u.T h k.of_t in (r.0, record { of_t = r.1; of_s = k.of_s })
step_sound2 m (SB a b g false) v u h k =
    let w = two 16 m v.T u.T a b h k.of_t in
    let p = w.fst in
    let q = w.snd in (
      (p.room, q.room, p.low, q.low),
      record { of_t = k.of_t; of_s = each_set b (each_set a k.of_s (within_turn_x g p.own q.own)) (within_turn_y g p.own q.own) },
    )
step_sound2 m (SB a b g true) v u h k =
    let w = two 16 m v.T u.T a b h k.of_t in
    let p = w.fst in
    let q = w.snd in (
      (p.room, q.room, p.low, q.low),
      record { of_t = k.of_t; of_s = each_set b (each_set a k.of_s (within_turn_y g p.own q.own)) (within_turn_x g p.own q.own) },
    )
step_sound2 m (SH a b) v u h k =
    let w = two 16 (m * 32768) v.S u.S a b h k.of_s in
    let p = w.fst in
    let q = w.snd in (
      (p.room, q.room, p.low, q.low),
      record {
        of_t = each_set b (each_set a k.of_t (within_rounded (within_add p.own q.own))) (within_rounded (within_sub p.own q.own));
        of_s = k.of_s;
      },
    )

pub range2 : (m : ℕ) (ss : List Step2) (v : Bounds) (u : Arrays) → T (checks after2 (fine2 m) ss v) → EachWithin2 v u
    → Ok step2 (Fine2 m) ss u × EachWithin2 (run after2 ss v) (run step2 ss u)
range2 m = checks_sound step2 (Fine2 m) after2 (fine2 m) EachWithin2 (step_sound2 m)

pub pass_sound2 : (m : ℕ) (ss : List Step2) (n i o : ℕ) {t : List ℤ} → T (passes2 m ss n i o) → EachWithin (replicate n i) t
    → Ok step2 (Fine2 m) ss (fresh t) × EachWithin (replicate n o) (run step2 ss (fresh t)).T
unfolding passes2 fresh
pass_sound2 m ss n i o {t} h b =
    let v = clean (replicate n i) in
    let c = checks after2 (fine2 m) ss v in
    let d = under n o (run after2 ss v).T in
    let zeros : EachWithin (replicate 16 0) (replicate 16 (pos 0)) = each_all 16 0 (record { each = table_within 0 (replicate 16 (pos 0)) tt }) in
    let r = range2 m ss v (record { T = t; S = replicate 16 (pos 0) }) (b₁ c d h) (record { of_t = b; of_s = zeros }) in
    (r.0, each_under n o (run after2 ss v).T (b₂ c d h) r.1.of_t)
