-- A one-dimensional transform is a list of steps over the array T. Specification §8.7.1.
use Rattle.std.specs.Prelude.{Bool, List, ℕ, ◌^◌, ℤ, pos, neg_ℤ, ◌+ℤ◌, ◌-ℤ◌, ◌*ℤ◌, get_or, set}
use Rattle.std.specs.Int.Signed.{shr_z}
use Rattle.whole.specs.Round.{Round2}
use Rattle.whole.specs.Lists.{move}
use Rattle.primitives.specs.Rotations.{apply_b, apply_h}

-- §8.7.1.6, over the first four places; 5283, 9929, 13377 and 15212 are SINPI_1_9 to SINPI_4_9
unfoldable pub adst4 : List ℤ → List ℤ
adst4 t =
    let a = get_or t 0 (pos 0) in
    let b = get_or t 1 (pos 0) in
    let c = get_or t 2 (pos 0) in
    let d = get_or t 3 (pos 0) in
    let x0 = pos 5283 *ℤ a +ℤ pos 15212 *ℤ c +ℤ pos 9929 *ℤ d in
    let x1 = pos 9929 *ℤ a -ℤ pos 5283 *ℤ c -ℤ pos 15212 *ℤ d in
    let x2 = pos 13377 *ℤ (a -ℤ c +ℤ d) in
    let x3 = pos 13377 *ℤ b in
    set (set (set (set t 0 (Round2 (x0 +ℤ x3) 14)) 1 (Round2 (x1 +ℤ x3) 14)) 2 (Round2 x2 14)) 3 (Round2 (x0 +ℤ x1 -ℤ x3) 14)

-- e of §8.7.1.10: floor((a + c − (d − b)) / 2)
unfoldable pub halfway : ℤ → ℤ → ℤ → ℤ → ℤ
halfway a c d b = shr_z ((a +ℤ c) -ℤ (d -ℤ b)) 2

-- §8.7.1.10, over the first four places: (a, c, d, b) after a floor shift, then (a, b, c, d)
unfoldable pub wht4 : ℕ → List ℤ → List ℤ
wht4 shift t =
    let a = shr_z (get_or t 0 (pos 0)) (2 ^ shift) in
    let c = shr_z (get_or t 1 (pos 0)) (2 ^ shift) in
    let d = shr_z (get_or t 2 (pos 0)) (2 ^ shift) in
    let b = shr_z (get_or t 3 (pos 0)) (2 ^ shift) in
    let e = halfway a c d b in
    set (set (set (set t 0 ((a +ℤ c) -ℤ (e -ℤ b))) 1 (e -ℤ b)) 2 (e -ℤ c)) 3 ((d -ℤ b) +ℤ (e -ℤ c))

-- Bf a b angle flip is B, Hd a b flip is H, Neg i is T[i] = −T[i], Move k f is T[i] = copyT[f i] for i < k,
-- A4 is the whole ADST of 4 numbers, Wh shift the whole WHT
pub data Step : Type 0 where
  Bf : ℕ → ℕ → ℤ → Bool → Step
  Hd : ℕ → ℕ → Bool → Step
  Neg : ℕ → Step
  Move : ℕ → (ℕ → ℕ) → Step
  A4 : Step
  Wh : ℕ → Step

-- T after one step
unfoldable pub step : Step → List ℤ → List ℤ
step (Bf a b angle flip) t = apply_b t a b angle flip
step (Hd a b flip) t = apply_h t a b flip
step (Neg i) t = set t i (neg_ℤ (get_or t i (pos 0)))
step (Move k f) t = move (pos 0) k f t
step A4 t = adst4 t
step (Wh shift) t = wht4 shift t
