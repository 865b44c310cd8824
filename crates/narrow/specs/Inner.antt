-- What only the contracts of inner functions read: the test of a single step, which needs neither a length nor a start, and what an unchecked step asks.
use Rattle.std.specs.Prelude.{◌≡◌, Bool, true, false, ◌&&◌, List, [], ◌∷◌, ℕ, ◌≤◌, ◌<◌, ℤ, pos, neg_ℤ, ◌+ℤ◌, ◌-ℤ◌, ◌*ℤ◌, get_or, set}
use Rattle.whole.specs.Round.{Round2}
use Rattle.whole.specs.Within.{Within}
use Rattle.primitives.specs.Rotations.{turn_x, turn_y, set_pair}
use Rattle.steps.specs.Step.{Step, Bf, Hd, Neg, Move, A4, Wh, adst4, wht4, step}
use Rattle.steps.specs.Step2.{Arrays, Step2, on, SB, SH}
use Rattle.narrow.specs.Kept.{short, shorts}

-- both numbers that a step computes are of 16 bits
unfoldable pub short_pair : ℤ → ℤ → Bool
short_pair x y = short x && short y

-- x of a rotation of numbers a and b of t by a cosine and a sine, not rounded
unfoldable pub spin_x : List ℤ → ℕ → ℕ → ℤ → ℤ → ℤ
spin_x t a b cos sin = get_or t a (pos 0) *ℤ cos -ℤ get_or t b (pos 0) *ℤ sin

-- y of it
unfoldable pub spin_y : List ℤ → ℕ → ℕ → ℤ → ℤ → ℤ
spin_y t a b cos sin = get_or t a (pos 0) *ℤ sin +ℤ get_or t b (pos 0) *ℤ cos

-- both, rounded, are of 16 bits
unfoldable pub spin_fits : List ℤ → ℕ → ℕ → ℤ → ℤ → Bool
spin_fits t a b cos sin = short_pair (Round2 (spin_x t a b cos sin) 14) (Round2 (spin_y t a b cos sin) 14)

-- B, by the cosine and the sine of its angle
unfoldable pub spin : List ℤ → ℕ → ℕ → ℤ → ℤ → Bool → List ℤ
spin t a b cos sin flip = set_pair t a b (Round2 (spin_x t a b cos sin) 14) (Round2 (spin_y t a b cos sin) 14) flip

-- x to place a and y to place b, numbers of any type; flip exchanges the two. At ℤ it is set_pair
unfoldable pub set_both : {A : Type 0} → List A → ℕ → ℕ → A → A → Bool → List A
set_both t a b x y false = set (set t a x) b y
set_both t a b x y true = set (set t a y) b x

-- what a rotation asks: its places exist, and the two are no greater than 1.0 of 14 bits
abbrev pub Turns : ℕ → ℕ → ℤ → ℤ → Type 0
Turns a b cos sin = (a < 32) × (b < 32) × Within 16384 cos × Within 16384 sin

-- x and y are the values of such a rotation
pub record Rotated (t : List ℤ) (a b : ℕ) (cos sin x y : ℤ) : Type 0 where
  pub x_is : x ≡ spin_x t a b cos sin
  pub y_is : y ≡ spin_y t a b cos sin
  pub x_in : Within 1073741824 x
  pub y_in : Within 1073741824 y
  pub a_in : Within 32768 (get_or t a (pos 0))
  pub b_in : Within 32768 (get_or t b (pos 0))

-- H without its flip
unfoldable pub fits_h : ℤ → ℤ → Bool
fits_h p q = short_pair (p +ℤ q) (p -ℤ q)

-- the numbers that a step computes for T are of 16 bits; Move computes none, A4 and Wh all four
unfoldable pub fits : Step → List ℤ → Bool
fits (Bf a b angle flip) t =
    let p = get_or t a (pos 0) in
    let q = get_or t b (pos 0) in
    short_pair (Round2 (turn_x p q angle) 14) (Round2 (turn_y p q angle) 14)
fits (Hd a b false) t = fits_h (get_or t a (pos 0)) (get_or t b (pos 0))
fits (Hd a b true) t = fits_h (get_or t b (pos 0)) (get_or t a (pos 0))
fits (Neg i) t = short (neg_ℤ (get_or t i (pos 0)))
fits (Move k f) t = true
fits A4 t = shorts 4 (adst4 t)
fits (Wh shift) t = shorts 4 (wht4 shift t)

-- SB computes for S alone; SH sums S and rounds
unfoldable pub fits2 : Step2 → Arrays → Bool
fits2 (on s) u = fits s u.T
fits2 (SB a b angle flip) u = true
fits2 (SH a b) u =
    let x = get_or u.S a (pos 0) in
    let y = get_or u.S b (pos 0) in
    short_pair (Round2 (x +ℤ y) 14) (Round2 (x -ℤ y) 14)

-- a test of each step where it is met
unfoldable pub passes : {A S : Type 0} → (A → S → S) → (A → S → Bool) → List A → S → Bool
passes step test [] t = true
passes step test (s ∷ ss) t = test s t && passes step test ss (step s t)

-- every step of the list fits where it is met
abbrev pub fits_all : List Step → List ℤ → Bool
fits_all = passes step fits

-- what the unchecked form of a step asks: its places exist, and it fits
abbrev pub Fine16 : Step → List ℤ → Type 0
Fine16 (Bf a b angle flip) t = (a < 32) × (b < 32) × (fits (Bf a b angle flip) t ≡ true)
Fine16 (Hd a b flip) t = (a < 32) × (b < 32) × (fits (Hd a b flip) t ≡ true)
Fine16 (Neg i) t = (i < 32) × (fits (Neg i) t ≡ true)
Fine16 (Move k f) t = k ≤ 32
Fine16 A4 t = fits A4 t ≡ true
Fine16 (Wh shift) t = fits (Wh shift) t ≡ true

-- how far SB reaches from a T of 16 bits: 32768 × 23170, since |cos64| + |sin64| is at most 2 × 11585
abbrev pub reach : ℕ
reach = 759234560

-- the same of T and S
abbrev pub Fine216 : Step2 → Arrays → Type 0
Fine216 (on s) u = Fine16 s u.T
Fine216 (SB a b angle flip) u = (a < 16) × (b < 16)
Fine216 (SH a b) u = (a < 16) × (b < 16) × Within reach (get_or u.S a (pos 0)) × Within reach (get_or u.S b (pos 0)) × (fits2 (SH a b) u ≡ true)
