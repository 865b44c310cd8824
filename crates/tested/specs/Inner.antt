-- What only the contracts of inner functions read: what an entry of the table stands for, and what it asks.
use Rattle.std.specs.Prelude.{◌≡◌, Bool, true, false, ◌&&◌, ◌||◌, List, [], ◌∷◌, ℕ, ◌^◌, T, leb, ltb, ℤ, pos, ◌-ℤ◌, take, drop}
use Rattle.std.specs.Ordering.{int_eq}
use Rattle.primitives.specs.Brev.{Brev}
use Rattle.primitives.specs.Cosine.{Cos64, Sin64}
use Rattle.steps.specs.Step.{Bf, Hd, Neg, Move, A4, Wh}
use Rattle.steps.specs.Step2.{Step2, on, SB, SH}
use Rattle.adst.specs.Adst.{adst_in, adst_out}
use Rattle.tested.specs.Line.{pass_of, steps_of}
use Rattle.tested.specs.declared.Kind.{Kind}
use Rattle.tested.specs.declared.Kind.TheVariants.{Dct, Adst, WhtRow, WhtColumn}
use Rattle.tested.specs.declared.Step.{Step}
use Rattle.tested.specs.declared.Step.TheVariants.{Reverse, Turn, Sums, Products, SumsOfS, Negate, Enter, Leave, Adst4, Wht}

-- a cosine and a sine are those of an angle
pub record OfAngle (angle cos sin : ℤ) : Type 0 where
  pub cos_is : cos ≡ Cos64 angle
  pub sin_is : sin ≡ Sin64 angle

-- the angles that there are
unfoldable pub among : ℤ → List ℤ → Bool
among g [] = false
among g (x ∷ xs) = int_eq g x || among g xs

unfoldable pub known : ℤ → Bool
known g =
    among g
    ((pos 0 -ℤ pos 4) ∷ pos 112 ∷ pos 84 ∷ pos 72 ∷ pos 68 ∷ pos 48 ∷ pos 31 ∷ pos 30 ∷ pos 28 ∷ pos 27 ∷ pos 24 ∷ pos 23 ∷ pos 22 ∷ pos 19 ∷ pos 16 ∷ pos 15 ∷ pos 14 ∷ pos 12 ∷ pos 11 ∷ pos 8 ∷ pos 7 ∷ pos 6 ∷ pos 3 ∷ (pos 0 -ℤ pos 20) ∷ [])

-- a step of the table, in a line of 2^n numbers
unfoldable pub step_of : ℕ → Step → Step2
step_of n Reverse = on (Move (2 ^ n) (Brev n))
step_of n (Turn a b g f) = on (Bf a b g f)
step_of n (Sums a b f) = on (Hd a b f)
step_of n (Products a b g) = SB a b g true
step_of n (SumsOfS a b) = SH a b
step_of n (Negate a) = on (Neg a)
step_of n Enter = on (Move (2 ^ n) (adst_in n))
step_of n Leave = on (Move (2 ^ n) (adst_out n))
step_of n Adst4 = on A4
step_of n (Wht shift) = on (Wh shift)

-- what a step asks: places of T or of S, a known angle, for the ADST's permutations 8 or 16 numbers, a shift of at most 2
unfoldable pub ready : ℕ → Step → Bool
ready n Reverse = true
ready n (Turn a b g f) = (ltb a 32 && ltb b 32) && known g
ready n (Sums a b f) = ltb a 32 && ltb b 32
ready n (Products a b g) = (ltb a 16 && ltb b 16) && known g
ready n (SumsOfS a b) = ltb a 16 && ltb b 16
ready n (Negate a) = ltb a 32
ready n Enter = leb 3 n && leb n 4
ready n Leave = leb 3 n && leb n 4
ready n Adst4 = true
ready n (Wht shift) = leb shift 2

-- what a tested step tells of its answer r and of what it leaves
abbrev pub Told : {A S : Type 0} (step : A → S → S) (fits : A → S → Bool) → A → S → Bool → S → Type 0
Told step fits s t r u = (r ≡ fits s t) × (r ≡ true → u ≡ step s t)

-- the steps of a table, and whether these are ready
unfoldable pub given : ℕ → List Step → List Step2
given n [] = []
given n (e ∷ es) = step_of n e ∷ given n es

unfoldable pub readies : ℕ → List Step → Bool
readies n [] = true
readies n (e ∷ es) = ready n e && readies n es

-- they are the steps of a line
pub record Gives (n : ℕ) (es : List Step) (ss : List Step2) : Type 0 where
  pub steps : given n es ≡ ss
  pub fine : T (readies n es)

-- the table has the steps of a line, of all lines
abbrev pub Has : Kind → ℕ → List Step → Type 0
Has k n es = Gives n es (steps_of (pass_of k) n)

pub record Tables (es : List Step) : Type 0 where
  pub dct4 : Has Dct 2 (take 5 es)
  pub dct8 : Has Dct 3 (take 14 es)
  pub dct16 : Has Dct 4 (take 38 es)
  pub dct32 : Has Dct 5 (take 98 es)
  pub adst4 : Has Adst 2 (take 1 (drop 98 es))
  pub adst8 : Has Adst 3 (take 22 (drop 99 es))
  pub adst16 : Has Adst 4 (take 50 (drop 121 es))
  pub wht_row : Has WhtRow 2 (take 1 (drop 171 es))
  pub wht_column : Has WhtColumn 2 (take 1 (drop 172 es))
