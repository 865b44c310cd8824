-- The process of the inverse DCT as the code goes: steps 2 to 7 of each size, those above n left out.
use mathlib.Core.Path.{◌≡◌, refl, sym, subst}
use mathlib.Core.Bool.{Bool, true}
use mathlib.Core.List.{List, [], ◌∷◌, ◌++◌}
use Prim.Native.Nat.{ℕ, ◌-◌, ◌*◌, ◌/◌, ◌%◌, ◌^◌, ◌≤◌, ◌<◌}
use lib.Dec.{leb}
use lib.IntN.{ℤ, pos}
use borrow.Author.Tests.{le-leb, lt-leb}
use Rattle.whole.specs.Steps.{run, each, when}
use Rattle.whole.specs.Inner.{Ok}
use Rattle.whole.proofs.Steps.{Left, left_all, left_next, left_stage, left_first}
use Rattle.primitives.specs.Brev.{Brev}
use Rattle.steps.specs.Step.{Step, Bf, Move, step}
use Rattle.steps.specs.Inner.{Fine}
use Rattle.dct.specs.Dct.{dct, dct_row, dct_steps, tail, tail_at, steps2, steps3, steps4, steps5, steps6, steps7}
use Rattle.dct.proofs.Dct.{two_to_five}

-- steps 2 to 7 of the sizes from k on, up to n
abbrev pub levels3 : ℕ → List Step
levels3 n = when (leb 3 n) (tail 3) ++ (when (leb 4 n) (tail 4) ++ (when (leb 5 n) (tail 5) ++ []))

abbrev pub levels4 : ℕ → List Step
levels4 n = when (leb 4 n) (tail 4) ++ (when (leb 5 n) (tail 5) ++ [])

abbrev pub levels5 : ℕ → List Step
levels5 n = when (leb 5 n) (tail 5) ++ []

pub all : (n : ℕ) → 2 ≤ n → n ≤ 5 → dct_row n ≡ Move (2 ^ n) (Brev n) ∷ Bf 0 1 (pos 16) true ∷ (tail 2 ++ levels3 n)
unfolding dct_row dct_steps tail tail_at steps2 steps3 steps4 steps5 steps6 steps7 each when Brev
all = two_to_five (λ n. dct_row n ≡ Move (2 ^ n) (Brev n) ∷ Bf 0 1 (pos 16) true ∷ (tail 2 ++ levels3 n)) refl refl refl refl

-- what is left of the process, from here
abbrev pub Rest : List Step → List ℤ → List ℤ → Type 0
Rest = Left step (Fine (2 ^ 46))

-- the steps of size k are done: they are there for k up to n, and left out above it
pub asked : (k n : ℕ) (ss rest : List Step) {t g : List ℤ} → k ≤ n → Rest (when (leb k n) ss ++ rest) t g → Ok step (Fine (2 ^ 46)) ss t
unfolding when
asked k n ss rest {t} {g} h l =
    left_first ss rest (subst (λ (b : Bool). Rest (when b ss ++ rest) t g) (le-leb k n h) l)

pub done : (k n : ℕ) (ss rest : List Step) {t u g : List ℤ} → k ≤ n → Rest (when (leb k n) ss ++ rest) t g → u ≡ run step ss t → Rest rest u g
unfolding when
done k n ss rest {t} {u} {g} h l e =
    left_stage ss rest (subst (λ (b : Bool). Rest (when b ss ++ rest) t g) (le-leb k n h) l) e

pub left_out : (k n : ℕ) (ss rest : List Step) {t u g : List ℤ} → n < k → Rest (when (leb k n) ss ++ rest) t g → u ≡ t → Rest rest u g
unfolding when
left_out k n ss rest {t} {u} {g} h l e =
    subst (λ (x : List ℤ). Rest rest x g) (sym e) (subst (λ (b : Bool). Rest (when b ss ++ rest) t g) (lt-leb k n h) l)

-- the parts before the first test
module _ (n : ℕ) (least : 2 ≤ n) (most : n ≤ 5) {s : List ℤ} (ok : Ok step (Fine (2 ^ 46)) (dct_row n) s) where
  at0 : Rest (Move (2 ^ n) (Brev n) ∷ Bf 0 1 (pos 16) true ∷ (tail 2 ++ levels3 n)) s (dct n s)
  unfolding dct
  at0 = subst (λ (ss : List Step). Rest ss s (run step (dct_row n) s)) (all n least most) (left_all ok)

  pub at1 : {a : List ℤ} → a ≡ step (Move (2 ^ n) (Brev n)) s → Rest (Bf 0 1 (pos 16) true ∷ (tail 2 ++ levels3 n)) a (dct n s)
  at1 e = left_next at0 e

  pub at2 : {a b : List ℤ} → a ≡ step (Move (2 ^ n) (Brev n)) s → b ≡ step (Bf 0 1 (pos 16) true) a → Rest (tail 2 ++ levels3 n) b (dct n s)
  at2 e f = left_next (at1 e) f

  pub at3 : {a b c : List ℤ} → a ≡ step (Move (2 ^ n) (Brev n)) s → b ≡ step (Bf 0 1 (pos 16) true) a → c ≡ run step (tail 2) b → Rest (levels3 n) c (dct n s)
  at3 e f h = left_stage (tail 2) (levels3 n) (at2 e f) h

-- h k numbers are exchanged, as the permutation asks
pub halves : (n : ℕ) → 2 ≤ n → n ≤ 5 → ((1 * 2 ^ (n - n / 2)) % 2 ^ 64) * ((1 * 2 ^ (n / 2)) % 2 ^ 64) ≡ 2 ^ n
halves = two_to_five (λ n. ((1 * 2 ^ (n - n / 2)) % 2 ^ 64) * ((1 * 2 ^ (n / 2)) % 2 ^ 64) ≡ 2 ^ n) refl refl refl refl
