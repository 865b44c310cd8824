-- Forms beside the numbers of a list, the first n of both.
use mathlib.Core.Path.{◌≡◌, ◌∙◌}
use mathlib.Core.Bool.{Bool, true, false}
use mathlib.Core.List.{List}
use Prim.Native.Nat.{ℕ, zero, suc, ◌≤◌, ◌<◌}
use native.Mathlib.Decide.{ℕ_discrete}
use native.Mathlib.Omega.{arith}
use lib.IntN.{ℤ, pos}
use lib.ListN.{length, get_or, set, replicate, length-set, length-replicate, get_or-replicate}
use lib.Seq.{get_or-set_same, get_or-set_other}
use Rattle.whole.specs.Lists.{fill, tabulate}
use Rattle.whole.proofs.Lists.{length_tabulate, get_d_tabulate}
use Rattle.primitives.specs.Rotations.{set_pair}
use Rattle.weights.proofs.Forms.{Form, nil, unit_f, Weighs, w_unit, w_nil}

-- the forms of the inputs
unfoldable pub units : ℕ → List Form
units n = tabulate unit_f n

-- as `setPair`
unfoldable pub pair_f : List Form → ℕ → ℕ → Form → Form → Bool → List Form
pair_f d a b p q false = set (set d a p) b q
pair_f d a b p q true = set (set d a q) b p

module _ (n : ℕ) (x : ℕ → ℤ) where
  pub record Beside (d : List Form) (t : List ℤ) : Type 0 where
    pub long : length d ≡ n
    pub room : n ≤ length t
    pub each : (i : ℕ) → i < n → Weighs n x (get_or d i nil) (get_or t i (pos 0))

module _ {n : ℕ} {x : ℕ → ℤ} where
  -- one place written
  pub beside_set : {d : List Form} {t : List ℤ} (j : ℕ) {p : Form} {v : ℤ} → Beside n x d t → Weighs n x p v → Beside n x (set d j p) (set t j v)
  beside_set {d} {t} j {p} {v} h w =
      record { long = length-set d j p ∙ h.long; room = rw (length-set t j v) h.room; each = λ i l. go i l (ℕ_discrete i j) }
    where
      go : (i : ℕ) → i < n → Dec (i ≡ j) → Weighs n x (get_or (set d j p) i nil) (get_or (set t j v) i (pos 0))
      go i l (yes q) = rw (q, get_or-set_same d j p nil (omega (arith, h.long)), get_or-set_same t j v (pos 0) (omega (arith, h.room))) w
      go i l (no ne) = rw (get_or-set_other d j i p nil ne, get_or-set_other t j i v (pos 0) ne) (h.each i l)

  -- two places
  pub beside_two : {d : List Form} {t : List ℤ} (a b : ℕ) {p q : Form} {y z : ℤ} → Beside n x d t → Weighs n x p y → Weighs n x q z
      → Beside n x (set (set d a p) b q) (set (set t a y) b z)
  beside_two a b h wp wq = beside_set b (beside_set a h wp) wq

  pub beside_pair : {d : List Form} {t : List ℤ} (a b : ℕ) (flip : Bool) {p q : Form} {y z : ℤ} → Beside n x d t → Weighs n x p y → Weighs n x q z
      → Beside n x (pair_f d a b p q flip) (set_pair t a b y z flip)
  unfolding pair_f set_pair
  beside_pair a b false h wp wq = beside_two a b h wp wq
  beside_pair a b true h wp wq = beside_two a b h wq wp

  -- a permutation of the first numbers
  pub beside_fill : {d : List Form} {t : List ℤ} (f : ℕ → ℕ) (k : ℕ) → ((i : ℕ) → i < k → f i < n) → Beside n x d t
      → Beside n x (fill k (λ i. get_or d (f i) nil) d) (fill k (λ i. get_or t (f i) (pos 0)) t)
  unfolding fill
  beside_fill f zero g h = h
  beside_fill f (suc k) g h = beside_set k (beside_fill f k (λ i l. g i (omega arith)) h) (h.each (f k) (g k (omega arith)))

-- the inputs
pub beside_units : (n : ℕ) (t : List ℤ) → n ≤ length t → Beside n (λ i. get_or t i (pos 0)) (units n) t
unfolding units
beside_units n t room =
    record { long = length_tabulate unit_f n; room = room; each = λ i l. rw (get_d_tabulate unit_f n i nil l) (w_unit n (λ i. get_or t i (pos 0)) i l) }

-- zeros
pub beside_zeros : (n m : ℕ) (x : ℕ → ℤ) → n ≤ m → Beside n x (replicate n nil) (replicate m (pos 0))
beside_zeros n m x h =
    record {
      long = length-replicate n nil;
      room = rw (length-replicate m (pos 0)) h;
      each = λ i l. rw (get_or-replicate n i nil nil l, get_or-replicate m i (pos 0) (pos 0) (omega arith)) (w_nil n x);
    }
