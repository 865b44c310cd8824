-- Laws of writing into a buffer: one text after another, a loop's pieces, code in a row.
use mathlib.Core.Path.{◌≡◌, refl, sym, ap, ◌∙◌, subst}
use mathlib.Core.List.{List, [], ◌∷◌, ◌++◌}
use Prim.Native.Nat.{ℕ, zero, suc, ◌+◌, ◌*◌, ◌≤◌, ◌<◌}
use mathlib.Core.Logic.{⊎_elim}
use native.Mathlib.Numerals.{add-one}
use native.Mathlib.Nat as N
use native.Mathlib.Omega.{arith}
use lib.ListN.{length, set, drop, length-append}
use lib.Seq.{sets, length-sets, sets-eq}
use Rattle.whole.specs.Steps.{each}
use Rattle.vbk_text.specs.Inner.{Room, Put}

sets_join : (out : List ℕ) (at : ℕ) (t u : List ℕ) → sets out at (t ++ u) ≡ sets (sets out at t) (at + length t) u
sets_join out at [] u = rw (N.add-zero at) refl
sets_join out at (x ∷ t) u =
    sets_join (set out at x) (suc at) t u ∙ ap (λ (k : ℕ). sets (sets (set out at x) (suc at) t) k u) (omega arith)

pub put_length : {out after t : List ℕ} {at next : ℕ} → Put out at t next after → length after ≡ length out
put_length {out} {after} {t} {at} p = ap length p.after_is ∙ length-sets out at t

pub put_join : {out mid after t u : List ℕ} {at n m : ℕ} → Put out at t n mid → Put mid n u m after → Put out at (t ++ u) m after
put_join {out} {mid} {after} {t} {u} {at} {n} p q =
    record {
      next_is = omega (arith, p.next_is, q.next_is, length-append t u);
      after_is = q.after_is ∙ ap (λ (l : List ℕ). sets l n u) p.after_is ∙ ap (λ (k : ℕ). sets (sets out at t) k u) p.next_is ∙ sym (sets_join out at t u);
    }

-- the same text, said otherwise
pub put_as : {out after t u : List ℕ} {at n : ℕ} → t ≡ u → Put out at t n after → Put out at u n after
put_as {out} {after} {t} {u} {at} {n} e p = subst (λ (x : List ℕ). Put out at x n after) e p

pub room_as : (out : List ℕ) (at : ℕ) {t u : List ℕ} → t ≡ u → Room out at t → Room out at u
room_as out at e h = subst (λ (x : List ℕ). Room out at x) e h

-- room for two texts is room for the first, and after it for the second
pub room_first : (out : List ℕ) (at : ℕ) (t u : List ℕ) → Room out at (t ++ u) → Room out at t
room_first out at t u h = omega (arith, length-append t u)

pub room_second : {out mid : List ℕ} {at n : ℕ} (t u : List ℕ) → Room out at (t ++ u) → Put out at t n mid → Room mid n u
room_second t u h p = omega (arith, length-append t u, p.next_is, put_length p)

-- code in a row: what is left to write from here, to end at the place g with the buffer G
pub record Todo (out : List ℕ) (at : ℕ) (rest G : List ℕ) (g : ℕ) : Type 0 where
  pub room : Room out at rest
  pub ends : sets out at rest ≡ G
  pub past : at + length rest ≡ g

pub todo_all : (out : List ℕ) (at : ℕ) (t : List ℕ) → Room out at t → Todo out at t (sets out at t) (at + length t)
todo_all out at t h = record { room = h; ends = refl; past = refl }

pub todo_room : (t rest : List ℕ) {out G : List ℕ} {at g : ℕ} → Todo out at (t ++ rest) G g → Room out at t
todo_room t rest d = omega (arith, d.room, length-append t rest)

pub todo_next : (t rest : List ℕ) {out mid G : List ℕ} {at n g : ℕ} → Todo out at (t ++ rest) G g → Put out at t n mid → Todo mid n rest G g
todo_next t rest {out} {mid} {G} {at} {n} d p =
    record {
      room = omega (arith, d.room, p.next_is, put_length p, length-append t rest);
      ends = ap (λ (l : List ℕ). sets l n rest) p.after_is ∙ ap (λ (k : ℕ). sets (sets out at t) k rest) p.next_is ∙ sym (sets_join out at t rest) ∙ d.ends;
      past = omega (arith, d.past, p.next_is, length-append t rest);
    }

pub todo_last : {t out after text : List ℕ} {at n start : ℕ} {first : List ℕ} → Todo out at t (sets first start text) (start + length text) → Put out at t n after → Put first start text n after
todo_last {t} {out} {after} {text} {at} {n} {start} {first} d p =
    record { next_is = p.next_is ∙ d.past; after_is = p.after_is ∙ d.ends }

-- a loop: i pieces of n are written
pub record Pieces (first : List ℕ) (start n : ℕ) (f : ℕ → List ℕ) (i : ℕ) (out : List ℕ) (at : ℕ) : Type 0 where
  pub within : i ≤ n
  pub room : Room first start (each n f)
  pub so_far : Put first start (each i f) at out

each_piece : (f : ℕ → List ℕ) (n i : ℕ) → i < n → length (each i f) + length (f i) ≤ length (each n f)
unfolding each
each_piece f zero i h = absurd (omega arith)
each_piece f (suc n) i h =
    ⊎_elim (λ (e : i ≡ n). rw (e, length-append (each n f) (f n)) (omega arith))
    (λ l. omega (arith, each_piece f n i l, length-append (each n f) (f n)))
    (N.eq-or-lt_of_le {n = i} {m = n} (omega arith))

pub pieces_none : (first : List ℕ) (start n : ℕ) (f : ℕ → List ℕ) → Room first start (each n f) → Pieces first start n f 0 first start
unfolding each
pieces_none first start n f h = record { within = omega arith; room = h; so_far = record { next_is = omega arith; after_is = refl } }

module _ {first : List ℕ} {start n : ℕ} {f : ℕ → List ℕ} {i : ℕ} {out : List ℕ} {at : ℕ} (p : Pieces first start n f i out at) where
  pub pieces_room : i < n → Room out at (f i)
  pieces_room h = omega (arith, p.room, p.so_far.next_is, put_length p.so_far, each_piece f n i h)

  pub pieces_more : {next : ℕ} {after : List ℕ} → i < n → Put out at (f i) next after → Pieces first start n f (i + 1) after next
  unfolding each
  pieces_more h q = record { within = omega arith; room = p.room; so_far = rw add-one (put_join p.so_far q) }

  pub pieces_done : n ≤ i → Put first start (each n f) at out
  pieces_done h = rw (N.le_antisymm h p.within) p.so_far

  pub pieces_length : length out ≡ length first
  pieces_length = put_length p.so_far

-- row r of a plane of h rows is there
pub row_fits : (r w h : ℕ) {n : ℕ} → r < h → h * w ≤ n → r * w + w ≤ n
row_fits r w h l k = omega (arith, N.mul-le-mul_right w l, N.suc-mul r w)

-- at the front of the buffer
pub put_front : {out after t : List ℕ} {n : ℕ} → Room out 0 t → Put out 0 t n after → after ≡ t ++ drop (length t) out
put_front {out} {after} {t} h p = p.after_is ∙ sets-eq t out 0 h ∙ rw (N.zero-add (length t))

pub put_count : {out after t : List ℕ} {n : ℕ} → Put out 0 t n after → n ≡ length t
put_count {out} {after} {t} p = p.next_is ∙ N.zero-add (length t)

pub put_within : {out after t : List ℕ} {n : ℕ} → Room out 0 t → Put out 0 t n after → n ≤ length after
put_within h p = omega (arith, put_count p, put_length p)
