-- Notes in a list of the report: a token, a row of zeros, one note after the other, and what room is left.
use mathlib.Core.Path.{◌≡◌, refl, sym, ap, ◌∙◌}
use mathlib.Core.Bool.{Bool, true, false, cond}
use mathlib.Core.List.{List}
use Prim.Native.Nat.{ℕ, zero, suc, ◌+◌, ◌*◌, ◌/◌, ◌%◌, ◌≤◌, ◌<◌}
use native.Mathlib.Decide.{dec_lt, ℕ_discrete}
use native.Mathlib.Nat as NatL
use native.Mathlib.Omega.{arith}
use borrow.Author.Tests.{eq-eqb, ne_eqb}
use lib.Dec.{eqb}
use lib.IntN.{ℤ, pos, nat_abs}
use lib.ListN.{length, get_or, set, length-set, get_or-eq_default}
use lib.Seq.{get_or-set_same, get_or-set_other}
use Rattle.answers.specs.Limits.{codeable}
use Rattle.answers.specs.Sizes.{area}
use Rattle.blocks.specs.Block.{live}
use Rattle.blocks.proofs.Live.{dead_at}
use Rattle.report.specs.Classes.{CLASSES, shares, one, itself}
use Rattle.report.specs.Inner.{IsClass, Noted, Room, Taken}
use Rattle.report.proofs.OneClass.{zero_class, share_is, shares_more, shares_grow, shares_zeros}

-- size and class of an entry
parts : (k : ℕ) → k ≡ (k / 11) * 11 + k % 11
parts k = sym (NatL.div-add-mod' k 11)

class_below : (k : ℕ) → k % 11 < 11
class_below k = NatL.mod-lt k (omega arith)

-- an entry is set
bumped : (K v : ℕ) (l : List ℕ) (k : ℕ) → k < length l → get_or (set l K (get_or l K 0 + v)) k 0 ≡ get_or l k 0 + cond (eqb k K) v 0
bumped K v l k q = go (ℕ_discrete k K)
  where
    go : Dec (k ≡ K) → get_or (set l K (get_or l K 0 + v)) k 0 ≡ get_or l k 0 + cond (eqb k K) v 0
    go (yes e) = rw (sym e, eq-eqb k k refl) (get_or-set_same l k (get_or l k 0 + v) 0 q)
    go (no ne) = get_or-set_other l K k (get_or l K 0 + v) 0 ne ∙ rw (ne_eqb k K ne) (omega arith)

module _ (f : ℕ → ℕ) (size : ℕ) (tokens : List ℤ) where
  pub note_none : (start : ℕ) (l : List ℕ) → Noted f size start start tokens l l
  note_none start l = record { as_long = refl; grown = λ k h. refl }

  -- one entry grows by what the tokens add to its class, and they add nothing to any other
  note_at : (c v start end : ℕ) (l l' : List ℕ) → c < CLASSES → length l' ≡ length l
      → ((k : ℕ) → k < length l → get_or l' k 0 ≡ get_or l k 0 + cond (eqb k (size * 11 + c)) v 0)
      → ((d : ℕ) → d < CLASSES → shares f d end tokens ≡ shares f d start tokens + cond (eqb d c) v 0)
      → Noted f size start end tokens l l'
  note_at c v start end l l' h as_long changed added = record { as_long = as_long; grown = grown }
    where
      grown : (k : ℕ) → k < length l → get_or l' k 0 + cond (eqb (k / 11) size) (shares f (k % 11) start tokens) 0 ≡ get_or l k 0 + cond (eqb (k / 11) size) (shares f (k % 11) end tokens) 0
      grown k q = go (ℕ_discrete (k / 11) size) (ℕ_discrete (k % 11) c)
        where
          go : Dec (k / 11 ≡ size) → Dec (k % 11 ≡ c) → get_or l' k 0 + cond (eqb (k / 11) size) (shares f (k % 11) start tokens) 0 ≡ get_or l k 0 + cond (eqb (k / 11) size) (shares f (k % 11) end tokens) 0
          go (yes e) (yes r) =
              rw (eq-eqb (k / 11) size e)
              (omega (
                arith,
                rw (eq-eqb k (size * 11 + c) (omega (arith, parts k))) at (changed k q),
                rw (eq-eqb (k % 11) c r) at (added (k % 11) (class_below k)),
              ))
          go (yes e) (no r) =
              rw (eq-eqb (k / 11) size e)
              (omega (
                arith,
                rw (ne_eqb k (size * 11 + c) (λ (z : k ≡ size * 11 + c). r (omega (arith, parts k)))) at (changed k q),
                rw (ne_eqb (k % 11) c r) at (added (k % 11) (class_below k)),
              ))
          go (no e) r =
              rw (ne_eqb (k / 11) size e)
              (omega (arith, rw (ne_eqb k (size * 11 + c) (λ (z : k ≡ size * 11 + c). e (omega (arith, parts k, class_below k)))) at (changed k q)))

  -- one token
  pub note_token : (c v n : ℕ) (l : List ℕ) → IsClass (nat_abs (get_or tokens n (pos 0))) c → v ≡ f (nat_abs (get_or tokens n (pos 0)))
      → Noted f size n (n + 1) tokens l (set l (size * 11 + c) (get_or l (size * 11 + c) 0 + v))
  note_token c v n l i e =
      note_at c v n (n + 1) l _ i.known (length-set l (size * 11 + c) _) (bumped (size * 11 + c) v l)
      (λ d h. shares_more f d n tokens ∙ ap (λ (x : ℕ). shares f d n tokens + x) (share_is f c d (get_or tokens n (pos 0)) i h ∙ ap (λ (x : ℕ). cond (eqb d c) x 0) (sym e)))

  -- notes follow each other
  pub note_join : {from mid to : ℕ} {a b d : List ℕ} → Noted f size from mid tokens a b → Noted f size mid to tokens b d → Noted f size from to tokens a d
  note_join p q =
      record {
        as_long = q.as_long ∙ p.as_long;
        grown = λ k h. omega (arith, p.grown k h, q.grown k (omega (arith, p.as_long)));
      }

-- ---- a row of zeros
all_or_none : (n : ℕ) (b : Bool) (v : ℕ) → n * cond b v 0 ≡ cond b (n * v) 0
all_or_none n true v = refl
all_or_none n false v = omega arith

module _ (size start n : ℕ) (tokens : List ℤ) (zeros : live start n tokens ≡ false) where
  added : (f : ℕ → ℕ) (d : ℕ) → d < CLASSES → shares f d (start + n) tokens ≡ shares f d start tokens + cond (eqb d 0) (n * f 0) 0
  added f d h =
      shares_zeros f d start n tokens (dead_at start n tokens zeros)
      ∙ ap (λ (x : ℕ). shares f d start tokens + n * x) (share_is f 0 d (pos 0) zero_class h)
      ∙ ap (λ (x : ℕ). shares f d start tokens + x) (all_or_none n (eqb d 0) (f 0))

  pub zeros_counted : (l : List ℕ) → Noted one size start (start + n) tokens l (set l (size * 11) (get_or l (size * 11) 0 + n))
  zeros_counted l =
      let e : size * 11 + 0 ≡ size * 11 = omega arith in
      let m : n * 1 ≡ n = omega arith in
      note_at one size tokens 0 n start (start + n) l _ (omega arith) (length-set l (size * 11) _)
      (λ k q. rw e (bumped (size * 11) n l k q))
      (λ d h. added one d h ∙ rw m)

  pub zeros_summed : (l : List ℕ) → Noted itself size start (start + n) tokens l l
  zeros_summed l =
      note_at itself size tokens 0 0 start (start + n) l l (omega arith) refl
      (λ k q. still (get_or l k 0) (eqb k (size * 11 + 0)))
      (λ d h. added itself d h ∙ ap (λ (x : ℕ). shares itself d start tokens + x) (nothing (eqb d 0)))
    where
      still : (a : ℕ) (b : Bool) → a ≡ a + cond b 0 0
      still a true = omega arith
      still a false = omega arith

      nothing : (b : Bool) → cond b (n * 0) 0 ≡ cond b 0 0
      nothing true = omega arith
      nothing false = refl

-- ---- room for the rest
module _ (size from n : ℕ) (tokens : List ℤ) (taken : Taken tokens) (inside : from + n ≤ length tokens) where
  grown_most : (f : ℕ → ℕ) (b : ℕ) (l l' : List ℕ) → ((i : ℕ) → i < n → f (nat_abs (get_or tokens (from + i) (pos 0))) ≤ b)
      → Noted f size from (from + n) tokens l l' → (k : ℕ) → get_or l' k 0 ≤ get_or l k 0 + n * b
  grown_most f b l l' h p k = go (dec_lt k (length l))
    where
      case : (x : Bool) → get_or l' k 0 + cond x (shares f (k % 11) from tokens) 0 ≡ get_or l k 0 + cond x (shares f (k % 11) (from + n) tokens) 0
          → get_or l' k 0 ≤ get_or l k 0 + n * b
      case true e = omega (arith, e, shares_grow f (k % 11) b from n tokens h)
      case false e = omega (arith, e)

      go : Dec (k < length l) → get_or l' k 0 ≤ get_or l k 0 + n * b
      go (yes q) = case (eqb (k / 11) size) (p.grown k q)
      go (no q) = rw (get_or-eq_default l' 0 {n = k} (omega (arith, p.as_long))) (omega arith)

  pub room_after : {most rest : ℕ} {counts sums counts' sums' : List ℕ} → n + rest ≤ most → Room most counts sums
      → Noted one size from (from + n) tokens counts counts' → Noted itself size from (from + n) tokens sums sums' → Room rest counts' sums'
  room_after {most} {rest} {counts} {sums} {counts'} {sums'} h r p q =
      record {
        few = λ k l. omega (arith, r.few k l, grown_most one 1 counts counts' (λ i l. omega arith) p k);
        small = λ k l. omega (
          arith,
          r.small k l,
          NatL.add-mul n rest (codeable 12),
          NatL.mul-le-mul_right (codeable 12) h,
          grown_most itself (codeable 12) sums sums' (λ i l. taken.codeables (from + i) (omega arith)) q k,
        );
      }

-- a block is rows of eight
pub area_eights : (size : ℕ) → size ≤ 3 → area (size + 2) / 8 * 8 ≡ area (size + 2)
area_eights zero h = refl
area_eights (suc zero) h = refl
area_eights (suc (suc zero)) h = refl
area_eights (suc (suc (suc zero))) h = refl
area_eights (suc (suc (suc (suc size)))) h = absurd (omega arith)
