-- The lists of a clip say the clip: a file's own lists are written to the file again.
use mathlib.Core.Path.{◌≡◌, refl, sym, ap, ◌∙◌}
use mathlib.Core.Bool.{true}
use mathlib.Core.List.{List, [], ◌∷◌, ◌++◌, map}
use Prim.Native.Nat.{ℕ, zero, suc, ◌+◌, ◌<◌}
use native.Mathlib.Nat as NatL
use native.Mathlib.Omega.{arith}
use lib.IntN.{ℤ, pos}
use lib.ListN.{length, get_or, length-append, length-map, get_or-append, get_or-map}
use lib.Seq.{get_or-append-add}
use Rattle.whole.specs.Lists.{tabulate}
use Rattle.whole.proofs.Lists.{tabulate_is, tabulate_same}
use Rattle.vbk_write.specs.Bytes.{joined}
use Rattle.vbk_write.specs.Clip.{Entry, Clip, says, whole}
use Rattle.vbk_write.specs.Lent.{Alike, tokens_before, tokens_from, entry_of, clip_of, lent_of}
use Rattle.vbk_write.specs.Trips.{Bytes, WrittenBack}
use Rattle.vbk_write.proofs.Back.{entry_same, clip_same}
use Rattle.vbk_write.proofs.Trips.{Copied, file_is, taken_back, refused_back}

-- zeros, past the last record
abbrev zeros : Entry
zeros = record { x = 0; y = 0; size = 0; tx_type = 0; lossless = 0; dc = 0; ac = 0; tokens = [] }

-- the tokens of the first record apart
before_front : (n : ℕ) (ns : List ℕ) (k : ℕ) → tokens_before (n ∷ ns) (suc k) ≡ n + tokens_before ns k
unfolding tokens_before
before_front n ns zero = omega arith
before_front n ns (suc k) = omega (arith, before_front n ns k)

abbrev counts : List Entry → List ℕ
counts es = map (λ e. length e.tokens) es

abbrev tokens : List Entry → List ℤ
tokens es = joined (λ e. e.tokens) es

before_none : (ns : List ℕ) → tokens_before ns 0 ≡ 0
unfolding tokens_before
before_none ns = refl

total : (es : List Entry) → tokens_before (counts es) (length (counts es)) ≡ length (tokens es)
unfolding joined
total [] = before_none []
total (e ∷ es) =
    before_front (length e.tokens) (counts es) (length (counts es)) ∙ ap (λ (k : ℕ). length e.tokens + k) (total es) ∙ sym (length-append e.tokens (tokens es))

front : (t r : List ℤ) → tokens_from (t ++ r) 0 (length t) ≡ t
unfolding tokens_from
front t r =
    sym (tabulate_is (pos 0) (λ j. get_or (t ++ r) (0 + j) (pos 0)) t (length t) refl
    (λ k l. sym (ap (λ (j : ℕ). get_or (t ++ r) j (pos 0)) (NatL.zero-add k) ∙ get_or-append t r (pos 0) k l)))

behind : (t r : List ℤ) (from count : ℕ) → tokens_from (t ++ r) (length t + from) count ≡ tokens_from r from count
unfolding tokens_from
behind t r from count = tabulate_same (λ j. get_or (t ++ r) (length t + from + j) (pos 0)) (λ j. get_or r (from + j) (pos 0)) count go
  where
    go : (k : ℕ) → k < count → get_or (t ++ r) (length t + from + k) (pos 0) ≡ get_or r (from + k) (pos 0)
    go k l =
        let e : length t + from + k ≡ length t + (from + k) = omega arith in
        ap (λ (j : ℕ). get_or (t ++ r) j (pos 0)) e ∙ get_or-append-add t r (from + k) (pos 0)

-- each record's share of the tokens is its own
share : (es : List Entry) (k : ℕ) → k < length es → tokens_from (tokens es) (tokens_before (counts es) k) (get_or (counts es) k 0) ≡ (get_or es k zeros).tokens
unfolding joined
share [] k h = absurd (omega arith)
share (e ∷ es) zero h =
    ap (λ (from : ℕ). tokens_from (e.tokens ++ tokens es) from (length e.tokens)) (before_none (counts (e ∷ es))) ∙ front e.tokens (tokens es)
share (e ∷ es) (suc k) h =
    ap (λ (from : ℕ). tokens_from (e.tokens ++ tokens es) from (get_or (counts es) k 0)) (before_front (length e.tokens) (counts es) k)
    ∙ behind e.tokens (tokens es) (tokens_before (counts es) k) (get_or (counts es) k 0)
    ∙ share es k (omega arith)

module _ (c : Clip) where
  entry_copied : (k : ℕ) → k < length c.entries → entry_of (lent_of c) k ≡ get_or c.entries k zeros
  unfolding entry_of lent_of
  entry_copied k h =
      let es = c.entries in
      entry_same (entry_of (lent_of c) k) (get_or es k zeros) (get_or-map (λ e. e.x) es k zeros) (get_or-map (λ e. e.y) es k zeros) (get_or-map (λ e. e.size) es k zeros) (get_or-map (λ e. e.tx_type) es k zeros) (get_or-map (λ e. e.lossless) es k zeros) (get_or-map (λ e. e.dc) es k zeros) (get_or-map (λ e. e.ac) es k zeros) (share es k h)

  entries_copied : tabulate (entry_of (lent_of c)) (length (lent_of c).xs) ≡ c.entries
  unfolding lent_of
  entries_copied =
      let n = length-map c.entries (λ (e : Entry). e.x) in
      sym (tabulate_is zeros (entry_of (lent_of c)) c.entries (length (lent_of c).xs) (sym n) (λ k l. sym (entry_copied k (omega (arith, l, n)))))

  -- the lists say the clip
  pub clip_copied : clip_of (lent_of c) ≡ c
  unfolding clip_of lent_of
  clip_copied = clip_same (clip_of (lent_of c)) c refl refl refl refl entries_copied

  alike_copied : Alike (lent_of c)
  unfolding lent_of
  alike_copied =
      let es = c.entries in
      let n = sym (length-map es (λ (e : Entry). e.x)) in
      record {
        ys = length-map es (λ e. e.y) ∙ n;
        sizes = length-map es (λ e. e.size) ∙ n;
        tx_types = length-map es (λ e. e.tx_type) ∙ n;
        lossless = length-map es (λ e. e.lossless) ∙ n;
        dcs = length-map es (λ e. e.dc) ∙ n;
        acs = length-map es (λ e. e.ac) ∙ n;
        counts = length-map es (λ e. length e.tokens) ∙ n;
      }

  total_copied : tokens_before (lent_of c).counts (length (lent_of c).counts) ≡ length (lent_of c).tokens
  unfolding lent_of
  total_copied = total c.entries

copied : (s : List ℕ) → Copied s (lent_of (says s))
copied s = record { lists_are = alike_copied (says s); total_is = total_copied (says s); says_it = clip_copied (says s) }

-- a whole file, read and written, comes back
pub written_back : (s : List ℕ) → Bytes s → whole s ≡ true → WrittenBack s
written_back s by h = record { taken = taken_back s by h (lent_of (says s)) (copied s); refused = refused_back s by h (lent_of (says s)) (copied s); file = file_is s by h (lent_of (says s)) (copied s) }
