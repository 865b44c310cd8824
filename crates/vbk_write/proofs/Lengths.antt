-- How long a file is.
use mathlib.Core.Path.{◌≡◌, refl, ap}
use mathlib.Core.Bool.{Bool, true, false, not, ◌||◌}
use mathlib.Core.List.{List, [], ◌∷◌, ◌++◌}
use Prim.Native.Nat.{ℕ, zero, suc, ◌+◌, ◌*◌}
use native.Mathlib.Omega.{arith}
use borrow.Author.Tests.{eqb-true, not-false}
use lib.Dec.{eqb}
use lib.IntN.{pos}
use lib.ListN.{length, get_or, length-append}
use Rattle.whole.specs.Lists.{tabulate}
use Rattle.whole.specs.Steps.{each}
use Rattle.whole.proofs.Lists.{length_tabulate}
use Rattle.vbk_write.specs.Bytes.{two, four, joined}
use Rattle.vbk_write.specs.Clip.{head_bytes, entry_bytes, header_bytes, bytes_of}
use Rattle.vbk_write.specs.Lent.{Lent, Alike, tokens_before, tokens_from, entry_of, clip_of, file_of}
use Rattle.vbk_write.specs.Promises.{bad_lists, bad_counts, bad_total, misfit}
use Rattle.vbk_write.specs.Inner.{file_length}
use Rattle.vbk_write.proofs.Joined.{joined_tabulate}

-- elements of c bytes each
pub length_joined : {A : Type 0} (f : A → List ℕ) (c : ℕ) → ((x : A) → length (f x) ≡ c) → (l : List A) → length (joined f l) ≡ c * length l
unfolding joined
length_joined f c h [] = omega arith
length_joined f c h (x ∷ xs) = omega (arith, length-append (f x) (joined f xs), h x, length_joined f c h xs)

pub length_two : (n : ℕ) → length (two n) ≡ 2
unfolding two
length_two n = refl

pub length_four : (z : _) → length (four z) ≡ 4
unfolding four
length_four z = refl

pub length_head : (x y size tx_type lossless dc ac : ℕ) → length (head_bytes x y size tx_type lossless dc ac) ≡ 11
unfolding head_bytes two
length_head x y size tx_type lossless dc ac = refl

pub length_header : (depth width height : ℕ) → length (header_bytes depth width height) ≡ 10
unfolding header_bytes two
length_header depth width height = refl

module _ (l : Lent) where
  length_entry : (k : ℕ) → length (entry_bytes (entry_of l k)) ≡ 11 + 4 * get_or l.counts k 0
  unfolding entry_bytes entry_of tokens_from
  length_entry k =
      let e = entry_of l k in
      omega (arith, length-append (head_bytes e.x e.y e.size e.tx_type e.lossless e.dc e.ac) (joined four e.tokens), length_head e.x e.y e.size e.tx_type e.lossless e.dc e.ac, length_joined four 4 length_four e.tokens, length_tabulate (λ j. get_or l.tokens (tokens_before l.counts k + j) (pos 0)) (get_or l.counts k 0))

  length_entries : (n : ℕ) → length (each n (λ k. entry_bytes (entry_of l k))) ≡ 11 * n + 4 * tokens_before l.counts n
  unfolding each tokens_before
  length_entries zero = omega arith
  length_entries (suc n) =
      omega (arith, length-append (each n (λ k. entry_bytes (entry_of l k))) (entry_bytes (entry_of l n)), length_entries n, length_entry n)

  -- whatever is lent
  any_length : length (file_of l) ≡ 10 + 2 * length l.samples + (11 * length l.xs + 4 * tokens_before l.counts (length l.xs))
  unfolding file_of bytes_of clip_of
  any_length =
      let h = header_bytes l.depth l.width l.height in
      let p = joined two l.samples in
      let r = joined entry_bytes (tabulate (entry_of l) (length l.xs)) in
      omega (arith, length-append h (p ++ r), length-append p r, length_header l.depth l.width l.height, length_joined two 2 length_two l.samples, ap length (joined_tabulate entry_bytes (entry_of l) (length l.xs)), length_entries (length l.xs))

or_left : (a b : Bool) → a || b ≡ false → a ≡ false
or_left true b h = h
or_left false b h = refl

or_right : (a b : Bool) → a || b ≡ false → b ≡ false
or_right true b h = absurd (let z : ◌≡◌ {A = ℕ} 0 1 = cc in omega arith)
or_right false b h = h

-- a length that is no other
same : (m n : ℕ) (b : Bool) → not (eqb m n) || b ≡ false → m ≡ n
same m n b h = eqb-true m n (not-false (eqb m n) (or_left (not (eqb m n)) b h))

pub alike : (l : Lent) → bad_lists l ≡ false → Alike l
unfolding bad_lists
alike l h =
    let n = length l.xs in
    let h2 = or_right (not (eqb (length l.ys) n)) _ h in
    let h3 = or_right (not (eqb (length l.sizes) n)) _ h2 in
    let h4 = or_right (not (eqb (length l.tx_types) n)) _ h3 in
    let h5 = or_right (not (eqb (length l.lossless) n)) _ h4 in
    let h6 = or_right (not (eqb (length l.dcs) n)) _ h5 in
    let h7 = or_right (not (eqb (length l.acs) n)) _ h6 in
    record {
      ys = same (length l.ys) n _ h;
      sizes = same (length l.sizes) n _ h2;
      tx_types = same (length l.tx_types) n _ h3;
      lossless = same (length l.lossless) n _ h4;
      dcs = same (length l.dcs) n _ h5;
      acs = same (length l.acs) n _ h6;
      counts = same (length l.counts) n _ h7;
    }

-- lists that fit together
pub record Fit (l : Lent) : Type 0 where
  pub samples_are : length l.samples ≡ l.width * l.height
  pub lists_are : Alike l
  pub counts_are : bad_counts l.sizes l.counts ≡ false
  pub total_is : tokens_before l.counts (length l.counts) ≡ length l.tokens

pub fit : (l : Lent) → misfit l ≡ false → Fit l
unfolding misfit bad_total
fit l h =
    let s = not (eqb (length l.samples) (l.width * l.height)) in
    let h2 = or_right s _ h in
    let h3 = or_right (bad_lists l) _ h2 in
    let t = not (eqb (tokens_before l.counts (length l.counts)) (length l.tokens)) in
    record {
      samples_are = same (length l.samples) (l.width * l.height) _ h;
      lists_are = alike l (or_left (bad_lists l) _ h2);
      counts_are = or_left (bad_counts l.sizes l.counts) t h3;
      total_is = eqb-true _ _ (not-false _ (or_right (bad_counts l.sizes l.counts) t h3));
    }

pub file_length_lem : (l : Lent) → Fit l → length (file_of l) ≡ file_length (l.width * l.height) (length l.xs) (length l.tokens)
file_length_lem l f =
    omega (arith, any_length l, f.samples_are, ap (tokens_before l.counts) f.lists_are.counts, f.total_is)
