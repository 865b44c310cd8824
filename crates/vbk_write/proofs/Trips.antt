-- The round trips of the call: whatever it accepts, the reader reads back equal; and a whole file comes back byte for byte.
use mathlib.Core.Path.{◌≡◌, refl, sym, ap, ◌∙◌, subst}
use mathlib.Core.Bool.{Bool, true, false, not}
use mathlib.Core.List.{List, ◌++◌}
use Prim.Native.Nat.{ℕ, zero, suc, ◌+◌, ◌*◌, ◌≤◌, ◌<◌, ◌^◌}
use native.Mathlib.Numerals.{add-one}
use native.Mathlib.Omega.{arith}
use borrow.Author.Tests.{le-ltb, ltb-true, ltb-false, eqb-true, eq-eqb, ne_eqb, not-false}
use lib.Dec.{ltb, eqb}
use lib.IntN.{pos}
use lib.ListN.{length, get_or, take, drop, get_or-eq_default}
use lib.Seq.{take-append_seam}
use lib.Signed.{mag}
use Rattle.whole.specs.Lists.{tabulate}
use Rattle.whole.specs.Tests.{any_below}
use Rattle.whole.proofs.Lists.{length_tabulate, get_d_tabulate}
use Rattle.whole.proofs.Tests.{any_at, any_none, any_more}
use Rattle.answers.specs.Bad.{bad_depth, retired}
use Rattle.answers.specs.Sizes.{area}
use Rattle.vbk_read.specs.Bytes.{le4, signed32}
use Rattle.vbk_read.specs.Header.{depth_of, width_of, height_of, plane_area, sample_at, samples_of, bad_area, first_record, header_answer}
use Rattle.vbk_read.specs.Records.{size_at, lossless_at, token_at, tokens_at, next_at, found, end_answer}
use Rattle.vbk_read.proofs.Headers.{good}
use Rattle.vbk_write.specs.Clip.{Entry, Clip, entry_at, entries_from, says, whole_from, whole, bytes_of}
use Rattle.vbk_write.specs.Lent.{Lent, Alike, tokens_before, tokens_from, entry_of, clip_of, file_of}
use Rattle.vbk_write.specs.Promises.{any_above, bad_lists, bad_counts, bad_total, misfit, too_large, answer_of, Wrote}
use Rattle.std.specs.Prelude.{Ok}
use Rattle.vbk_write.specs.Trips.{Tokens32, Bytes, Sound, AllSound, none, more, Good, ReadBack}
use Rattle.vbk_write.proofs.Counts.{none_above}
use Rattle.vbk_write.proofs.Lengths.{fit, file_length_lem}
use Rattle.vbk_write.proofs.Answers.{Taken, taken, is_done_lem, is_retired, together}
use Rattle.vbk_write.proofs.Back.{clip_read_back, no_entries}
use Rattle.vbk_write.proofs.Forth.{there, Next, whole_more, and_left, and_right, forth}

-- ---- what is taken is sound
all_sound : (f : ℕ → Entry) (n : ℕ) → ((k : ℕ) → k < n → Sound (f k)) → AllSound (tabulate f n)
unfolding tabulate
all_sound f zero h = none
all_sound f (suc n) h = more (h 0 (omega arith)) (all_sound (λ k. f (suc k)) n (λ k l. h (suc k) (omega arith)))

module _ (l : Lent) (room : ℕ) (by : Tokens32 l.tokens) (t : Taken l room) where
  count_is : (k : ℕ) → k < length l.counts → get_or l.counts k 0 ≡ area (get_or l.sizes k 0 + 2)
  unfolding bad_counts
  count_is k h =
      eqb-true (get_or l.counts k 0) (area (get_or l.sizes k 0 + 2))
      (not-false (eqb (get_or l.counts k 0) (area (get_or l.sizes k 0 + 2))) (any_at (λ k. not (eqb (get_or l.counts k 0) (area (get_or l.sizes k 0 + 2)))) (length l.counts) k t.fits.counts_are h))

  token_fits : (from count k : ℕ) → mag (get_or (tokens_from l.tokens from count) k (pos 0)) < 2 ^ 31
  unfolding tokens_from
  token_fits from count k = go (ltb k count) refl
    where
      go : (b : Bool) → ltb k count ≡ b → mag (get_or (tokens_from l.tokens from count) k (pos 0)) < 2 ^ 31
      go true e = rw (get_d_tabulate (λ j. get_or l.tokens (from + j) (pos 0)) count k (pos 0) (ltb-true k count e)) (by (from + k))
      go false e =
          rw (get_or-eq_default (tabulate (λ j. get_or l.tokens (from + j) (pos 0)) count) (pos 0) {n = k} (omega (arith, ltb-false k count e, length_tabulate (λ j. get_or l.tokens (from + j) (pos 0)) count))) (omega arith)

  sound_at : (k : ℕ) → k < length l.xs → Sound (entry_of l k)
  unfolding entry_of tokens_from
  sound_at k h =
      let a = t.fits.lists_are in
      record {
        size_is = none_above 3 l.sizes k t.sizes_are (omega (arith, a.sizes));
        lossless_is = none_above 1 l.lossless k t.lossless_are (omega (arith, a.lossless));
        tokens_are = length_tabulate (λ j. get_or l.tokens (tokens_before l.counts k + j) (pos 0)) (get_or l.counts k 0) ∙ count_is k (omega (arith, a.counts));
        tokens_fit = token_fits (tokens_before l.counts k) (get_or l.counts k 0);
      }

  good_clip : Good (clip_of l)
  unfolding clip_of file_of
  good_clip =
      record {
        depth_is = t.depth_is;
        samples_are = t.fits.samples_are;
        area_is = t.area_is;
        short = t.short;
        entries_are = all_sound (entry_of l) (length l.xs) sound_at;
      }

-- whatever is accepted is read back
pub read_back : (l : Lent) (room : ℕ) → Tokens32 l.tokens → answer_of l room ≡ 0 → ReadBack (clip_of l) (file_of l)
unfolding file_of
read_back l room by h = clip_read_back (clip_of l) (good_clip l room by (taken l room h))

-- and so of the call: the bytes that it leaves at the buffer's front, as many as it says
pub call_read_back : (l : Lent) (out : List ℕ) (n : ℕ) (after : List ℕ) → Tokens32 l.tokens → Wrote l out (Ok n) after → ReadBack (clip_of l) (take n after)
call_read_back l out n after by w =
    let z : answer_of l (length out) ≡ 0 = sym w.answered in
    let e : n ≡ length (file_of l) = w.length_is in
    let o : after ≡ file_of l ++ drop (length (file_of l)) out = w.out_is ∙ rw z in
    rw (e, o, take-append_seam (file_of l) (drop (length (file_of l)) out)) (read_back l (length out) by z)

-- ---- a whole file is taken
all_below_lem : (p : ℕ → Bool) (n : ℕ) → ((k : ℕ) → k < n → p k ≡ false) → any_below p n ≡ false
all_below_lem p zero h = any_none p
all_below_lem p (suc n) h = rw add-one at (any_more p n (all_below_lem p n (λ k l. h k (omega arith))) (h n (omega arith)))

signed_fits : (u : ℕ) → u < 4294967296 → mag (signed32 u) < 2 ^ 31
signed_fits u h = go (ltb u 2147483648) refl
  where
    go : (b : Bool) → ltb u 2147483648 ≡ b → mag (signed32 u) < 2 ^ 31
    go true e = rw e (omega (arith, ltb-true u 2147483648 e))
    go false e = rw e (omega (arith, ltb-false u 2147483648 e))

module _ (s : List ℕ) (by : Bytes s) where
  word_fits : (at : ℕ) → le4 s at < 4294967296
  word_fits at = omega (arith, by at, by (at + 1), by (at + 2), by (at + 3))

  read_fits : (at n k : ℕ) → mag (get_or (tabulate (token_at s at) n) k (pos 0)) < 2 ^ 31
  unfolding token_at
  read_fits at n k = go (ltb k n) refl
    where
      go : (b : Bool) → ltb k n ≡ b → mag (get_or (tabulate (token_at s at) n) k (pos 0)) < 2 ^ 31
      go true e = rw (get_d_tabulate (token_at s at) n k (pos 0) (ltb-true k n e)) (signed_fits (le4 s (at + 4 * k)) (word_fits (at + 4 * k)))
      go false e =
          rw (get_or-eq_default (tabulate (token_at s at) n) (pos 0) {n = k} (omega (arith, ltb-false k n e, length_tabulate (token_at s at) n))) (omega arith)

  sound_entry : (at : ℕ) → end_answer s at ≡ 0 → lossless_at s at ≤ 1 → Sound (entry_at s at)
  unfolding tokens_at
  sound_entry at e h =
      record {
        size_is = (there s at e).size;
        lossless_is = h;
        tokens_are = length_tabulate (token_at s (at + 11)) (area (size_at s at + 2));
        tokens_fit = read_fits (at + 11) (area (size_at s at + 2));
      }

  more_sound : (k at : ℕ) → Next s k at → AllSound (entries_from s k (next_at s at)) → AllSound (entries_from s (suc k) at)
  unfolding entries_from
  more_sound k at n h = rw n.end (more (sound_entry at n.end n.lossless) h)

  entries_sound : (k at : ℕ) → whole_from s k at ≡ true → AllSound (entries_from s k at)
  unfolding entries_from
  entries_sound zero at h = none
  entries_sound (suc k) at h = go (found s at) refl (entries_sound k (next_at s at))
    where
      go : (b : Bool) → found s at ≡ b → (whole_from s k (next_at s at) ≡ true → AllSound (entries_from s k (next_at s at))) → AllSound (entries_from s (suc k) at)
      go true e r = let n = whole_more s k at e h in more_sound k at n (r n.on)
      go false e r = subst AllSound (sym (no_entries s at (ltb-false at (length s) e) (suc k))) none

sound_of : (f : ℕ → Entry) (n : ℕ) → AllSound (tabulate f n) → (k : ℕ) → k < n → Sound (f k)
unfolding tabulate
sound_of f zero h k l = absurd (omega arith)
sound_of f (suc n) (more h hs) zero l = h
sound_of f (suc n) (more h hs) (suc k) l = sound_of (λ j. f (suc j)) n hs k (omega arith)

-- lists that fit together and say what the file says
pub record Copied (s : List ℕ) (l : Lent) : Type 0 where
  pub lists_are : Alike l
  pub total_is : tokens_before l.counts (length l.counts) ≡ length l.tokens
  pub says_it : clip_of l ≡ says s

module _ (s : List ℕ) (by : Bytes s) (h : whole s ≡ true) (l : Lent) (c : Copied s l) where
  header : header_answer s ≡ 0
  unfolding whole
  header = eqb-true (header_answer s) 0 (and_left (eqb (header_answer s) 0) _ h)

  records : whole_from s (length s) (first_record s) ≡ true
  unfolding whole
  records = and_right (eqb (header_answer s) 0) _ h

  pub file_is : file_of l ≡ s
  unfolding file_of
  file_is = ap bytes_of c.says_it ∙ forth s by h

  depth_is : l.depth ≡ depth_of s
  unfolding clip_of says
  depth_is = ap (λ (k : Clip). k.depth) c.says_it

  width_is : l.width ≡ width_of s
  unfolding clip_of says
  width_is = ap (λ (k : Clip). k.width) c.says_it

  height_is : l.height ≡ height_of s
  unfolding clip_of says
  height_is = ap (λ (k : Clip). k.height) c.says_it

  samples_are : l.samples ≡ samples_of s
  unfolding clip_of says
  samples_are = ap (λ (k : Clip). k.samples) c.says_it

  entries_are : tabulate (entry_of l) (length l.xs) ≡ entries_from s (length s) (first_record s)
  unfolding clip_of says
  entries_are = ap (λ (k : Clip). k.entries) c.says_it

  sound : (k : ℕ) → k < length l.xs → Sound (entry_of l k)
  sound k p = sound_of (entry_of l) (length l.xs) (subst AllSound (sym entries_are) (entries_sound s by (length s) (first_record s) records)) k p

  sizes_are : any_above 3 l.sizes ≡ false
  unfolding any_above entry_of
  sizes_are =
      all_below_lem (λ k. ltb 3 (get_or l.sizes k 0)) (length l.sizes)
      (λ k p. le-ltb 3 (get_or l.sizes k 0) (sound k (omega (arith, p, c.lists_are.sizes))).size_is)

  lossless_are : any_above 1 l.lossless ≡ false
  unfolding any_above entry_of
  lossless_are =
      all_below_lem (λ k. ltb 1 (get_or l.lossless k 0)) (length l.lossless)
      (λ k p. le-ltb 1 (get_or l.lossless k 0) (sound k (omega (arith, p, c.lists_are.lossless))).lossless_is)

  counts_are : bad_counts l.sizes l.counts ≡ false
  unfolding bad_counts entry_of tokens_from
  counts_are =
      all_below_lem (λ k. not (eqb (get_or l.counts k 0) (area (get_or l.sizes k 0 + 2)))) (length l.counts)
      (λ k p. rw (eq-eqb (get_or l.counts k 0) (area (get_or l.sizes k 0 + 2)) (sym (length_tabulate (λ j. get_or l.tokens (tokens_before l.counts k + j) (pos 0)) (get_or l.counts k 0)) ∙ (sound k (omega (arith, p, c.lists_are.counts))).tokens_are)))

  lists_are : bad_lists l ≡ false
  unfolding bad_lists
  lists_are =
      let n = length l.xs in
      let a = c.lists_are in
      rw (eq-eqb (length l.ys) n a.ys, eq-eqb (length l.sizes) n a.sizes, eq-eqb (length l.tx_types) n a.tx_types, eq-eqb (length l.lossless) n a.lossless, eq-eqb (length l.dcs) n a.dcs, eq-eqb (length l.acs) n a.acs, eq-eqb (length l.counts) n a.counts)

  area_is : l.width * l.height ≡ plane_area s
  area_is = rw (width_is, height_is)

  samples_long : length l.samples ≡ l.width * l.height
  unfolding samples_of
  samples_long = ap length samples_are ∙ length_tabulate (sample_at s 10) (plane_area s) ∙ sym area_is

  fits : misfit l ≡ false
  unfolding bad_total
  fits = together l samples_long lists_are (rw (counts_are, eq-eqb (tokens_before l.counts (length l.counts)) (length l.tokens) c.total_is))

  not_large : too_large l ≡ false
  unfolding too_large bad_area
  not_large =
      let g = good s header in
      rw (area_is, file_is, ne_eqb (plane_area s) 0 (λ e. absurd (omega (arith, g.area_some))), le-ltb 4096 (plane_area s) g.area_fits, le-ltb 65535 (length s) g.file_fits)

  -- the call writes the file again, at depths 8 and 10
  good_depth : bad_depth l.depth ≡ false
  good_depth = rw depth_is (good s header).depth_is

  pub taken_back : (depth_of s ≡ 12 → ⊥) → (room : ℕ) → length s ≤ room → answer_of l room ≡ 0
  taken_back w room p =
      let d = good_depth in
      let k : retired l.depth ≡ false = rw depth_is (ne_eqb (depth_of s) 12 w) in
      sym (is_done_lem l room d k sizes_are fits not_large lossless_are refl (omega (arith, file_length_lem l (fit l fits), ap length file_is)))

  -- and at depth 12 it refuses
  pub refused_back : depth_of s ≡ 12 → (room : ℕ) → answer_of l room ≡ 20
  refused_back e room =
      let k : retired l.depth ≡ true = rw depth_is (eq-eqb (depth_of s) 12 e) in
      sym (is_retired l room good_depth k)
