-- What is written is read back: the header, the samples, each record in order, and the end of the reading after the last.
use mathlib.Core.Path.{◌≡◌, refl, sym, ap, ap₂, ◌∙◌}
use mathlib.Core.Bool.{true, false}
use mathlib.Core.List.{List, [], ◌∷◌, ◌++◌}
use Prim.Native.Nat.{ℕ, zero, suc, ◌+◌, ◌*◌, ◌/◌, ◌%◌, ◌≤◌, ◌<◌}
use native.Mathlib.Nat as NatL
use native.Mathlib.Omega.{arith}
use borrow.Author.Tests.{lt-ltb, le-ltb}
use lib.IntN.{pos}
use lib.ListN.{length, get_or, length-append}
use Rattle.whole.proofs.Lists.{tabulate_is}
use Rattle.answers.specs.Sizes.{area}
use Rattle.vbk_read.specs.Bytes.{le1, le2, signed32}
use Rattle.vbk_read.specs.Header.{marked, version_of, depth_of, width_of, height_of, plane_area, sample_at, samples_of, first_record, header_answer}
use Rattle.vbk_read.specs.Records.{size_at, lossless_at, token_at, tokens_at, next_at, found, end_answer, ends, check_answer, read_on}
use Rattle.vbk_write.specs.Bytes.{two, four, joined}
use Rattle.vbk_write.specs.Clip.{Entry, Clip, entry_at, entries_from, says, whole_from, whole, head_bytes, entry_bytes, header_bytes, bytes_of}
use Rattle.vbk_write.specs.Trips.{Sound, AllSound, none, more, Good, ReadBack}
use Rattle.vbk_write.proofs.Lengths.{length_joined, length_two, length_four, length_head, length_header}
use Rattle.vbk_write.proofs.Places.{At, at_rest, at_first, at_second, at_place, at_joined, le2_is, read_two, read_four, signed_word}

-- ---- one record
-- two bytes at a place of the head
two_at : (s : List ℕ) (at j n : ℕ) → get_or s (at + j) 0 ≡ n % 256 → get_or s (at + (j + 1)) 0 ≡ n / 256 → le2 s (at + j) ≡ n
two_at s at j n p q =
    let e : at + j + 1 ≡ at + (j + 1) = omega arith in
    le2_is s (at + j) n p (ap (λ (k : ℕ). get_or s k 0) e ∙ q)

pub entry_same : (a b : Entry) → a.x ≡ b.x → a.y ≡ b.y → a.size ≡ b.size → a.tx_type ≡ b.tx_type → a.lossless ≡ b.lossless → a.dc ≡ b.dc → a.ac ≡ b.ac → a.tokens ≡ b.tokens → a ≡ b
entry_same a b p q r t u v w k = rw (p, q, r, t, u, v, w, k)

module _ (s : List ℕ) (at : ℕ) (e : Entry) (ok : Sound e) (a : At s at (entry_bytes e)) where
  abbrev head : List ℕ
  head = head_bytes e.x e.y e.size e.tx_type e.lossless e.dc e.ac

  heads : At s at head
  unfolding entry_bytes
  heads = at_first head (joined four e.tokens) a

  tokens : At s (at + 11) (joined four e.tokens)
  unfolding entry_bytes
  tokens =
      at_place (omega (arith, length_head e.x e.y e.size e.tx_type e.lossless e.dc e.ac)) (at_second head (joined four e.tokens) a)

  x_is : le2 s at ≡ e.x
  unfolding head_bytes two
  x_is = le2_is s at e.x (ap (λ (k : ℕ). get_or s k 0) (sym (NatL.add-zero at)) ∙ heads.there 0 (omega arith)) (heads.there 1 (omega arith))

  y_is : le2 s (at + 2) ≡ e.y
  unfolding head_bytes two
  y_is = two_at s at 2 e.y (heads.there 2 (omega arith)) (heads.there 3 (omega arith))

  size_is : size_at s at ≡ e.size
  unfolding head_bytes two
  size_is = heads.there 4 (omega arith)

  type_is : le1 s (at + 5) ≡ e.tx_type
  unfolding head_bytes two
  type_is = heads.there 5 (omega arith)

  lossless_is : lossless_at s at ≡ e.lossless
  unfolding head_bytes two
  lossless_is = heads.there 6 (omega arith)

  dc_is : le2 s (at + 7) ≡ e.dc
  unfolding head_bytes two
  dc_is = two_at s at 7 e.dc (heads.there 7 (omega arith)) (heads.there 8 (omega arith))

  ac_is : le2 s (at + 9) ≡ e.ac
  unfolding head_bytes two
  ac_is = two_at s at 9 e.ac (heads.there 9 (omega arith)) (heads.there 10 (omega arith))

  token_is : (k : ℕ) → k < length e.tokens → token_at s (at + 11) k ≡ get_or e.tokens k (pos 0)
  unfolding token_at
  token_is k l =
      ap signed32 (read_four (get_or e.tokens k (pos 0)) (at_joined four 4 length_four (pos 0) e.tokens s (at + 11) tokens k l))
      ∙ signed_word (get_or e.tokens k (pos 0)) (ok.tokens_fit k)

  tokens_are : tokens_at s at ≡ e.tokens
  unfolding tokens_at
  tokens_are =
      let n : length e.tokens ≡ area (size_at s at + 2) = ok.tokens_are ∙ ap (λ (k : ℕ). area (k + 2)) (sym size_is) in
      sym (tabulate_is (pos 0) (token_at s (at + 11)) e.tokens (area (size_at s at + 2)) n (λ k l. sym (token_is k (omega (arith, n)))))

  pub entry_is : entry_at s at ≡ e
  entry_is = entry_same (entry_at s at) e x_is y_is size_is type_is lossless_is dc_is ac_is tokens_are

  pub next_is : next_at s at ≡ at + length (entry_bytes e)
  unfolding next_at entry_bytes
  next_is =
      omega (arith, ap (λ (k : ℕ). area (k + 2)) size_is, ok.tokens_are, length-append head (joined four e.tokens), length_head e.x e.y e.size e.tx_type e.lossless e.dc e.ac, length_joined four 4 length_four e.tokens)

  long : at + 11 ≤ length s
  long = omega (arith, tokens.within)

  pub end_is : end_answer s at ≡ 0
  unfolding end_answer
  end_is =
      rw (le-ltb (length s) (at + 11) long, size_is, le-ltb 3 e.size ok.size_is, le-ltb (length s) (next_at s at) (omega (arith, next_is, a.within)))

  pub ends_is : ends s at ≡ false
  ends_is = rw (end_is)

  pub found_is : found s at ≡ true
  found_is = lt-ltb at (length s) (omega (arith, long))

  pub check_is : check_answer s at ≡ 0
  unfolding check_answer
  check_is = rw (found_is, end_is, lossless_is, le-ltb 1 e.lossless ok.lossless_is)

  pub on_is : read_on s at ≡ at + length (entry_bytes e)
  on_is = rw end_is next_is

-- ---- the end of the file
module _ (s : List ℕ) (at : ℕ) (h : length s ≤ at) where
  over : end_answer s at ≡ 12
  unfolding end_answer
  over = rw (lt-ltb (length s) (at + 11) (omega arith))

  pub no_entries : (k : ℕ) → entries_from s k at ≡ []
  unfolding entries_from
  no_entries zero = refl
  no_entries (suc k) = rw over

  pub whole_end : (k : ℕ) → whole_from s k at ≡ true
  unfolding whole_from
  whole_end zero = refl
  whole_end (suc k) = rw (le-ltb at (length s) h)

-- ---- all records
entry_some : (e : Entry) → 11 ≤ length (entry_bytes e)
unfolding entry_bytes
entry_some e =
    let head = head_bytes e.x e.y e.size e.tx_type e.lossless e.dc e.ac in
    omega (arith, length-append head (joined four e.tokens), length_head e.x e.y e.size e.tx_type e.lossless e.dc e.ac)

next_entry : (s : List ℕ) (at : ℕ) (e : Entry) (es : List Entry) → Sound e → (k : ℕ) → At s at (entry_bytes e) → entries_from s k (at + length (entry_bytes e)) ≡ es → entries_from s (suc k) at ≡ e ∷ es
unfolding entries_from
next_entry s at e es ok k here r = rw (ends_is s at e ok here, next_is s at e ok here, entry_is s at e ok here, r)

next_whole : (s : List ℕ) (at : ℕ) (e : Entry) → Sound e → (k : ℕ) → At s at (entry_bytes e) → whole_from s k (at + length (entry_bytes e)) ≡ true → whole_from s (suc k) at ≡ true
unfolding whole_from
next_whole s at e ok k here r = rw (found_is s at e ok here, check_is s at e ok here, on_is s at e ok here, r)

module _ (s : List ℕ) where
  pub entries_back : (es : List Entry) → AllSound es → (at k : ℕ) → At s at (joined entry_bytes es) → at + length (joined entry_bytes es) ≡ length s → length s ≤ at + k → (entries_from s k at ≡ es) × (whole_from s k at ≡ true)
  unfolding joined
  entries_back [] none at k a e f = (no_entries s at (omega arith) k, whole_end s at (omega arith) k)
  entries_back (e ∷ es) (more ok oks) at zero a q f =
      absurd (omega (arith, entry_some e, length-append (entry_bytes e) (joined entry_bytes es)))
  entries_back (e ∷ es) (more ok oks) at (suc k) a q f =
      let here = at_first (entry_bytes e) (joined entry_bytes es) a in
      let r = entries_back es oks (at + length (entry_bytes e)) k (at_second (entry_bytes e) (joined entry_bytes es) a)
      (omega (arith, length-append (entry_bytes e) (joined entry_bytes es))) (omega (arith, entry_some e)) in
      (next_entry s at e es ok k here r.0, next_whole s at e ok k here r.1)

-- ---- the whole file
pub clip_same : (a b : Clip) → a.depth ≡ b.depth → a.width ≡ b.width → a.height ≡ b.height → a.samples ≡ b.samples → a.entries ≡ b.entries → a ≡ b
clip_same a b p q r t u = rw (p, q, r, t, u)

module _ (c : Clip) (g : Good c) where
  abbrev s : List ℕ
  s = bytes_of c

  abbrev samples : List ℕ
  samples = joined two c.samples

  abbrev records : List ℕ
  records = joined entry_bytes c.entries

  depth_back : depth_of s ≡ c.depth
  unfolding bytes_of header_bytes two
  depth_back = refl

  width_back : width_of s ≡ c.width
  unfolding bytes_of header_bytes two
  width_back = omega (arith, NatL.div-add-mod' c.width 256)

  height_back : height_of s ≡ c.height
  unfolding bytes_of header_bytes two
  height_back = omega (arith, NatL.div-add-mod' c.height 256)

  version_back : version_of s ≡ 1
  unfolding bytes_of header_bytes two
  version_back = refl

  mark_back : marked s ≡ true
  unfolding bytes_of header_bytes two marked
  mark_back = refl

  area_back : plane_area s ≡ c.width * c.height
  area_back = ap₂ (λ (w h : ℕ). w * h) width_back height_back

  rest : At s 10 (samples ++ records)
  unfolding bytes_of
  rest =
      at_place (length_header c.depth c.width c.height) (at_rest (header_bytes c.depth c.width c.height) (samples ++ records))

  samples_long : length samples ≡ 2 * (c.width * c.height)
  samples_long = length_joined two 2 length_two c.samples ∙ ap (λ (k : ℕ). 2 * k) g.samples_are

  first_is : first_record s ≡ 10 + length samples
  first_is = omega (arith, area_back, samples_long)

  all_long : length s ≡ 10 + (length samples + length records)
  unfolding bytes_of
  all_long =
      omega (arith, length-append (header_bytes c.depth c.width c.height) (samples ++ records), length_header c.depth c.width c.height, length-append samples records)

  samples_back : samples_of s ≡ c.samples
  unfolding samples_of sample_at
  samples_back =
      sym (tabulate_is 0 (sample_at s 10) c.samples (plane_area s) (g.samples_are ∙ sym area_back)
      (λ k l. sym (read_two (get_or c.samples k 0) (at_joined two 2 length_two 0 c.samples s 10 (at_first samples records rest) k (omega (arith, l, area_back, g.samples_are))))))

  header_back : header_answer s ≡ 0
  unfolding header_answer
  header_back =
      rw (le-ltb 65535 (length s) g.short, le-ltb (length s) 10 (omega (arith, all_long)), mark_back, version_back, depth_back, g.depth_is, area_back, g.area_is, le-ltb (length s) (10 + 2 * (c.width * c.height)) (omega (arith, samples_long, all_long)))

  records_back : (entries_from s (length s) (first_record s) ≡ c.entries) × (whole_from s (length s) (first_record s) ≡ true)
  records_back =
      entries_back s c.entries g.entries_are (first_record s) (length s) (at_place (sym first_is) (at_second samples records rest))
      (omega (arith, first_is, all_long)) (omega arith)

  -- the reader finds what was written, nothing else, and nothing wrong
  says_back : says s ≡ c
  unfolding says
  says_back = clip_same (says s) c depth_back width_back height_back samples_back records_back.0

  whole_back : whole s ≡ true
  unfolding whole
  whole_back = rw (header_back, records_back.1)

-- A GOOD CLIP, AS IT IS WRITTEN, IS READ BACK, at depth 12 too
pub clip_read_back : (c : Clip) → Good c → ReadBack c (bytes_of c)
clip_read_back c g = record { header = header_back c g; says_it = says_back c g; all_whole = whole_back c g }
