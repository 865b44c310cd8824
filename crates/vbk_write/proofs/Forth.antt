-- What is read is written back: a file with a good header and whole records comes out of reading and writing byte for byte the same.
use mathlib.Core.Path.{◌≡◌, refl, sym, ap, ◌∙◌}
use mathlib.Core.Bool.{Bool, true, false, not, cond, ◌&&◌}
use mathlib.Core.List.{List, [], ◌∷◌, ◌++◌, append_assoc}
use Prim.Native.Nat.{ℕ, zero, suc, ◌+◌, ◌*◌, ◌/◌, ◌%◌, ◌≤◌, ◌<◌}
use native.Mathlib.Nat as NatL
use native.Mathlib.Omega.{arith}
use borrow.Author.Tests.{ltb-false, eqb-true}
use lib.Dec.{ltb, eqb}
use lib.ListN.{length, get_or, drop, drop_of_length-le}
use lib.Seq.{drop-cons}
use Rattle.whole.specs.Lists.{tabulate}
use Rattle.whole.specs.Steps.{each}
use Rattle.answers.specs.Sizes.{area}
use Rattle.answers.proofs.Numbers.{pass, rest}
use Rattle.vbk_read.specs.Bytes.{le1, le2, le4, signed32}
use Rattle.vbk_read.specs.Header.{marked, depth_of, width_of, height_of, plane_area, sample_at, samples_of, first_record, header_answer}
use Rattle.vbk_read.specs.Records.{size_at, lossless_at, token_at, tokens_at, next_at, found, end_answer, lossless_answer, check_answer, read_on}
use Rattle.vbk_read.proofs.Headers.{good}
use Rattle.vbk_write.specs.Bytes.{one, two, word32, four, joined}
use Rattle.vbk_write.specs.Clip.{entry_at, entries_from, says, whole_from, whole, head_bytes, entry_bytes, header_bytes, bytes_of}
use Rattle.vbk_write.specs.Trips.{Bytes}
use Rattle.vbk_write.proofs.Joined.{joined_tabulate}
use Rattle.vbk_write.proofs.Back.{no_entries}

-- ---- numbers
split_two : (a b : ℕ) → a < 256 → two (a + 256 * b) ≡ a ∷ b ∷ []
unfolding two
split_two a b h =
    let p : (a + 256 * b) % 256 ≡ a = omega arith in
    let q : (a + 256 * b) / 256 ≡ b = omega arith in
    rw (p, q)

word_signed : (u : ℕ) → u < 4294967296 → word32 (signed32 u) ≡ u
unfolding word32
word_signed u h = go (ltb u 2147483648) refl
  where
    go : (b : Bool) → ltb u 2147483648 ≡ b → word32 (signed32 u) ≡ u
    go true e = rw e
    go false e = rw e (omega (arith, ltb-false u 2147483648 e))

split_four : (a b c d : ℕ) → a < 256 → b < 256 → c < 256 → d < 256 → four (signed32 (a + 256 * b + 65536 * c + 16777216 * d)) ≡ a ∷ b ∷ c ∷ d ∷ []
unfolding four
split_four a b c d p q r t =
    let u = a + 256 * b + 65536 * c + 16777216 * d in
    let e1 : u % 256 ≡ a = omega arith in
    let v2 : u / 256 ≡ b + 256 * (c + 256 * d) = omega arith in
    let e2 : (b + 256 * (c + 256 * d)) % 256 ≡ b = omega arith in
    let v3 : u / 65536 ≡ c + 256 * d = omega arith in
    let e3 : (c + 256 * d) % 256 ≡ c = omega arith in
    let e4 : u / 16777216 ≡ d = omega arith in
    rw (word_signed u (omega arith), e1, v2, e2, v3, e3, e4)

-- ---- tests
pub and_left : (a b : Bool) → a && b ≡ true → a ≡ true
and_left true b h = refl
and_left false b h = h

pub and_right : (a b : Bool) → a && b ≡ true → b ≡ true
and_right true b h = h
and_right false b h = absurd (let z : ◌≡◌ {A = ℕ} 0 1 = cc in omega arith)

-- a check that ends the reading is no 0
none_ends : (n m : ℕ) → cond (not (eqb n 0)) n m ≡ 0 → n ≡ 0
none_ends n m h = go (eqb n 0) refl
  where
    go : (b : Bool) → eqb n 0 ≡ b → n ≡ 0
    go true e = eqb-true n 0 e
    go false e = rw e at h

-- ---- the file from a place on
module _ (s : List ℕ) where
  step : (at : ℕ) → at < length s → drop at s ≡ get_or s at 0 ∷ drop (at + 1) s
  step at h = let e : at + 1 ≡ suc at = omega arith in rw e (drop-cons s at 0 h)

  from_one : (at : ℕ) → at + 1 ≤ length s → drop at s ≡ one (le1 s at) ++ drop (at + 1) s
  from_one at h = step at (omega arith)

  module _ (by : Bytes s) where
    from_two : (at : ℕ) → at + 2 ≤ length s → drop at s ≡ two (le2 s at) ++ drop (at + 2) s
    from_two at h =
        let e : at + 1 + 1 ≡ at + 2 = omega arith in
        step at (omega arith)
        ∙ ap (λ (l : List ℕ). get_or s at 0 ∷ l) (step (at + 1) (omega arith) ∙ ap (λ (k : ℕ). get_or s (at + 1) 0 ∷ drop k s) e)
        ∙ ap (λ (l : List ℕ). l ++ drop (at + 2) s) (sym (split_two (get_or s at 0) (get_or s (at + 1) 0) (by at)))

    from_four : (at : ℕ) → at + 4 ≤ length s → drop at s ≡ four (signed32 (le4 s at)) ++ drop (at + 4) s
    from_four at h =
        let e2 : at + 1 + 1 ≡ at + 2 = omega arith in
        let e3 : at + 2 + 1 ≡ at + 3 = omega arith in
        let e4 : at + 3 + 1 ≡ at + 4 = omega arith in
        let s2 = step (at + 1) (omega arith) ∙ ap (λ (k : ℕ). get_or s (at + 1) 0 ∷ drop k s) e2 in
        let s3 = step (at + 2) (omega arith) ∙ ap (λ (k : ℕ). get_or s (at + 2) 0 ∷ drop k s) e3 in
        let s4 = step (at + 3) (omega arith) ∙ ap (λ (k : ℕ). get_or s (at + 3) 0 ∷ drop k s) e4 in
        step at (omega arith)
        ∙ ap (λ (l : List ℕ). get_or s at 0 ∷ l) (s2 ∙ ap (λ (l : List ℕ). get_or s (at + 1) 0 ∷ l) (s3 ∙ ap (λ (l : List ℕ). get_or s (at + 2) 0 ∷ l) s4))
        ∙ ap (λ (l : List ℕ). l ++ drop (at + 4) s) (sym (split_four (get_or s at 0) (get_or s (at + 1) 0) (get_or s (at + 2) 0) (get_or s (at + 3) 0) (by at) (by (at + 1)) (by (at + 2)) (by (at + 3))))

  -- pieces of w bytes each, one after another
  from_each : (f : ℕ → List ℕ) (w at n : ℕ) → ((k : ℕ) → k < n → drop (at + w * k) s ≡ f k ++ drop (at + w * k + w) s) → drop at s ≡ each n f ++ drop (at + w * n) s
  unfolding each
  from_each f w at zero h = let e : at + w * 0 ≡ at = omega (arith, NatL.mul-zero w) in rw e
  from_each f w at (suc n) h =
      let e : at + w * n + w ≡ at + w * suc n = omega (arith, NatL.mul-suc w n) in
      from_each f w at n (λ k l. h k (omega arith))
      ∙ ap (λ (l : List ℕ). each n f ++ l) (h n (omega arith) ∙ ap (λ (k : ℕ). f n ++ drop k s) e)
      ∙ sym (append_assoc (each n f) (f n) (drop (at + w * suc n) s))

  -- one text after another
  joins : (at mid to : ℕ) (t u : List ℕ) → drop at s ≡ t ++ drop mid s → drop mid s ≡ u ++ drop to s → drop at s ≡ (t ++ u) ++ drop to s
  joins at mid to t u p q = p ∙ ap (λ (l : List ℕ). t ++ l) q ∙ sym (append_assoc t u (drop to s))

  -- a record that is whole
  pub record There (at : ℕ) : Type 0 where
    pub head : at + 11 ≤ length s
    pub size : size_at s at ≤ 3
    pub tokens : next_at s at ≤ length s

  pub there : (at : ℕ) → end_answer s at ≡ 0 → There at
  unfolding end_answer
  there at h =
      let h2 = rest (ltb (length s) (at + 11)) 11 _ h in
      let h3 = rest (ltb 3 (size_at s at)) 1 _ h2 in
      record {
        head = ltb-false (length s) (at + 11) (pass (ltb (length s) (at + 11)) 11 _ h);
        size = ltb-false 3 (size_at s at) (pass (ltb 3 (size_at s at)) 1 _ h2);
        tokens = ltb-false (length s) (next_at s at) (pass (ltb (length s) (next_at s at)) 11 _ h3);
      }

  -- a record of a whole file
  pub record Next (k at : ℕ) : Type 0 where
    pub end : end_answer s at ≡ 0
    pub lossless : lossless_at s at ≤ 1
    pub on : whole_from s k (next_at s at) ≡ true

  whole_step : (k at : ℕ) → found s at ≡ true → whole_from s (suc k) at ≡ true → eqb (check_answer s at) 0 && whole_from s k (read_on s at) ≡ true
  unfolding whole_from
  whole_step k at e h = rw e at h

  checked : (at : ℕ) → found s at ≡ true → check_answer s at ≡ 0 → (end_answer s at ≡ 0) × (lossless_at s at ≤ 1)
  unfolding check_answer
  checked at e c =
      let n = none_ends (end_answer s at) (lossless_answer (lossless_at s at)) (rw e at c) in
      let l : lossless_answer (lossless_at s at) ≡ 0 = rw (e, n) at c in
      (n, ltb-false 1 (lossless_at s at) (pass (ltb 1 (lossless_at s at)) 13 0 l))

  pub whole_more : (k at : ℕ) → found s at ≡ true → whole_from s (suc k) at ≡ true → Next k at
  whole_more k at e h =
      let g = whole_step k at e h in
      let c = checked at e (eqb-true (check_answer s at) 0 (and_left (eqb (check_answer s at) 0) (whole_from s k (read_on s at)) g)) in
      let w = and_right (eqb (check_answer s at) 0) (whole_from s k (read_on s at)) g in
      record { end = c.0; lossless = c.1; on = rw c.0 at w }

  module _ (by : Bytes s) where
    -- to a place that is said otherwise
    one_to : (at to : ℕ) → at + 1 ≡ to → to ≤ length s → drop at s ≡ one (le1 s at) ++ drop to s
    one_to at to e h = from_one at (omega arith) ∙ ap (λ (k : ℕ). one (le1 s at) ++ drop k s) e

    two_to : (at to : ℕ) → at + 2 ≡ to → to ≤ length s → drop at s ≡ two (le2 s at) ++ drop to s
    two_to at to e h = from_two by at (omega arith) ∙ ap (λ (k : ℕ). two (le2 s at) ++ drop k s) e

    from_head : (at : ℕ) → at + 11 ≤ length s
        → drop at s ≡ head_bytes (le2 s at) (le2 s (at + 2)) (size_at s at) (le1 s (at + 5)) (lossless_at s at) (le2 s (at + 7)) (le2 s (at + 9)) ++ drop (at + 11) s
    unfolding head_bytes
    from_head at h =
        let p1 = two_to at (at + 2) refl (omega arith) in
        let p2 = two_to (at + 2) (at + 4) (omega arith) (omega arith) in
        let p3 = one_to (at + 4) (at + 5) (omega arith) (omega arith) in
        let p4 = one_to (at + 5) (at + 6) (omega arith) (omega arith) in
        let p5 = one_to (at + 6) (at + 7) (omega arith) (omega arith) in
        let p6 = two_to (at + 7) (at + 9) (omega arith) (omega arith) in
        let p7 = two_to (at + 9) (at + 11) (omega arith) (omega arith) in
        joins at (at + 2) (at + 11) (two (le2 s at)) (two (le2 s (at + 2)) ++ (one (size_at s at) ++ (one (le1 s (at + 5)) ++ (one (lossless_at s at) ++ (two (le2 s (at + 7)) ++ (two (le2 s (at + 9)))))))) p1
        (joins (at + 2) (at + 4) (at + 11) (two (le2 s (at + 2))) (one (size_at s at) ++ (one (le1 s (at + 5)) ++ (one (lossless_at s at) ++ (two (le2 s (at + 7)) ++ (two (le2 s (at + 9))))))) p2
        (joins (at + 4) (at + 5) (at + 11) (one (size_at s at)) (one (le1 s (at + 5)) ++ (one (lossless_at s at) ++ (two (le2 s (at + 7)) ++ (two (le2 s (at + 9)))))) p3
        (joins (at + 5) (at + 6) (at + 11) (one (le1 s (at + 5))) (one (lossless_at s at) ++ (two (le2 s (at + 7)) ++ (two (le2 s (at + 9))))) p4
        (joins (at + 6) (at + 7) (at + 11) (one (lossless_at s at)) (two (le2 s (at + 7)) ++ (two (le2 s (at + 9)))) p5
        (joins (at + 7) (at + 9) (at + 11) (two (le2 s (at + 7))) (two (le2 s (at + 9))) p6 p7)))))

    from_tokens : (at n : ℕ) → at + 4 * n ≤ length s → drop at s ≡ joined four (tabulate (token_at s at) n) ++ drop (at + 4 * n) s
    unfolding token_at
    from_tokens at n h =
        from_each (λ k. four (token_at s at k)) 4 at n (λ k l. from_four by (at + 4 * k) (omega arith))
        ∙ ap (λ (l : List ℕ). l ++ drop (at + 4 * n) s) (sym (joined_tabulate four (token_at s at) n))

    from_samples : (at n : ℕ) → at + 2 * n ≤ length s → drop at s ≡ joined two (tabulate (sample_at s at) n) ++ drop (at + 2 * n) s
    unfolding sample_at
    from_samples at n h =
        from_each (λ k. two (sample_at s at k)) 2 at n (λ k l. from_two by (at + 2 * k) (omega arith))
        ∙ ap (λ (l : List ℕ). l ++ drop (at + 2 * n) s) (sym (joined_tabulate two (sample_at s at) n))

    from_entry : (at : ℕ) → There at → drop at s ≡ entry_bytes (entry_at s at) ++ drop (next_at s at) s
    unfolding entry_bytes tokens_at next_at
    from_entry at t =
        joins at (at + 11) (next_at s at)
        (head_bytes (le2 s at) (le2 s (at + 2)) (size_at s at) (le1 s (at + 5)) (lossless_at s at) (le2 s (at + 7)) (le2 s (at + 9)))
        (joined four (tabulate (token_at s (at + 11)) (area (size_at s at + 2)))) (from_head at t.head) (from_tokens (at + 11) (area (size_at s at + 2)) t.tokens)

    nothing : (at k : ℕ) → length s ≤ at → drop at s ≡ joined entry_bytes (entries_from s k at)
    unfolding joined
    nothing at k h = drop_of_length-le s h ∙ sym (ap (joined entry_bytes) (no_entries s at h k))

    -- the records from a place on, by the cases of one that is there, and of none
    more_entries : (k at : ℕ) → end_answer s at ≡ 0 → drop (next_at s at) s ≡ joined entry_bytes (entries_from s k (next_at s at)) → drop at s ≡ joined entry_bytes (entries_from s (suc k) at)
    unfolding entries_from joined
    more_entries k at e h = from_entry at (there at e) ∙ rw e (ap (λ (l : List ℕ). entry_bytes (entry_at s at) ++ l) h)

    moved : (at : ℕ) → at + 11 ≤ next_at s at
    unfolding next_at
    moved at = omega arith

    from_entries : (k at : ℕ) → whole_from s k at ≡ true → length s ≤ at + k → drop at s ≡ joined entry_bytes (entries_from s k at)
    from_entries zero at h f = nothing at zero (omega arith)
    from_entries (suc k) at h f =
        go (found s at) refl (λ (w : whole_from s k (next_at s at) ≡ true). from_entries k (next_at s at) w (omega (arith, moved at)))
      where
        go : (b : Bool) → found s at ≡ b → (whole_from s k (next_at s at) ≡ true → drop (next_at s at) s ≡ joined entry_bytes (entries_from s k (next_at s at))) → drop at s ≡ joined entry_bytes (entries_from s (suc k) at)
        go true e r = let n = whole_more k at e h in more_entries k at n.end (r n.on)
        go false e r = nothing at (suc k) (ltb-false at (length s) e)

    -- the header
    from_header : header_answer s ≡ 0 → s ≡ header_bytes (depth_of s) (width_of s) (height_of s) ++ drop 10 s
    unfolding header_bytes marked
    from_header h =
        let g = good s h in
        let m1 = and_left (eqb (le1 s 0) 86) _ g.marked_is in
        let m = and_right (eqb (le1 s 0) 86) _ g.marked_is in
        let m2 = and_left (eqb (le1 s 1) 66) _ m in
        let m3 = and_right (eqb (le1 s 1) 66) _ m in
        let l = g.mark_there in
        let q1 = one_to 0 1 refl (omega arith) ∙ ap (λ (n : ℕ). one n ++ drop 1 s) (eqb-true (le1 s 0) 86 m1) in
        let q2 = one_to 1 2 refl (omega arith) ∙ ap (λ (n : ℕ). one n ++ drop 2 s) (eqb-true (le1 s 1) 66 m2) in
        let q3 = one_to 2 3 refl (omega arith) ∙ ap (λ (n : ℕ). one n ++ drop 3 s) (eqb-true (le1 s 2) 75 m3) in
        let q4 = two_to 3 5 refl (omega arith) ∙ ap (λ (n : ℕ). two n ++ drop 5 s) g.version_is in
        let q5 = one_to 5 6 refl (omega arith) in
        let q6 = two_to 6 8 refl (omega arith) in
        let q7 = two_to 8 10 refl (omega arith) in
        let d = one (depth_of s) in
        let w = two (width_of s) in
        let v = two (height_of s) in
        joins 0 1 10 (one 86) (one 66 ++ (one 75 ++ (two 1 ++ (d ++ (w ++ v))))) q1
        (joins 1 2 10 (one 66) (one 75 ++ (two 1 ++ (d ++ (w ++ v)))) q2
        (joins 2 3 10 (one 75) (two 1 ++ (d ++ (w ++ v))) q3
        (joins 3 5 10 (two 1) (d ++ (w ++ v)) q4
        (joins 5 6 10 d (w ++ v) q5
        (joins 6 8 10 w v q6 q7)))))

-- reading and writing give the file back
pub forth : (s : List ℕ) → Bytes s → whole s ≡ true → bytes_of (says s) ≡ s
unfolding whole bytes_of says samples_of
forth s by h =
    let e = eqb-true (header_answer s) 0 (and_left (eqb (header_answer s) 0) _ h) in
    let w = and_right (eqb (header_answer s) 0) _ h in
    let g = good s e in
    let t = header_bytes (depth_of s) (width_of s) (height_of s) in
    let p = joined two (tabulate (sample_at s 10) (plane_area s)) in
    sym (from_header s by e
    ∙ ap (λ (l : List ℕ). t ++ l) (from_samples s by 10 (plane_area s) g.samples_there
    ∙ ap (λ (l : List ℕ). p ++ l) (from_entries s by (length s) (first_record s) w (omega arith))))
