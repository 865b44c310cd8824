-- The answer, check by check.
use mathlib.Core.Path.{◌≡◌, refl, sym, ◌∙◌}
use mathlib.Core.Bool.{Bool, true, false, ◌||◌}
use Prim.Native.Nat.{ℕ, ◌*◌, ◌≤◌, ◌<◌}
use native.Mathlib.Omega.{arith}
use borrow.Author.Tests.{lt-ltb, le-ltb, eq-eqb, ne_eqb, ltb-false}
use lib.Dec.{ltb}
use lib.ListN.{length}
use Rattle.answers.specs.Limits.{FILE_LIMIT}
use Rattle.answers.specs.Bad.{bad_depth, retired}
use Rattle.answers.proofs.Numbers.{pass, rest}
use Rattle.vbk_read.specs.Header.{bad_area}
use Rattle.vbk_read.proofs.Headers.{area_ok}
use Rattle.vbk_write.specs.Lent.{Lent, file_of}
use Rattle.vbk_write.specs.Promises.{any_above, bad_lists, bad_counts, bad_total, misfit, too_large, answer_of}
use Rattle.vbk_write.specs.Inner.{file_length}
use Rattle.vbk_write.proofs.Lengths.{Fit, fit, file_length_lem}

or_left : (a b : Bool) → a || b ≡ false → a ≡ false
or_left true b h = h
or_left false b h = refl

or_right : (a b : Bool) → a || b ≡ false → b ≡ false
or_right true b h = absurd (let z : ◌≡◌ {A = ℕ} 0 1 = cc in omega arith)
or_right false b h = h

module _ (l : Lent) where
  -- ---- 6
  pub other_samples : (length l.samples ≡ l.width * l.height → ⊥) → misfit l ≡ true
  unfolding misfit
  other_samples h = rw (ne_eqb (length l.samples) (l.width * l.height) h)

  module _ (e : length l.samples ≡ l.width * l.height) where
    pub other_lists : bad_lists l ≡ true → misfit l ≡ true
    unfolding misfit
    other_lists h = rw (eq-eqb (length l.samples) (l.width * l.height) e, h)

    pub other_counts : bad_lists l ≡ false → (bad_counts l.sizes l.counts || bad_total l.counts (length l.tokens)) ≡ true → misfit l ≡ true
    unfolding misfit
    other_counts h k = rw (eq-eqb (length l.samples) (l.width * l.height) e, h) k

    pub together : bad_lists l ≡ false → (bad_counts l.sizes l.counts || bad_total l.counts (length l.tokens)) ≡ false → misfit l ≡ false
    unfolding misfit
    together h k = rw (eq-eqb (length l.samples) (l.width * l.height) e, h) k

  -- ---- 13
  pub large_is : misfit l ≡ false → too_large l ≡ bad_area (l.width * l.height) || ltb FILE_LIMIT (file_length (l.width * l.height) (length l.xs) (length l.tokens))
  unfolding too_large
  large_is h = rw (file_length_lem l (fit l h))

  -- a file that is not too large has few of each
  pub small : misfit l ≡ false → too_large l ≡ false → (l.width * l.height ≤ 65535) × (length l.xs ≤ 65535) × (length l.tokens ≤ 65535)
  small h t =
      let a = l.width * l.height in
      let n = file_length a (length l.xs) (length l.tokens) in
      let e = sym (large_is h) ∙ t in
      let s = (area_ok a (or_left (bad_area a) (ltb FILE_LIMIT n) e)).1 in
      let f = ltb-false 65535 n (or_right (bad_area a) (ltb FILE_LIMIT n) e) in
      (omega (arith, s), omega (arith, f), omega (arith, f))

  module _ (room : ℕ) where
    pub is_depth_lem : bad_depth l.depth ≡ true → 1 ≡ answer_of l room
    unfolding answer_of
    is_depth_lem a = rw a

    pub is_retired : bad_depth l.depth ≡ false → retired l.depth ≡ true → 20 ≡ answer_of l room
    unfolding answer_of
    is_retired a w = rw (a, w)

    module _ (a : bad_depth l.depth ≡ false) (w : retired l.depth ≡ false) where
      pub is_size : any_above 3 l.sizes ≡ true → 2 ≡ answer_of l room
      unfolding answer_of
      is_size b = rw (a, w, b)

      module _ (b : any_above 3 l.sizes ≡ false) where
        pub is_length : misfit l ≡ true → 6 ≡ answer_of l room
        unfolding answer_of
        is_length d = rw (a, w, b, d)

        module _ (d : misfit l ≡ false) where
          pub is_large : too_large l ≡ true → 13 ≡ answer_of l room
          unfolding answer_of
          is_large e = rw (a, w, b, d, e)

          module _ (e : too_large l ≡ false) where
            pub is_lossless : any_above 1 l.lossless ≡ true → 14 ≡ answer_of l room
            unfolding answer_of
            is_lossless f = rw (a, w, b, d, e, f)

            module _ (f : any_above 1 l.lossless ≡ false) where
              pub is_room : {n : ℕ} → n ≡ file_length (l.width * l.height) (length l.xs) (length l.tokens) → room < n → 17 ≡ answer_of l room
              unfolding answer_of
              is_room {n} h k = rw (a, w, b, d, e, f, lt-ltb room (length (file_of l)) (omega (arith, file_length_lem l (fit l d))))

              pub is_done_lem : {n : ℕ} → n ≡ file_length (l.width * l.height) (length l.xs) (length l.tokens) → n ≤ room → 0 ≡ answer_of l room
              unfolding answer_of
              is_done_lem {n} h k = rw (a, w, b, d, e, f, le-ltb room (length (file_of l)) (omega (arith, file_length_lem l (fit l d))))

-- what answer 0 says
pub record Taken (l : Lent) (room : ℕ) : Type 0 where
  pub depth_is : bad_depth l.depth ≡ false
  pub kept : retired l.depth ≡ false
  pub sizes_are : any_above 3 l.sizes ≡ false
  pub fits : Fit l
  pub area_is : bad_area (l.width * l.height) ≡ false
  pub short : length (file_of l) ≤ 65535
  pub lossless_are : any_above 1 l.lossless ≡ false
  pub there : length (file_of l) ≤ room

pub taken : (l : Lent) (room : ℕ) → answer_of l room ≡ 0 → Taken l room
unfolding answer_of too_large
taken l room h =
    let h2 = rest (bad_depth l.depth) 0 _ h in
    let hr = rest (retired l.depth) 19 _ h2 in
    let h3 = rest (any_above 3 l.sizes) 1 _ hr in
    let h4 = rest (misfit l) 5 _ h3 in
    let h5 = rest (too_large l) 12 _ h4 in
    let h6 = rest (any_above 1 l.lossless) 13 _ h5 in
    let t = pass (too_large l) 12 _ h4 in
    record {
      depth_is = pass (bad_depth l.depth) 0 _ h;
      kept = pass (retired l.depth) 19 _ h2;
      sizes_are = pass (any_above 3 l.sizes) 1 _ hr;
      fits = fit l (pass (misfit l) 5 _ h3);
      area_is = or_left (bad_area (l.width * l.height)) (ltb FILE_LIMIT (length (file_of l))) t;
      short = ltb-false 65535 (length (file_of l)) (or_right (bad_area (l.width * l.height)) (ltb FILE_LIMIT (length (file_of l))) t);
      lossless_are = pass (any_above 1 l.lossless) 13 _ h5;
      there = ltb-false room (length (file_of l)) (pass (ltb room (length (file_of l))) 16 _ h6);
    }
