-- Laws of the text of a run: what is printed is the definition's, and it fits.
use mathlib.Core.Path.{◌≡◌, refl, sym, ap, ◌∙◌}
use mathlib.Core.Bool.{Bool, true, false, ◌&&◌}
use mathlib.Core.List.{List, ◌++◌}
use Prim.Native.Nat.{ℕ, zero, suc, ◌*◌, ◌≤◌, ◌<◌}
use native.Mathlib.Nat as N
use native.Mathlib.Omega.{arith}
use borrow.Author.Tests.{le-leb, lt-leb, ne_eqb}
use lib.Dec.{eqb}
use lib.ListN.{length, get_or, take, drop, length-append, length-drop}
use lib.Seq.{take_at, get_or-take, length-take-le}
use Rattle.std.specs.Prelude.{Ok, Err}
use Rattle.answers.specs.Answers.{refusal_number}
use Rattle.answers.specs.declared.Refusal.{Refusal}
use Rattle.answers.proofs.Numbers.{refused_number}
use Rattle.vbk_read.specs.Header.{version_of, depth_of, width_of, height_of, plane_area, header_answer}
use Rattle.vbk_read.specs.declared.Fields.{Fields}
use Rattle.vbk_read.proofs.Headers.{good}
use Rattle.vbk_text.specs.Text.{Outcome, refused, ran, text, TEXT_LIMIT}
use Rattle.vbk_text.specs.Inner.{Room, Put}
use Rattle.vbk_text.proofs.Size.{Small, run_fits, refusal_fits}
use Rattle.vbk_text.proofs.Writing.{put_front, put_count, put_within}
use Rattle.vbk.specs.Replay.{replay}
use Rattle.vbk.specs.Filled.{reconstruction}
use Rattle.vbk.specs.Promises.{run_of, roomy, run_answer, samples_for, answers_for, Replayed, printable, Printed}
use Rattle.vbk.specs.Inner.{outcome_of}
use Rattle.vbk.specs.declared.Run.{Run}
use Rattle.vbk.proofs.Numbers.{refusal_most}
use Rattle.vbk.proofs.Runs.{enough, rooms}

-- the numbers as the code has them
pub shown : (r : Run) (samples answers : List ℕ) {v d w h n : ℕ} → v ≡ r.fields.version → d ≡ r.fields.depth → w ≡ r.fields.width → h ≡ r.fields.height → n ≡ r.fields.width * r.fields.height
    → ran v d w h (take r.count answers) (take n samples) r.touched ≡ outcome_of r samples answers
shown r samples answers a b c e f = rw (a, b, c, e, f)

and_false : (b : Bool) → b && false ≡ false
and_false true = refl
and_false false = refl

some_left : (a b : ℕ) → 0 < a * b → 0 < a
some_left zero b h = absurd (omega (arith, N.zero-mul b))
some_left (suc a) b h = omega arith

some_right : (a b : ℕ) → 0 < a * b → 0 < b
some_right a b h = some_left b a (omega (arith, N.mul_comm a b))

-- where a room is too short, nothing is printed
module _ (s samples answers out : List ℕ) where
  nothing : printable samples answers out ≡ false → Printed s samples answers out 0 samples answers out
  nothing e = record { length_is = rw e; text_is = rw e; samples_are = rw e; answers_are = rw e; within = omega arith; counted = refl }

  pub short_out : length out < TEXT_LIMIT → Printed s samples answers out 0 samples answers out
  unfolding printable
  short_out h = nothing (rw (lt-leb TEXT_LIMIT (length out) h, and_false (roomy samples answers)))

  pub short_rooms : roomy samples answers ≡ false → Printed s samples answers out 0 samples answers out
  unfolding printable
  short_rooms h = nothing (rw h)

  module _ (so : TEXT_LIMIT ≤ length out) (sr : roomy samples answers ≡ true) where
    can : printable samples answers out ≡ true
    unfolding printable
    can = rw (sr, le-leb TEXT_LIMIT (length out) so)

    -- the line of a refusal
    module _ {a : Refusal} {samples' answers' : List ℕ} (d : Replayed s samples answers (Err a) samples' answers') where
      pub refusal_room : {n : ℕ} → n ≡ refusal_number a → Room out 0 (text (refused n))
      refusal_room {n} e = omega (arith, refusal_fits n (omega (arith, refusal_most a)))

      pub refusal_printed : {n k : ℕ} {out' : List ℕ} → n ≡ refusal_number a → Put out 0 (text (refused n)) k out' → Printed s samples answers out k samples' answers' out'
      unfolding replay
      refusal_printed {n} {k} {out'} e p =
          let h : n ≡ header_answer s = e ∙ d.answered ∙ enough s samples answers sr in
          let b : eqb (header_answer s) 0 ≡ false = ne_eqb (header_answer s) 0 (λ q. refused_number a (sym e ∙ h ∙ q)) in
          let c : eqb (run_answer s samples answers) 0 ≡ false = ap (λ (x : ℕ). eqb x 0) (enough s samples answers sr) ∙ b in
          record {
            length_is = put_count p ∙ sym (rw (can, b, sym h));
            text_is = put_front (refusal_room e) p ∙ sym (rw (can, b, sym h));
            samples_are = d.samples_are ∙ sym (rw (can, b, c));
            answers_are = d.answers_are ∙ sym (rw (can, b, c));
            within = put_within (refusal_room e) p;
            counted = sym (length-take-le k out' (put_within (refusal_room e) p));
          }

    -- the lines of a run
    module _ {r : Run} {samples' answers' : List ℕ} (d : Replayed s samples answers (Ok r) samples' answers') (ls : length samples' ≡ length samples) (la : length answers' ≡ length answers) where
      run_fine : run_answer s samples answers ≡ 0
      run_fine = sym d.answered

      fine : header_answer s ≡ 0
      fine = sym (enough s samples answers sr) ∙ run_fine

      samples_are : samples' ≡ samples_for s samples
      samples_are = d.samples_are ∙ rw run_fine

      answers_are : answers' ≡ answers_for s answers
      answers_are = d.answers_are ∙ rw run_fine

      -- a run keeps the plane's length
      plane_long : length (run_of s).samples ≡ plane_area s
      plane_long =
          let w = rooms samples answers sr in
          omega (arith, w.0, ls, ap length samples_are, length-append (run_of s).samples (drop (plane_area s) samples), length-drop (plane_area s) samples, (good s fine).area_fits)

      taken_samples : take (plane_area s) samples' ≡ (run_of s).samples
      taken_samples = ap (take (plane_area s)) samples_are ∙ take_at (run_of s).samples (drop (plane_area s) samples) (plane_area s) plane_long

      taken_answers : take r.count answers' ≡ (run_of s).answers
      taken_answers =
          ap (take r.count) answers_are ∙ take_at (run_of s).answers (drop (length (run_of s).answers) answers) r.count (sym d.told.count_is)

      area_of : r.fields.width * r.fields.height ≡ plane_area s
      area_of = ap (λ (f : Fields). f.width * f.height) d.told.fields_are

      pub outcome_is : outcome_of r samples' answers' ≡ replay reconstruction s
      unfolding replay
      outcome_is = rw (fine, area_of, d.told.fields_are, taken_answers, taken_samples, d.told.touched_is)

      pub count_fits : r.count ≤ length answers'
      count_fits = let w = rooms samples answers sr in omega (arith, w.1, d.told.count_most, la)

      pub area_fits : r.fields.width * r.fields.height ≤ length samples'
      area_fits = let w = rooms samples answers sr in omega (arith, w.0, area_of, (good s fine).area_fits, ls)

      module _ (bytes : (k : ℕ) → get_or s k 0 < 256) (samples_fit : (k : ℕ) → get_or samples' k 0 < 65536) (answers_fit : (k : ℕ) → get_or answers' k 0 < 256) where
        small : Small (version_of s) (depth_of s) (width_of s) (height_of s) (run_of s).answers (run_of s).samples (run_of s).touched
        small =
            let g = good s fine in
            record {
              version_small = omega (arith, g.version_is);
              depth_small = omega (arith, bytes 5);
              area_small = omega (arith, N.mul_comm (height_of s) (width_of s), g.area_fits);
              width_some = some_left (width_of s) (height_of s) g.area_some;
              height_some = some_right (width_of s) (height_of s) g.area_some;
              records_few = omega (arith, d.told.count_is, d.told.count_most);
              answers_small = λ i l. omega (arith, ap (λ (x : List ℕ). get_or x i 0) (sym taken_answers) ∙ get_or-take r.count answers' i 0 (omega (arith, d.told.count_is)), answers_fit i);
              samples_small = λ k l. omega (arith, ap (λ (x : List ℕ). get_or x k 0) (sym taken_samples) ∙ get_or-take (plane_area s) samples' k 0 (omega (arith, N.mul_comm (height_of s) (width_of s))), samples_fit k);
              touched_small = omega (arith, d.told.touched_is, d.told.touched_most);
            }

        fits : length (text (replay reconstruction s)) ≤ TEXT_LIMIT
        unfolding replay
        fits = rw fine (run_fits small)

        pub run_room : Room out 0 (text (outcome_of r samples' answers'))
        run_room = rw outcome_is (omega (arith, fits))

        pub run_printed : {k : ℕ} {out' : List ℕ} → Put out 0 (text (outcome_of r samples' answers')) k out' → Printed s samples answers out k samples' answers' out'
        run_printed {k} {out'} p =
            record {
              length_is = put_count p ∙ ap (λ (o : Outcome). length (text o)) outcome_is ∙ sym (rw can);
              text_is = put_front run_room p ∙ ap (λ (o : Outcome). text o ++ drop (length (text o)) out) outcome_is ∙ sym (rw can);
              samples_are = samples_are ∙ sym (rw (can, fine));
              answers_are = answers_are ∙ sym (rw (can, fine));
              within = put_within run_room p;
              counted = sym (length-take-le k out' (put_within run_room p));
            }
