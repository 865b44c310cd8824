-- THE PADDING LAW: no answer and no sample depends on the padding, and no call writes it.
use mathlib.Core.Path.{◌≡◌, refl, sym, ◌∙◌}
use mathlib.Core.Bool.{Bool, true, false, cond}
use mathlib.Core.List.{List}
use Prim.Native.Nat.{ℕ, ◌+◌, ◌*◌, ◌≤◌, ◌<◌}
use native.Mathlib.Decide.{dec_lt}
use native.Mathlib.Omega.{arith}
use lib.Dec.{eqb}
use lib.IntN.{ℤ, pos}
use lib.ListN.{length, get_or, get_or-eq_default}
use Rattle.answers.specs.Answers.{Answer}
use Rattle.answers.specs.Sizes.{side}
use Rattle.answers.proofs.Numbers.{number_injective}
use Rattle.plane.specs.declared.Plane.{Plane}
use Rattle.plane.specs.Place.{row_of, column_of, cut}
use Rattle.plane.specs.Plane.{inside, sample_after, plane_after}
use Rattle.plane.proofs.Row.{inside_low, inside_high}
use Rattle.plane.proofs.Block.{after_length, after_at, off_columns}
use Rattle.reconstruct.specs.Reconstruct.{Input, largest, answer_of, residual, added, samples_after, Reconstructed}
use Rattle.report.specs.Classes.{one, itself}
use Rattle.report.specs.Report as T
use Rattle.laws.specs.Padding.{Agree, SamePadding, lent, lent_report, Unpadded, UnpaddedReport}

-- past the end every list has the same
past : (a b : List ℕ) (k : ℕ) → length a ≡ length b → (k < length a → ⊥) → get_or a k 0 ≡ get_or b k 0
past a b k e h = get_or-eq_default a 0 {n = k} (omega arith) ∙ sym (get_or-eq_default b 0 {n = k} (omega arith))

same_padding : (p : Plane) (a : List ℕ) → SamePadding p a a
same_padding p a = record { count = refl; padding = λ k h. refl }

-- ---- a block added back
module _ (p : Plane) (top x y n0 : ℕ) (r : ℕ → ℕ → ℤ) where
  -- a sample afterwards is made of the sample that stood there
  by_sample : (a b : List ℕ) (rows cols row column k : ℕ) → get_or a k 0 ≡ get_or b k 0
      → sample_after top r x y rows cols a row column k ≡ sample_after top r x y rows cols b row column k
  unfolding sample_after
  by_sample a b rows cols row column k h = rw h

  pub agree_after : (a b : List ℕ) → Agree p a b → Agree p (plane_after p top x y n0 r a) (plane_after p top x y n0 r b)
  agree_after a b e = record { as_long = long; shown = λ k h. go k h (dec_lt k (length a)) }
    where
      long : length (plane_after p top x y n0 r a) ≡ length (plane_after p top x y n0 r b)
      long = after_length p top x y n0 r a ∙ e.as_long ∙ sym (after_length p top x y n0 r b)

      go : (k : ℕ) → column_of p k < p.width → Dec (k < length a) → get_or (plane_after p top x y n0 r a) k 0 ≡ get_or (plane_after p top x y n0 r b) k 0
      go k h (yes l) =
          after_at p top x y n0 r a k l
          ∙ by_sample a b (cut p.height y n0) (cut p.width x n0) (row_of p k) (column_of p k) k (e.shown k h)
          ∙ sym (after_at p top x y n0 r b k (omega (arith, e.as_long)))
      go k h (no l) =
          past (plane_after p top x y n0 r a) (plane_after p top x y n0 r b) k long (λ q. l (omega (arith, after_length p top x y n0 r a)))

  -- no column past the width is the block's
  outside : (column : ℕ) → p.width ≤ column → inside x (cut p.width x n0) column ≡ false
  outside column h = go (dec_lt column x)
    where
      go : Dec (column < x) → inside x (cut p.width x n0) column ≡ false
      go (yes l) = inside_low x (cut p.width x n0) column l
      go (no l) = inside_high x (cut p.width x n0) column (omega arith)

  pub padding_stays : (a : List ℕ) → SamePadding p a (plane_after p top x y n0 r a)
  padding_stays a = record { count = sym (after_length p top x y n0 r a); padding = λ k h. go k h (dec_lt k (length a)) }
    where
      go : (k : ℕ) → p.width ≤ column_of p k → Dec (k < length a) → get_or a k 0 ≡ get_or (plane_after p top x y n0 r a) k 0
      go k h (yes l) =
          sym
          (after_at p top x y n0 r a k l
          ∙ off_columns top r x y a (cut p.height y n0) (cut p.width x n0) (row_of p k) (column_of p k) k (outside (column_of p k) h))
      go k h (no l) = past a (plane_after p top x y n0 r a) k (sym (after_length p top x y n0 r a)) l

-- ---- reconstruction
-- the answer asks how many samples there are, and no sample
same_answer : (u : Input) (samples : List ℕ) → length u.samples ≡ length samples → answer_of u ≡ answer_of (lent u samples)
unfolding answer_of
same_answer u samples e = rw e

-- what reconstruction adds to samples
abbrev adds : Input → List ℕ → List ℕ
adds u samples = added u.plane (largest u.depth) u.x u.y u.size u.dc u.ac u.tx_type u.lossless u.tokens samples

-- the residual of a block
abbrev residual_of : Input → ℕ → ℕ → ℤ
residual_of u i j = get_or (residual u.size u.dc u.ac u.tx_type u.lossless u.tokens) (i * side (u.size + 2) + j) (pos 0)

module _ (u : Input) (samples : List ℕ) (e : Agree u.plane u.samples samples) where
  agree_added : Agree u.plane (adds u u.samples) (adds u samples)
  unfolding added
  agree_added = agree_after u.plane (largest u.depth) u.x u.y (side (u.size + 2)) (residual_of u) u.samples samples e

  agree_samples : Agree u.plane (samples_after u) (samples_after (lent u samples))
  unfolding samples_after
  agree_samples = rw (sym (same_answer u samples e.as_long)) (go (eqb (answer_of u) 0))
    where
      go : (b : Bool) → Agree u.plane (cond b (adds u u.samples) u.samples) (cond b (adds u samples) samples)
      go true = agree_added
      go false = e

padding_added : (u : Input) → SamePadding u.plane u.samples (adds u u.samples)
unfolding added
padding_added u = padding_stays u.plane (largest u.depth) u.x u.y (side (u.size + 2)) (residual_of u) u.samples

padding_samples : (u : Input) → SamePadding u.plane u.samples (samples_after u)
unfolding samples_after
padding_samples u = go (eqb (answer_of u) 0)
  where
    go : (b : Bool) → SamePadding u.plane u.samples (cond b (adds u u.samples) u.samples)
    go true = padding_added u
    go false = same_padding u.plane u.samples

pub padding_law : (u : Input) (samples : List ℕ) → Agree u.plane u.samples samples → (a b : Answer) (after₁ after₂ : List ℕ)
    → Reconstructed u a after₁ → Reconstructed (lent u samples) b after₂ → Unpadded u.plane u.samples samples a b after₁ after₂
padding_law u samples e a b after₁ after₂ r q =
    record {
      same_answer = number_injective a b (r.answered ∙ same_answer u samples e.as_long ∙ sym q.answered);
      agree = rw (r.written, q.written) (agree_samples u samples e);
      kept₁ = rw r.written (padding_samples u);
      kept₂ = rw q.written (padding_samples (lent u samples));
    }

-- ---- reconstruction with a report beside it
module _ (u : T.Input) (samples : List ℕ) (e : Agree u.block.plane u.block.samples samples) where
  same_report_answer : T.answer_of u ≡ T.answer_of (lent_report u samples)
  unfolding T.answer_of
  same_report_answer = rw (same_answer u.block samples e.as_long)

  agree_report : Agree u.block.plane (T.samples_after u) (T.samples_after (lent_report u samples))
  unfolding T.samples_after
  agree_report = rw (sym same_report_answer) (go (eqb (T.answer_of u) 0))
    where
      go : (b : Bool) → Agree u.block.plane (cond b (samples_after u.block) u.block.samples) (cond b (samples_after (lent u.block samples)) samples)
      go true = agree_samples u.block samples e
      go false = e

  same_list : (f : ℕ → ℕ) (list : List ℕ) → T.list_after f u list ≡ T.list_after f (lent_report u samples) list
  unfolding T.list_after
  same_list f list = rw same_report_answer

padding_report : (u : T.Input) → SamePadding u.block.plane u.block.samples (T.samples_after u)
unfolding T.samples_after
padding_report u = go (eqb (T.answer_of u) 0)
  where
    go : (b : Bool) → SamePadding u.block.plane u.block.samples (cond b (samples_after u.block) u.block.samples)
    go true = padding_samples u.block
    go false = same_padding u.block.plane u.block.samples

pub report_padding_law : (u : T.Input) (samples : List ℕ) → Agree u.block.plane u.block.samples samples
    → (a b : Answer) (after₁ after₂ counts₁ counts₂ sums₁ sums₂ : List ℕ)
    → T.Reported u a after₁ counts₁ sums₁ → T.Reported (lent_report u samples) b after₂ counts₂ sums₂
    → UnpaddedReport u samples a b after₁ after₂ counts₁ counts₂ sums₁ sums₂
report_padding_law u samples e a b after₁ after₂ counts₁ counts₂ sums₁ sums₂ r q =
    record {
      samples =
          record {
            same_answer = number_injective a b (r.answered ∙ same_report_answer u samples e ∙ sym q.answered);
            agree = rw (r.written, q.written) (agree_report u samples e);
            kept₁ = rw r.written (padding_report u);
            kept₂ = rw q.written (padding_report (lent_report u samples));
          };
      counts = r.counted ∙ same_list u samples e one u.counts ∙ sym q.counted;
      sums = r.summed ∙ same_list u samples e itself u.sums ∙ sym q.summed;
    }
