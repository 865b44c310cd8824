-- AS BEFORE: where the stride is the width, reconstruction is what it was when a plane had none. The definitions of then are kept for this law alone.
use mathlib.Core.Path.{◌≡◌, refl, ◌∙◌}
use mathlib.Core.Bool.{Bool, true, false, cond, not, ◌||◌}
use mathlib.Core.List.{List, [], ◌∷◌}
use Prim.Native.Nat.{ℕ, ◌+◌, ◌*◌, ◌/◌, ◌%◌}
use native.Mathlib.Nat as NatL
use borrow.Author.Tests.{le-ltb}
use lib.Dec.{ltb, eqb}
use lib.IntN.{ℤ, pos}
use lib.ListN.{length, get_or}
use Rattle.whole.specs.Lists.{tabulate}
use Rattle.answers.specs.Answers.{Answer, number, lowest}
use Rattle.answers.specs.Limits.{SIDE_LIMIT, codeable}
use Rattle.answers.specs.Sizes.{side, area}
use Rattle.answers.specs.Bad.{bad_depth, bad_size, bad_lossless, bad_tx_type, any_beyond}
use Rattle.plane.specs.declared.Plane.{Plane}
use Rattle.plane.specs.Place.{cut}
use Rattle.plane.specs.Plane.{sample_after, plane_after}
use Rattle.reconstruct.specs.Reconstruct.{Input, largest, bad_quantizers, bad_plane, bad_coefficient, answer_of, residual, added, samples_after, Reconstructed}
use Rattle.report.specs.Classes.{one, itself}
use Rattle.report.specs.Report as T
use Rattle.report.specs.Report.{report_answer, noted}

-- ---- as it was: none of these reads the stride
unfoldable pub bad_plane_before : ℕ → Plane → Bool
bad_plane_before count p = ltb SIDE_LIMIT p.width || (ltb SIDE_LIMIT p.height || not (eqb count (p.width * p.height)))

unfoldable pub answer_before : Input → ℕ
answer_before u =
    lowest
    (
    (1, bad_depth u.depth)
    ∷ (2, bad_size u.size)
    ∷ (3, bad_lossless u.lossless u.size)
    ∷ (4, bad_tx_type u.lossless u.size u.tx_type)
    ∷ (5, bad_quantizers u.dc u.ac)
    ∷ (6, not (eqb (length u.tokens) (area (u.size + 2))))
    ∷ (7, bad_plane_before (length u.samples) u.plane)
    ∷ (8, any_beyond (codeable u.depth) (length u.tokens) u.tokens)
    ∷ (9, bad_coefficient u.size u.dc u.ac u.tokens)
    ∷ []
    )

unfoldable pub plane_before : Plane → ℕ → ℕ → ℕ → ℕ → (ℕ → ℕ → ℤ) → List ℕ → List ℕ
plane_before p top x y n0 r samples =
    tabulate (λ k. sample_after top r x y (cut p.height y n0) (cut p.width x n0) samples (k / p.width) (k % p.width) k) (length samples)

unfoldable pub samples_before : Input → List ℕ
samples_before u =
    cond (eqb (answer_before u) 0)
    (plane_before u.plane (largest u.depth) u.x u.y (side (u.size + 2))
    (λ i j. get_or (residual u.size u.dc u.ac u.tx_type u.lossless u.tokens) (i * side (u.size + 2) + j) (pos 0)) u.samples)
    u.samples

-- with a report beside it
unfoldable pub report_answer_before : T.Input → ℕ
report_answer_before u =
    cond (eqb (answer_before u.block) 0) (report_answer (length u.block.tokens) u.counts u.sums) (answer_before u.block)

unfoldable pub report_samples_before : T.Input → List ℕ
report_samples_before u = cond (eqb (report_answer_before u) 0) (samples_before u.block) u.block.samples

unfoldable pub list_before : (ℕ → ℕ) → T.Input → List ℕ → List ℕ
list_before f u list = cond (eqb (report_answer_before u) 0) (noted f u.block.size (length u.block.tokens) u.block.tokens list) list

-- ---- and as it is
twice : (a b : Bool) → a || (a || b) ≡ a || b
twice true b = refl
twice false b = refl

module _ (p : Plane) (e : p.stride ≡ p.width) where
  plane_test : (count : ℕ) → bad_plane count p ≡ bad_plane_before count p
  unfolding bad_plane bad_plane_before
  plane_test count =
      rw (e, le-ltb p.width p.width (NatL.le_refl p.width))
      (twice (ltb SIDE_LIMIT p.width) (ltb SIDE_LIMIT p.height || not (eqb count (p.width * p.height))))

  plane_after_lem : (top x y n0 : ℕ) (r : ℕ → ℕ → ℤ) (samples : List ℕ) → plane_after p top x y n0 r samples ≡ plane_before p top x y n0 r samples
  unfolding plane_after plane_before
  plane_after_lem top x y n0 r samples = rw e

module _ (u : Input) (e : u.plane.stride ≡ u.plane.width) where
  same_answer : answer_of u ≡ answer_before u
  unfolding answer_of answer_before
  same_answer = rw (plane_test u.plane e (length u.samples))

  pub as_before : (answer_of u ≡ answer_before u) × (samples_after u ≡ samples_before u)
  unfolding samples_after samples_before added
  as_before = (same_answer, rw (same_answer, plane_after_lem u.plane e (largest u.depth) u.x u.y (side (u.size + 2)) (λ i j. get_or (residual u.size u.dc u.ac u.tx_type u.lossless u.tokens) (i * side (u.size + 2) + j) (pos 0)) u.samples))

  -- and so of the call
  pub call_as_before : (a : Answer) (after : List ℕ) → Reconstructed u a after → (number a ≡ answer_before u) × (after ≡ samples_before u)
  call_as_before a after r = (r.answered ∙ as_before.0, r.written ∙ as_before.1)

-- with a report beside it
module _ (u : T.Input) (e : u.block.plane.stride ≡ u.block.plane.width) where
  same_report : T.answer_of u ≡ report_answer_before u
  unfolding T.answer_of report_answer_before
  same_report = rw (same_answer u.block e)

  same_samples : T.samples_after u ≡ report_samples_before u
  unfolding T.samples_after report_samples_before
  same_samples = rw (same_report, (as_before u.block e).1)

  same_list : (f : ℕ → ℕ) (list : List ℕ) → T.list_after f u list ≡ list_before f u list
  unfolding T.list_after list_before
  same_list f list = rw same_report

  pub report_as_before : (T.answer_of u ≡ report_answer_before u) × (T.samples_after u ≡ report_samples_before u) × ((f : ℕ → ℕ) (list : List ℕ) → T.list_after f u list ≡ list_before f u list)
  report_as_before = (same_report, same_samples, same_list)

  pub report_call_as_before : (a : Answer) (samples counts sums : List ℕ) → T.Reported u a samples counts sums
      → (number a ≡ report_answer_before u) × (samples ≡ report_samples_before u) × (counts ≡ list_before one u u.counts) × (sums ≡ list_before itself u u.sums)
  report_call_as_before a samples counts sums r =
      (r.answered ∙ same_report, r.written ∙ same_samples, r.counted ∙ same_list one u.counts, r.summed ∙ same_list itself u.sums)
