-- Laws of several lists in one: each is got back, and how long they are together.
use mathlib.Core.Path.{◌≡◌, ap, ◌∙◌}
use mathlib.Core.List.{List}
use Prim.Native.Nat.{ℕ, suc, ◌+◌}
use lib.ListN.{length, length-append}
use lib.Seq.{take-append_seam, drop-append_seam}
use Rattle.vbk_report.specs.Lists.{both, first, second, beside, samples_in, counts_in, sums_in}

pub first_both : (a b : List ℕ) → first (both a b) ≡ a
unfolding first both
first_both a b = take-append_seam a b

pub second_both : (a b : List ℕ) → second (both a b) ≡ b
unfolding second both
second_both a b = drop-append_seam a b

pub length_both : (a b : List ℕ) → length (both a b) ≡ suc (length a + length b)
unfolding both
length_both a b = ap suc (length-append a b)

module _ (samples counts sums : List ℕ) where
  pub samples_in_lem : samples_in (beside samples counts sums) ≡ samples
  samples_in_lem = first_both samples (both counts sums)

  pub counts_in_lem : counts_in (beside samples counts sums) ≡ counts
  counts_in_lem = ap first (second_both samples (both counts sums)) ∙ first_both counts sums

  pub sums_in_lem : sums_in (beside samples counts sums) ≡ sums
  sums_in_lem = ap second (second_both samples (both counts sums)) ∙ second_both counts sums

  pub length_beside : length (beside samples counts sums) ≡ suc (length samples + suc (length counts + length sums))
  length_beside = length_both samples (both counts sums) ∙ ap (λ (n : ℕ). suc (length samples + n)) (length_both counts sums)

pub together : {samples counts sums samples' counts' sums' : List ℕ} → samples ≡ samples' → counts ≡ counts' → sums ≡ sums' → beside samples counts sums ≡ beside samples' counts' sums'
together {samples} {counts} {sums} {samples'} {counts'} {sums'} p q r =
    ap (λ (x : List ℕ). beside x counts sums) p ∙ ap (λ (x : List ℕ). beside samples' x sums) q ∙ ap (λ (x : List ℕ). beside samples' counts' x) r
