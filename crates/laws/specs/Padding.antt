-- Padded lines: two lists of samples that differ in the padding alone, and what a call must make of them.
use Rattle.std.specs.Prelude.{◌≡◌, List, ℕ, ◌≤◌, ◌<◌, length, get_or}
use Rattle.answers.specs.Answers.{Answer}
use Rattle.plane.specs.declared.Plane.{Plane}
use Rattle.plane.specs.Place.{column_of}
use Rattle.reconstruct.specs.Reconstruct.{Input}
use Rattle.report.specs.Report as T

-- as many samples, and the same at every place whose column is below the width
pub record Agree (p : Plane) (a b : List ℕ) : Type 0 where
  pub as_long : length a ≡ length b
  pub shown : (k : ℕ) → column_of p k < p.width → get_or a k 0 ≡ get_or b k 0

-- as many samples, and the same at every place whose column is past it
pub record SamePadding (p : Plane) (a b : List ℕ) : Type 0 where
  pub count : length a ≡ length b
  pub padding : (k : ℕ) → p.width ≤ column_of p k → get_or a k 0 ≡ get_or b k 0

-- the same call with other samples
abbrev pub lent : Input → List ℕ → Input
lent u samples =
    record {
      samples = samples;
      plane = u.plane;
      x = u.x;
      y = u.y;
      size = u.size;
      tokens = u.tokens;
      dc = u.dc;
      ac = u.ac;
      tx_type = u.tx_type;
      lossless = u.lossless;
      depth = u.depth;
    }

abbrev pub lent_report : T.Input → List ℕ → T.Input
lent_report u samples = record { block = lent u.block samples; counts = u.counts; sums = u.sums }

-- of two calls that were lent `one` and `two`: the same answer, samples that agree, and each its own padding
pub record Unpadded (p : Plane) (one two : List ℕ) (answer₁ answer₂ : Answer) (after₁ after₂ : List ℕ) : Type 0 where
  pub same_answer : answer₁ ≡ answer₂
  pub agree : Agree p after₁ after₂
  pub kept₁ : SamePadding p one after₁
  pub kept₂ : SamePadding p two after₂

-- of two calls with the same report besides: the same report afterwards
pub record UnpaddedReport (u : T.Input) (two : List ℕ) (answer₁ answer₂ : Answer) (after₁ after₂ counts₁ counts₂ sums₁ sums₂ : List ℕ) : Type 0 where
  pub samples : Unpadded u.block.plane u.block.samples two answer₁ answer₂ after₁ after₂
  pub counts : counts₁ ≡ counts₂
  pub sums : sums₁ ≡ sums₂
