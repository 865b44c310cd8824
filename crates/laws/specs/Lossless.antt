-- Lossless coding of a 4 by 4 block: what is coded, and what comes back.
use Rattle.std.specs.Prelude.{Ok, ◌≡◌, true, false, cond, ◌&&◌, List, ℕ, ◌+◌, ◌*◌, ◌/◌, ◌%◌, ◌≤◌, ◌<◌, ltb, ℤ, pos, ◌-ℤ◌, length, get_or}
use Rattle.whole.specs.Lists.{tabulate}
use Rattle.whole.specs.Within.{Within}
use Rattle.answers.specs.Answers.{Answer}
use Rattle.answers.specs.Bad.{bad_depth}
use Rattle.quant.specs.declared.DcQuant.{DcQuant}
use Rattle.quant.specs.declared.AcQuant.{AcQuant}
use Rattle.quant.specs.Places.{dequant_all}
use Rattle.plane.specs.declared.Plane.{Plane}
use Rattle.plane.specs.Place.{place_of, SamplesOf}
use Rattle.plane.specs.Plane.{plane_after}
use Rattle.reconstruct.specs.Reconstruct.{Input, largest}

-- a plane that holds the prediction, a place in it, a source of 4 by 4 samples, and the sixteen differences, row by row
pub record Coded : Type 0 where
  pub samples : List ℕ
  pub plane : Plane
  pub x : ℕ
  pub y : ℕ
  pub dc : DcQuant
  pub ac : AcQuant
  pub tx_type : ℕ
  pub depth : ℕ
  pub source : ℕ → ℕ → ℕ
  pub differences : List ℤ

-- number (i, j) of the block lies in the plane
pub record Shown (c : Coded) (i j : ℕ) : Type 0 where
  pub row : i < 4
  pub column : j < 4
  pub high : c.y + i < c.plane.height
  pub wide : c.x + j < c.plane.width

-- its place
abbrev pub place_in : Coded → ℕ → ℕ → ℕ
place_in c i j = place_of c.plane (c.y + i) (c.x + j)

-- both quantizers are 4; source and prediction are within the depth, and each difference is theirs; beyond the plane it is any number within the largest sample
pub record Lossless (c : Coded) : Type 0 where
  pub depth_ok : bad_depth c.depth ≡ false
  pub samples_ok : SamplesOf c.plane c.samples
  pub dc_four : c.dc.0 ≡ pos 4
  pub ac_four : c.ac.0 ≡ pos 4
  pub sixteen : length c.differences ≡ 16
  pub source_ok : (i j : ℕ) → Shown c i j → c.source i j ≤ largest c.depth
  pub prediction_ok : (i j : ℕ) → Shown c i j → get_or c.samples (place_in c i j) 0 ≤ largest c.depth
  pub inside : (i j : ℕ) → Shown c i j → get_or c.differences (i * 4 + j) (pos 0) ≡ pos (c.source i j) -ℤ pos (get_or c.samples (place_in c i j) 0)
  pub outside : (i j : ℕ) → i < 4 → j < 4 → (Shown c i j → ⊥) → Within (largest c.depth) (get_or c.differences (i * 4 + j) (pos 0))

-- the call that gets the tokens
abbrev pub decoding : Coded → List ℤ → Input
decoding c tokens =
    record {
      samples = c.samples;
      plane = c.plane;
      x = c.x;
      y = c.y;
      size = 0;
      tokens = tokens;
      dc = c.dc;
      ac = c.ac;
      tx_type = c.tx_type;
      lossless = true;
      depth = c.depth;
    }

-- done, the source at every sample of the block inside the plane, and no other sample moved
pub record Restored (c : Coded) (answer : Answer) (after : List ℕ) : Type 0 where
  pub answered : answer ≡ Ok tt
  pub shows : (i j : ℕ) → Shown c i j → get_or after (place_in c i j) 0 ≡ c.source i j
  pub others : (k : ℕ) → ((i j : ℕ) → Shown c i j → k ≡ place_in c i j → ⊥) → get_or after k 0 ≡ get_or c.samples k 0
  pub count : length after ≡ length c.samples

-- one way to make the differences: source minus prediction, and 0 beyond the plane
unfoldable pub differences_of : Plane → List ℕ → ℕ → ℕ → (ℕ → ℕ → ℕ) → List ℤ
differences_of p samples x y source =
    tabulate
    (λ k. cond (ltb (y + k / 4) p.height && ltb (x + k % 4) p.width) (pos (source (k / 4) (k % 4)) -ℤ pos (get_or samples (place_of p (y + k / 4) (x + k % 4)) 0)) (pos 0))
    16

-- what a decoder would show whose forward and inverse transforms both do nothing: the differences are the tokens, and their coefficients the residual
unfoldable pub shown_by_nothing : Coded → List ℕ
shown_by_nothing c =
    plane_after c.plane (largest c.depth) c.x c.y 4 (λ i j. get_or (dequant_all 0 c.dc c.ac c.differences) (i * 4 + j) (pos 0)) c.samples
