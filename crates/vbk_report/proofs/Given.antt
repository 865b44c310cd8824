-- What a record's reconstruction is given, and how long the lists are afterwards.
use mathlib.Core.Path.{◌≡◌, refl}
use mathlib.Core.Bool.{Bool, true, false, cond}
use mathlib.Core.List.{List}
use Prim.Native.Nat.{ℕ}
use lib.Dec.{eqb, ltb}
use lib.IntN.{ℤ, pos}
use lib.ListN.{length}
use Rattle.whole.proofs.Lists.{length_tabulate}
use Rattle.plane.specs.declared.Plane.{Plane}
use Rattle.report.specs.Report.{Input, answer_of, noted, list_after}
use Rattle.vbk_read.specs.Header.{depth_of, width_of, height_of}
use Rattle.vbk_read.specs.Records.{size_at, lossless_at, head_at, tokens_at, end_answer, ends}
use Rattle.vbk_read.specs.declared.Fields.{Fields}
use Rattle.vbk_read.specs.declared.Head.{Head}
use Rattle.vbk.specs.Replay.{block_of, rebuild_at, rebuilt_at, record_at}
use Rattle.vbk_report.specs.Lists.{beside}
use Rattle.vbk_report.specs.Run.{given, beside_after, report_reconstruction}
use Rattle.vbk_report.proofs.Lists.{samples_in_lem, counts_in_lem, sums_in_lem}

-- a block with a report beside the plane
module _ (samples counts sums : List ℕ) (fields : Fields) (head : Head) (tokens : List ℤ) {dc ac : ℤ} {plane : Plane} (p : plane ≡ record { width = fields.width; height = fields.height; stride = fields.width }) (d : dc ≡ pos head.dc) (a : ac ≡ pos head.ac) where
  abbrev pub handed : Input
  handed =
      record {
        block =
            record {
              samples = samples;
              plane = plane;
              x = head.x;
              y = head.y;
              size = head.size;
              tokens = tokens;
              dc = record { 0 = dc };
              ac = record { 0 = ac };
              tx_type = head.tx_type;
              lossless = eqb head.lossless 1;
              depth = fields.depth;
            };
        counts = counts;
        sums = sums;
      }

  pub answer_is : answer_of handed ≡ (block_of report_reconstruction fields head tokens (beside samples counts sums)).answer
  unfolding report_reconstruction
  answer_is = rw (p, d, a, samples_in_lem samples counts sums, counts_in_lem samples counts sums, sums_in_lem samples counts sums)

  pub lists_are : beside_after handed ≡ (block_of report_reconstruction fields head tokens (beside samples counts sums)).samples
  unfolding report_reconstruction
  lists_are = rw (p, d, a, samples_in_lem samples counts sums, counts_in_lem samples counts sums, sums_in_lem samples counts sums)

-- what the record at a place is given
abbrev pub given_at : List ℕ → ℕ → List ℕ → Input
given_at s at l =
    given l (width_of s) (height_of s) (head_at s at).x (head_at s at).y (size_at s at) (tokens_at s at) (pos (head_at s at).dc) (pos (head_at s at).ac) (head_at s at).tx_type (eqb (lossless_at s at) 1) (depth_of s)

-- a record that its own checks refuse, and one that they pass
module _ (s : List ℕ) (at : ℕ) (l : List ℕ) where
  pub last_record : ends s at ≡ true → record_at report_reconstruction s at l ≡ record { answer = end_answer s at; samples = l }
  unfolding record_at
  last_record p = rw p

  pub bad_record : ends s at ≡ false → ltb 1 (lossless_at s at) ≡ true → record_at report_reconstruction s at l ≡ record { answer = 14; samples = l }
  unfolding record_at rebuilt_at
  bad_record p q = rw (p, q)

  pub good_record : ends s at ≡ false → ltb 1 (lossless_at s at) ≡ false → record_at report_reconstruction s at l ≡ record { answer = answer_of (given_at s at l); samples = beside_after (given_at s at l) }
  unfolding record_at rebuilt_at rebuild_at report_reconstruction
  good_record p q = rw (p, q)

-- a list of the report stays as long as it is
pub list_length : (f : ℕ → ℕ) (u : Input) (list : List ℕ) → length (list_after f u list) ≡ length list
unfolding list_after noted
list_length f u list = go (eqb (answer_of u) 0)
  where
    go : (b : Bool) → length (cond b (noted f u.block.size (length u.block.tokens) u.block.tokens list) list) ≡ length list
    go true = length_tabulate _ (length list)
    go false = refl
