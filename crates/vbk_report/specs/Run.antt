-- The run with a report beside it: the run of `vbk`, and its reconstruction is that of `reconstruct_block_report`.
use Rattle.std.specs.Prelude.{Bool, List, ℕ, ℤ, length}
use Rattle.report.specs.Classes.{one, itself}
use Rattle.report.specs.Report.{Input, answer_of, samples_after, list_after}
use Rattle.vbk_read.specs.Header.{samples_of, first_record}
use Rattle.vbk.specs.Replay.{Reconstruction, After, records}
use Rattle.vbk_report.specs.Lists.{beside, samples_in, counts_in, sums_in}

-- what `reconstruct_block_report` is given, for the numbers of a record; samples, counts and sums in one list
abbrev pub given : (l : List ℕ) (width height x y size : ℕ) (tokens : List ℤ) (dc ac : ℤ) (tx_type : ℕ) (lossless : Bool) (depth : ℕ) → Input
given l width height x y size tokens dc ac tx_type lossless depth =
    record {
      block =
          record {
            samples = samples_in l;
            plane = record { width = width; height = height; stride = width };
            x = x;
            y = y;
            size = size;
            tokens = tokens;
            dc = record { 0 = dc };
            ac = record { 0 = ac };
            tx_type = tx_type;
            lossless = lossless;
            depth = depth;
          };
      counts = counts_in l;
      sums = sums_in l;
    }

-- samples, counts and sums afterwards
abbrev pub beside_after : Input → List ℕ
beside_after u = beside (samples_after u) (list_after one u u.counts) (list_after itself u u.sums)

-- its answer, and the list afterwards
unfoldable pub report_reconstruction : Reconstruction
report_reconstruction l width height x y size tokens dc ac tx_type lossless depth =
    let u = given l width height x y size tokens dc ac tx_type lossless depth in
    record { answer = answer_of u; samples = beside_after u }

-- the records of a file, from its samples and the report as it is lent
unfoldable pub report_run : (s counts sums : List ℕ) → After
report_run s counts sums = records report_reconstruction s (length s) (first_record s) (beside (samples_of s) counts sums)
