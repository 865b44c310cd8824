use mathlib.Core.Path.{◌≡◌}
use Prim.Native.Nat.{◌-◌}
use lib.ListN.{length}
use Rattle.vbk_read.specs.Records.{Recorded}
use Rattle.vbk.proofs.Records.{Reading}
use Rattle.vbk.proofs.read_records.Given as goal

-- the reader is one of the file, and what it holds is the record at its place; so many records are done
abbrev pub invariant-loop-reader : goal.invariant-loop-reader
invariant-loop-reader g l =
    record {
      file_is : l.reader.file.now ≡ l.file;
      recorded : Recorded l.file l.reader.at l.reader.record;
      reading : Reading g.B.Reconstruct.rebuilds l.file l.from (g.B.Reconstruct.beside l.initial.samples l.initial.blocks) l.initial.answers (g.B.Reconstruct.beside l.samples l.blocks) l.answers l.reader.at l.tally.count l.tally.touched;
    }

abbrev pub decreases-loop-reader : goal.decreases-loop-reader
decreases-loop-reader g l = length l.file - l.reader.at
