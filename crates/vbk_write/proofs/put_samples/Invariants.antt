use lib.ListN.{length, get_or}
use Rattle.vbk_text.proofs.Writing.{Pieces}
use Rattle.vbk_write.specs.Bytes.{two}
use Rattle.vbk_write.proofs.put_samples.Given as goal

abbrev pub invariant-loop-k : goal.invariant-loop-k
invariant-loop-k l = Pieces l.initial.out l.initial.place (length l.samples) (λ i. two (get_or l.samples i 0)) l.k l.out l.place
