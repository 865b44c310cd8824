use mathlib.Core.Path.{◌≡◌}
use lib.ListN.{length}
use Rattle.vbk_text.proofs.Writing.{Pieces}
use Rattle.vbk_write.specs.Clip.{entry_bytes}
use Rattle.vbk_write.specs.Lent.{tokens_before, entry_of}
use Rattle.vbk_write.specs.Inner.{told}
use Rattle.vbk_write.proofs.put_records.Given as goal

abbrev pub invariant-loop-k : goal.invariant-loop-k
invariant-loop-k l =
    Pieces l.initial.out l.initial.place (length l.l.xs.now) (λ i. entry_bytes (entry_of (told l.l) i)) l.k l.out l.place
    × (l.from ≡ tokens_before l.l.counts.now l.k)
