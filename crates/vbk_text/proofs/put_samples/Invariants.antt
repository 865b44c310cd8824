use Prim.Native.Nat.{◌+◌}
use lib.ListN.{get_or}
use Rattle.vbk_text.specs.Text.{word}
use Rattle.vbk_text.proofs.Writing.{Pieces}
use Rattle.vbk_text.proofs.put_samples.Given as goal

abbrev pub invariant-loop-c : goal.invariant-loop-c
invariant-loop-c l = Pieces l.initial.out l.initial.place l.count (λ k. word (get_or l.samples (l.from + k) 0)) l.c l.out l.place
