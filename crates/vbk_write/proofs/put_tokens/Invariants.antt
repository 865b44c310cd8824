use Prim.Native.Nat.{◌+◌}
use lib.IntN.{pos}
use lib.ListN.{get_or}
use Rattle.vbk_text.proofs.Writing.{Pieces}
use Rattle.vbk_write.specs.Bytes.{four}
use Rattle.vbk_write.proofs.put_tokens.Given as goal

abbrev pub invariant-loop-j : goal.invariant-loop-j
invariant-loop-j l = Pieces l.initial.out l.initial.place l.count (λ i. four (get_or l.tokens (l.from + i) (pos 0))) l.j l.out l.place
