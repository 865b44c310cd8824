use Rattle.std.proofs.Common.{◌≡◌, length}
use Rattle.clip_parse.proofs.take_rows.Given as goal

abbrev pub invariant-loop-rest : goal.invariant-loop-rest
invariant-loop-rest l = length l.words ≡ length l.initial.words

abbrev pub decreases-loop-rest : goal.decreases-loop-rest
decreases-loop-rest l = length l.rest
