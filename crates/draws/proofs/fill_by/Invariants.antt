-- What was made so far stands at its places.
use Rattle.std.proofs.Common.{◌<◌, ℕ, slice_index_or}
use Rattle.draws.proofs.fill_by.Given as goal

abbrev pub invariant-loop-place : goal.invariant-loop-place
invariant-loop-place g l = (k : ℕ) (d : g.row.T.Denot) → k < l.place → g.F.Fn.post l.initial.make (k, tt) (slice_index_or l.list k d)
