use mathlib.Core.Path.{◌≡◌}
use Prim.Native.Nat.{◌+◌, ◌*◌, ◌≤◌}
use lib.ListN.{length}
use Rattle.whole.specs.Lists.{fill}
use Rattle.vbk_read.specs.Header.{sample_at}
use Rattle.vbk_read.proofs.Cursor.read_samples.Given as goal

abbrev pub invariant-loop-k : goal.invariant-loop-k
invariant-loop-k l =
    (l.k ≤ l.count) × (l.c.at ≡ l.initial.c.at + 2 * l.k) × (length l.samples ≡ length l.initial.samples) × (l.samples ≡ fill l.k (sample_at l.s l.initial.c.at) l.initial.samples)
