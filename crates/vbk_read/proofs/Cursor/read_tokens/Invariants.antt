use mathlib.Core.Path.{◌≡◌}
use Prim.Native.Nat.{◌+◌, ◌*◌, ◌≤◌}
use lib.ListN.{length}
use Rattle.whole.specs.Lists.{fill}
use Rattle.vbk_read.specs.Records.{token_at}
use Rattle.vbk_read.proofs.Cursor.read_tokens.Given as goal

abbrev pub invariant-loop-k : goal.invariant-loop-k
invariant-loop-k l =
    (l.k ≤ l.count) × (l.c.at ≡ l.initial.c.at + 4 * l.k) × (length l.tokens ≡ length l.initial.tokens) × (l.tokens ≡ fill l.k (token_at l.s l.initial.c.at) l.initial.tokens)
