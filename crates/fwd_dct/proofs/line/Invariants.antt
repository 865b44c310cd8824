use mathlib.Core.Path.{◌≡◌}
use Prim.Native.Nat.{◌+◌, ◌*◌}
use lib.IntN.{pos}
use lib.ListN.{length, get_or, set}
use Rattle.whole.specs.Inner.{times}
use Rattle.answers.specs.Sizes.{side}
use Rattle.blocks.specs.Block.{line}
use Rattle.fwd_dct.specs.Inner.{line_of}
use Rattle.fwd_dct.proofs.line.Given as goal

abbrev pub invariant-loop-m : goal.invariant-loop-m
invariant-loop-m l =
    (l.block ≡ times (2 * l.m) (λ k s. set s (l.start + k * l.step) (get_or (line_of l.n (line l.start l.step (side l.n) l.initial.block)) k (pos 0))) l.initial.block)
    × (length l.block ≡ length l.initial.block)
