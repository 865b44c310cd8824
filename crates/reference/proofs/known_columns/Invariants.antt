use mathlib.Core.Bool.{not}
use lib.Dec.{eqb}
use Prim.Native.Nat.{◌-◌}
use Rattle.blocks.specs.Inverse.{rounding}
use Rattle.blocks.specs.Kind.{pass_of}
use Rattle.blocks.proofs.Turns.{Turn}
use Rattle.reference.proofs.known_columns.Given as goal

abbrev pub invariant-loop-j : goal.invariant-loop-j
invariant-loop-j g l = Turn (pass_of l.transform) l.n l.n0 (rounding l.n (not (eqb g.row.LOSSLESS 0))) (λ j. j) l.n0 l.initial.block l.block l.t l.j

abbrev pub decreases-loop-j : goal.decreases-loop-j
decreases-loop-j g l = l.n0 - l.j
