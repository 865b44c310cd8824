use mathlib.Core.List.{List}
use Prim.Native.Nat.{ℕ}
-- `flat::fb` meets its contract.
use mathlib.Core.Path.{◌≡◌, ◌∙◌, ap}
use lib.Dec.{lit≤}
use lib.IntN.{ℤ, pos}
use lib.ListN.{get_or}
use mir.Syntax.{w64}
use Rattle.whole.specs.Round.{Round2}
use Rattle.whole.proofs.Signed.{rd, rd_ok}
use Rattle.whole.proofs.Within.{within_le}
use Rattle.primitives.specs.Rotations.{apply_b, set_pair, turn_x, turn_y}
use Rattle.steps.specs.Step.{step}
use Rattle.flat.proofs.Three.{turn_x_within, turn_y_within, rotated}
use Rattle.flat.proofs.fb.Lts as lts
use Rattle.flat.proofs.fb.Tie as tie
use Rattle.flat.proofs.fb.Reads as reads
use Rattle.flat.proofs.fb.Goals as goal
use Rattle.flat.proofs.fb.Goals.{After-round2-y}

-- the place behind a call, with what was known there
abbrev After-struct_told-1 : Type 0
After-struct_told-1 = lts.After-struct_told tie.the-claims reads.Pre reads.Post

-- a value of the operands
abbrev of : (ℤ → ℤ → ℤ → ℤ) → List ℤ → ℕ → ℕ → ℤ → ℤ
of f t a b angle = f (get_or t a (pos 0)) (get_or t b (pos 0)) angle

x_is : (c : After-struct_told-1) → rd w64 c.turn-r.result.x ≡ of turn_x c.args.t.now c.args.a c.args.b c.args.angle
x_is c = rotated turn_x c.struct_told-1.given.0.1 c.requires.2 c.requires.3 c.ranges.angle c.turn-r.ensures.0

y_is : (c : After-struct_told-1) → rd w64 c.turn-r.result.y ≡ of turn_y c.args.t.now c.args.a c.args.b c.args.angle
y_is c = rotated turn_y c.struct_told-1.given.1.0.1 c.requires.2 c.requires.3 c.ranges.angle c.turn-r.ensures.1

-- rounded
x_rounded : (c : After-round2-y) → rd w64 c.round2-x.result ≡ Round2 (of turn_x c.args.t.now c.args.a c.args.b c.args.angle) 14
x_rounded c = let r = c.round2-x in rd_ok w64 r.type_inv ∙ r.ensures ∙ ap (λ (z : ℤ). Round2 z 14) (x_is c.before.before.before)

y_rounded : (c : After-round2-y) → rd w64 c.round2-y.result ≡ Round2 (of turn_y c.args.t.now c.args.a c.args.b c.args.angle) 14
y_rounded c = let r = c.round2-y in rd_ok w64 r.type_inv ∙ r.ensures ∙ ap (λ (z : ℤ). Round2 z 14) (y_is c.before.before.before)

pub round2-x-requires : goal.round2-x-requires
round2-x-requires c =
    (lit≤ tt, lit≤ tt, rw (x_is c.before) (within_le (lit≤ tt) (turn_x_within c.args.angle c.requires.2 c.requires.3)))

pub round2-y-requires : goal.round2-y-requires
round2-y-requires c =
    (lit≤ tt, lit≤ tt, rw (y_is c.before.before.before) (within_le (lit≤ tt) (turn_y_within c.args.angle c.requires.2 c.requires.3)))

pub returns-then-flip : goal.returns-then-flip
unfolding step apply_b set_pair
returns-then-flip c = rw (c.if-flip.true, x_rounded c.before, y_rounded c.before)

pub returns-else-flip : goal.returns-else-flip
unfolding step apply_b set_pair
returns-else-flip c = rw (c.if-flip.false, x_rounded c.before, y_rounded c.before)
