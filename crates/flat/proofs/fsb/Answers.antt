use mathlib.Core.List.{List}
use Prim.Native.Nat.{ℕ}
-- `flat::fsb` meets its contract.
use mathlib.Core.Path.{◌≡◌}
use lib.IntN.{ℤ, pos}
use lib.ListN.{get_or}
use mir.Syntax.{w64}
use Rattle.whole.proofs.Signed.{rd}
use Rattle.primitives.specs.Rotations.{apply_sb, set_pair, turn_x, turn_y}
use Rattle.steps.specs.Step2.{step2}
use Rattle.flat.proofs.Three.{rotated}
use Rattle.flat.proofs.fsb.Lts as lts
use Rattle.flat.proofs.fsb.Tie as tie
use Rattle.flat.proofs.fsb.Reads as reads
use Rattle.flat.proofs.fsb.Goals as goal

-- the place behind a call, with what was known there
abbrev After-struct_told-1 : Type 0
After-struct_told-1 = lts.After-struct_told tie.the-claims reads.Pre reads.Post

-- a value of the operands
abbrev of : (ℤ → ℤ → ℤ → ℤ) → List ℤ → ℕ → ℕ → ℤ → ℤ
of f t a b angle = f (get_or t a (pos 0)) (get_or t b (pos 0)) angle

x_is : (c : After-struct_told-1) → rd w64 c.turn-r.result.x ≡ of turn_x c.args.t.now c.args.a c.args.b c.args.angle
x_is c = rotated turn_x c.struct_told-1.given.0.1 c.requires.2 c.requires.3 c.ranges.angle c.turn-r.ensures.0

y_is : (c : After-struct_told-1) → rd w64 c.turn-r.result.y ≡ of turn_y c.args.t.now c.args.a c.args.b c.args.angle
y_is c = rotated turn_y c.struct_told-1.given.1.0.1 c.requires.2 c.requires.3 c.ranges.angle c.turn-r.ensures.1

pub returns-then-flip : goal.returns-then-flip
unfolding step2 apply_sb set_pair
returns-then-flip c = rw (c.if-flip.true, x_is c.before.before, y_is c.before.before)

pub returns-else-flip : goal.returns-else-flip
unfolding step2 apply_sb set_pair
returns-else-flip c = rw (c.if-flip.false, x_is c.before.before, y_is c.before.before)
