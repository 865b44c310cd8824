-- What only the contracts of inner functions read.
use Rattle.std.specs.Prelude.{◌≡◌, ℤ}
use Rattle.whole.specs.Round.{Round2}
use Rattle.primitives.specs.Rotations.{turn_x, turn_y}

-- x and y are the rounded values of B
pub record Turned (p q angle x y : ℤ) : Type 0 where
  pub x_is : x ≡ Round2 (turn_x p q angle) 14
  pub y_is : y ≡ Round2 (turn_y p q angle) 14
