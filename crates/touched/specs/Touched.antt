-- The touched count of a record of a VBK file.
use Rattle.std.specs.Prelude.{cond, ℕ, ◌+◌, eqb}
use Rattle.answers.specs.Sizes.{side}
use Rattle.plane.specs.declared.Plane.{Plane}
use Rattle.plane.specs.Place.{written}
use Rattle.vbk_read.specs.declared.Head.{Head}

-- the touched count of a record in a plane: the samples written where its answer is 0
unfoldable pub touched_by : ℕ → Plane → Head → ℕ
touched_by answer p head = cond (eqb answer 0) (written p head.x head.y (side (head.size + 2))) 0
