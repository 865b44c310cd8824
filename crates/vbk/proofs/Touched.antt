-- The touched count of a record, told by the plane: the places that the block writes, and no more than the plane has.
use mathlib.Core.Path.{◌≡◌, sym}
use mathlib.Core.Bool.{Bool, true, false, cond}
use Prim.Native.Nat.{ℕ, ◌+◌, ◌*◌, ◌≤◌}
use native.Mathlib.Omega.{arith}
use lib.Dec.{eqb}
use Rattle.answers.specs.Sizes.{side}
use Rattle.plane.specs.declared.Plane.{Plane}
use Rattle.plane.specs.Place.{area_of, written}
use Rattle.plane.proofs.Count.{count_below, writes, written_count, written_most}
use Rattle.vbk_read.specs.declared.Head.{Head}
use Rattle.vbk.specs.Replay.{touched_by}

-- answered 0, it is the number of places that the record's block writes
pub touched_places : (p : Plane) (head : Head) → p.width ≤ p.stride → touched_by 0 p head ≡ count_below (writes p head.x head.y (side (head.size + 2))) (area_of p)
unfolding touched_by
touched_places p head wide = sym (written_count p head.x head.y (side (head.size + 2)) wide)

-- whatever the answer, it is at most the plane's area, padding left out
pub touched_area : (answer : ℕ) (p : Plane) (head : Head) → touched_by answer p head ≤ p.width * p.height
unfolding touched_by
touched_area answer p head = go (eqb answer 0)
  where
    go : (b : Bool) → cond b (written p head.x head.y (side (head.size + 2))) 0 ≤ p.width * p.height
    go true = written_most p head.x head.y (side (head.size + 2))
    go false = omega arith
