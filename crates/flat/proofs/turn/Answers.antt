-- `flat::turn` meets its contract.
use mir.Syntax.{w64}
use mir.Facts.{to_z-of_z}
use Rattle.whole.proofs.Signed.{C, loc, ◌⊕◌, ◌⊖◌, ◌⊗◌, fits, value}
use Rattle.flat.proofs.Three.{three_x, three_y}
use Rattle.flat.proofs.turn.Goals as goal
use Rattle.flat.proofs.turn.Goals.{After-sin64-s}

module _ (c : After-sin64-s) where
  abbrev p : C
  p = loc c.requires.0

  abbrev q : C
  q = loc c.requires.1

  abbrev cos : C
  cos = loc c.cos64-c.ensures.1

  abbrev sin : C
  sin = loc c.sin64-s.ensures.1

  abbrev xs : C
  xs = (p ⊕ q) ⊗ cos ⊖ q ⊗ (cos ⊕ sin)

  abbrev ys : C
  ys = (p ⊕ q) ⊗ cos ⊕ p ⊗ (sin ⊖ cos)

pub returns : goal.returns
returns c =
    let g = to_z-of_z c.ranges.angle in
    let k = rw g at c.cos64-c.ensures.0 in
    let z = rw g at c.sin64-s.ensures.0 in
    (rw (value w64 (xs c) tt, k, z) (three_x c.args.p c.args.q c.args.angle), rw (value w64 (ys c) tt, k, z) (three_y c.args.p c.args.q c.args.angle))

pub overflow_add-k : goal.overflow_add-k
overflow_add-k c = fits w64 (p c ⊕ q c) tt

pub overflow_mul-k : goal.overflow_mul-k
overflow_mul-k c = fits w64 ((p c ⊕ q c) ⊗ cos c) tt

pub overflow_add-result : goal.overflow_add-result
overflow_add-result c = fits w64 (cos c ⊕ sin c) tt

pub overflow_mul-result : goal.overflow_mul-result
overflow_mul-result c = fits w64 (q c ⊗ (cos c ⊕ sin c)) tt

pub overflow_sub-result : goal.overflow_sub-result
overflow_sub-result c = fits w64 (xs c) tt

pub overflow_sub-result-2 : goal.overflow_sub-result-2
overflow_sub-result-2 c = fits w64 (sin c ⊖ cos c) tt

pub overflow_mul-result-2 : goal.overflow_mul-result-2
overflow_mul-result-2 c = fits w64 (p c ⊗ (sin c ⊖ cos c)) tt

pub overflow_add-result-2 : goal.overflow_add-result-2
overflow_add-result-2 c = fits w64 (ys c) tt
