-- `narrow_lines::lines` meets its contract.
use Prim.Native.Nat.{◌+◌, ◌*◌, ◌≤◌}
use native.Mathlib.Omega.{arith}
use Rattle.answers.specs.Sizes.{side}
use Rattle.blocks.specs.Inverse.{lossy}
use Rattle.narrow.specs.Tile.{raster}
use Rattle.narrow_lines.proofs.Strips.{first_none, first_keeps, first_next, first_done}
use Rattle.narrow_lines.proofs.lines.Goals as goal

pub eight_lines-requires : goal.eight_lines-requires
eight_lines-requires g c =
    let l : 8 * c.loop-q.q + 8 ≤ side c.args.n = omega (arith, c.requires.3, c.loop-q-test.true) in (
      c.requires.0,
      c.requires.1,
      c.requires.2,
      l,
      c.loop-q.invariant.1.long,
      first_keeps g.D.Direction.goes_down (lossy c.args.use_dct) c.args.n c.loop-q.q (raster (side c.args.n) c.args.z.now) c.loop-q.invariant.1 l
          (λ i h. c.requires.5 i (omega (arith, c.loop-q-test.true))),
    )

pub loop-q-preserved : goal.loop-q-preserved
loop-q-preserved g c =
    (omega (arith, c.loop-q-test.true), first_next g.D.Direction.goes_down (lossy c.args.use_dct) c.args.n c.loop-q.q (raster (side c.args.n) c.args.z.now) c.loop-q.invariant.1 c.eight_lines.ensures)

pub returns : goal.returns
returns g c =
    first_done g.D.Direction.goes_down (lossy c.args.use_dct) c.args.n c.loop-q.q (raster (side c.args.n) c.args.z.now) c.loop-q.invariant.1 c.args.strips c.loop-q.invariant.0 c.loop-q-test.false

pub loop-q-init : goal.loop-q-init
loop-q-init g c = (omega arith, first_none g.D.Direction.goes_down (lossy c.args.use_dct) c.args.n c.requires.4)
