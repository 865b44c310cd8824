-- `narrow_lines::load` meets its contract: after a eights and b turns more, the first 8 a + b numbers of the line stand in T.
use mathlib.Core.Path.{◌≡◌}
use Prim.Native.Nat.{◌<◌, ◌+◌, ◌*◌}
use native.Mathlib.Omega.{arith}
use lib.IntN.{pos}
use lib.ListN.{get_or}
use mir.Syntax.{w16}
use mir.Facts.{to_z-of_z}
use Rattle.whole.proofs.Lists.{fill_none, fill_more}
use Rattle.blocks.specs.Block.{line}
use Rattle.narrow.specs.Tile.{raster}
use Rattle.narrow_lines.specs.Inner.{start, gap}
use Rattle.narrow_lines.proofs.Tiles.{spot_lt, spot_at}
use Rattle.narrow_lines.proofs.load.Goals as goal
use Rattle.narrow_lines.proofs.load.Given.{Over}
use Rattle.narrow_lines.proofs.load.Goals.{After-spot, In-loop-b}

-- the number is one of the line, and its place exists
inside : (g : Over) (c : In-loop-b g) → 8 * c.loop-a.a + c.loop-b.b < c.args.n0
inside g c = omega arith

below : (g : Over) (c : After-spot g) → c.spot.result < 1024
below g c =
    rw c.spot.ensures (spot_lt g.D.Direction.goes_down c.args.n0 c.args.i (8 * c.loop-a.a + c.loop-b.b) c.requires.0 c.requires.1 (inside g c.before))

pub loop-b-init : goal.loop-b-init
loop-b-init g c = (omega arith, λ u e. let f : 8 * c.loop-a.a + 0 ≡ 8 * c.loop-a.a = omega arith in rw f e)

pub loop-b-preserved : goal.loop-b-preserved
loop-b-preserved g c =
    let k = 8 * c.loop-a.a + c.loop-b.b in
    let f : k + 1 ≡ 8 * c.loop-a.a + (c.loop-b.b + 1) = omega arith in (
      omega arith,
      λ u e. rw (← f) (fill_more (λ k. get_or (raster c.args.n0 c.args.z.now) (start g.D.Direction.goes_down c.args.n0 c.args.i + k * gap g.D.Direction.goes_down c.args.n0) (pos 0)) u k (c.loop-b.invariant.1 u e)
          (rw (to_z-of_z {w = w16} (record { sfits = c.t-1.given }), c.spot.ensures, spot_at g.D.Direction.goes_down c.args.n0 c.args.z.now c.args.i k c.requires.1 (inside g c.before.before)))),
    )

pub loop-a-preserved : goal.loop-a-preserved
loop-a-preserved g c =
    let f : 8 * c.loop-a.a + c.loop-b.b ≡ 8 * (c.loop-a.a + 1) = omega arith in
    (omega arith, rw f at (c.loop-b.invariant.1 c.args.t.now c.loop-a.invariant.1))

pub returns : goal.returns
unfolding line
returns g c =
    let f : 8 * c.loop-a.a ≡ c.args.n0 = omega (arith, c.requires.0.0) in
    rw (← c.requires.2) (rw f at c.loop-a.invariant.1)

pub loop-a-init : goal.loop-a-init
loop-a-init g c = (omega arith, fill_none _ _)

pub overflow_mul-k : goal.overflow_mul-k
overflow_mul-k g c = omega (arith, inside g c)

pub overflow_add-k : goal.overflow_add-k
overflow_add-k g c = omega (arith, inside g c)

pub spot-requires : goal.spot-requires
spot-requires g c = (c.requires.0.1, c.requires.1, inside g c)

pub offset_bounds-z-spot : goal.offset_bounds-z-spot
offset_bounds-z-spot g c = omega (arith, below g c)

pub bounds-z-spot : goal.bounds-z-spot
bounds-z-spot g c = omega (arith, below g c)

pub offset_bounds-t-k : goal.offset_bounds-t-k
offset_bounds-t-k g c = omega (arith, inside g c.before.before)

pub bounds-t-k : goal.bounds-t-k
bounds-t-k g c = omega (arith, inside g c.before.before)
