-- `narrow_lines::eight` meets its contract: a turn is one line.
use mathlib.Core.Path.{◌≡◌, ◌∙◌}
use Prim.Native.Nat.{◌*◌}
use native.Mathlib.Omega.{arith}
use Rattle.answers.specs.Sizes.{side}
use Rattle.narrow.specs.Tile.{raster}
use Rattle.narrow_lines.proofs.Strips.{strip_none, strip_done, strip_fine, strip_next}
use Rattle.narrow_lines.proofs.eight.Goals as goal

pub loop-j-init : goal.loop-j-init
loop-j-init g c =
    let T = g.T.Transform in
    (omega arith, strip_none g.D.Direction.goes_down T.pass T.n (8 * c.args.q) c.requires.1)

pub run-requires : goal.run-requires
run-requires g c =
    let T = g.T.Transform in
    let size = g.met.T.Transform.size in
    let e : c.SIDE.result ≡ side T.n = c.SIDE.ensures ∙ size.0 in
    let loaded = rw e at c.load.ensures in
    (strip_fine g.D.Direction.goes_down T.pass T.n (8 * c.args.q) c.loop-j.j (raster (side T.n) c.args.z.now) c.loop-j.invariant.1 loaded size.1.1 c.requires.2 c.loop-j-test.true
    c.requires.0).1

pub loop-j-preserved : goal.loop-j-preserved
loop-j-preserved g c =
    let T = g.T.Transform in
    let size = g.met.T.Transform.size in
    let e : c.SIDE.result ≡ side T.n = c.SIDE.ensures ∙ size.0 in
    let f : c.SIDE-in-loop-j.result ≡ side T.n = c.SIDE-in-loop-j.ensures ∙ size.0 in
    let loaded = rw e at c.load.ensures in
    let stored = rw f at c.store.ensures in (
      omega (arith, c.loop-j-test.true),
      strip_next g.D.Direction.goes_down T.pass T.n (8 * c.args.q) c.loop-j.j (raster (side T.n) c.args.z.now) c.loop-j.invariant.1 loaded c.run.ensures stored,
    )

pub returns : goal.returns
returns g c =
    let T = g.T.Transform in
    strip_done g.D.Direction.goes_down T.pass T.n (8 * c.args.q) c.loop-j.j (raster (side T.n) c.args.z.now) c.loop-j.invariant.0 c.loop-j-test.false c.loop-j.invariant.1
