use mathlib.Core.Path.{refl}
use Prim.Native.Nat.{ℕ, ◌+◌, ◌*◌, ◌^◌, ◌<◌}
use native.Mathlib.Omega.{arith}
use lib.ListN.{length}
use Rattle.blocks.specs.Kind.{pass_of}
use Rattle.blocks.proofs.Passes.{valid_sized}
use Rattle.blocks.proofs.Places.{in_row}
use Rattle.row_pass.proofs.Turn.{line_safe, row_made, row_clear}
use Rattle.row_pass.proofs.row.Given.{Over}
use Rattle.row_pass.proofs.row.Goals as goal
use Rattle.row_pass.proofs.row.Goals.{After-side-n0}

-- number k of row i is a number of the block
inside : (g : Over) (c : After-side-n0 g) → (k : ℕ) → k < c.side-n0.result → c.args.i * c.side-n0.result + k * 1 < length c.args.block.now
inside g c k h =
    let e = c.side-n0.ensures.0 in
    rw e (in_row (2 ^ g.row.N) c.args.i k (length c.args.block.now) c.requires.3 (rw e at h) c.requires.4)

pub side-n0-requires : goal.side-n0-requires
side-n0-requires g c = (c.requires.0, c.requires.1)

pub load-requires : goal.load-requires
load-requires g c = (c.side-n0.ensures.1, inside g c.before)

pub line-requires : goal.line-requires
line-requires g c =
    let p = pass_of c.args.transform in
    let n = g.row.N in (
      c.requires.8,
      valid_sized 2 p n (omega arith) c.requires.2,
      line_safe p n c.args.i c.args.block.now c.args.t.now c.requires.0 c.requires.1 c.requires.6 (rw c.side-n0.ensures.0 at c.load.ensures) c.requires.5,
    )

pub store-requires : goal.store-requires
store-requires g c = (c.side-n0.ensures.1, inside g c.before.before.before.before.before)

pub returns : goal.returns
returns g c =
    let p = pass_of c.args.transform in
    let n = g.row.N in
    let e = c.side-n0.ensures.0 in
    let into = rw e at c.load.ensures in (
      row_made p n c.args.i c.args.block.now c.args.t.now c.requires.0 c.requires.1 c.requires.6 into c.requires.4 c.requires.3 c.line.ensures (rw e at c.store.ensures),
      row_clear p n c.args.i c.args.block.now c.args.t.now c.requires.0 c.requires.1 c.requires.6 into c.requires.2 c.line.ensures,
      refl,
    )
