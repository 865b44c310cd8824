-- `reconstruct::add_back4` meets its contract.
use mathlib.Core.Path.{sym, ◌∙◌}
use Prim.Native.Nat.{◌+◌, ◌*◌}
use native.Mathlib.Omega.{arith}
use lib.IntN.{pos}
use lib.ListN.{get_or}
use Rattle.plane.proofs.Block.{same_residuals}
use Rattle.reconstruct.proofs.Sixteen.{below_sixteen, few_length, few_at, few_within}
use Rattle.reconstruct.proofs.add_back4.Goals as goal

pub add_rows-requires : goal.add_rows-requires
add_rows-requires c =
    let rows = sym c.if-rows-eq4.true ∙ c.cut-rows.ensures in
    let cols = sym c.if-cols-eq4.true ∙ c.cut-cols.ensures in record { samples_of = (c.requires.0, omega (arith, cols), rows, cols); n0_bound = (omega arith, omega arith, λ i j h l. omega (arith, c.requires.1, below_sixteen i j h l), c.requires.2) }

pub add_back-requires : goal.add_back-requires
add_back-requires c =
    let b = c.args.block.now in
    rw c.front-few.ensures
    (c.requires.0, omega arith, omega arith, λ i j h l. omega (arith, few_length b, below_sixteen i j h l), few_within b _ c.requires.2)

pub returns : goal.returns
returns c =
    let a = c.args in
    let b = a.block.now in
    c.add_back.ensures
    ∙ rw c.front-few.ensures
    (same_residuals a.plane a.samples.now c.requires.0 a.top a.x a.y 4 _ (λ i j. get_or b (i * 4 + j) (pos 0))
    (λ i j h l. few_at b (i * 4 + j) (below_sixteen i j h l)))
