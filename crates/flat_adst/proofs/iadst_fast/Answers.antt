use mathlib.Core.Path.{◌≡◌}
use native.Mathlib.Omega.{arith}
use Rattle.flat_adst.proofs.iadst_fast.Goals as goal
use Rattle.flat_adst.proofs.iadst_fast.Goals.{In_default}

pub iadst_fast4-requires : goal.iadst_fast4-requires
iadst_fast4-requires g c = rw c.in-2.is at c.requires.2

pub iadst_fast8-requires : goal.iadst_fast8-requires
iadst_fast8-requires g c = rw c.in-3.is at c.requires.2

pub iadst_fast16-requires : goal.iadst_fast16-requires
iadst_fast16-requires g c = let e : g.row.N ≡ 4 = omega arith in rw e at c.requires.2

pub returns-in-2 : goal.returns-in-2
returns-in-2 g c = rw c.in-2.is c.iadst_fast4.ensures

pub returns-in-3 : goal.returns-in-3
returns-in-3 g c = rw c.in-3.is c.iadst_fast8.ensures

pub returns-in_default : goal.returns-in_default
returns-in_default g c = let e : g.row.N ≡ 4 = omega arith in rw e c.iadst_fast16.ensures
