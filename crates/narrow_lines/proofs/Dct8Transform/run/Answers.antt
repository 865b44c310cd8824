-- `run` of `Dct8` meets its contract: its calls are the pieces of the transform.
use mathlib.Core.Path.{refl}
use mathlib.Core.List.{[]}
use Prim.Native.Nat.{ℕ}
use lib.Dec.{lit<, lit≤}
use Rattle.steps.specs.Step.{step}
use Rattle.blocks.specs.Inverse.{apply}
use Rattle.flat.proofs.Straight.{call, next, alone}
use Rattle.narrow_dct.specs.Inner.{pieces8}
use Rattle.narrow_dct.proofs.Rows.{Called, cut8, dct_begin, dct_end}
use Rattle.narrow_lines.proofs.Dct8Transform.run.Goals as goal
use Rattle.narrow_lines.proofs.Dct8Transform.run.Given.{Over}
use Rattle.narrow_lines.proofs.Dct8Transform.run.Goals.{Start, After-permute, After-level2, After-level3}

-- after k pieces
abbrev At : ℕ → Type 0
At k = Called pieces8 k

abbrev at0 : (g : Over) → Start g → At 0
at0 g c = dct_begin cut8 c.args.t.now (rw c.told-t (lit≤ tt)) c.requires

abbrev at1 : (g : Over) → After-permute g → At 1
at1 g c = next [] (at0 g c.before.before) (lit< tt) (alone step c.permute.ensures)

abbrev at2 : (g : Over) → After-level2 g → At 2
at2 g c = next [] (at1 g c.before.before) (lit< tt) c.level2.ensures

abbrev at3 : (g : Over) → After-level3 g → At 3
at3 g c = next [] (at2 g c.before.before) (lit< tt) c.level3.ensures

pub level2-requires : goal.level2-requires
level2-requires g c = call [] (at1 g c.before) (lit< tt)

pub level3-requires : goal.level3-requires
level3-requires g c = call [] (at2 g c.before) (lit< tt)

pub returns : goal.returns
unfolding apply
returns g c = dct_end cut8 (at3 g c) refl
