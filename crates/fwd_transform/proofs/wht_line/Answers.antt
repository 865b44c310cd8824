use mathlib.Core.Path.{◌∙◌}
use native.Mathlib.Omega.{arith}
use Rattle.blocks.specs.Block.{line}
use Rattle.blocks.specs.Inner.{change_line}
use Rattle.fwd_transform.proofs.wht_line.Goals as goal

pub inverse_wht-requires : goal.inverse_wht-requires
unfolding line
inverse_wht-requires c = (omega arith, rw c.load.ensures c.requires.1)

pub returns : goal.returns
unfolding line change_line
returns c =
    c.store.ensures ∙ rw (c.inverse_wht.ensures, c.load.ensures)
