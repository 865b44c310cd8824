use lib.IntN.{pos}
use mir.Syntax.{w32}
use mir.Facts.{to_z-of_z}
use Rattle.whole.specs.Round.{Round2}
use Rattle.whole.proofs.Signed.{C, loc, lit, ◌⊕◌, fits, value}
use Rattle.whole.proofs.Within.{sfits_shr}
use Rattle.narrow.proofs.round14.Goals as goal
use Rattle.narrow.proofs.round14.Goals.{Start}

abbrev sum : Start → C
sum c = loc c.requires ⊕ lit (pos 8192)

pub returns : goal.returns
unfolding Round2
returns c = rw (value w32 (sum c) tt) (to_z-of_z (sfits_shr 16384 (rw (value w32 (loc c.requires) tt) at (fits w32 (sum c) tt))))

pub overflow_add-result : goal.overflow_add-result
overflow_add-result c = fits w32 (sum c) tt
