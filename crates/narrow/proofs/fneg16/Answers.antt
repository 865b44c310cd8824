use mathlib.Core.Path.{◌≡◌, ap, ◌∙◌}
use lib.IntN.{pos, neg_ℤ}
use lib.ListN.{get_or}
use mir.Syntax.{w32}
use mir.Facts.{to_z-of_z}
use Rattle.whole.proofs.Signed.{C, loc, minus, code, fits as room, value}
use Rattle.steps.specs.Step.{step}
use Rattle.narrow.specs.Inner.{fits}
use Rattle.narrow.proofs.Short.{short_fits}
use Rattle.narrow.proofs.Locals.{read}
use Rattle.narrow.proofs.fneg16.Goals as goal
use Rattle.narrow.proofs.fneg16.Goals.{After-wide-p}

-- the opposite number
abbrev less : After-wide-p → C
less c = minus (loc c.wide-p.ensures.1)

p_is : (c : After-wide-p) → c.wide-p.result ≡ get_or c.args.t.now c.args.i (pos 0)
p_is c = read c.wide-arg-1.given c.wide-p.ensures.0

less_is : (c : After-wide-p) → code w32 (less c) ≡ neg_ℤ (get_or c.args.t.now c.args.i (pos 0))
less_is c = value w32 (less c) tt ∙ ap neg_ℤ (p_is c)

pub overflow_cast-t : goal.overflow_cast-t
unfolding fits
overflow_cast-t c = rw (less_is c) (short_fits c.requires.1)

pub returns : goal.returns
unfolding step fits
returns c = rw (less_is c, to_z-of_z (short_fits c.requires.1))

pub overflow_sub-p : goal.overflow_sub-p
overflow_sub-p c = room w32 (less c) tt
