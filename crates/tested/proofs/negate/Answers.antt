-- `tested::negate` meets its contract.
use mathlib.Core.Path.{◌≡◌, sym, ap, ◌∙◌}
use mathlib.Core.Bool.{not}
use lib.IntN.{pos, neg_ℤ}
use lib.ListN.{get_or}
use mir.Syntax.{w32}
use Rattle.whole.proofs.Signed.{C, loc, minus, code, fits as room, value}
use Rattle.steps.specs.Step.{Neg}
use Rattle.narrow.specs.Inner.{fits}
use Rattle.narrow.proofs.Locals.{read}
use Rattle.tested.proofs.Answers.{stops, failed, passed}
use Rattle.tested.proofs.negate.Goals as goal
use Rattle.tested.proofs.negate.Goals.{After-is_short, After-wide-p}

-- the opposite number
abbrev less : After-wide-p → C
less c = minus (loc c.wide-p.ensures.1)

p_is : (c : After-wide-p) → c.wide-p.result ≡ get_or c.args.t.now c.args.i (pos 0)
p_is c = read c.wide-arg-1.given c.wide-p.ensures.0

less_is : (c : After-wide-p) → code w32 (less c) ≡ neg_ℤ (get_or c.args.t.now c.args.i (pos 0))
less_is c = value w32 (less c) tt ∙ ap neg_ℤ (p_is c)

tests : (c : After-is_short) → c.is_short.result ≡ fits (Neg c.args.i) c.args.t.now
unfolding fits
tests c = rw (less_is c.before) at c.is_short.ensures

pub returns-then-not-is_short : goal.returns-then-not-is_short
returns-then-not-is_short c = stops (failed (tests c.before) (ap not c.if-not-is_short.true))

pub fneg16-requires : goal.fneg16-requires
fneg16-requires c = (c.requires, passed (tests c.before.before) (ap not c.if-not-is_short.false))

pub returns : goal.returns
returns c = (sym (passed (tests c.before.before.before) (ap not c.if-not-is_short.false)), λ e. c.fneg16.ensures)

pub overflow_sub-p : goal.overflow_sub-p
overflow_sub-p c = room w32 (less c) tt
