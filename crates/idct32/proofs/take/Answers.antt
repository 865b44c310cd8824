-- `idct32::take` meets its contract.
use mathlib.Core.Path.{◌≡◌, sym, ◌∙◌}
use mathlib.Core.Bool.{true}
use Rattle.narrow.specs.Kept.{shorts}
use Rattle.idct32.proofs.Scan.{never}
use Rattle.idct32.proofs.take.Goals as goal
use Rattle.idct32.proofs.take.Goals.{Else-not-all_short}

all : (c : Else-not-all_short) → shorts c.args.count c.args.block.now ≡ true
all c = sym c.all_short.ensures ∙ c.if-not-all_short.false

pub all_short-requires : goal.all_short-requires
all_short-requires c = c.requires.1

pub returns-then-not-all_short : goal.returns-then-not-all_short
returns-then-not-all_short c = record { is = sym (c.if-not-all_short.true) ∙ c.all_short.ensures; then = λ e. never e }

pub copy-requires : goal.copy-requires
copy-requires c = (c.requires.0, c.requires.1, all c.before)

pub returns : goal.returns
returns c = record { is = sym (all c.before.before); then = λ _. c.copy.ensures }
