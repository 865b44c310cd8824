use borrow.Author.Tests.{ne_eqb}
use Rattle.clip_state.specs.Rows.{letter_row}
use Rattle.clip_state.proofs.letter_row.Goals as goal

pub returns-in-83 : goal.returns-in-83
unfolding letter_row
returns-in-83 c = rw c.in-83.is

pub returns-in-82 : goal.returns-in-82
unfolding letter_row
returns-in-82 c = rw c.in-82.is

pub returns-in-75 : goal.returns-in-75
unfolding letter_row
returns-in-75 c = rw c.in-75.is

pub returns-in_default : goal.returns-in_default
unfolding letter_row
returns-in_default c = rw (ne_eqb _ _ c.in_default.in_default-own.rest.0.0.1, ne_eqb _ _ c.in_default.in_default-own.rest.0.1, ne_eqb _ _ c.in_default.in_default-own.rest.1)
