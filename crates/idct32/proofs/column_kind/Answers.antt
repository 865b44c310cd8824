-- `idct32::column_kind` meets its contract.
use mathlib.Core.Path.{sym, ◌∙◌}
use Rattle.idct32.proofs.column_kind.Goals as goal

pub returns-then-lossless : goal.returns-then-lossless
returns-then-lossless c = rw c.if-lossless.true

pub returns-then-column_dct : goal.returns-then-column_dct
returns-then-column_dct c = rw (c.if-lossless.false, sym c.column_dct.ensures ∙ c.if-column_dct.true)

pub returns-else-column_dct : goal.returns-else-column_dct
returns-else-column_dct c = rw (c.if-lossless.false, sym c.column_dct.ensures ∙ c.if-column_dct.false)
