-- `idct32::row_kind` meets its contract.
use mathlib.Core.Path.{sym, ◌∙◌}
use Rattle.idct32.proofs.row_kind.Goals as goal

pub returns-then-lossless : goal.returns-then-lossless
returns-then-lossless c = rw c.if-lossless.true

pub returns-then-row_dct : goal.returns-then-row_dct
returns-then-row_dct c = rw (c.if-lossless.false, sym c.row_dct.ensures ∙ c.if-row_dct.true)

pub returns-else-row_dct : goal.returns-else-row_dct
returns-else-row_dct c = rw (c.if-lossless.false, sym c.row_dct.ensures ∙ c.if-row_dct.false)
