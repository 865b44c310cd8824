use mathlib.Core.Path.{◌≡◌, sym, ◌∙◌}
use mathlib.Core.Bool.{false}
use native.Mathlib.Omega.{arith}
use Rattle.vbk_read.specs.Header.{bad_area}
use Rattle.vbk_read.proofs.Headers.{area_ok}
use Rattle.vbk_write.specs.Inner.{file_length}
use Rattle.vbk_write.proofs.Counts.{by_length}
use Rattle.vbk_write.proofs.too_large.Goals as goal
use Rattle.vbk_write.proofs.too_large.Goals.{Else-tokens-gt-FILE_LIMIT}

pub returns-then-bad_area : goal.returns-then-bad_area
returns-then-bad_area c = rw (sym c.bad_area.ensures ∙ c.if-bad_area.true)

pub returns-then-records-gt-FILE_LIMIT : goal.returns-then-records-gt-FILE_LIMIT
returns-then-records-gt-FILE_LIMIT c =
    let a = c.args in
    by_length (bad_area a.samples) (file_length a.samples a.records a.tokens) (omega (arith, c.if-records-gt-FILE_LIMIT.true))

pub returns-then-tokens-gt-FILE_LIMIT : goal.returns-then-tokens-gt-FILE_LIMIT
returns-then-tokens-gt-FILE_LIMIT c =
    let a = c.args in
    by_length (bad_area a.samples) (file_length a.samples a.records a.tokens) (omega (arith, c.if-tokens-gt-FILE_LIMIT.true))

-- the area passed
fits : (c : Else-tokens-gt-FILE_LIMIT) → bad_area c.args.samples ≡ false
fits c = sym c.bad_area.ensures ∙ c.if-bad_area.false

pub file_length-requires : goal.file_length-requires
file_length-requires c =
    let m = area_ok c.args.samples (fits c) in
    (omega (arith, m.1), omega (arith, c.if-records-gt-FILE_LIMIT.false), omega (arith, c.if-tokens-gt-FILE_LIMIT.false))

pub returns : goal.returns
returns c = rw (c.file_length.ensures, fits c.before)
