use mathlib.Core.Bool.{true}
use Rattle.small_passes.proofs.Small.{small}
use Rattle.small_passes.proofs.wht_by_summary.Goals as goal

pub by_summary-requires : goal.by_summary-requires
by_summary-requires c = (small 0 true, c.requires.0, c.requires.1)

pub returns : goal.returns
returns c = c.by_summary.ensures
