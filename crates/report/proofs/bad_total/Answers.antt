use Rattle.report.proofs.Above.{bad_total_lem, too_many}
use Rattle.report.proofs.bad_total.Goals as goal

pub returns-then-n-gt-TOTAL_LIMIT : goal.returns-then-n-gt-TOTAL_LIMIT
returns-then-n-gt-TOTAL_LIMIT c = too_many c.args.more c.args.counts.now c.if-n-gt-TOTAL_LIMIT.true

pub returns : goal.returns
returns c = bad_total_lem c.args.more c.args.counts.now c.total_of.ensures.0
