use Rattle.blocks.proofs.Live.{live_first, live_rest}
use Rattle.blocks.proofs.any_live_first.Goals as goal

pub returns-then-s-start-ne0 : goal.returns-then-s-start-ne0
returns-then-s-start-ne0 c = live_first c.args.start c.args.n _ c.requires.0 c.if-s-start-ne0.true

pub returns : goal.returns
returns c =
    live_rest c.args.start c.args.n _ c.requires.0 (record { sfits = c.t6-1.given }) c.if-s-start-ne0.false c.or_live.ensures
