use Rattle.fwd_transform.specs.Quantize.{bad_rule}
use Rattle.fwd_transform.proofs.quantize_block_tx.Goals as goal

-- rule 1 is known: its answer is that of the rest
pub returns : goal.returns
unfolding bad_rule
returns c = record { answered = c.quantize_block_rule.ensures.answered; written = c.quantize_block_rule.ensures.written }
