use Rattle.whole.proofs.Steps.{left_last, Left}
use Prim.Native.Nat.{◌^◌}
use Rattle.steps.specs.Step.{step}
use Rattle.steps.specs.Inner.{Fine}
use Rattle.dct.specs.Dct.{dct_steps, dct}
use Rattle.dct.proofs.Dct.{dct_process}
use Rattle.blocks.specs.Inverse.{apply}
use Rattle.blocks.specs.Inner.{Safe}
use Rattle.reference.proofs.dct_line.Goals as goal
use Rattle.reference.proofs.dct_line.Goals.{After-idct_permute}

-- after the permutation, the process is left
process : (c : After-idct_permute)
    → Left step (Fine (2 ^ 46)) (dct_steps c.args.n) c.idct_permute.new.t (dct c.args.n c.args.t.now)
unfolding Safe
process c = dct_process _ c.requires.1 c.idct_permute.ensures

pub idct_permute-requires : goal.idct_permute-requires
idct_permute-requires c = c.requires.0

pub inverse_dct-r-requires : goal.inverse_dct-r-requires
inverse_dct-r-requires c = (c.requires.0.0, c.requires.0.1, (process c.before).ok)

pub returns : goal.returns
unfolding apply
returns c = left_last (process c.before.before) c.inverse_dct-r.ensures
