-- `tested::one` meets its contract.
use native.Mathlib.Omega.{arith}
use Rattle.blocks.proofs.Inverse.{side_most}
use Rattle.tested.specs.Line.{pass_of}
use Rattle.tested.proofs.Done.{loaded_long, loaded_short, one_no, one_yes}
use Rattle.tested.proofs.Answers.{left, gone, stayed}
use Rattle.tested.proofs.one.Goals as goal

pub load-requires : goal.load-requires
load-requires c =
    (c.side-n0.ensures.1, λ k h. c.requires.4 k (omega (arith, c.side-n0.ensures.0)))

pub line-requires : goal.line-requires
line-requires c =
    let m = side_most c.args.n c.requires.1 c.requires.2 in
    let e = c.side-n0.ensures.0 in (
      c.requires.0,
      c.requires.3,
      omega (arith, m, loaded_long c.args.at c.args.step c.args.n e c.args.z.now c.load.ensures.made),
      loaded_short c.args.at c.args.step c.args.n e c.args.z.now c.load.ensures.made m c.load.ensures.told,
    )

pub returns-in_err-line : goal.returns-in_err-line
returns-in_err-line c =
    rw (gone c.from_residual.result c.from_residual.ensures.0) (one_no c.args.at c.args.step c.args.n c.side-n0.ensures.0 c.args.z.now c.load.ensures.made (pass_of c.args.kind) c.line.ensures (left c.in_err-line.was))

pub store-requires : goal.store-requires
store-requires c =
    (c.side-n0.ensures.1, λ k h. c.requires.4 k (omega (arith, c.side-n0.ensures.0)))

pub returns : goal.returns
returns c =
    one_yes c.args.at c.args.step c.args.n c.side-n0.ensures.0 c.args.z.now c.load.ensures.made (pass_of c.args.kind) c.line.ensures (stayed c.in_ok-line.was) c.store.ensures
