use native.Mathlib.Omega.{arith}
use Rattle.exports.proofs.Figures.{short, refused, done}
use Rattle.exports.proofs.bracetwill_replay.Goals as goal

pub returns-then-figures-lt-FIGURES : goal.returns-then-figures-lt-FIGURES
returns-then-figures-lt-FIGURES c =
    let a = c.args in
    short a.file.now a.samples.now a.answers.now a.figures.now (omega arith) c.from.ensures

pub returns-in-Err : goal.returns-in-Err
returns-in-Err c =
    let a = c.args in
    refused a.file.now a.samples.now a.answers.now a.figures.now (omega arith) c.in-Err.ensures c.from-in-Err.ensures

pub returns-in-Ok : goal.returns-in-Ok
returns-in-Ok c =
    let a = c.args in
    done a.file.now a.samples.now a.answers.now a.figures.now (omega arith) c.in-Ok.ensures c.put_figures.ensures
