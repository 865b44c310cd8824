use mathlib.Core.Path.{◌≡◌, ap}
use native.Mathlib.Omega.{arith}
use borrow.Author.Rules.{rules}
use Rattle.vbk_read.specs.Header.{first_record}
use Rattle.vbk_read.specs.declared.Fields.{Fields}
use Rattle.vbk_read.proofs.Headers.{good}
use Rattle.vbk.proofs.Runs.{plane_read}
use Rattle.vbk.proofs.play.Goals as goal
use Rattle.vbk.proofs.play.Goals.{After-read_samples-first}

-- the place past the samples is the first record's
from_is : (g : _) (c : After-read_samples-first g) → c.read_samples-first.result.at ≡ first_record c.args.file.now
from_is g c =
    omega (arith, c.read_samples-first.ensures.0, ap (λ (f : Fields). f.next.at) c.requires.1, c.requires.2)

pub read_samples-first-requires : goal.read_samples-first-requires
read_samples-first-requires g c =
    let k = good c.args.file.now c.requires.0 in
    (omega (arith, k.samples_there, ap (λ (f : Fields). f.next.at) c.requires.1, c.requires.2), search rules)

pub read_records-requires : goal.read_records-requires
read_records-requires g c =
    let k = good c.args.file.now c.requires.0 in
    let e = from_is g (goal.at.read_records-requires g c).After-read_samples-first in
    (c.requires.1, k.file_fits, omega (arith, e, k.area_some), omega (arith, e, k.samples_there), c.requires.3)

pub returns : goal.returns
returns g c =
    let a = c.args in
    let m = g.B.Reconstruct in
    let e = from_is g (goal.at.returns g c).After-read_samples-first in
    let p = plane_read a.file.now a.samples.now c.requires.2 (ap (λ (f : Fields). f.next.at) c.requires.1) c.read_samples-first.ensures.1 in
    rw (e, p) at c.read_records.ensures
