-- `flat_dct::idct_fast` meets its contract: its calls are the parts of the definition, one after the other, those of sizes above N left out.
use mathlib.Core.Path.{refl, ◌∙◌}
use mathlib.Core.List.{[]}
use native.Mathlib.Omega.{arith}
use Rattle.whole.proofs.Steps.{left_fine, left_first, left_none}
use Rattle.dct.specs.Dct.{dct, tail}
use Rattle.flat_dct.proofs.Levels.{Rest, levels3, levels4, levels5, asked, done, left_out, at1, at2, at3, halves}
use Rattle.flat_dct.proofs.idct_fast.Given.{Over}
use Rattle.flat_dct.proofs.idct_fast.Goals as goal
use Rattle.flat_dct.proofs.idct_fast.Goals.{After-dct_level2, Joined-this-ge3, Joined-this-ge4, then-this-ge3, else-this-ge3, then-this-ge4, else-this-ge4}

pub permute-requires : goal.permute-requires
permute-requires g c = (omega arith, halves g.row.N c.requires.0 c.requires.1)

pub fb-requires : goal.fb-requires
fb-requires g c = left_fine (at1 g.row.N c.requires.0 c.requires.1 c.requires.2 c.permute.ensures)

pub dct_level2-requires : goal.dct_level2-requires
dct_level2-requires g c =
    left_first (tail 2) (levels3 g.row.N) (at2 g.row.N c.requires.0 c.requires.1 c.requires.2 c.permute.ensures c.fb.ensures)

-- after the part of 4 numbers
rest3 : (g : Over) (c : After-dct_level2 g) → Rest (levels3 g.row.N) c.dct_level2.new.t (dct g.row.N c.args.t.now)
rest3 g c = at3 g.row.N c.requires.0 c.requires.1 c.requires.2 c.permute.ensures c.fb.ensures c.dct_level2.ensures

-- after that of 8
rest4 : (g : Over) (c : Joined-this-ge3 g) → Rest (levels4 g.row.N) c.if-this-ge3.t (dct g.row.N c.args.t.now)
rest4 g c =
    let r = rest3 g c.before in
    elim c.if-this-ge3.branch [
      | then-this-ge3 w ↦ done 3 g.row.N (tail 3) (levels4 g.row.N) w.if-this-ge3.true r (w.t-is ∙ w.dct_level3.ensures)
      | else-this-ge3 w ↦ left_out 3 g.row.N (tail 3) (levels4 g.row.N) w.if-this-ge3.false r w.t-is
    ]

-- after that of 16
rest5 : (g : Over) (c : Joined-this-ge4 g) → Rest (levels5 g.row.N) c.if-this-ge4.t (dct g.row.N c.args.t.now)
rest5 g c =
    let r = rest4 g c.before in
    elim c.if-this-ge4.branch [
      | then-this-ge4 w ↦ done 4 g.row.N (tail 4) (levels5 g.row.N) w.if-this-ge4.true r (w.t-is ∙ w.dct_level4.ensures)
      | else-this-ge4 w ↦ left_out 4 g.row.N (tail 4) (levels5 g.row.N) w.if-this-ge4.false r w.t-is
    ]

pub dct_level3-requires : goal.dct_level3-requires
dct_level3-requires g c = asked 3 g.row.N (tail 3) (levels4 g.row.N) c.if-this-ge3.true (rest3 g c.before.before)

pub dct_level4-requires : goal.dct_level4-requires
dct_level4-requires g c = asked 4 g.row.N (tail 4) (levels5 g.row.N) c.if-this-ge4.true (rest4 g c.before.before)

pub dct_level5-requires : goal.dct_level5-requires
dct_level5-requires g c = asked 5 g.row.N (tail 5) [] c.if-this-ge5.true (rest5 g c.before.before)

pub returns-then-this-ge5 : goal.returns-then-this-ge5
returns-then-this-ge5 g c = left_none (done 5 g.row.N (tail 5) [] c.if-this-ge5.true (rest5 g c.before.before.before) c.dct_level5.ensures)

pub returns-else-this-ge5 : goal.returns-else-this-ge5
returns-else-this-ge5 g c = left_none (left_out 5 g.row.N (tail 5) [] c.if-this-ge5.false (rest5 g c.before) refl)
