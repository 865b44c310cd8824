use Rattle.blocks.specs.Inverse.{apply}
use Rattle.blocks.specs.Inner.{Safe}
use Rattle.row_pass.proofs.line.Goals as goal

pub idct_fast-requires : goal.idct_fast-requires
unfolding Safe
idct_fast-requires g c =
    let q = rw c.in-Dct.is at c.requires in
    (q.1.0, q.1.1, q.2)

pub iadst_fast-requires : goal.iadst_fast-requires
unfolding Safe
iadst_fast-requires g c =
    let q = rw c.in-Adst.is at c.requires in
    (q.1.0, q.1.1, q.2)

pub inverse_wht-requires : goal.inverse_wht-requires
unfolding Safe
inverse_wht-requires g c =
    let q = rw c.in-Wht.is at c.requires in
    (q.1.1, q.2)

pub returns-then-not-this : goal.returns-then-not-this
unfolding apply
returns-then-not-this g c = rw c.in-Dct.is c.idct_fast.ensures

pub returns-then-not-this-2 : goal.returns-then-not-this-2
unfolding apply
returns-then-not-this-2 g c = rw c.in-Adst.is c.iadst_fast.ensures

pub returns-then-this-ne0 : goal.returns-then-this-ne0
unfolding apply
returns-then-this-ne0 g c = rw c.in-Wht.is c.inverse_wht.ensures
