use Rattle.blocks.specs.Inverse.{apply}
use Rattle.blocks.specs.Inner.{Safe}
use Rattle.reference.proofs.apply_1d.Goals as goal

pub dct_line-requires : goal.dct_line-requires
dct_line-requires g c =
    let q = rw c.in-Dct.is at c.requires in
    (q.1, q.2)

pub inverse_adst-requires : goal.inverse_adst-requires
unfolding Safe
inverse_adst-requires g c =
    let q = rw c.in-Adst.is at c.requires in
    (q.1.0, q.1.1, q.2)

pub inverse_wht-requires : goal.inverse_wht-requires
unfolding Safe
inverse_wht-requires g c =
    let q = rw c.in-Wht.is at c.requires in
    (q.1.1, q.2)

pub returns-then-not-this : goal.returns-then-not-this
returns-then-not-this g c = rw c.in-Dct.is c.dct_line.ensures

pub returns-then-not-this-2 : goal.returns-then-not-this-2
unfolding apply
returns-then-not-this-2 g c = rw c.in-Adst.is c.inverse_adst.ensures

pub returns-then-this-ne0 : goal.returns-then-this-ne0
unfolding apply
returns-then-this-ne0 g c = rw c.in-Wht.is c.inverse_wht.ensures
