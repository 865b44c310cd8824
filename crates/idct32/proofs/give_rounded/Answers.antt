use mir.Syntax.{w16, w32, w64}
use mir.Facts.{to_z-of_z}
use mathlib.Core.Path.{◌≡◌, ap, ◌∙◌}
use native.Mathlib.Omega.{arith}
use borrow.Author.Rules.{rules}
use lib.Dec.{lit<}
use lib.IntN.{ℤ, pos}
use lib.ListN.{length-set, get_or}
use Rattle.idct32.specs.Inner.{rounded}
use Rattle.whole.proofs.Lists.{fill_none, fill_more, fill_done}
use Rattle.whole.proofs.Within.{back}
use Rattle.idct32.proofs.give_rounded.Goals as goal

pub round2-requires : goal.round2-requires
round2-requires c =
    let w = c.wide.ensures.1 in
    (c.requires.2, rw (back w32 (lit< tt) w) w)

pub loop-k-preserved : goal.loop-k-preserved
loop-k-preserved c =
    let l = c.loop-k in
    let a = c.args in
    let x : c.wide.result ≡ get_or a.work.now l.k (pos 0) = c.wide.ensures.0 ∙ to_z-of_z {w = w16} (record { sfits = c.wide-arg-1.given }) in
    let e : c.from.result ≡ rounded (get_or a.work.now l.k (pos 0)) a.bits =
    c.from.ensures ∙ to_z-of_z {w = w32} (record { sfits = c.round2.type_inv }) ∙ c.round2.ensures ∙ ap (λ (z : ℤ). rounded z a.bits) (back w32 (lit< tt) c.wide.ensures.1 ∙ x) in
    let f = to_z-of_z {w = w64} {z = c.from.result} (record { sfits = c.from.type_inv }) in (
      search rules,
      fill_more _ _ _ l.invariant.1 (rw (f, e)),
      simp length-set l.invariant.2,
    )

pub returns : goal.returns
returns c = fill_done _ _ _ _ (search rules) (search rules) c.loop-k.invariant.1

pub loop-k-init : goal.loop-k-init
loop-k-init c = (omega arith, fill_none _ _, search rules)
