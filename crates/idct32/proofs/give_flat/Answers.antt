-- `idct32::give_flat` meets its contract.
use mathlib.Core.Path.{◌≡◌, ap, ◌∙◌}
use lib.Dec.{lit<}
use lib.IntN.{ℤ}
use mir.Facts.{to_z-of_z}
use mir.Syntax.{w32, w64}
use Rattle.whole.specs.Lists.{fill}
use Rattle.whole.proofs.Signed.{rd, rd_ok}
use Rattle.whole.proofs.Within.{back}
use Rattle.blocks.specs.Inner.{dc_value}
use Rattle.idct32.proofs.give_flat.Goals as goal

pub flat_value-v-requires : goal.flat_value-v-requires
flat_value-v-requires c =
    let w = c.wide.ensures.1 in
    (c.requires.0, c.requires.1, rw (back w32 (lit< tt) w) w)

pub returns : goal.returns
returns c =
    let x : rd w32 c.wide.result ≡ c.args.x = back w32 (lit< tt) c.wide.ensures.1 ∙ c.wide.ensures.0 ∙ to_z-of_z c.ranges.x in
    let e : rd w64 c.from.result ≡ dc_value c.args.n c.args.x =
    rd_ok w64 c.from.type_inv ∙ c.from.ensures ∙ rd_ok w32 c.flat_value-v.type_inv ∙ c.flat_value-v.ensures ∙ ap (dc_value c.args.n) x in
    c.fill_first.ensures ∙ ap (λ (z : ℤ). fill c.args.count (λ k. z) c.args.block.now) e
