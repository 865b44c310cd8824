use mathlib.Core.Path.{◌≡◌, ap, ◌∙◌}
use lib.IntN.{ℤ, pos}
use lib.ListN.{get_or}
use mir.Syntax.{w64}
use mir.Val.{to_z, of_z}
use Rattle.whole.specs.Lists.{fill}
use Rattle.whole.proofs.Signed.{rd_ok}
use Rattle.blocks.specs.Inner.{dc_value}
use Rattle.dc.proofs.dc_fill.Goals as goal

pub returns : goal.returns
returns c =
    let v : to_z w64 (of_z w64 c.dc_value-v.result) ≡ dc_value c.args.n (get_or c.args.block.now 0 (pos 0)) =
    rd_ok w64 c.dc_value-v.type_inv ∙ c.dc_value-v.ensures ∙ ap (dc_value c.args.n) (rd_ok w64 c.dc_value-arg-1.given) in
    c.fill_first.ensures ∙ ap (λ (x : ℤ). fill c.args.count (λ k. x) c.args.block.now) v
