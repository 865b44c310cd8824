use mathlib.Core.Path.{◌≡◌, ap, ◌∙◌}
use native.Mathlib.Omega.{arith}
use lib.IntN.{pos}
use lib.ListN.{get_or, set}
use mir.Syntax.{w32, w64}
use mir.ValLaws.{to_z-of_z}
use Rattle.whole.proofs.Lists.{fill_none, fill_more, fill_done}
use Rattle.whole.proofs.Signed.{rd, rd_ok}
use Rattle.quant.specs.Places.{quantizer_at}
use Rattle.quant.proofs.Places.{fine_at}
use Rattle.tokens.specs.Tokens.{bad_quantizers}
use Rattle.tokens.proofs.dequantize.Goals as goal

pub dequant_at-requires : goal.dequant_at-requires
unfolding bad_quantizers
dequant_at-requires c =
    let k = c.loop-k.k in
    rw (to_z-of_z w64 (get_or c.args.tokens.now k (pos 0)) (record { sfits = c.token-1.given })) (c.requires.3, c.requires.2 k (omega arith))

pub loop-k-preserved : goal.loop-k-preserved
loop-k-preserved c =
    let l = c.loop-k in
    let t = to_z-of_z w64 (get_or c.args.tokens.now l.k (pos 0)) (record { sfits = c.token-1.given }) in
    let e = rd_ok w64 {z = c.dequant_at.result} c.dequant_at.type_inv ∙ rw t at c.dequant_at.ensures in
    (omega arith, fill_more _ _ l.k l.invariant.1 (ap (set l.block l.k) e))

pub loop-k-init : goal.loop-k-init
loop-k-init c = (omega arith, fill_none _ _)

pub returns : goal.returns
returns c = fill_done _ _ c.loop-k.k _ (omega arith) (omega arith) c.loop-k.invariant.1
