use mathlib.Core.Path.{◌≡◌, ◌∙◌}
use native.Mathlib.Omega.{arith}
use lib.Dec.{lit<}
use lib.IntN.{pos, ◌*ℤ◌}
use lib.Signed.{quot_z}
use mir.Syntax.{w16, w32}
use mir.Facts.{sfits_widen}
use mir.ValLaws.{to_z-of_z}
use Rattle.whole.proofs.Signed.{rd}
use Rattle.whole.proofs.Within.{within_sfits, back}
use Rattle.quant.proofs.Sixteen.{double_within, half_within, half_is, whole_within, whole_product}
use Rattle.quant.proofs.coefficient16.Goals as goal
use Rattle.quant.proofs.coefficient16.Goals.{Start}

module _ (s : Start) where
  abbrev token : rd w16 s.args.token ≡ s.args.token
  token = to_z-of_z w16 s.args.token s.ranges.token

  abbrev quantizer : rd w16 s.args.quantizer ≡ s.args.quantizer
  quantizer = to_z-of_z w16 s.args.quantizer s.ranges.quantizer

  abbrev token_32 : rd w32 s.args.token ≡ s.args.token
  token_32 = to_z-of_z w32 s.args.token (sfits_widen tt s.ranges.token)

  abbrev quantizer_32 : rd w32 s.args.quantizer ≡ s.args.quantizer
  quantizer_32 = to_z-of_z w32 s.args.quantizer (sfits_widen tt s.ranges.quantizer)

module _ (s : Start) (e : s.args.size ≡ 3) where
  product_32 : rd w32 (s.args.token *ℤ s.args.quantizer) ≡ s.args.token *ℤ s.args.quantizer
  product_32 = back w32 (lit< tt) (double_within s.args.size s.args.token s.args.quantizer s.requires e)

  half_32 : rd w32 (quot_z (s.args.token *ℤ s.args.quantizer) (pos 2)) ≡ quot_z (s.args.token *ℤ s.args.quantizer) (pos 2)
  half_32 = back w32 (lit< tt) (half_within s.args.size s.args.token s.args.quantizer s.requires e)

pub overflow_cast-product : goal.overflow_cast-product
overflow_cast-product c = rw (token c.before) (sfits_widen tt c.ranges.token)

pub overflow_cast-product-then-size-eq3 : goal.overflow_cast-product-then-size-eq3
overflow_cast-product-then-size-eq3 c = rw (quantizer c.before) (sfits_widen tt c.ranges.quantizer)

pub overflow_mul-product : goal.overflow_mul-product
overflow_mul-product c = rw (token c.before, quantizer c.before, token_32 c.before, quantizer_32 c.before) (within_sfits {m = 65534} (lit< tt) (double_within c.args.size c.args.token c.args.quantizer c.requires c.if-size-eq3.true))

pub nonzero_div-result : goal.nonzero_div-result
nonzero_div-result c = rw (token c.before, quantizer c.before, token_32 c.before, quantizer_32 c.before, product_32 c.before c.if-size-eq3.true)
    (omega arith, within_sfits {m = 32767} (lit< tt) (half_within c.args.size c.args.token c.args.quantizer c.requires c.if-size-eq3.true))

pub overflow_cast-result : goal.overflow_cast-result
overflow_cast-result c = rw (token c.before, quantizer c.before, token_32 c.before, quantizer_32 c.before, product_32 c.before c.if-size-eq3.true, half_32 c.before c.if-size-eq3.true)
    (within_sfits {m = 32767} (lit< tt) (half_within c.args.size c.args.token c.args.quantizer c.requires c.if-size-eq3.true))

pub returns-then-size-eq3 : goal.returns-then-size-eq3
returns-then-size-eq3 c = rw (token c.before, quantizer c.before, token_32 c.before, quantizer_32 c.before, product_32 c.before c.if-size-eq3.true, half_32 c.before c.if-size-eq3.true)
    (back w16 (lit< tt) (half_within c.args.size c.args.token c.args.quantizer c.requires c.if-size-eq3.true)
    ∙ half_is c.args.size c.args.token c.args.quantizer c.requires c.if-size-eq3.true)

pub overflow_mul-result : goal.overflow_mul-result
overflow_mul-result c = rw (token c.before, quantizer c.before) (within_sfits {m = 32767} (lit< tt) (whole_within c.args.size c.args.token c.args.quantizer c.requires c.if-size-eq3.false))

pub returns : goal.returns
returns c = rw (token c.before, quantizer c.before)
    (back w16 (lit< tt) (whole_within c.args.size c.args.token c.args.quantizer c.requires c.if-size-eq3.false)
    ∙ whole_product c.args.size c.args.token c.args.quantizer c.requires c.if-size-eq3.false)
