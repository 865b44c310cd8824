-- `residual16::residual` meets its contract.
use Rattle.std.proofs.Common.{◌≡◌, ℕ, ◌+◌, ◌-◌, ◌*◌, ◌<◌, ◌≤◌, length, get_or, set, pos, nat_abs, ap, ◌∙◌, arith, w16, w64}
use mir.ValLaws.{to_z-of_z}
use Rattle.whole.proofs.Signed.{rd, rd_ok}
use Rattle.quant.specs.Places.{quantizer_at}
use Rattle.quant.specs.Token.{dq_denom, dequant}
use Rattle.blocks.proofs.Inverse.{side_most}
use Rattle.residual16.specs.Inner.{Scanned, Short, Lent}
use Rattle.residual16.proofs.Numbers.{never}
use Rattle.residual16.proofs.Block.{some, bounded, short, few_coefs, dead_all, served, served_flat}
use Rattle.residual16.proofs.residual.Goals as goal
use Rattle.residual16.proofs.residual.Goals.{After-magnitude-first, Else-not-enough, Start}

module _ (s : Start) where
  abbrev lent : Lent s.args.size s.args.dc_quant s.args.ac_quant s.args.tx_type s.args.tokens.now
  lent = s.requires.1

  first_in : 0 < length s.args.tokens.now
  first_in = rw lent.all (some s.args.size s.args.dc_quant s.args.ac_quant s.args.tx_type s.args.tokens.now lent)

-- the scan, and the first magnitude
module _ (c : After-magnitude-first) where
  abbrev all : ℕ
  all = c.weigh-scan.result.weight.all

  abbrev added : ℕ
  added = c.weigh-scan.result.weight.sum

  abbrev strips : ℕ
  strips = c.weigh-scan.result.strips

  abbrev scanned : Scanned (c.args.size + 2) c.args.tokens.now all added strips
  scanned = c.weigh-scan.ensures

  first_is : c.magnitude-first.result ≡ nat_abs (get_or c.args.tokens.now 0 (pos 0))
  first_is = c.magnitude-first.ensures ∙ ap nat_abs (to_z-of_z w64 (get_or c.args.tokens.now 0 (pos 0)) (record { sfits = c.magnitude-arg-1.given }))

pub enough-requires : goal.enough-requires
enough-requires c =
    let a = c.args in
    ((lent (goal.at.enough-requires c).Start).dc_ok, (lent (goal.at.enough-requires c).Start).ac_ok, λ h. rw (first_is (goal.at.enough-requires c).After-magnitude-first) (bounded a.size a.dc_quant a.ac_quant a.tx_type a.tokens.now (lent (goal.at.enough-requires c).Start) (all (goal.at.enough-requires c).After-magnitude-first) (added (goal.at.enough-requires c).After-magnitude-first) (strips (goal.at.enough-requires c).After-magnitude-first) (scanned (goal.at.enough-requires c).After-magnitude-first) h))

-- 16 bits are enough
module _ (e : Else-not-enough) where
  told : (all e.before.before.before ≤ 16383)
      × (nat_abs (get_or e.args.tokens.now 0 (pos 0)) * nat_abs e.args.dc_quant.0 + (added e.before.before.before - nat_abs (get_or e.args.tokens.now 0 (pos 0))) * nat_abs e.args.ac_quant.0 ≤ 31883 * dq_denom e.args.size)
  told = rw (first_is e.before.before.before) at (e.enough.ensures (e.if-not-enough.false))

  shorts : (k : ℕ) → k < length e.args.tokens.now → Short e.args.size (quantizer_at e.args.dc_quant e.args.ac_quant k) (get_or e.args.tokens.now k (pos 0))
  shorts = let a = e.args in short a.size a.dc_quant a.ac_quant a.tx_type a.tokens.now (lent e.before.before.before.before.before.before) (all e.before.before.before) (added e.before.before.before) (strips e.before.before.before) (scanned e.before.before.before) told.0 told.1

  dc_short : Short e.args.size e.args.dc_quant.0 (get_or e.args.tokens.now 0 (pos 0))
  unfolding quantizer_at
  dc_short = shorts 0 (first_in e.before.before.before.before.before.before)

pub dequant16-requires : goal.dequant16-requires
dequant16-requires c =
    let fine = (lent (goal.at.dequant16-requires c).Start).dc_ok in
    rw (to_z-of_z w64 (get_or c.args.tokens.now 0 (pos 0)) (record { sfits = c.dequant16-arg-1.given })) (fine, (dc_short (goal.at.dequant16-requires c).Else-not-enough).0, (dc_short (goal.at.dequant16-requires c).Else-not-enough).1)

pub returns-then-tx_type-eq0 : goal.returns-then-tx_type-eq0
returns-then-tx_type-eq0 c =
    let a = c.args in
    let t = to_z-of_z w64 (get_or a.tokens.now 0 (pos 0)) (record { sfits = c.dequant16-arg-1.given }) in
    let v : rd w16 c.dequant16.result ≡ dequant a.size a.dc_quant.0 (get_or a.tokens.now 0 (pos 0)) = rd_ok w16 {z = c.dequant16.result} c.dequant16.type_inv ∙ rw (t) at c.dequant16.ensures in
    λ h. served_flat a.size a.dc_quant a.ac_quant a.tx_type a.tokens.now (lent (goal.at.returns-then-tx_type-eq0 c).Start) (all (goal.at.returns-then-tx_type-eq0 c).After-magnitude-first) (added (goal.at.returns-then-tx_type-eq0 c).After-magnitude-first) (strips (goal.at.returns-then-tx_type-eq0 c).After-magnitude-first) (scanned (goal.at.returns-then-tx_type-eq0 c).After-magnitude-first) (told (goal.at.returns-then-tx_type-eq0 c).Else-not-enough).0 (told (goal.at.returns-then-tx_type-eq0 c).Else-not-enough).1
    (c.if-scan-first.true ∙ first_is (goal.at.returns-then-tx_type-eq0 c).After-magnitude-first) c.if-tx_type-eq0.true
    a.z.now (set a.z.now 0 (rd w16 c.dequant16.result)) c.residual_dc.new.z c.requires.0 (ap (set a.z.now 0) v) c.residual_dc.ensures

pub dequantize-requires : goal.dequantize-requires
dequantize-requires c =
    let w = scanned (goal.at.dequantize-requires c).After-magnitude-first in
    record { z_value = (c.requires.0, (lent (goal.at.dequantize-requires c).Start).larger, omega (arith, (lent (goal.at.dequantize-requires c).Start).possible.most), (lent (goal.at.dequantize-requires c).Start).all, omega (arith, w.least), w.most, w.dead); dc_quant_value = ((lent (goal.at.dequantize-requires c).Start).dc_ok, (lent (goal.at.dequantize-requires c).Start).ac_ok, shorts (goal.at.dequantize-requires c).Else-not-enough) }

pub passes-requires : goal.passes-requires
passes-requires c =
    let a = c.args in
    let w = scanned (goal.at.passes-requires c).After-magnitude-first in
    let d = c.dequantize.ensures in
    rw d.1 (
      omega (arith, (lent (goal.at.passes-requires c).Start).larger),
      (lent (goal.at.passes-requires c).Start).possible,
      d.0,
      few_coefs a.size a.dc_quant a.ac_quant a.tx_type a.tokens.now (lent (goal.at.passes-requires c).Start) (all (goal.at.passes-requires c).After-magnitude-first) (added (goal.at.passes-requires c).After-magnitude-first) (strips (goal.at.passes-requires c).After-magnitude-first) w (told (goal.at.passes-requires c).Else-not-enough).0 (told (goal.at.passes-requires c).Else-not-enough).1,
      w.most,
      dead_all a.size a.dc_quant a.ac_quant a.tx_type a.tokens.now (lent (goal.at.passes-requires c).Start) _ w.dead,
    )

pub returns : goal.returns
returns c =
    let a = c.args in
    λ h. served a.size a.dc_quant a.ac_quant a.tx_type a.tokens.now (lent (goal.at.returns c).Start) (all (goal.at.returns c).After-magnitude-first) (added (goal.at.returns c).After-magnitude-first) (strips (goal.at.returns c).After-magnitude-first) (scanned (goal.at.returns c).After-magnitude-first) (told (goal.at.returns c).Else-not-enough).0 (told (goal.at.returns c).Else-not-enough).1
    c.dequantize.new.z c.passes.new.z c.dequantize.ensures.1 c.passes.ensures

pub bounds-tokens-0 : goal.bounds-tokens-0
bounds-tokens-0 c = first_in (goal.at.bounds-tokens-0 c).Start

pub returns-then-not-enough : goal.returns-then-not-enough
returns-then-not-enough c h = never h

pub bounds-tokens-0-then-tx_type-eq0 : goal.bounds-tokens-0-then-tx_type-eq0
bounds-tokens-0-then-tx_type-eq0 c = first_in (goal.at.bounds-tokens-0-then-tx_type-eq0 c).Start

pub overflow_mul-scan : goal.overflow_mul-scan
overflow_mul-scan c = record { fits = omega (arith, (scanned (goal.at.overflow_mul-scan c).After-magnitude-first).most, side_most (c.args.size + 2) (lent (goal.at.overflow_mul-scan c).Start).possible.least (lent (goal.at.overflow_mul-scan c).Start).possible.most) }
