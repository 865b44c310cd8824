-- `residual16::dequantize` meets its contract.
use Rattle.std.proofs.Common.{◌≡◌, ℕ, ◌+◌, ◌*◌, ◌/◌, ◌<◌, ◌≤◌, false, List, length, get_or, replicate, ℤ, pos, sym, ap, ◌∙◌, arith, ne_eqb}
use native.Mathlib.Nat as NatL
use lib.ListN.{length-replicate}
use Rattle.whole.specs.Lists.{fill}
use Rattle.whole.proofs.Lists.{fill_none, length_fill}
use Rattle.answers.specs.Bad.{bad_quantizer}
use Rattle.answers.specs.Sizes.{side, area}
use Rattle.quant.specs.declared.DcQuant.{DcQuant}
use Rattle.quant.specs.Places.{quantizer_at}
use Rattle.residual16.specs.Inner.{Short, tiled}
use Rattle.residual16.proofs.Sums.{zero_token}
use Rattle.residual16.proofs.Tiles.{eights, side_least, area_most, area_least, whole_strips, fill_eight, tiled_first, strip_done, tiled_all}
use Rattle.residual16.proofs.dequantize.Goals as goal
use Rattle.residual16.proofs.dequantize.Goals.{After-dequantize_strip, Start}

module _ (s : Start) where
  long : 8 ≤ length s.args.tokens.now
  long = omega (arith, s.requires.z_value.3, area_least (s.args.size + 2) (omega (arith, s.requires.z_value.1)) (omega (arith, s.requires.z_value.2)))

  -- what place 0 has, and all others
  dc_short : Short s.args.size s.args.dc_quant.0 (get_or s.args.tokens.now 0 (pos 0))
  unfolding quantizer_at
  dc_short = s.requires.dc_quant_value.2 0 (omega (arith, long))

  ac_short : (k : ℕ) → 1 ≤ k → k < length s.args.tokens.now → Short s.args.size s.args.ac_quant.0 (get_or s.args.tokens.now k (pos 0))
  unfolding quantizer_at
  ac_short k h l = rw (ne_eqb k 0 (λ q. absurd (omega arith))) at (s.requires.dc_quant_value.2 k l)

  abbrev zeros : List ℤ
  zeros = replicate 1024 (pos 0)

  -- a strip whose last rows are dead
  done : (dc : DcQuant) (q : ℕ) → bad_quantizer dc.0 ≡ false
      → fill (8 * side (s.args.size + 2) * q + 8 * s.args.rows) (tiled s.args.size dc s.args.ac_quant s.args.tokens.now) zeros
      ≡ fill (8 * side (s.args.size + 2) * (q + 1)) (tiled s.args.size dc s.args.ac_quant s.args.tokens.now) zeros
  done dc q h =
      strip_done s.args.size dc s.args.ac_quant s.args.tokens.now s.args.rows q s.requires.z_value.5 s.requires.z_value.6
      (zero_token s.args.size dc s.args.ac_quant s.args.tokens.now h s.requires.dc_quant_value.1)

-- the first strip, with the eight tokens that hold the DC
first_strip : (c : After-dequantize_strip) → c.dequantize_strip.new.z ≡ fill (8 * side (c.args.size + 2) * 1) (tiled c.args.size c.args.dc_quant c.args.ac_quant c.args.tokens.now) (replicate 1024 (pos 0))
first_strip c =
    let a = c.args in
    let f = tiled a.size a.dc_quant a.ac_quant a.tokens.now in
    let o = c.first_eight-o in
    let e : 8 * side (a.size + 2) * 0 + 8 * 1 ≡ 0 + 8 = omega (arith, NatL.mul-zero (8 * side (a.size + 2))) in
    let p = fill_eight 0 f (zeros c.before.before.before.before.before.before) o.result a.z.now c.put.new.z (λ j l. o.ensures j l ∙ sym (tiled_first a.size a.dc_quant a.ac_quant a.tokens.now j l))
    (c.requires.z_value.0 ∙ fill_none f (zeros c.before.before.before.before.before.before)) c.put.ensures in
    c.dequantize_strip.ensures a.dc_quant (rw e p) ∙ done c.before.before.before.before.before.before a.dc_quant 0 c.requires.dc_quant_value.0

pub loop-q-preserved : goal.loop-q-preserved
loop-q-preserved c =
    let q = c.loop-q.q in
    let e : 8 * side (c.args.size + 2) * q + 8 * 0 ≡ 8 * side (c.args.size + 2) * q = omega arith in
    (omega (arith, c.loop-q.invariant.0), omega arith, λ dc h g. c.dequantize_strip-in-loop-q.ensures dc (rw e (c.loop-q.invariant.2 dc h g)) ∙ done c.before.before.before.before.before.before.before.before.before.before.before dc q h)

pub returns : goal.returns
returns c =
    let a = c.args in
    let n0 = side (a.size + 2) in
    let w = eights (a.size + 2) (omega (arith, c.requires.z_value.1)) (omega (arith, c.requires.z_value.2)) in
    let r : c.side-q-end.result ≡ n0 = c.side-q-end.ensures.0 in
    let e : c.loop-q.q ≡ n0 / 8 = (let u : c.loop-q.q ≡ c.side-q-end.result / 8 = omega (arith, c.loop-q.invariant.1) in u ∙ ap (λ (x : ℕ). x / 8) r) in
    let f : 8 * n0 * c.loop-q.q ≡ area (a.size + 2) = ap (λ (x : ℕ). 8 * n0 * x) e ∙ whole_strips n0 (n0 / 8) w in
    let g = rw f at (c.loop-q.invariant.2 a.dc_quant c.requires.dc_quant_value.0 (first_strip c.before.before.before)) in (
      ap length g ∙ length_fill _ _ (zeros c.before.before.before.before.before.before.before.before.before) ∙ length-replicate 1024 (pos 0),
      tiled_all a.size a.dc_quant a.ac_quant a.tokens.now (n0 / 8) c.loop-q.z w (area_most a.size c.requires.z_value.2) c.requires.z_value.3 g,
    )

pub first_eight-o-requires : goal.first_eight-o-requires
first_eight-o-requires c = (long c, c.requires.dc_quant_value.0, c.requires.dc_quant_value.1, dc_short c, λ j h l. ac_short c j h (omega (arith, long c)))

pub put-requires : goal.put-requires
put-requires c = omega arith

pub dequantize_strip-requires : goal.dequantize_strip-requires
dequantize_strip-requires c = record { le_size = (c.requires.z_value.1, c.requires.z_value.2, c.requires.z_value.3, omega (arith, side_least (c.args.size + 2) (omega (arith, c.requires.z_value.1)) (omega (arith, c.requires.z_value.2))), c.requires.z_value.4, c.requires.z_value.5, omega arith); ac_quant_value = (c.requires.dc_quant_value.1, ac_short c.before.before.before.before.before) }

pub overflow_add-size : goal.overflow_add-size
overflow_add-size c = record { fits = omega (arith, c.requires.z_value.2) }

pub side-q-end-requires : goal.side-q-end-requires
side-q-end-requires c = (omega arith, omega (arith, c.requires.z_value.2))

pub loop-q-init : goal.loop-q-init
loop-q-init c = (omega arith, omega (arith, c.side-q-end.ensures.0, side_least (c.args.size + 2) (omega (arith, c.requires.z_value.1)) (omega (arith, c.requires.z_value.2))), λ dc h g. g)

pub dequantize_strip-requires-in-loop-q : goal.dequantize_strip-requires-in-loop-q
dequantize_strip-requires-in-loop-q c = record { le_size = (c.requires.z_value.1, c.requires.z_value.2, c.requires.z_value.3, omega (arith, c.side-q-end.ensures.0), omega arith, c.requires.z_value.5, omega (arith, c.loop-q.invariant.0)); ac_quant_value = (c.requires.dc_quant_value.1, ac_short c.before.before.before.before.before.before.before.before.before.before) }
