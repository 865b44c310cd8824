-- `residual16::dequantize_strip` meets its contract.
use Rattle.std.proofs.Common.{◌≡◌, ℕ, ◌+◌, ◌*◌, ◌<◌, ◌≤◌, length, replicate, pos, sym, ap, ◌∙◌, arith, pow_pos}
use Rattle.answers.specs.Sizes.{side}
use Rattle.residual16.specs.Inner.{tiled}
use Rattle.residual16.proofs.Tiles.{eight_in, tile_in, not_first, fill_eight, tiled_ac, area_most}
use Rattle.residual16.proofs.dequantize_strip.Goals as goal
use Rattle.residual16.proofs.dequantize_strip.Goals.{In-loop-i}

-- a turn: row i of the strip
module _ (c : In-loop-i) where
  row_in : c.loop-i.i < c.side-n0.result
  row_in = omega (arith, c.side-n0.ensures.0, c.requires.le_size.5)

  strip_in : 8 * c.args.q + 8 ≤ c.side-n0.result
  strip_in = omega (arith, c.side-n0.ensures.0, c.requires.le_size.3)

  from_in : c.side-n0.result * c.loop-i.i + 8 * c.args.q + 8 ≤ length c.args.tokens.now
  from_in =
      let e : length c.args.tokens.now ≡ c.side-n0.result * c.side-n0.result = c.requires.le_size.2 ∙ ap (λ (x : ℕ). x * x) (sym c.side-n0.ensures.0) in
      omega (arith, e, eight_in c.side-n0.result c.loop-i.i c.args.q row_in strip_in)

  to_in : 8 * c.side-n0.result * c.args.q + 8 * c.loop-i.i + 8 ≤ 1024
  to_in = tile_in c.side-n0.result c.loop-i.i c.args.q c.side-n0.ensures.1 row_in strip_in

  some : 0 < c.side-n0.result
  some = omega (arith, c.side-n0.ensures.0, pow_pos (c.args.size + 2))

pub eight-o-requires : goal.eight-o-requires
eight-o-requires c = (
  from_in c,
  omega arith,
  c.requires.ac_quant_value.0,
  λ j h l. c.requires.ac_quant_value.1 _ (not_first c.side-n0.result c.loop-i.i c.args.q j (some c) (omega (arith, c.requires.le_size.6, c.loop-i.invariant.0))) (omega (arith, from_in c)),
)

pub loop-i-preserved : goal.loop-i-preserved
loop-i-preserved c =
    let e : 8 * side (c.args.size + 2) * c.args.q + 8 * (c.loop-i.i + 1) ≡ 8 * side (c.args.size + 2) * c.args.q + 8 * c.loop-i.i + 8 = omega arith in (
      omega (arith, c.loop-i.invariant.0),
      omega arith,
      λ dc h. rw e
          (fill_eight (8 * side (c.args.size + 2) * c.args.q + 8 * c.loop-i.i) (tiled c.args.size dc c.args.ac_quant c.args.tokens.now) (replicate 1024 (pos 0))
          c.eight-o.result c.loop-i.z c.put.new.z
          (λ j l. rw c.side-n0.ensures.0 at (c.eight-o.ensures.1 j (omega arith) l)
          ∙ sym (tiled_ac c.args.size dc c.args.ac_quant c.args.tokens.now c.args.q c.loop-i.i j (pow_pos (c.args.size + 2)) (omega (arith, c.requires.le_size.5)) l
          (omega (arith, c.requires.le_size.6, c.loop-i.invariant.0))))
          (c.loop-i.invariant.2 dc h) (rw c.side-n0.ensures.0 at c.put.ensures)),
    )

pub returns : goal.returns
returns c = λ dc h.
    let e : c.loop-i.i ≡ c.args.rows = omega (arith, c.loop-i.invariant.1) in
    rw e at (c.loop-i.invariant.2 dc h)

pub overflow_add-size : goal.overflow_add-size
overflow_add-size c = record { fits = omega (arith, c.requires.le_size.1) }

pub side-n0-requires : goal.side-n0-requires
side-n0-requires c = (omega arith, omega (arith, c.requires.le_size.1))

pub loop-i-init : goal.loop-i-init
loop-i-init c = (omega arith, omega (arith, c.requires.le_size.4), λ dc h. h)

pub overflow_mul-n0 : goal.overflow_mul-n0
overflow_mul-n0 c = record { fits = omega (arith, from_in c, c.requires.le_size.2, area_most c.args.size c.requires.le_size.1) }

pub overflow_mul-q : goal.overflow_mul-q
overflow_mul-q c = record { fits = omega (arith, strip_in c, c.side-n0.ensures.1) }

pub overflow_add-n0 : goal.overflow_add-n0
overflow_add-n0 c = record { fits = omega (arith, from_in c, c.requires.le_size.2, area_most c.args.size c.requires.le_size.1) }

pub overflow_mul-n0-in-loop-i : goal.overflow_mul-n0-in-loop-i
overflow_mul-n0-in-loop-i c = record { fits = omega (arith, c.side-n0.ensures.1) }

pub overflow_mul-n0-in-loop-i-2 : goal.overflow_mul-n0-in-loop-i-2
overflow_mul-n0-in-loop-i-2 c = record { fits = omega (arith, to_in c.before.before) }

pub overflow_mul-i : goal.overflow_mul-i
overflow_mul-i c = record { fits = omega (arith, to_in c.before.before) }

pub overflow_add-n0-in-loop-i : goal.overflow_add-n0-in-loop-i
overflow_add-n0-in-loop-i c = record { fits = omega (arith, to_in c.before.before) }

pub put-requires : goal.put-requires
put-requires c = to_in c.before.before.before
