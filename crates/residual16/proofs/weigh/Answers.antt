-- `residual16::weigh` meets its contract.
use Rattle.std.proofs.Common.{◌≡◌, ℕ, ◌+◌, ◌*◌, ◌/◌, ◌%◌, ◌^◌, ◌<◌, ◌≤◌, List, length, get_or, ℤ, pos, sym, ap, ◌∙◌, arith}
use native.Mathlib.Decide.{dec_lt}
use native.Mathlib.Nat as NatL
use lib.ListN.{get_or-eq_default}
use lib.Bits.{bit_or}
use Rattle.answers.specs.Sizes.{side, area}
use Rattle.residual16.specs.Inner.{Weighed}
use Rattle.residual16.proofs.Sums.{weighed_none, weighed_join, dead_more}
use Rattle.residual16.proofs.Tiles.{eights, side_least, whole_strips, strip_in}
use Rattle.residual16.proofs.weigh.Goals as goal
use Rattle.residual16.proofs.weigh.Goals.{After-side-n0, else-w-ne0, then-w-ne0}

module _ (c : After-side-n0) where
  abbrev n0 : ℕ
  n0 = c.side-n0.result

  -- whole strips of eight rows
  by_eight : n0 ≡ n0 / 8 * 8
  by_eight = c.side-n0.ensures.0 ∙ eights c.args.n c.requires.0 c.requires.1 ∙ ap (λ (x : ℕ). x / 8 * 8) (sym c.side-n0.ensures.0)

  long : length c.args.tokens.now ≡ n0 * n0
  long = c.requires.2 ∙ ap (λ (x : ℕ). x * x) (sym c.side-n0.ensures.0)

  least : 8 ≤ n0
  least = omega (arith, c.side-n0.ensures.0, side_least c.args.n c.requires.0 c.requires.1)

pub weigh_strip-w-requires : goal.weigh_strip-w-requires
weigh_strip-w-requires c =
    omega (arith, long c.before.before, strip_in (n0 c.before.before) (n0 c.before.before / 8) c.loop-s.s (by_eight c.before.before) (omega arith))

pub loop-s-preserved : goal.loop-s-preserved
loop-s-preserved c =
    let t = c.args.tokens.now in
    let m = 8 * n0 c.before.before.before.before.before.before.before * c.loop-s.s in
    let e : 8 * n0 c.before.before.before.before.before.before.before * (c.loop-s.s + 1) ≡ m + 8 * n0 c.before.before.before.before.before.before.before = omega (arith, NatL.mul-add (8 * n0 c.before.before.before.before.before.before.before) c.loop-s.s 1) in
    let z : 0 + m ≡ m = omega arith in
    let v = c.weigh_strip-w.ensures in
    let al = c.weigh_strip-w.result.all in
    let ad = c.weigh_strip-w.result.sum in
    let j = weighed_join 0 m (8 * n0 c.before.before.before.before.before.before.before) t c.loop-s.all c.loop-s.sum al ad c.loop-s.invariant.1 (rw z v) in
    let joined : Weighed 0 (8 * n0 c.before.before.before.before.before.before.before * (c.loop-s.s + 1)) t (bit_or c.loop-s.all al) ((c.loop-s.sum + ad) % 2 ^ 64) = rw e j in
    let h : c.loop-s.s + 1 ≤ n0 c.before.before.before.before.before.before.before / 8 = omega arith in
    elim c.if-w-ne0.branch [
      | then-w-ne0 g ↦ (
        h,
        joined,
        omega (arith, g.strips-is),
        omega (arith, g.strips-is),
        λ k p q. absurd (let u : 8 * (c.loop-s.s + 1) * n0 c.before.before.before.before.before.before.before ≤ k = rw g.strips-is at p in omega (arith, u, NatL.mul_comm (c.loop-s.s + 1) (n0 c.before.before.before.before.before.before.before), NatL.mul_assoc 8 (c.loop-s.s + 1) (n0 c.before.before.before.before.before.before.before), NatL.mul_assoc 8 (n0 c.before.before.before.before.before.before.before) (c.loop-s.s + 1))),
      )
      | else-w-ne0 g ↦ (
        h,
        joined,
        omega (arith, g.strips-is, c.loop-s.invariant.2),
        omega (arith, g.strips-is, c.loop-s.invariant.3),
        λ k p q. dead_more t (n0 c.before.before.before.before.before.before.before) c.loop-s.s c.loop-s.strips al ad v g.if-w-ne0.false c.loop-s.invariant.4 k (rw g.strips-is at p) (omega (arith, e)),
      )
    ]

-- from there on, also past the end
zeros : (t : List ℤ) (n strips : ℕ) → length t ≡ area n → ((k : ℕ) → 8 * strips * side n ≤ k → k < area n → get_or t k (pos 0) ≡ pos 0)
    → (k : ℕ) → 8 * strips * side n ≤ k → Dec (k < area n) → get_or t k (pos 0) ≡ pos 0
zeros t n strips e had k h (yes q) = had k h q
zeros t n strips e had k h (no q) = get_or-eq_default t (pos 0) (omega (arith, e))

pub returns : goal.returns
returns c =
    let e : c.loop-s.s ≡ n0 c.before.before / 8 = omega arith in
    let f : 8 * n0 c.before.before * c.loop-s.s ≡ area c.args.n = ap (λ (x : ℕ). 8 * n0 c.before.before * x) e ∙ whole_strips (n0 c.before.before) (n0 c.before.before / 8) (by_eight c.before.before) ∙ ap (λ (x : ℕ). x * x) c.side-n0.ensures.0 in
    let t = c.args.tokens.now in
    let past : (k : ℕ) → 8 * c.loop-s.strips * side c.args.n ≤ k → Dec (k < area c.args.n) → get_or t k (pos 0) ≡ pos 0 = λ k h q. zeros t c.args.n c.loop-s.strips c.requires.2 (λ k p q. c.loop-s.invariant.4 k (rw c.side-n0.ensures.0 p) (omega (arith, f))) k h q in
    record {
      weighed = rw f at c.loop-s.invariant.1;
      least = c.loop-s.invariant.2;
      most = omega (arith, c.loop-s.invariant.3, c.side-n0.ensures.0);
      dead = λ k h. past k h (dec_lt k (area c.args.n));
    }

pub side-n0-requires : goal.side-n0-requires
side-n0-requires c = (omega (arith, c.requires.0), c.requires.1)

pub loop-s-init : goal.loop-s-init
loop-s-init c = (omega arith, rw (NatL.mul-zero (8 * n0 c)) (weighed_none 0 _), omega arith, least c, λ k h l. absurd (omega (arith, NatL.mul-zero (8 * n0 c))))

pub overflow_mul-n0 : goal.overflow_mul-n0
overflow_mul-n0 c = record { fits = omega (arith, c.side-n0.ensures.1) }

pub overflow_mul-n0-in-loop-s : goal.overflow_mul-n0-in-loop-s
overflow_mul-n0-in-loop-s c = record { fits = omega (arith, strip_in (n0 c.before.before) (n0 c.before.before / 8) c.loop-s.s (by_eight c.before.before) (omega arith), NatL.mul-le-mul c.side-n0.ensures.1 c.side-n0.ensures.1) }

pub overflow_mul-n0-in-loop-s-2 : goal.overflow_mul-n0-in-loop-s-2
overflow_mul-n0-in-loop-s-2 c = record { fits = omega (arith, c.side-n0.ensures.1) }

pub overflow_add-strips : goal.overflow_add-strips
overflow_add-strips c = record { fits = omega (arith, c.side-n0.ensures.1) }

pub overflow_step-s : goal.overflow_step-s
overflow_step-s c = record { fits = omega (arith, c.side-n0.ensures.1) }
