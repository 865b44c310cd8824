-- `narrow_adst::permute` meets its contract: after a groups of k and b turns more, k a + b places are filled.
use mathlib.Core.Path.{◌≡◌, sym, ap, ◌∙◌}
use Prim.Native.Nat.{ℕ, ◌+◌, ◌*◌, ◌^◌, ◌≤◌, ◌<◌}
use native.Mathlib.Nat as NatL
use native.Mathlib.Omega.{arith}
use lib.IntN.{pos}
use lib.ListN.{get_or}
use lib.Pow.{pow_mono}
use mir.Syntax.{w16}
use Rattle.whole.specs.Lists.{move}
use Rattle.whole.proofs.Lists.{fill_none, fill_more}
use Rattle.whole.proofs.Signed.{rd_ok}
use Rattle.steps.specs.Step.{step}
use Rattle.flat.proofs.Exchange.{inside, group}
use Rattle.narrow_adst.proofs.permute.Goals as goal

-- the place of a turn is one of the 2^n
place : (h k a b n : ℕ) → h * k ≡ 2 ^ n → a < h → b < k → k * a + b < 2 ^ n
place h k a b n e la lb = rw e at (inside h k a b la lb)

small : (h k a b n : ℕ) → n ≤ 4 → h * k ≡ 2 ^ n → a < h → b < k → k * a + b < 32
small h k a b n le e la lb = omega (arith, place h k a b n e la lb, pow_mono {i = n} {j = 4} le)

pub loop-a-init : goal.loop-a-init
loop-a-init g c =
    let t = c.args.t.now in
    let f = g.O.Order.source c.args.n in
    (omega arith, rw (NatL.mul-zero c.args.k) (fill_none (λ i. get_or t (f i) (pos 0)) t))

pub loop-b-init : goal.loop-b-init
loop-b-init g c = (omega arith, rw (NatL.add-zero (c.args.k * c.loop-a.a)) c.loop-a.invariant.1)

pub loop-b-preserved : goal.loop-b-preserved
loop-b-preserved g c =
    let t = c.args.t.now in
    let f = g.O.Order.source c.args.n in
    let i = c.args.k * c.loop-a.a + c.loop-b.b in
    let r = c.place in
    let e = rd_ok w16 {z = get_or t r.result (pos 0)} c.t-1.given in
    (omega arith, rw (sym (NatL.add_assoc (c.args.k * c.loop-a.a) c.loop-b.b 1)) (fill_more (λ i. get_or t (f i) (pos 0)) t i c.loop-b.invariant.1 (rw (e, r.ensures.0))))

pub loop-a-preserved : goal.loop-a-preserved
loop-a-preserved g c =
    (omega arith, rw (group c.args.k c.loop-a.a c.loop-b.b (omega arith) (omega arith)) at c.loop-b.invariant.1)

pub returns : goal.returns
unfolding step move
returns g c =
    let e : c.args.k * c.loop-a.a ≡ 2 ^ c.args.n =
    let q : c.loop-a.a ≡ c.args.h = omega arith in
    NatL.mul_comm c.args.k c.loop-a.a ∙ ap (λ (m : ℕ). m * c.args.k) q ∙ c.requires.2 in
    rw e at c.loop-a.invariant.1

pub overflow_mul-i : goal.overflow_mul-i
overflow_mul-i g c = omega (arith, small c.args.h c.args.k c.loop-a.a c.loop-b.b c.args.n c.requires.1 c.requires.2 (omega arith) (omega arith))

pub overflow_add-i : goal.overflow_add-i
overflow_add-i g c = omega (arith, small c.args.h c.args.k c.loop-a.a c.loop-b.b c.args.n c.requires.1 c.requires.2 (omega arith) (omega arith))

pub place-requires : goal.place-requires
place-requires g c = (c.requires.0, c.requires.1, place c.args.h c.args.k c.loop-a.a c.loop-b.b c.args.n c.requires.2 (omega arith) (omega arith))

pub offset_bounds-t-i : goal.offset_bounds-t-i
offset_bounds-t-i g c = omega (arith, small c.args.h c.args.k c.loop-a.a c.loop-b.b c.args.n c.requires.1 c.requires.2 (omega arith) (omega arith))

pub bounds-t-i : goal.bounds-t-i
bounds-t-i g c = omega (arith, small c.args.h c.args.k c.loop-a.a c.loop-b.b c.args.n c.requires.1 c.requires.2 (omega arith) (omega arith))
