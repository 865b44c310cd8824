-- `tokens::some_above` meets its contract.
use mathlib.Core.Path.{◌≡◌, ap, ◌∙◌}
use mathlib.Core.Bool.{cond}
use native.Mathlib.Omega.{arith}
use lib.Dec.{eqb}
use lib.IntN.{pos, nat_abs}
use lib.ListN.{get_or}
use mir.Syntax.{w64}
use mir.ValLaws.{to_z-of_z}
use Rattle.tokens.proofs.Above.{counted, above_none, above_hit, above_miss}
use Rattle.tokens.proofs.some_above.Goals as goal
use Rattle.tokens.proofs.some_above.Goals.{Joined-bound_at-magnitude, else-bound_at-magnitude, then-bound_at-magnitude}

-- what the turn compares
bounded : (c : Joined-bound_at-magnitude) → let a = c.args in
    c.bound_at.result ≡ cond (eqb c.loop-k.k 0) a.dc.0 a.ac.0
bounded c = c.bound_at.ensures

seen : (c : Joined-bound_at-magnitude) → let a = c.args in
    c.magnitude.result ≡ nat_abs (get_or a.tokens.now c.loop-k.k (pos 0))
seen c =
    c.magnitude.ensures
    ∙ ap nat_abs (to_z-of_z w64 (get_or c.args.tokens.now c.loop-k.k (pos 0)) (record { sfits = c.magnitude-arg-1.given }))

pub loop-k-preserved : goal.loop-k-preserved
loop-k-preserved c =
    let l = c.loop-k in
    let a = c.args in
    elim c.if-bound_at-magnitude.branch [ then-bound_at-magnitude w ↦ (omega arith, omega (arith, w.above-is), rw w.above-is (above_hit a.dc a.ac a.tokens.now l.k l.above (rw (bounded c, seen c) at w.if-bound_at-magnitude.true))) | else-bound_at-magnitude w ↦ (omega arith, omega (arith, w.above-is), rw w.above-is (above_miss a.dc a.ac a.tokens.now l.k (rw (bounded c, seen c) at w.if-bound_at-magnitude.false) l.invariant.2)) ]

pub returns : goal.returns
returns c =
    let e : c.args.count ≡ c.loop-k.k = omega arith in
    rw e (counted c.loop-k.above ∙ c.loop-k.invariant.2)

pub loop-k-init : goal.loop-k-init
loop-k-init c = (omega arith, omega arith, above_none _ _ _)
