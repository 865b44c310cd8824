use mathlib.Core.Path.{◌≡◌, ◌∙◌}
use Prim.Native.Nat.{◌<◌, ◌+◌, ◌*◌}
use native.Mathlib.Omega.{arith}
use borrow.Author.Rules.{rules}
use lib.IntN.{pos}
use lib.ListN.{length, length-set, get_or}
use mir.Syntax.{w64}
use mir.Facts.{to_z-of_z}
use Rattle.whole.specs.Round.{Round2}
use Rattle.whole.proofs.Loops.{loops, times_more}
use Rattle.blocks.specs.Inner.{set_line}
use Rattle.blocks.proofs.store_rounded.Goals as goal
use Rattle.blocks.proofs.store_rounded.Goals.{In-loop-k}

-- the place of a turn is within the slice
below : (c : In-loop-k)
    → c.args.start + c.loop-k.k * c.args.step < length c.args.s.now
below c = c.requires.1 c.loop-k.k c.loop-k-test.true

pub loop-k-init : goal.loop-k-init
loop-k-init c = search (rules, loops)

pub round2-requires : goal.round2-requires
round2-requires c = (
  search rules,
  search rules,
  rw (to_z-of_z {w = w64} (record { sfits = c.round2-arg-1.given })) (c.requires.4.each _ c.loop-k-test.true),
)

pub overflow_mul-k : goal.overflow_mul-k
overflow_mul-k c = omega (arith, below c.before.before)

pub overflow_add-start : goal.overflow_add-start
overflow_add-start c = omega (arith, below c.before.before)

pub offset_bounds-s-start : goal.offset_bounds-s-start
offset_bounds-s-start c = omega (arith, below c.before.before)

pub bounds-s-start : goal.bounds-s-start
bounds-s-start c = omega (arith, below c.before.before)

pub loop-k-preserved : goal.loop-k-preserved
loop-k-preserved c =
    let e : c.round2.result ≡ Round2 (get_or c.args.t.now c.loop-k.k (pos 0)) c.args.«shift» =
    c.round2.ensures ∙ rw (to_z-of_z {w = w64} (record { sfits = c.round2-arg-1.given })) in
    let f = to_z-of_z {w = w64} {z = c.round2.result} (record { sfits = c.round2.type_inv }) in (
      search rules,
      times_more _ _ _ c.loop-k.invariant.1 (rw (f, e)),
      simp length-set c.loop-k.invariant.2,
    )

pub returns : goal.returns
unfolding set_line
returns c = search (rules, loops)
