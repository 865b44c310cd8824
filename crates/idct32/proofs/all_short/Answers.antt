-- `idct32::all_short` meets its contract.
use mathlib.Core.Path.{◌≡◌, refl, sym, ◌∙◌}
use mathlib.Core.Bool.{Bool, true, false, ◌&&◌}
use native.Mathlib.Nat.{le_antisymm}
use native.Mathlib.Omega.{arith}
use lib.IntN.{pos}
use lib.ListN.{get_or}
use mir.Syntax.{w64}
use mir.Facts.{to_z-of_z}
use Rattle.narrow.specs.Kept.{short}
use Rattle.idct32.proofs.Scan.{shorts_none, shorts_next}
use Rattle.idct32.proofs.all_short.Goals as goal

swap : (a b : Bool) → a && b ≡ b && a
swap true true = refl
swap true false = refl
swap false true = refl
swap false false = refl

pub loop-k-preserved : goal.loop-k-preserved
loop-k-preserved c =
    let l = c.loop-k in
    let e : c.is_short-all.result ≡ short (get_or c.args.block.now l.k (pos 0)) = rw (to_z-of_z {w = w64} (record { sfits = c.is_short-arg-1.given })) at c.is_short-all.ensures in
    (omega arith, swap l.all c.is_short-all.result ∙ rw (e, l.invariant.1) (sym (shorts_next l.k c.args.block.now)))

pub loop-k-init : goal.loop-k-init
loop-k-init c = (omega arith, sym (shorts_none _))

pub returns : goal.returns
returns c = let l = c.loop-k in rw (le_antisymm c.loop-k-test.false l.invariant.0) l.invariant.1
