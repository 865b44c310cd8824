-- `primitives::turn` meets its contract: the four-multiply form by its expressions, the two-multiply forms by the laws of Rotations.
use mathlib.Core.Path.{ap, ap₂, ◌∙◌}
use Prim.Native.Nat.{◌^◌}
use native.Mathlib.Omega.{arith}
use lib.Dec.{lit≤}
use lib.IntN.{ℤ, ◌+ℤ◌, ◌-ℤ◌, ◌*ℤ◌}
use mir.Syntax.{w64}
use mir.Facts.{to_z-of_z}
use Rattle.whole.specs.Round.{Round2}
use Rattle.whole.proofs.Signed.{C, loc, ◌⊕◌, ◌⊖◌, ◌⊗◌, rd_ok, fits, value, within}
use Rattle.whole.specs.Within.{Within}
use Rattle.primitives.specs.Rotations.{turn_x, turn_y}
use Rattle.primitives.proofs.Cosine.{sin_even, sin_odd}
use Rattle.primitives.proofs.Rotations.{even_x, even_y, odd_x, odd_y}
use Rattle.primitives.proofs.turn.Goals as goal

-- the expressions that are rounded
abbrev four_x : {p q c s : ℤ} → Within (2 ^ 46) p → Within (2 ^ 46) q → Within 16384 c → Within 16384 s → C
four_x p q c s = loc p ⊗ loc c ⊖ loc q ⊗ loc s

abbrev four_y : {p q c s : ℤ} → Within (2 ^ 46) p → Within (2 ^ 46) q → Within 16384 c → Within 16384 s → C
four_y p q c s = loc p ⊗ loc s ⊕ loc q ⊗ loc c

abbrev sum : {p q c : ℤ} → Within (2 ^ 46) p → Within (2 ^ 46) q → Within 16384 c → C
sum p q c = (loc p ⊕ loc q) ⊗ loc c

abbrev diff : {p q c : ℤ} → Within (2 ^ 46) p → Within (2 ^ 46) q → Within 16384 c → C
diff p q c = (loc p ⊖ loc q) ⊗ loc c

pub overflow_sub-p : goal.overflow_sub-p
overflow_sub-p c = fits w64 (four_x c.requires.0 c.requires.1 c.cos64-c.ensures.1 c.sin64-s.ensures.1) tt

pub round2-requires : goal.round2-requires
round2-requires c =
    (lit≤ tt, lit≤ tt, within w64 (2 ^ 62) (four_x c.requires.0 c.requires.1 c.cos64-c.ensures.1 c.sin64-s.ensures.1) tt tt)

pub overflow_mul-p-then-angle2-ne16 : goal.overflow_mul-p-then-angle2-ne16
overflow_mul-p-then-angle2-ne16 c = fits w64 (loc c.requires.0 ⊗ loc c.sin64-s.ensures.1) tt

pub overflow_mul-q-then-angle2-ne16 : goal.overflow_mul-q-then-angle2-ne16
overflow_mul-q-then-angle2-ne16 c = fits w64 (loc c.requires.1 ⊗ loc c.cos64-c.ensures.1) tt

pub overflow_add-p : goal.overflow_add-p
overflow_add-p c =
    fits w64 (four_y c.requires.0 c.requires.1 c.cos64-c.ensures.1 c.sin64-s.ensures.1) tt

pub round2-requires-then-angle2-ne16 : goal.round2-requires-then-angle2-ne16
round2-requires-then-angle2-ne16 c =
    (lit≤ tt, lit≤ tt, within w64 (2 ^ 62) (four_y c.requires.0 c.requires.1 c.cos64-c.ensures.1 c.sin64-s.ensures.1) tt tt)

pub returns-then-angle2-ne16 : goal.returns-then-angle2-ne16
unfolding turn_x turn_y
returns-then-angle2-ne16 c =
    let k = c.cos64-c in
    let z = c.sin64-s in
    let e = rw (to_z-of_z c.ranges.angle) at k.ensures.0 in
    let f = rw (to_z-of_z c.ranges.angle) at z.ensures.0 in
    record {
      x_is =
          rd_ok w64 c.round2.type_inv
          ∙ c.round2.ensures
          ∙ ap (λ (u : ℤ). Round2 u 14) (value w64 (four_x c.requires.0 c.requires.1 k.ensures.1 z.ensures.1) tt ∙ ap₂ (λ (u v : ℤ). c.args.p *ℤ u -ℤ c.args.q *ℤ v) e f);
      y_is =
          rd_ok w64 c.round2-then-angle2-ne16.type_inv
          ∙ c.round2-then-angle2-ne16.ensures
          ∙ ap (λ (u : ℤ). Round2 u 14) (value w64 (four_y c.requires.0 c.requires.1 k.ensures.1 z.ensures.1) tt ∙ ap₂ (λ (u v : ℤ). c.args.p *ℤ v +ℤ c.args.q *ℤ u) e f);
    }

pub overflow_mul-p-then-angle2-eq1 : goal.overflow_mul-p-then-angle2-eq1
overflow_mul-p-then-angle2-eq1 c = fits w64 (sum c.requires.0 c.requires.1 c.cos64-c.ensures.1) tt

pub round2-requires-then-angle2-eq1 : goal.round2-requires-then-angle2-eq1
round2-requires-then-angle2-eq1 c =
    (lit≤ tt, lit≤ tt, within w64 (2 ^ 62) (sum c.requires.0 c.requires.1 c.cos64-c.ensures.1) tt tt)

pub overflow_mul-q-then-angle2-eq1 : goal.overflow_mul-q-then-angle2-eq1
overflow_mul-q-then-angle2-eq1 c = fits w64 (diff c.requires.1 c.requires.0 c.cos64-c.ensures.1) tt

pub round2-requires-then-angle2-eq1-2 : goal.round2-requires-then-angle2-eq1-2
round2-requires-then-angle2-eq1-2 c =
    (lit≤ tt, lit≤ tt, within w64 (2 ^ 62) (diff c.requires.1 c.requires.0 c.cos64-c.ensures.1) tt tt)

pub returns-then-angle2-eq1 : goal.returns-then-angle2-eq1
returns-then-angle2-eq1 c =
    let a = c.modulo128-angle2 in
    let k = c.cos64-c in
    let g = c.args.angle in
    let p = c.args.p in
    let q = c.args.q in
    let e = rw (to_z-of_z c.ranges.angle) at k.ensures.0 in
    let d = sin_odd g a.result (rw (to_z-of_z c.ranges.angle) at a.ensures.0) (omega arith) (omega arith) in
    record {
      x_is =
          rd_ok w64 c.round2-then-angle2-eq1.type_inv
          ∙ c.round2-then-angle2-eq1.ensures
          ∙ ap (λ (u : ℤ). Round2 u 14) (value w64 (sum c.requires.0 c.requires.1 k.ensures.1) tt ∙ ap (λ (u : ℤ). (p +ℤ q) *ℤ u) e ∙ odd_x p q g d);
      y_is =
          rd_ok w64 c.round2-then-angle2-eq1-2.type_inv
          ∙ c.round2-then-angle2-eq1-2.ensures
          ∙ ap (λ (u : ℤ). Round2 u 14) (value w64 (diff c.requires.1 c.requires.0 k.ensures.1) tt ∙ ap (λ (u : ℤ). (q -ℤ p) *ℤ u) e ∙ odd_y p q g d);
    }

pub overflow_mul-p-2 : goal.overflow_mul-p-2
overflow_mul-p-2 c = fits w64 (diff c.requires.0 c.requires.1 c.cos64-c.ensures.1) tt

pub round2-requires-2 : goal.round2-requires-2
round2-requires-2 c =
    (lit≤ tt, lit≤ tt, within w64 (2 ^ 62) (diff c.requires.0 c.requires.1 c.cos64-c.ensures.1) tt tt)

pub overflow_mul-p-3 : goal.overflow_mul-p-3
overflow_mul-p-3 c = fits w64 (sum c.requires.0 c.requires.1 c.cos64-c.ensures.1) tt

pub round2-requires-3 : goal.round2-requires-3
round2-requires-3 c =
    (lit≤ tt, lit≤ tt, within w64 (2 ^ 62) (sum c.requires.0 c.requires.1 c.cos64-c.ensures.1) tt tt)

pub returns : goal.returns
returns c =
    let a = c.modulo128-angle2 in
    let k = c.cos64-c in
    let g = c.args.angle in
    let p = c.args.p in
    let q = c.args.q in
    let e = rw (to_z-of_z c.ranges.angle) at k.ensures.0 in
    let d = sin_even g a.result (rw (to_z-of_z c.ranges.angle) at a.ensures.0) (omega arith) (omega arith) in
    record {
      x_is =
          rd_ok w64 c.round2-2.type_inv
          ∙ c.round2-2.ensures
          ∙ ap (λ (u : ℤ). Round2 u 14) (value w64 (diff c.requires.0 c.requires.1 k.ensures.1) tt ∙ ap (λ (u : ℤ). (p -ℤ q) *ℤ u) e ∙ even_x p q g d);
      y_is =
          rd_ok w64 c.round2-3.type_inv
          ∙ c.round2-3.ensures
          ∙ ap (λ (u : ℤ). Round2 u 14) (value w64 (sum c.requires.0 c.requires.1 k.ensures.1) tt ∙ ap (λ (u : ℤ). (p +ℤ q) *ℤ u) e ∙ even_y p q g d);
    }
