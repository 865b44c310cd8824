-- `residual16::eight` meets its contract.
use Rattle.std.proofs.Common.{◌≡◌, ◌+◌, ◌<◌, get_or, pos, refl, ◌∙◌, ⊎_elim, eq-or-lt_of_le, arith, length-set, get_or-set_other, get_or-set_same, w16, w64}
use mir.ValLaws.{to_z-of_z}
use Rattle.whole.proofs.Signed.{rd_ok}
use Rattle.residual16.proofs.eight.Goals as goal

pub loop-j-preserved : goal.loop-j-preserved
loop-j-preserved c =
    let l = c.loop-j in
    let t = to_z-of_z w64 (get_or c.args.tokens.now (c.args.at + l.j) (pos 0)) (record { sfits = c.dequant16-arg-1.given }) in
    let e = rd_ok w16 {z = c.dequant16.result} c.dequant16.type_inv ∙ rw (t) at c.dequant16.ensures in (
      omega arith,
      omega (arith, l.invariant.1),
      simp length-set l.invariant.2,
      λ i h k. ⊎_elim (λ (q : i ≡ l.j). rw q (get_or-set_same l.o l.j _ (pos 0) (omega (arith, l.invariant.2)) ∙ e))
          (λ (q : i < l.j). get_or-set_other l.o l.j i _ (pos 0) (λ e. absurd (omega arith)) ∙ l.invariant.3 i h q)
          (eq-or-lt_of_le (omega arith)),
    )

pub returns : goal.returns
returns c = (c.loop-j.invariant.2, λ j h l. c.loop-j.invariant.3 j h (omega arith))

pub loop-j-init : goal.loop-j-init
loop-j-init c = (omega (arith, c.requires.1), omega arith, refl, λ i h l. absurd (omega arith))

pub dequant16-requires : goal.dequant16-requires
dequant16-requires c = let j = c.loop-j.j in
    let p = c.requires.3 j c.loop-j.invariant.1 (omega arith) in
    rw (to_z-of_z w64 (get_or c.args.tokens.now (c.args.at + j) (pos 0)) (record { sfits = c.dequant16-arg-1.given })) (c.requires.2, p.0, p.1)
