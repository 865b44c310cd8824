-- `residual16::first_eight` meets its contract.
use Rattle.std.proofs.Common.{◌≡◌, ℕ, zero, suc, ◌+◌, ◌<◌, ◌≤◌, List, length, get_or, set, ℤ, pos, ◌∙◌, arith, get_or-set_other, get_or-set_same, w16, w64, ne_eqb}
use mir.ValLaws.{to_z-of_z}
use Rattle.whole.proofs.Signed.{rd_ok}
use Rattle.quant.specs.declared.DcQuant.{DcQuant}
use Rattle.quant.specs.declared.AcQuant.{AcQuant}
use Rattle.quant.specs.Places.{quantizer_at}
use Rattle.quant.specs.Token.{dequant}
use Rattle.residual16.proofs.first_eight.Goals as goal

-- AC at all places but the first, which is put in afterwards
both : (size : ℕ) (dc : DcQuant) (ac : AcQuant) (tokens o : List ℤ) (v : ℤ) → length o ≡ 8
    → ((j : ℕ) → 1 ≤ j → j < 8 → get_or o j (pos 0) ≡ dequant size ac.0 (get_or tokens (0 + j) (pos 0))) → v ≡ dequant size dc.0 (get_or tokens 0 (pos 0))
    → (j : ℕ) → j < 8 → get_or (set o 0 v) j (pos 0) ≡ dequant size (quantizer_at dc ac j) (get_or tokens j (pos 0))
unfolding quantizer_at
both size dc ac tokens o v long rest first zero l = get_or-set_same o 0 v (pos 0) (omega (arith, long)) ∙ first
both size dc ac tokens o v long rest first (suc j) l =
    let e : 0 + suc j ≡ suc j = omega arith in
    get_or-set_other o 0 (suc j) v (pos 0) (λ q. absurd (omega arith)) ∙ rw e at (rest (suc j) (omega arith) l) ∙ rw (ne_eqb (suc j) 0 (λ q. absurd (omega arith)))

pub dequant16-requires : goal.dequant16-requires
dequant16-requires c =
    rw (to_z-of_z w64 (get_or c.args.tokens.now 0 (pos 0)) (record { sfits = c.dequant16-arg-1.given })) (c.requires.1, c.requires.3.0, c.requires.3.1)

pub returns : goal.returns
returns c =
    let t = to_z-of_z w64 (get_or c.args.tokens.now 0 (pos 0)) (record { sfits = c.dequant16-arg-1.given }) in
    let e = c.eight-o.ensures in
    both c.args.size c.args.dc_quant c.args.ac_quant c.args.tokens.now c.eight-o.result _ e.0 e.1
    (rd_ok w16 {z = c.dequant16.result} c.dequant16.type_inv ∙ rw (t) at c.dequant16.ensures)

pub eight-o-requires : goal.eight-o-requires
eight-o-requires c = (c.requires.0, omega arith, c.requires.2, λ j h l. let e : 0 + j ≡ j = omega arith in rw e (c.requires.4 j h l))
