use mathlib.Core.Path.{◌≡◌, ap, ◌∙◌}
use mathlib.Core.List.{List}
use Prim.Native.Nat.{ℕ}
use mir.Syntax.{w32}
use mir.ValLaws.{to_z-of_z}
use Rattle.exports.specs.Report.{Lent}
use Rattle.exports.proofs.bracetwill_reconstruct_block_report.Goals as goal

-- three lists, one by one
together : (a b : Lent) → a.samples ≡ b.samples → a.counts ≡ b.counts → a.sums ≡ b.sums → a ≡ b
together a b p q r =
    ap (λ (x : List ℕ). record { samples = x; counts = a.counts; sums = a.sums }) p
    ∙ ap (λ (x : List ℕ). record { samples = b.samples; counts = x; sums = a.sums }) q
    ∙ ap (λ (x : List ℕ). record { samples = b.samples; counts = b.counts; sums = x }) r

-- the two quantizers, as they were handed over
pub returns : goal.returns
returns c =
    let e = rw (to_z-of_z w32 c.args.dc_quant c.ranges.dc_quant, to_z-of_z w32 c.args.ac_quant c.ranges.ac_quant) at c.reconstruct_block_report-a.ensures in
    record { answered = c.code.ensures ∙ e.answered; written = together _ _ e.written e.counted e.summed }
