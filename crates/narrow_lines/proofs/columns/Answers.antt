-- `narrow_lines::columns` meets its contract.
use mathlib.Core.Path.{◌≡◌, ap, ◌∙◌}
use Prim.Native.Nat.{ℕ, ◌*◌, ◌/◌}
use native.Mathlib.Omega.{arith}
use Rattle.answers.specs.Sizes.{side}
use Rattle.blocks.specs.Inverse.{lossy}
use Rattle.narrow_lines.proofs.Strips.{all_eights, columns_done}
use Rattle.narrow_lines.proofs.columns.Goals as goal

pub lines-requires : goal.lines-requires
lines-requires c =
    let e : 8 * (c.side-strips.result / 8) ≡ side c.args.n = ap (λ (m : ℕ). 8 * (m / 8)) c.side-strips.ensures.0 ∙ all_eights c.args.n c.requires.0 c.requires.1 in
    (c.requires.0, c.requires.1, c.requires.2, omega (arith, e), c.requires.3, λ i h. c.requires.4 i (omega (arith, e)))

pub returns : goal.returns
returns c =
    (c.lines.ensures.long, columns_done (lossy c.args.use_dct) c.args.n c.args.z.now c.requires.0 c.requires.1 (rw c.side-strips.ensures.0 at c.lines.ensures))

pub side-strips-requires : goal.side-strips-requires
side-strips-requires c = (omega (arith, c.requires.0), c.requires.1)
