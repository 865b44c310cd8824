-- `narrow_lines::rows` meets its contract.
use native.Mathlib.Omega.{arith}
use Rattle.blocks.specs.Inverse.{lossy}
use Rattle.blocks.proofs.Inverse.{side_most}
use Rattle.narrow_lines.proofs.Strips.{valid, rows_done}
use Rattle.narrow_lines.proofs.rows.Goals as goal

pub lines-requires : goal.lines-requires
lines-requires c = (c.requires.0, c.requires.1, c.requires.2, c.requires.4, c.requires.3, λ i h. c.requires.5 i (omega (arith, c.requires.4)))

pub returns : goal.returns
returns c =
    let n = c.args.n in (
      c.lines.ensures.long,
      rows_done (lossy c.args.use_dct) n c.args.strips c.args.z.now (valid c.args.use_dct n c.requires.0 c.requires.1 c.requires.2)
          (side_most n (omega (arith, c.requires.0)) c.requires.1) c.requires.4 c.requires.6 c.lines.ensures,
    )
