use mathlib.Core.Path.{refl, ◌∙◌}
use Prim.Native.Nat.{◌^◌}
use lib.ListN.{length}
use Rattle.answers.specs.Sizes.{side}
use Rattle.blocks.proofs.Blocks.{rows_loop}
use Rattle.blocks.proofs.Places.{in_row}
use Rattle.fwd_dct.specs.Inner.{line_of, first_lines}
use Rattle.fwd_dct.proofs.Passes.{row_kept}
use Rattle.fwd_dct.proofs.rows.Goals as goal

pub each_line-requires : goal.each_line-requires
unfolding first_lines
each_line-requires c =
    let a = c.args in
    let r = c.requires in
    let e = c.side.ensures in
    record {
      size = (r.0, r.1, e.1);
      basis = r.2;
      places = λ i k h q. rw e.0 (in_row (side a.n) i k (length a.block.now) h q r.3);
      range = λ i k h q. rw e.0 (row_kept a.n r.0 r.1 (2 ^ 31) a.block.now r.3 r.4 i _ h refl k q);
    }

pub returns : goal.returns
unfolding first_lines
returns c = let a = c.args in (rw c.side.ensures.0 at c.each_line.ensures) ∙ rows_loop (line_of a.n) (side a.n) a.block.now c.requires.3
