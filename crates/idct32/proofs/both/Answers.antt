use mathlib.Core.Path.{◌≡◌, refl, sym, ap, subst, ◌∙◌}
use mathlib.Core.Bool.{false}
use native.Mathlib.Omega.{arith}
use Prim.Native.Nat.{ℕ, ◌*◌, ◌/◌, ◌≤◌}
use lib.ListN.{length}
use Rattle.answers.specs.Sizes.{side, area}
use Rattle.blocks.specs.Block.{rows}
use Rattle.blocks.specs.Inverse.{apply, row_pass, column_pass}
use Rattle.blocks.proofs.Passes.{row_valid, column_valid, adst_side}
use Rattle.narrow.specs.Tile.{raster}
use Rattle.narrow_lines.proofs.Strips.{all_eights}
use Rattle.weights.specs.Inner.{Keeps}
use Rattle.weights.proofs.Blocks.{AllKept, few_kept}
use Rattle.idct32.proofs.Work.{area_most}
use Rattle.idct32.proofs.Front.{front, front_past, front_row, front_column, front_both}
use Rattle.idct32.proofs.both.Lts as lts
use Rattle.idct32.proofs.both.Tie as tie
use Rattle.idct32.proofs.both.Reads as reads
use Rattle.idct32.proofs.both.Goals as goal
use Rattle.idct32.proofs.both.Goals.{After-side-strips, Start}

-- the place behind a call, with what was known there
abbrev After-rows : Type 0
After-rows = lts.After-rows tie.the-claims reads.Pre reads.Post

-- every line stays within 16 bits
kept : (s : Start) → AllKept (row_pass s.args.tx_type false) (column_pass s.args.tx_type false) s.args.n s.args.work.now
kept s =
    let p = s.requires.0 in
    few_kept (row_pass s.args.tx_type false) (column_pass s.args.tx_type false) s.args.n s.args.work.now p.least p.most
    (row_valid s.args.n s.args.tx_type false p) (column_valid s.args.n s.args.tx_type false p)
    (rw s.requires.2 (area_most s.args.n p.least p.most)) s.requires.3

room : (s : Start) → area s.args.n ≤ length s.args.work.now
room s = rw s.requires.2 (area_most s.args.n s.requires.0.least s.requires.0.most)

-- all strips
whole : (c : After-side-strips) → 8 * (c.side-strips.result / 8) ≡ side c.args.n
whole c = ap (λ (m : ℕ). 8 * (m / 8)) c.side-strips.ensures.0 ∙ all_eights c.args.n c.requires.1 c.requires.0.most

pub rows-requires : goal.rows-requires
rows-requires c =
    let p = c.requires.0 in
    let n = c.args.n in
    let e = whole c.before.before.before.before in
    rw (c.row_dct.ensures, c.to_strips.ensures.1) (
      c.requires.1,
      p.most,
      adst_side 2 2 n false _ (row_valid n c.args.tx_type false p) refl,
      c.to_strips.ensures.0,
      omega (arith, e),
      (λ i h. subst (Keeps (row_pass c.args.tx_type false) n) (sym (front_row (side n) c.args.work.now (room c.before.before.before.before.before.before) i h)) ((kept c.before.before.before.before.before.before).of_row i h)),
      (λ k h. front_past (side n) c.args.work.now (room c.before.before.before.before.before.before) k (rw e at h)),
    )

-- what the rows leave
made : (c : After-rows) → raster (side c.args.n) c.rows.new.z ≡ rows (apply (row_pass c.args.tx_type false) c.args.n) (side c.args.n) (front (side c.args.n) c.args.work.now (room c.before.before.before.before.before.before.before))
made c = rw (c.row_dct.ensures, c.to_strips.ensures.1) at c.rows.ensures.1

pub columns-requires : goal.columns-requires
columns-requires c =
    let p = c.requires.0 in
    let n = c.args.n in
    rw (c.column_dct.ensures, made c.before.before) (
      c.requires.1,
      p.most,
      adst_side 0 0 n false _ (column_valid n c.args.tx_type false p) refl,
      c.rows.ensures.0,
      (λ j h. subst (Keeps (column_pass c.args.tx_type false) n) (sym (front_column (side n) c.args.work.now (room c.before.before.before.before.before.before.before.before.before) (apply (row_pass c.args.tx_type false) n) (λ t. t) j h)) ((kept c.before.before.before.before.before.before.before.before.before).of_column j h)),
    )

pub returns : goal.returns
returns c =
    let n = c.args.n in
    let e = rw (c.column_dct.ensures, made c.before.before.before.before.before.before) at c.columns.ensures.1 in
    front_both (side n) c.args.work.now (room c.before.before.before.before.before.before.before.before.before.before.before.before.before) (apply (row_pass c.args.tx_type false) n) (apply (column_pass c.args.tx_type false) n) (rw e at c.from_strips.ensures)

pub side-strips-requires : goal.side-strips-requires
side-strips-requires c = (c.requires.0.least, c.requires.0.most)

pub to_strips-requires : goal.to_strips-requires
to_strips-requires c = (c.requires.1, c.requires.0.most, rw c.zeros-z.ensures refl)

pub from_strips-requires : goal.from_strips-requires
from_strips-requires c = (c.requires.1, c.requires.0.most)
