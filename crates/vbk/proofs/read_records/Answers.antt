use mathlib.Core.Path.{◌≡◌, sym, ap, subst, ◌∙◌}
use Prim.Native.Nat.{ℕ, ◌<◌}
use native.Mathlib.Omega.{arith}
use borrow.Author.Tests.{ltb-true, ltb-false}
use lib.ListN.{length}
use mathlib.Core.List.{List}
use Rattle.vbk_read.specs.Records.{next_in, Recorded, read_on}
use Rattle.vbk.proofs.Records.{Reading, reading_none, reading_room, reading_more, reading_done, moves}
use Rattle.vbk.proofs.read_records.Goals as goal

-- the first record
pub loop-reader-init : goal.loop-reader-init
loop-reader-init g c =
    let a = c.args in
    let m = g.B.Reconstruct in
    let o = c.open-reader.ensures in
    record {
      file_is = ap (λ f. f.now) o.file_is;
      recorded = subst (λ (k : ℕ). Recorded a.file.now k c.open-reader.result.record) (sym o.at_is) o.record_is;
      reading =
          subst (λ (k : ℕ). Reading m.rebuilds a.file.now a.from (m.beside a.samples.now a.blocks.now) a.answers.now (m.beside a.samples.now a.blocks.now) a.answers.now k 0 0) (sym o.at_is)
          (reading_none m.rebuilds a.file.now a.from (m.beside a.samples.now a.blocks.now) a.answers.now c.requires.2 c.requires.3);
    }

pub one_record-tally-requires : goal.one_record-tally-requires
one_record-tally-requires g c =
    let a = c.args in
    let m = g.B.Reconstruct in
    let i = c.loop-reader.invariant in
    let there : c.loop-reader.reader.at < length a.file.now = ltb-true _ _ (sym i.recorded.found_is ∙ sym c.is_found.ensures ∙ c.loop-reader-test.true) in (
      c.requires.0,
      i.recorded,
      sym c.is_found.ensures ∙ c.loop-reader-test.true,
      reading_room m.rebuilds a.file.now a.from (m.beside a.samples.now a.blocks.now) a.answers.now i.reading c.requires.1 c.requires.4 there,
      omega (arith, i.reading.placed.touched_few, i.reading.placed.within, c.requires.1),
    )

-- the next record is read from where this one ends
pub loop-reader-preserved : goal.loop-reader-preserved
loop-reader-preserved g c =
    let a = c.args in
    let m = g.B.Reconstruct in
    let r = c.loop-reader.reader in
    let i = c.loop-reader.invariant in
    let o = c.next-reader.ensures in
    let there : r.at < length a.file.now = ltb-true _ _ (sym i.recorded.found_is ∙ sym c.is_found.ensures ∙ c.loop-reader-test.true) in
    let place : c.next-reader.result.at ≡ read_on a.file.now r.at = o.at_is ∙ ap (λ (l : List ℕ). next_in (length l) r.«record») i.file_is ∙ i.recorded.next_is in
    record {
      file_is = ap (λ f. f.now) o.file_is ∙ i.file_is;
      recorded =
          rw i.file_is at (subst (λ (k : ℕ). Recorded r.file.now k c.next-reader.result.record) (sym o.at_is) o.record_is);
      reading =
          subst (λ (k : ℕ). Reading m.rebuilds a.file.now a.from (m.beside a.samples.now a.blocks.now) a.answers.now (m.beside c.one_record-tally.new.samples c.one_record-tally.new.blocks) c.one_record-tally.new.answers k c.one_record-tally.result.count c.one_record-tally.result.touched) (sym place)
          (reading_more m.rebuilds a.file.now a.from (m.beside a.samples.now a.blocks.now) a.answers.now i.reading c.requires.1 c.requires.4 there c.one_record-tally.ensures);
    }

pub loop-reader-smaller : goal.loop-reader-smaller
loop-reader-smaller g c =
    let a = c.args in
    let m = g.B.Reconstruct in
    let r = c.loop-reader.reader in
    let i = c.loop-reader.invariant in
    let there : r.at < length a.file.now = ltb-true _ _ (sym i.recorded.found_is ∙ sym c.is_found.ensures ∙ c.loop-reader-test.true) in
    let place : c.next-reader.result.at ≡ read_on a.file.now r.at = c.next-reader.ensures.at_is ∙ ap (λ (l : List ℕ). next_in (length l) r.«record») i.file_is ∙ i.recorded.next_is in
    let m = moves m.rebuilds a.file.now r.at (m.beside c.loop-reader.samples c.loop-reader.blocks) there in
    omega (arith, there, m, place)

pub returns : goal.returns
returns g c =
    let a = c.args in
    let m = g.B.Reconstruct in
    let i = c.loop-reader.invariant in
    reading_done m.rebuilds a.file.now a.from (m.beside a.samples.now a.blocks.now) a.answers.now i.reading c.requires.1 c.requires.4
    (ltb-false _ _ (sym i.recorded.found_is ∙ sym c.is_found.ensures ∙ c.loop-reader-test.false))
