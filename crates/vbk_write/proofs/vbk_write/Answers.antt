use mathlib.Core.Path.{◌≡◌, sym}
use Rattle.std.proofs.lemmas.Result.{err_from_is_err_and}
use mathlib.Core.List.{List, ◌++◌}
use Prim.Native.Nat.{ℕ, ◌+◌}
use native.Mathlib.Omega.{arith}
use lib.ListN.{length}
use lib.Seq.{sets}
use Rattle.vbk_text.specs.Inner.{Put}
use Rattle.vbk_text.proofs.Writing.{put_as, room_as, Todo, todo_all, todo_room, todo_next, todo_last}
use Rattle.vbk_write.specs.Bytes.{two, joined}
use Rattle.vbk_write.specs.Clip.{header_bytes}
use Rattle.vbk_write.specs.Lent.{Lent, entry_of}
use Rattle.vbk_write.specs.Promises.{answer_of}
use Rattle.vbk_write.proofs.Lengths.{file_length_lem}
use Rattle.vbk_write.proofs.Answers.{taken}
use Rattle.vbk_write.proofs.Writing.{entries, in_order, room, refused, done}
use Rattle.vbk_write.proofs.vbk_write.Goals as goal
use Rattle.vbk_write.proofs.vbk_write.Goals.{Start}

-- what is left to write of l's file, from a place on, to end with the whole of it at the front of the buffer o
abbrev Left : Lent → List ℕ → List ℕ → ℕ → List ℕ → Type 0
Left l o out at rest =
    let whole = header_bytes l.depth l.width l.height ++ (joined two l.samples ++ entries l) in
    Todo out at rest (sets o 0 whole) (0 + length whole)

module _ (l : Lent) (o : List ℕ) (fine : answer_of l (length o) ≡ 0) where
  -- at first the whole file
  left0 : Left l o o 0 (header_bytes l.depth l.width l.height ++ (joined two l.samples ++ entries l))
  left0 =
      todo_all o 0 (header_bytes l.depth l.width l.height ++ (joined two l.samples ++ entries l)) (room_as o 0 (sym (in_order l)) (room l o fine))

  module _ {a : ℕ} {first : List ℕ} (p : Put o 0 (header_bytes l.depth l.width l.height) a first) where
    -- after the header
    left1 : Left l o first a (joined two l.samples ++ entries l)
    left1 = todo_next (header_bytes l.depth l.width l.height) (joined two l.samples ++ entries l) left0 p

    -- after the samples
    left2 : {b : ℕ} {second : List ℕ} → Put first a (joined two l.samples) b second → Left l o second b (entries l)
    left2 q = todo_next (joined two l.samples) (entries l) left1 q

-- what is lent
abbrev lent : Start → Lent
lent s = record { depth = s.args.depth; width = s.args.width; height = s.args.height; samples = s.args.samples.now; xs = s.args.xs.now; ys = s.args.ys.now; sizes = s.args.sizes.now; tx_types = s.args.tx_types.now; lossless = s.args.lossless.now; dcs = s.args.dcs.now; acs = s.args.acs.now; counts = s.args.counts.now; tokens = s.args.tokens.now }

pub returns-in_err-check : goal.returns-in_err-check
returns-in_err-check c =
    let p = err_from_is_err_and c.from_residual.result c.from_residual.ensures.1 in
    rw (p.1, p.2) (refused (lent (goal.at.returns-in_err-check c).Start) c.args.out.now c.in_err-check.ensures)

pub put_header-a-requires : goal.put_header-a-requires
put_header-a-requires c =
    let l = lent (goal.at.put_header-a-requires c).Start in
    todo_room (header_bytes l.depth l.width l.height) (joined two l.samples ++ entries l)
    (left0 l c.args.out.now (sym c.in_ok-check.ensures))

pub put_samples-b-requires : goal.put_samples-b-requires
put_samples-b-requires c =
    let l = lent (goal.at.put_samples-b-requires c).Start in
    todo_room (joined two l.samples) (entries l)
    (left1 l c.args.out.now (sym c.in_ok-check.ensures) c.put_header-a.ensures)

pub put_records-requires : goal.put_records-requires
unfolding entry_of
put_records-requires c =
    let l = lent (goal.at.put_records-requires c).Start in
    let fine = sym c.in_ok-check.ensures in
    let t = taken l (length c.args.out.now) fine in
    let a = t.fits.lists_are in (
      record { ys = a.ys; sizes = a.sizes; tx_types = a.tx_types; lossless = a.lossless; dcs = a.dcs; acs = a.acs; counts = a.counts },
      omega (arith, t.fits.total_is),
      omega (arith, t.short, file_length_lem l t.fits),
      (left2 l c.args.out.now fine c.put_header-a.ensures c.put_samples-b.ensures).room,
    )

pub returns : goal.returns
unfolding entry_of
returns c =
    let l = lent (goal.at.returns c).Start in
    let fine = sym c.in_ok-check.ensures in
    done l c.args.out.now fine
    (put_as (in_order l) (todo_last (left2 l c.args.out.now fine c.put_header-a.ensures c.put_samples-b.ensures) c.put_records.ensures))
