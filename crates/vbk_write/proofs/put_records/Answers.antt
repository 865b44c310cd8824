use mathlib.Core.Path.{refl}
use Prim.Native.Nat.{◌+◌, ◌≤◌}
use native.Mathlib.Omega.{arith}
use lib.ListN.{length, get_or}
use Rattle.vbk_text.proofs.Writing.{pieces_none, pieces_room, pieces_more, pieces_done, pieces_length}
use Rattle.vbk_write.specs.Clip.{entry_bytes}
use Rattle.vbk_write.specs.Lent.{tokens_before, entry_of}
use Rattle.vbk_write.specs.Inner.{told}
use Rattle.vbk_write.proofs.Counts.{before_more, before_next}
use Rattle.vbk_write.proofs.put_records.Goals as goal
use Rattle.vbk_write.proofs.put_records.Goals.{In-loop-k}

pub loop-k-init : goal.loop-k-init
unfolding tokens_before
loop-k-init c =
    (pieces_none c.args.out.now c.args.at (length c.args.l.xs.now) (λ i. entry_bytes (entry_of (told c.args.l) i)) c.requires.3, refl)

-- the tokens of record k are there
there : (c : In-loop-k) → let a = c.args in c.loop-k.from + get_or a.l.counts.now c.loop-k.k 0 ≤ length a.l.tokens.now
there c =
    let l = c.loop-k in
    let h = before_more c.args.l.counts.now l.k (length c.args.l.counts.now) (omega (arith, c.loop-k-test.true, c.requires.0.counts)) in
    omega (arith, h, l.invariant.1, c.requires.1)

pub put_record-place-requires : goal.put_record-place-requires
put_record-place-requires c =
    let l = c.loop-k in
    (c.loop-k-test.true, c.requires.0, l.invariant.1, there (goal.at.put_record-place-requires c).In-loop-k, pieces_room l.invariant.0 c.loop-k-test.true)

pub bounds-l-k : goal.bounds-l-k
bounds-l-k c = omega (arith, c.loop-k-test.true, c.requires.0.counts)

pub overflow_add-from : goal.overflow_add-from
overflow_add-from c =
    omega (arith, there (goal.at.overflow_add-from c).In-loop-k, c.count32-from.ensures, c.requires.2)

pub loop-k-preserved : goal.loop-k-preserved
loop-k-preserved c =
    let l = c.loop-k in (
      pieces_more l.invariant.0 c.loop-k-test.true c.put_record-place.ensures,
      before_next c.args.l.counts.now l.k l.invariant.1 c.count32-from.ensures,
    )

pub shape_of-out : goal.shape_of-out
shape_of-out c = pieces_length c.loop-k.invariant.0

pub returns : goal.returns
returns c = pieces_done c.loop-k.invariant.0 c.loop-k-test.false
