use mathlib.Core.Path.{◌≡◌, sym, ap₂}
use Prim.Native.Nat.{◌+◌}
use native.Mathlib.Omega.{arith}
use lib.ListN.{length, get_or}
use lib.Seq.{sets}
use Rattle.vbk_text.proofs.Writing.{put_as, room_as, Todo, todo_all, todo_room, todo_next, todo_last}
use Rattle.vbk_write.specs.Bytes.{four, joined}
use Rattle.vbk_write.specs.Clip.{head_bytes, entry_bytes}
use Rattle.vbk_write.specs.Lent.{tokens_before, tokens_from, entry_of}
use Rattle.vbk_write.specs.Inner.{told}
use Rattle.vbk_write.proofs.put_record.Goals as goal
use Rattle.vbk_write.proofs.put_record.Goals.{After-count32, After-put_head-next}

pub put_head-next-requires : goal.put_head-next-requires
unfolding entry_bytes entry_of
put_head-next-requires c =
    let a = c.args in
    todo_room (head_bytes (get_or a.l.xs.now a.k 0) (get_or a.l.ys.now a.k 0) (get_or a.l.sizes.now a.k 0) (get_or a.l.tx_types.now a.k 0) (get_or a.l.lossless.now a.k 0) (get_or a.l.dcs.now a.k 0) (get_or a.l.acs.now a.k 0)) (joined four (tokens_from a.l.tokens.now (tokens_before a.l.counts.now a.k) (get_or a.l.counts.now a.k 0)))
    (todo_all a.out.now a.at (entry_bytes (entry_of (told c.args.l) a.k)) c.requires.4)

-- what is left after the head: the tokens
left : (c : After-put_head-next) → let a = c.args in
    Todo c.put_head-next.new.out c.put_head-next.result (joined four (tokens_from a.l.tokens.now (tokens_before a.l.counts.now a.k) (get_or a.l.counts.now a.k 0)))
    (sets a.out.now a.at (entry_bytes (entry_of (told c.args.l) a.k))) (a.at + length (entry_bytes (entry_of (told c.args.l) a.k)))
unfolding entry_bytes entry_of
left c =
    let a = c.args in
    todo_next (head_bytes (get_or a.l.xs.now a.k 0) (get_or a.l.ys.now a.k 0) (get_or a.l.sizes.now a.k 0) (get_or a.l.tx_types.now a.k 0) (get_or a.l.lossless.now a.k 0) (get_or a.l.dcs.now a.k 0) (get_or a.l.acs.now a.k 0)) (joined four (tokens_from a.l.tokens.now (tokens_before a.l.counts.now a.k) (get_or a.l.counts.now a.k 0)))
    (todo_all a.out.now a.at (entry_bytes (entry_of (told c.args.l) a.k)) c.requires.4) c.put_head-next.ensures

-- the tokens as the code counts them
share : (c : After-count32) → let a = c.args in
    joined four (tokens_from a.l.tokens.now a.from c.count32.result) ≡ joined four (tokens_from a.l.tokens.now (tokens_before a.l.counts.now a.k) (get_or a.l.counts.now a.k 0))
share c =
    ap₂ (λ from count. joined four (tokens_from c.args.l.tokens.now from count)) c.requires.2 c.count32.ensures

pub put_tokens-requires : goal.put_tokens-requires
put_tokens-requires c =
    (omega (arith, c.requires.3, c.count32.ensures), room_as c.put_head-next.new.out c.put_head-next.result (sym (share c)) (left (goal.at.put_tokens-requires c).After-put_head-next).room)

pub returns : goal.returns
returns c = todo_last (left (goal.at.returns c).After-put_head-next) (put_as (share (goal.at.returns c).After-count32) c.put_tokens.ensures)
