use Rattle.std.proofs.Common.{List, ℕ, Option, Some, None, length, arith}
use Rattle.std.specs.Borrow.{Bor}
use Rattle.std.specs.Option.{unwrap_or}
use Rattle.std.specs.Slice.{IsGetRangeResult}
use Rattle.clip_rows.specs.Rows.{Front, Tail}
use Rattle.clip_rows.proofs.Texts.{Front-take, Piece-cell, Tail-Tail, Tail-drop, Tail-rest, Tail-whole}
use Rattle.clip_rows.proofs.next_cell.Goals as goal

-- what is left past a separator, if one is there, is a tail
Tail-past : (left : Bor (List ℕ)) (past : Option (Bor (List ℕ))) → IsGetRangeResult left.now 1 (length left.now) past → Tail left.now (unwrap_or past left).now
Tail-past left None got = Tail-whole left.now
Tail-past left (Some rest) got = rw got.0.2 (Tail-rest left.now 1 got.0.0)

past_left : (c : goal.After-unwrap_or) → Tail c.split_at.result.1.now c.unwrap_or.result.now
past_left c = rw c.unwrap_or.ensures (Tail-past c.split_at.result.1 c.get.result c.get.ensures.lookup)

pub returns-clause-tail : goal.returns-clause-tail
returns-clause-tail c =
    let row = c.args.row.now in
    let left = c.split_at.result.1.now in
    let outer : Tail row left = rw c.split_at.ensures.back (Tail-drop row c.cell_end.result c.cell_end.ensures) in
    Tail-Tail row left c.unwrap_or.result.now outer (past_left c)

pub returns-clause-piece : goal.returns-clause-piece
returns-clause-piece c =
    let row = c.args.row.now in
    let cell = c.split_at.result.0.now in
    let front : Front row cell = rw c.split_at.ensures.front (Front-take row c.cell_end.result c.cell_end.ensures) in
    let past = past_left c in
    Piece-cell row cell c.skip_blanks.result.now c.unwrap_or.result.now c.trimmed.result.now front c.skip_blanks.ensures c.trimmed.ensures (omega arith)
