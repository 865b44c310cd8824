use native.Mathlib.Omega.{arith}
use lib.ListN.{length-set}
use Rattle.exports.proofs.Figures.{front}
use Rattle.exports.proofs.put_figures.Goals as goal

pub returns : goal.returns
returns c = front c.args.room.now _ _ _ _ _ c.requires

pub bounds-room-1 : goal.bounds-room-1
bounds-room-1 c = simp length-set (omega arith)

pub bounds-room-2 : goal.bounds-room-2
bounds-room-2 c = simp length-set (omega arith)

pub bounds-room-3 : goal.bounds-room-3
bounds-room-3 c = simp length-set (omega arith)

pub bounds-room-4 : goal.bounds-room-4
bounds-room-4 c = simp length-set (omega arith)

pub shape_of-room : goal.shape_of-room
shape_of-room c = simp length-set
