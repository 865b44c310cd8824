-- `narrow::fb16` meets its contract.
use mathlib.Core.Path.{◌≡◌, ◌∙◌}
use mir.Syntax.{w32}
use mir.Facts.{to_z-of_z}
use Rattle.whole.specs.Round.{Round2}
use Rattle.whole.proofs.Signed.{rd, rd_ok}
use Rattle.narrow.specs.Inner.{spin_x, spin_y, spin_fits, spin}
use Rattle.narrow.proofs.Locals.{round_is, room}
use Rattle.narrow.proofs.fb16.Lts as lts
use Rattle.narrow.proofs.fb16.Tie as tie
use Rattle.narrow.proofs.fb16.Reads as reads
use Rattle.narrow.proofs.fb16.Goals as goal
use Rattle.narrow.proofs.fb16.Goals.{After-round14-y}

-- the place behind a call, with what was known there
abbrev After-struct_told-1 : Type 0
After-struct_told-1 = lts.After-struct_told tie.the-claims reads.Pre reads.Post

x_is : (c : After-struct_told-1) → rd w32 c.turn-r.result.x ≡ spin_x c.args.t.now c.args.a c.args.b c.args.cos c.args.sin
x_is c =
    rd_ok w32 c.struct_told-1.given.0.1 ∙ (rw (to_z-of_z c.ranges.cos, to_z-of_z c.ranges.sin) at c.turn-r.ensures.x_is)

y_is : (c : After-struct_told-1) → rd w32 c.turn-r.result.y ≡ spin_y c.args.t.now c.args.a c.args.b c.args.cos c.args.sin
y_is c =
    rd_ok w32 c.struct_told-1.given.1.0.1 ∙ (rw (to_z-of_z c.ranges.cos, to_z-of_z c.ranges.sin) at c.turn-r.ensures.y_is)

-- rounded
x_rounded : (c : After-round14-y) → rd w32 c.round14-x.result ≡ Round2 (spin_x c.args.t.now c.args.a c.args.b c.args.cos c.args.sin) 14
x_rounded c = let r = c.round14-x in round_is c.turn-r.result.x r.type_inv r.ensures (x_is c.before.before.before)

y_rounded : (c : After-round14-y) → rd w32 c.round14-y.result ≡ Round2 (spin_y c.args.t.now c.args.a c.args.b c.args.cos c.args.sin) 14
y_rounded c = let r = c.round14-y in round_is c.turn-r.result.y r.type_inv r.ensures (y_is c.before.before.before)

pub put16-requires : goal.put16-requires
unfolding spin_fits
put16-requires c =
    (c.requires.0.0, c.requires.0.1, rw (x_rounded c.before, y_rounded c.before) c.requires.1)

pub returns : goal.returns
unfolding spin
returns c = rw (x_rounded c.before.before, y_rounded c.before.before) at c.put16.ensures

pub turn-r-requires : goal.turn-r-requires
turn-r-requires c = rw (to_z-of_z c.ranges.cos, to_z-of_z c.ranges.sin) c.requires.0

pub round14-x-requires : goal.round14-x-requires
round14-x-requires c = room c.turn-r.ensures.x_in

pub round14-y-requires : goal.round14-y-requires
round14-y-requires c = room c.turn-r.ensures.y_in
