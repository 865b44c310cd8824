use mathlib.Core.List.{[], ◌∷◌}
use Prim.Native.Nat.{◌*◌}
use native.Mathlib.Omega.{arith}
use Rattle.whole.specs.Steps.{◌⨾◌}
use Rattle.vbk_text.specs.Text.{samples_from, newline, row_line}
use Rattle.vbk_text.proofs.Writing.{todo_all, todo_room, todo_next, todo_last}
use Rattle.vbk_text.proofs.put_row.Goals as goal

pub put_byte-a-requires : goal.put_byte-a-requires
unfolding row_line
put_byte-a-requires c =
    let a = c.args in
    todo_room (83 ∷ []) (samples_from a.samples.now (a.r * a.width) a.width ⨾ newline) (todo_all a.out.now a.at (row_line a.samples.now a.width a.r) c.requires.1)

pub put_samples-b-requires : goal.put_samples-b-requires
unfolding row_line
put_samples-b-requires c =
    let a = c.args in
    let s = samples_from a.samples.now (a.r * a.width) a.width in
    let left1 = todo_next (83 ∷ []) (s ⨾ newline) (todo_all a.out.now a.at (row_line a.samples.now a.width a.r) c.requires.1) c.put_byte-a.ensures in
    (omega arith, todo_room s newline left1)

pub put_byte-requires : goal.put_byte-requires
unfolding row_line
put_byte-requires c =
    let a = c.args in
    let s = samples_from a.samples.now (a.r * a.width) a.width in
    let left1 = todo_next (83 ∷ []) (s ⨾ newline) (todo_all a.out.now a.at (row_line a.samples.now a.width a.r) c.requires.1) c.put_byte-a.ensures in
    (todo_next s newline left1 c.put_samples-b.ensures).room

pub returns : goal.returns
unfolding row_line
returns c =
    let a = c.args in
    let s = samples_from a.samples.now (a.r * a.width) a.width in
    let left1 = todo_next (83 ∷ []) (s ⨾ newline) (todo_all a.out.now a.at (row_line a.samples.now a.width a.r) c.requires.1) c.put_byte-a.ensures in
    todo_last (todo_next s newline left1 c.put_samples-b.ensures) c.put_byte.ensures
