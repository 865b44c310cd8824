use mathlib.Core.Path.{◌≡◌, ap, ◌∙◌}
use Prim.Native.Nat.{◌+◌}
use native.Mathlib.Omega.{arith}
use borrow.Author.Rules.{rules}
use Rattle.std.specs.Int.{w32, from_le_bytes}
use lib.ListN.{get_or}
use mathlib.Core.List.{[], ◌∷◌}
use Rattle.vbk_read.specs.Bytes.{le4, signed32}
use Rattle.vbk_read.proofs.Signed.{back32}
use Rattle.vbk_read.proofs.Words.{word_is}
use Rattle.vbk_read.proofs.Cursor.read_i32.Goals as goal

pub returns : goal.returns
returns c =
    let s = c.args.s.now in
    let at = c.args.self.at in
    let r = c.from_le_bytes in
    let u = from_le_bytes w32 (get_or s at 0 ∷ get_or s (at + 1) 0 ∷ get_or s (at + 2) 0 ∷ get_or s (at + 3) 0 ∷ []) in
    let e : u ≡ le4 s at = omega arith in
    record {
      value_is = back32 r.result r.type_inv ∙ r.ensures ∙ word_is u ∙ ap signed32 e;
      next_is = search rules;
    }
