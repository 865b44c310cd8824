use native.Mathlib.Omega.{arith}
use borrow.Author.Rules.{rules}
use Rattle.vbk_text.proofs.Size.{twenty}
use Rattle.vbk_text.proofs.Writing.{put_length}
use Rattle.clip_dump.proofs.put_decimal.Goals as goal

pub returns : goal.returns
returns c =
    let n = c.args.n in
    let p = c.put_decimal.ensures in
    omega (arith, p.next_is, put_length p, twenty n (search rules))

pub put_decimal-requires : goal.put_decimal-requires
put_decimal-requires c = omega (arith, twenty c.args.n (search rules))
