use mathlib.Core.Path.{sym}
use mathlib.Core.List.{[], ◌∷◌}
use Prim.Native.Nat.{◌+◌, ◌/◌, ◌%◌}
use native.Mathlib.Omega.{arith}
use Rattle.vbk_text.specs.Decimal.{decimal}
use Rattle.vbk_text.proofs.Decimal.{decimal_more, digit_one, digit_more}
use Rattle.vbk_text.proofs.Writing.{put_as, put_join, room_as, room_first, room_second}
use Rattle.vbk_text.proofs.+put_decimal.Goals as goal

pub put_byte-requires : goal.put_byte-requires
put_byte-requires t c =
    room_as c.args.out.now c.args.at (digit_one c.args.n c.digit.result c.if-n-lt10.true c.digit.ensures) c.requires

pub returns-then-n-lt10 : goal.returns-then-n-lt10
returns-then-n-lt10 t c =
    put_as (sym (digit_one c.args.n c.digit.result c.if-n-lt10.true c.digit.ensures)) c.put_byte.ensures

pub put_decimal-next-requires : goal.put_decimal-next-requires
put_decimal-next-requires t c =
    (omega (arith, c.decreases), room_first c.args.out.now c.args.at (decimal (c.args.n / 10)) ((48 + c.args.n % 10) ∷ []) (room_as c.args.out.now c.args.at (decimal_more c.args.n c.if-n-lt10.false) c.requires))

pub put_byte-requires-2 : goal.put_byte-requires-2
put_byte-requires-2 t c =
    room_second (decimal (c.args.n / 10)) (c.digit-2.result ∷ [])
    (room_as c.args.out.now c.args.at (digit_more c.args.n c.digit-2.result c.if-n-lt10.false c.digit-2.ensures) c.requires)
    c.put_decimal-next.ensures

pub returns : goal.returns
returns t c =
    put_as (sym (digit_more c.args.n c.digit-2.result c.if-n-lt10.false c.digit-2.ensures))
    (put_join c.put_decimal-next.ensures c.put_byte-2.ensures)
