use mathlib.Core.Path.{◌≡◌, sym, ap, ◌∙◌}
use Prim.Native.Nat.{ℕ, ◌+◌}
use native.Mathlib.Omega.{arith}
use lib.ListN.{set, length-set}
use lib.Pow.{pow_pos}
use mir.Syntax.{w64}
use mir.Val.{to_z, of_z}
use mir.ValLaws.{to_z-of_z}
use Rattle.whole.proofs.Signed.{rd, rd_ok}
use Rattle.std.specs.Prelude.{Err}
use Rattle.std.proofs.lemmas.Result.{err_from_is_err_and}
use Rattle.answers.proofs.Numbers.{refused_number}
use Rattle.summary.specs.Replace.{Input, coefficient, answer_of}
use Rattle.summary.proofs.Replace.{Accepted, accepted, area_most, refused, replaced}
use Rattle.summary.proofs.replace_token.Goals as goal
use Rattle.summary.proofs.replace_token.Goals.{After-coefficient-coef, In_ok-check, Start}

-- what the call is given
abbrev given : Start → Input
given s =
    record {
      block = s.args.block.now;
      summary = s.args.summary.now;
      size = s.args.tx_sz;
      place = s.args.place;
      token = s.args.token;
      dc = s.args.dc_quant;
      ac = s.args.ac_quant;
      depth = s.args.bit_depth;
    }

-- the answer does not rest on the summary
told : (s : Start) {n : ℕ} → n ≡ answer_of (record { block = s.args.block.now; summary = 0; size = s.args.tx_sz; place = s.args.place; token = rd w64 s.args.token; dc = s.args.dc_quant; ac = s.args.ac_quant; depth = s.args.bit_depth }) → n ≡ answer_of (given s)
unfolding answer_of coefficient
told s e = rw (to_z-of_z w64 s.args.token s.ranges.token) at e

passed : (c : In_ok-check) → answer_of (given c.before.before.before) ≡ 0
passed c = sym (told c.before.before.before c.in_ok-check.ensures)

fine : (c : In_ok-check) → Accepted (given c.before.before.before)
fine c = accepted (given c.before.before.before) (passed c)

pub returns-in_err-check : goal.returns-in_err-check
returns-in_err-check c =
    let p = err_from_is_err_and c.from_residual.result c.from_residual.ensures.1 in
    rw (p.1, p.2) (refused (given c.before.before.before.before) (Err c.in_err-check.field-0.0) (told c.before.before.before.before c.in_err-check.ensures) (refused_number c.in_err-check.field-0.0))

pub coefficient-coef-requires : goal.coefficient-coef-requires
coefficient-coef-requires c =
    rw (to_z-of_z w64 c.args.token c.ranges.token) ((fine c).quantizers, (fine c).token)

pub side-requires : goal.side-requires
side-requires c = let f = fine c.before in (omega arith, omega (arith, f.small))

-- what is written at the place
value : (c : After-coefficient-coef) → to_z w64 (of_z w64 c.coefficient-coef.result) ≡ coefficient (given c.before.before.before.before)
unfolding coefficient
value c =
    rd_ok w64 {z = c.coefficient-coef.result} c.coefficient-coef.type_inv ∙ rw (to_z-of_z w64 c.args.token c.ranges.token) at c.coefficient-coef.ensures

pub renewed-requires : goal.renewed-requires
renewed-requires c =
    let f = fine c.before.before.before in
    rw (c.side.ensures.0, length-set)
    (pow_pos (c.args.tx_sz + 2), rw c.side.ensures.0 at c.side.ensures.1, f.inside, omega (arith, f.long))

pub returns : goal.returns
returns c =
    let u = given c.before.before.before.before.before.before.before in
    let v = value c.before.before.before in
    replaced u _ _ (passed c.before.before.before.before) (ap (set u.block u.place) v) (rw c.side.ensures.0 at c.renewed.ensures)

pub offset_bounds-block-place : goal.offset_bounds-block-place
offset_bounds-block-place c = omega (arith, (fine c.before).inside, area_most (given c.before.before.before.before).size (fine c.before).small)

pub bounds-block-place : goal.bounds-block-place
bounds-block-place c = omega (arith, (fine c.before).inside, (fine c.before).long)

pub overflow_add-tx_sz : goal.overflow_add-tx_sz
overflow_add-tx_sz c = omega (arith, (fine c.before).small)
