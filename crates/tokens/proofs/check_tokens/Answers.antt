-- `tokens::check_tokens` meets its contract.
use mathlib.Core.Path.{◌≡◌, sym, ◌∙◌}
use mathlib.Core.Bool.{◌||◌}
use native.Mathlib.Omega.{arith}
use lib.IntN.{pos, nat_abs}
use lib.ListN.{length}
use mir.Syntax.{w64}
use Rattle.whole.proofs.Signed.{rd, rd_ok}
use Rattle.answers.specs.Bad.{any_beyond}
use Rattle.answers.specs.Limits.{codeable}
use Rattle.answers.proofs.Passed.{codeable_most}
use Rattle.tokens.specs.Tokens.{bad_coefficient}
use Rattle.tokens.specs.Inner.{token_answer}
use Rattle.tokens.proofs.Sizes.{dc_fine, ac_fine}
use Rattle.tokens.proofs.Above.{above_either, small_fine, nine, none}
use Rattle.tokens.proofs.check_tokens.Goals as goal
use Rattle.tokens.proofs.check_tokens.Goals.{After-any_beyond, After-max_codeable_coef-most, After-some_above}

-- the limit
limit : (c : After-max_codeable_coef-most) → rd w64 c.max_codeable_coef-most.result ≡ pos (codeable c.args.coding.depth)
limit c = rd_ok w64 {z = c.max_codeable_coef-most.result} c.max_codeable_coef-most.type_inv ∙ c.max_codeable_coef-most.ensures

pub largest_token-requires : goal.largest_token-requires
largest_token-requires c = dc_fine c.args.coding.dc_quant c.args.coding.ac_quant c.requires.1

pub largest_token-requires-2 : goal.largest_token-requires-2
largest_token-requires-2 c = ac_fine c.args.coding.dc_quant c.args.coding.ac_quant c.requires.1

-- the scan is both tests
either : (c : After-some_above) → let a = c.args in
    c.some_above.result ≡ any_beyond (codeable a.coding.depth) (length a.tokens.now) a.tokens.now || bad_coefficient a.coding.size a.coding.dc_quant a.coding.ac_quant a.tokens.now
either c =
    let a = c.args in
    c.some_above.ensures
    ∙ rw (rd_ok w64 {z = c.max_codeable_coef-most.result} c.max_codeable_coef-most.type_inv ∙ c.max_codeable_coef-most.ensures) at (above_either a.coding.size (nat_abs (rd w64 c.max_codeable_coef-most.result)) (record { 0 = c.largest_token.result }) (record { 0 = c.largest_token-2.result }) a.coding.dc_quant a.coding.ac_quant c.requires.1
    c.largest_token.ensures c.largest_token-2.ensures a.tokens.now)

-- and the second scan the first of them
tokens_first : (c : After-any_beyond) → let a = c.args in
    c.any_beyond.result ≡ any_beyond (codeable a.coding.depth) (length a.tokens.now) a.tokens.now
tokens_first c = rw (rd_ok w64 {z = c.max_codeable_coef-most.result} c.max_codeable_coef-most.type_inv ∙ c.max_codeable_coef-most.ensures) at c.any_beyond.ensures

pub returns-then-all_small : goal.returns-then-all_small
returns-then-all_small c =
    let a = c.args in
    small_fine a.coding.size a.coding.depth a.coding.dc_quant a.coding.ac_quant a.tokens.now c.requires.0 c.requires.1 (c.all_small.ensures c.if-all_small.true)

pub returns-then-any_beyond : goal.returns-then-any_beyond
unfolding token_answer
returns-then-any_beyond c = rw (sym (tokens_first c.before) ∙ c.if-any_beyond.true)

pub returns-then-some_above : goal.returns-then-some_above
unfolding token_answer
returns-then-some_above c =
    let e = sym (tokens_first c.before) ∙ c.if-any_beyond.false in
    rw (e, nine _ _ (sym (either c.before.before.before) ∙ c.if-some_above.true) e)

pub returns : goal.returns
unfolding token_answer
returns c =
    let a = c.args in
    let x = any_beyond (codeable a.coding.depth) (length a.tokens.now) a.tokens.now in
    let y = bad_coefficient a.coding.size a.coding.dc_quant a.coding.ac_quant a.tokens.now in
    let e = none x y (sym (either c.before) ∙ c.if-some_above.false) in
    rw (e.0, e.1)

pub overflow_cast-most : goal.overflow_cast-most
overflow_cast-most c = rw (limit c) (tt, record { fits = omega (arith, codeable_most c.args.coding.depth) })
