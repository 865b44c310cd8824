use mathlib.Core.Path.{◌≡◌, sym, ◌∙◌}
use native.Mathlib.Omega.{arith}
use Prim.Native.Nat.{ℕ}
use mathlib.Core.Bool.{false}
use Rattle.std.proofs.lemmas.Result.{err_from_is_err_and}
use Rattle.answers.proofs.Numbers.{refused_number}
use Rattle.fwd_transform.specs.Quantize.{Input, answer_of, bad_rule, rule_answer}
use Rattle.fwd_transform.proofs.Quantizer.{refused, done, known, unknown, known_rest, fine}
use Rattle.fwd_transform.proofs.quantize_block_rule.Goals as goal
use Rattle.fwd_transform.proofs.quantize_block_rule.Goals.{In_ok-check, Start}

-- the call's input, as the definitions see it
abbrev input : Start → Input
input s = record { coefs = s.args.coefs.now; dc = s.args.dc; ac = s.args.ac; size = s.args.size; depth = s.args.depth }

-- another rule
pub returns-then-bad_rule : goal.returns-then-bad_rule
returns-then-bad_rule c =
    let e = unknown (input c.before.before) c.args.rule (sym c.bad_rule.ensures ∙ c.if-bad_rule.true) in
    record { answered = sym e; written = refused (input c.before.before) c.args.rule (λ f. absurd (omega (arith, e, f))) }

-- a known one: the answer is that of the check
module _ (s : Start) (k : bad_rule s.args.rule ≡ false) where
  as_called : {n : ℕ} → n ≡ answer_of (input s) → n ≡ rule_answer s.args.rule (input s)
  as_called e = e ∙ sym (known (input s) s.args.rule k)

zero_at : (c : In_ok-check) → rule_answer c.args.rule (input c.before.before.before.before.before) ≡ 0
zero_at c = sym (as_called c.before.before.before.before.before (sym c.bad_rule.ensures ∙ c.if-bad_rule.false) c.in_ok-check.ensures)

pub returns-in_err-check : goal.returns-in_err-check
returns-in_err-check c =
    let p = err_from_is_err_and c.from_residual.result c.from_residual.ensures.1 in
    let u : Input = record { coefs = c.args.coefs.now; dc = c.args.dc; ac = c.args.ac; size = c.args.size; depth = c.args.depth } in
    let e = c.in_err-check.ensures ∙ sym (known u c.args.rule (sym c.bad_rule.ensures ∙ c.if-bad_rule.false)) in
    rw (p.1, p.2) (record { answered = e; written = refused u c.args.rule (λ f. refused_number c.in_err-check.field-0.0 (e ∙ f)) })

pub tokens_in_place-requires : goal.tokens_in_place-requires
tokens_in_place-requires c =
    let f = fine (input c.before.before.before.before.before.before) (known_rest (input c.before.before.before.before.before.before) c.args.rule (zero_at c.before)) in
    (f.dc_ok, f.ac_ok, λ k h. omega (arith, f.coefs_ok k h))

pub returns : goal.returns
returns c =
    let u : Input = record { coefs = c.args.coefs.now; dc = c.args.dc; ac = c.args.ac; size = c.args.size; depth = c.args.depth } in
    let e = c.in_ok-check.ensures ∙ sym (known u c.args.rule (sym c.bad_rule.ensures ∙ c.if-bad_rule.false)) in
    record { answered = e; written = c.tokens_in_place.ensures ∙ done u c.args.rule (sym e) }
