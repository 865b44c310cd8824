-- `quantize_block_rule` gives each number when, and only when, its condition holds and none before it does.
use mathlib.Core.Path.{◌≡◌, refl, sym, subst}
use mathlib.Core.Bool.{Bool, true, ◌||◌}
use mathlib.Core.List.{List, ◌∷◌}
use Prim.Native.Nat.{ℕ, suc, ◌≤◌, ◌<◌}
use native.Mathlib.Decide.{dec_lt}
use native.Mathlib.Omega.{arith}
use borrow.Author.Tests.{ltb-true, lt-ltb}
use lib.Dec.{ltb}
use lib.IntN.{ℤ}
use Rattle.answers.specs.Answers.{Answer, number}
use Rattle.answers.proofs.Numbers.{Applies, there}
use Rattle.fwd_transform.specs.Quantize as Q
use Rattle.promises.specs.Exactly.{InOrder}
use Rattle.promises.specs.When as W
use Rattle.promises.proofs.Exactly.{Each, more, here_if, in_order, renumber, later, each_later}
use Rattle.promises.proofs.Tests as T
use Rattle.promises.proofs.When.{quantize_steps, quantize_has, quantize_each}

no_rule : (rule : ℕ) → Q.bad_rule rule ≡ true → 1 ≤ rule → rule ≤ 2 → ⊥
unfolding Q.bad_rule
no_rule rule h p q =
    T.or_true (ltb rule 1) (ltb 2 rule) (λ e. absurd (omega (arith, ltb-true rule 1 e))) (λ e. absurd (omega (arith, ltb-true 2 rule e))) h

rule_test : (rule : ℕ) → (1 ≤ rule → rule ≤ 2 → ⊥) → Q.bad_rule rule ≡ true
unfolding Q.bad_rule
rule_test rule h = go (dec_lt rule 1) (dec_lt 2 rule)
  where
    go : Dec (rule < 1) → Dec (2 < rule) → ltb rule 1 || ltb 2 rule ≡ true
    go (yes p) d = T.left (ltb rule 1) (ltb 2 rule) (lt-ltb rule 1 p)
    go (no p) (yes q) = T.right (ltb rule 1) (ltb 2 rule) (lt-ltb 2 rule q)
    go (no p) (no q) = absurd (h (omega arith) (omega arith))

module _ (rule : ℕ) (u : Q.Input) where
  abbrev steps : List (ℕ × Bool)
  steps = (1, Q.bad_rule rule) ∷ renumber suc (quantize_steps u)

  rule_each : Each (W.Rule rule u) steps
  rule_each = more (λ e. W.Rule.unknown (no_rule rule e)) (each_later (W.Quantize u) (W.Rule rule u) (quantize_steps u) (λ n w. W.Rule.quantizer w) (quantize_each u))

  rule_has : (n : ℕ) → W.Rule rule u n → Applies n steps
  rule_has n (W.Rule.unknown h) = here_if 1 _ _ (rule_test rule h)
  rule_has n (W.Rule.quantizer {k} w) = there (later k (quantize_steps u) (quantize_has u k w))

  rule_order : InOrder (W.Rule rule u) W.rule_numbers (Q.rule_answer rule u)
  unfolding Q.answer_of
  rule_order = in_order (W.Rule rule u) W.rule_numbers steps refl tt rule_each rule_has

-- `quantize_block_rule`
pub rule_when : (rule : ℕ) (u : Q.Input) (a : Answer) (after : List ℤ) → Q.Ruled rule u a after → InOrder (W.Rule rule u) W.rule_numbers (number a)
rule_when rule u a after p = subst (λ (n : ℕ). InOrder (W.Rule rule u) W.rule_numbers n) (sym p.answered) (rule_order rule u)
