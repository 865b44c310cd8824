-- The tokens of a list are nearest; by rule 1 the best, by rule 2 at the small sizes the greatest of the nearest, and no other list is; so a quantizing call that is done leaves these.
use mathlib.Core.List.{List}
use mathlib.Core.Path.{◌≡◌, sym, ◌∙◌}
use mathlib.Core.Bool.{false}
use Prim.Native.Nat.{ℕ}
use lib.IntN.{ℤ, pos}
use lib.ListN.{length, get_or}
use Rattle.whole.proofs.Lists.{length_tabulate, get_d_tabulate, tabulate_is}
use Rattle.answers.specs.Answers.{Answer, number}
use Rattle.answers.specs.Bad.{bad_quantizer}
use Rattle.answers.specs.Limits.{codeable}
use Rattle.quant.specs.Choice.{Nearest, Least, Greatest}
use Rattle.quant.specs.Places.{quantizer_at}
use Rattle.quant.specs.Token.{quantize}
use Rattle.quant.proofs.Nearness.{quantize_nearest, quantize_least, only_least}
use Rattle.quant.proofs.Rules.{quantize_greatest, only_greatest}
use Rattle.fwd_transform.specs.Quantize.{Input, answer_of, token_at, tokens_of, Quantized, bad_rule, rule_answer, Ruled}
use Rattle.fwd_transform.specs.Best.{Chosen, Best}
use Rattle.quant.proofs.Places.{fine_each}
use Rattle.fwd_transform.proofs.Quantizer.{done, known_rest, Fine, fine}

-- ---- a list of tokens by the definitions, at every depth: 12 too, which the calls refuse
module _ (u : Input) (dc_ok : bad_quantizer u.dc.0 ≡ false) (ac_ok : bad_quantizer u.ac.0 ≡ false) where
  good : (k : ℕ) → bad_quantizer (quantizer_at u.dc u.ac k) ≡ false
  good k = fine_each u.dc u.ac k dc_ok ac_ok

  module _ (Choice : ℕ → ℕ → ℤ → ℤ → ℤ → Type 0) (rule : ℕ) where
    -- what the rule chooses of each coefficient, it chooses of the list
    pub tokens_chosen : ((q coef : ℤ) → bad_quantizer q ≡ false → Choice u.size (codeable u.depth) q coef (quantize rule u.size (codeable u.depth) q coef))
        → Chosen Choice u (tokens_of rule u)
    unfolding tokens_of token_at
    tokens_chosen c =
        record {
          as_many = length_tabulate (token_at rule u) (length u.coefs);
          each_one = λ k l. rw (get_d_tabulate (token_at rule u) (length u.coefs) k (pos 0) l) (c (quantizer_at u.dc u.ac k) (get_or u.coefs k (pos 0)) (good k));
        }

    -- and where nothing else is chosen of a coefficient, no other list is
    pub chosen_tokens : ((q coef token : ℤ) → bad_quantizer q ≡ false → Choice u.size (codeable u.depth) q coef token → token ≡ quantize rule u.size (codeable u.depth) q coef)
        → (tokens : List ℤ) → Chosen Choice u tokens → tokens ≡ tokens_of rule u
    unfolding tokens_of token_at
    chosen_tokens o tokens b =
        tabulate_is (pos 0) (token_at rule u) tokens (length u.coefs) b.as_many
        (λ k l. o (quantizer_at u.dc u.ac k) (get_or u.coefs k (pos 0)) (get_or tokens k (pos 0)) (good k) (b.each_one k l))

  -- THE TOKENS OF A RULE ARE NEAREST, whatever the rule
  pub tokens_nearest : (rule : ℕ) → Chosen Nearest u (tokens_of rule u)
  tokens_nearest rule = tokens_chosen Nearest rule (quantize_nearest rule u.size (codeable u.depth))

  -- THOSE OF RULE 1 ARE THE BEST, and no other list is
  pub tokens_best : Best u (tokens_of 1 u)
  tokens_best = tokens_chosen Least 1 (quantize_least u.size u.depth)

  pub best_tokens : (tokens : List ℤ) → Best u tokens → tokens ≡ tokens_of 1 u
  best_tokens = chosen_tokens Least 1 (only_least u.size u.depth)

  -- THOSE OF RULE 2 ARE AT THE SMALL SIZES THE GREATEST OF THE NEAREST, and no other list is
  pub tokens_greatest : (u.size ≡ 3 → ⊥) → Chosen Greatest u (tokens_of 2 u)
  tokens_greatest s = tokens_chosen Greatest 2 (λ q coef. quantize_greatest u.size (codeable u.depth) q coef s)

  pub greatest_tokens : (u.size ≡ 3 → ⊥) → (tokens : List ℤ) → Chosen Greatest u tokens → tokens ≡ tokens_of 2 u
  greatest_tokens s = chosen_tokens Greatest 2 (λ q coef token. only_greatest u.size (codeable u.depth) q coef token s)

-- ---- the calls of rule 1
module _ (u : Input) (a : Answer) (after : List ℤ) (p : Quantized u a after) (h : number a ≡ 0) where
  is_taken : answer_of u ≡ 0
  is_taken = sym p.answered ∙ h

  left : after ≡ tokens_of 1 u
  unfolding bad_rule
  left = p.written ∙ sym (done u 1 is_taken)

  -- WHAT A CALL LEAVES THAT IS DONE IS THE BEST
  pub call_best : Best u after
  call_best = let f = fine u is_taken in rw left (tokens_best u f.dc_ok f.ac_ok)

  -- AND WHATEVER IS THE BEST IS WHAT IT LEAVES
  pub only_best : (tokens : List ℤ) → Best u tokens → tokens ≡ after
  only_best tokens b = let f = fine u is_taken in best_tokens u f.dc_ok f.ac_ok tokens b ∙ sym left

-- so the promise could be written with the statement in the place of the formula
pub best_promised : (u : Input) (a : Answer) (tokens : List ℤ) → answer_of u ≡ 0 → number a ≡ 0 → Best u tokens → Quantized u a tokens
unfolding bad_rule
best_promised u a tokens t h b =
    let f = fine u t in record { answered = h ∙ sym t; written = best_tokens u f.dc_ok f.ac_ok tokens b ∙ done u 1 t }

-- ---- the call that takes a rule
module _ (rule : ℕ) (u : Input) (a : Answer) (after : List ℤ) (p : Ruled rule u a after) (h : number a ≡ 0) where
  rule_taken : rule_answer rule u ≡ 0
  rule_taken = sym p.answered ∙ h

  rule_left : after ≡ tokens_of rule u
  rule_left = p.written ∙ sym (done u rule rule_taken)

  taken_fine : Fine u
  taken_fine = fine u (known_rest u rule rule_taken)

  -- EACH TOKEN THAT IT LEAVES IS NEAREST, whatever the rule
  pub rule_nearest : Chosen Nearest u after
  rule_nearest = rw rule_left (tokens_nearest u taken_fine.dc_ok taken_fine.ac_ok rule)

  -- BY RULE 1 THE BEST
  pub rule_1_best : rule ≡ 1 → Best u after
  rule_1_best e = rw (rule_left, e) (tokens_best u taken_fine.dc_ok taken_fine.ac_ok)

  -- BY RULE 2 AT THE SMALL SIZES THE GREATEST OF THE NEAREST, and no other list is
  module _ (e : rule ≡ 2) (s : u.size ≡ 3 → ⊥) where
    pub rule_2_greatest : Chosen Greatest u after
    rule_2_greatest = rw (rule_left, e) (tokens_greatest u taken_fine.dc_ok taken_fine.ac_ok s)

    pub only_rule_2 : (tokens : List ℤ) → Chosen Greatest u tokens → tokens ≡ after
    only_rule_2 tokens b = greatest_tokens u taken_fine.dc_ok taken_fine.ac_ok s tokens b ∙ sym (rw e at rule_left)
