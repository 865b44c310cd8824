-- Laws of the quantizing calls: what each answer leaves, what answer 0 says of the input, and that the promise fixes the result.
use mathlib.Core.Path.{◌≡◌, refl, ◌∙◌}
use mathlib.Core.Bool.{Bool, true, false, ◌||◌}
use mathlib.Core.List.{List}
use Prim.Native.Nat.{ℕ, ◌≤◌, ◌<◌}
use native.Mathlib.Omega.{arith}
use borrow.Author.Tests.{ltb-false, eq-eqb, ne_eqb}
use lib.Dec.{ltb}
use lib.IntN.{ℤ, pos, nat_abs}
use lib.ListN.{length, get_or}
use Rattle.whole.specs.Lists.{fill}
use Rattle.whole.proofs.Lists.{fill_rest, fill_all, fill_done}
use Rattle.answers.specs.Bad.{bad_depth, retired, bad_size, bad_quantizer, any_beyond}
use Rattle.answers.specs.Limits.{COEF_LIMIT, LIST_LIMIT}
use Rattle.answers.proofs.Numbers.{pass, rest}
use Rattle.answers.proofs.Passed.{none_beyond}
use Rattle.fwd_transform.specs.Quantize.{Input, answer_of, token_at, tokens_of, bad_rule, rule_answer, ruled_after}

neither : (a b : Bool) → a || b ≡ false → (a ≡ false) × (b ≡ false)
neither true b h = (h, cc)
neither false b h = (refl, h)

module _ (i : Input) where
  -- a refusal leaves the list
  module _ (rule : ℕ) where
    pub refused : (rule_answer rule i ≡ 0 → ⊥) → i.coefs ≡ ruled_after rule i
    refused h = rw (ne_eqb (rule_answer rule i) 0 h)

    pub done : rule_answer rule i ≡ 0 → tokens_of rule i ≡ ruled_after rule i
    done h = rw (eq-eqb (rule_answer rule i) 0 h)

    -- a rule that is known leaves the answer to the rest
    pub known : bad_rule rule ≡ false → rule_answer rule i ≡ answer_of i
    known h = rw h

    pub unknown : bad_rule rule ≡ true → rule_answer rule i ≡ 19
    unknown h = rw h

    pub known_rule : rule_answer rule i ≡ 0 → bad_rule rule ≡ false
    known_rule h = pass (bad_rule rule) 18 _ h

    pub known_rest : rule_answer rule i ≡ 0 → answer_of i ≡ 0
    known_rest h = rest (bad_rule rule) 18 _ h

  -- what answer 0 says of the input
  pub record Fine : Type 0 where
    pub depth_ok : bad_depth i.depth ≡ false
    pub kept : retired i.depth ≡ false
    pub size_ok : i.size ≤ 3
    pub dc_ok : bad_quantizer i.dc.0 ≡ false
    pub ac_ok : bad_quantizer i.ac.0 ≡ false
    pub length_ok : length i.coefs ≤ LIST_LIMIT
    pub coefs_ok : (k : ℕ) → k < length i.coefs → nat_abs (get_or i.coefs k (pos 0)) ≤ COEF_LIMIT

  pub fine : answer_of i ≡ 0 → Fine
  unfolding answer_of
  fine h =
      let n = length i.coefs in
      let h2 = rest (bad_depth i.depth) 0 _ h in
      let hr = rest (retired i.depth) 19 _ h2 in
      let h5 = rest (bad_size i.size) 1 _ hr in
      let h6 = rest (bad_quantizer i.dc.0 || bad_quantizer i.ac.0) 4 _ h5 in
      let h9 = rest (ltb LIST_LIMIT n) 5 _ h6 in
      let q = neither (bad_quantizer i.dc.0) (bad_quantizer i.ac.0) (pass (bad_quantizer i.dc.0 || bad_quantizer i.ac.0) 4 _ h5) in
      record {
        depth_ok = pass (bad_depth i.depth) 0 _ h;
        kept = pass (retired i.depth) 19 _ h2;
        size_ok = ltb-false 3 i.size (pass (bad_size i.size) 1 _ hr);
        dc_ok = q.0;
        ac_ok = q.1;
        length_ok = ltb-false LIST_LIMIT n (pass (ltb LIST_LIMIT n) 5 _ h6);
        coefs_ok = none_beyond COEF_LIMIT n i.coefs (pass (any_beyond COEF_LIMIT n i.coefs) 8 _ h9);
      }

  -- the loop: turn k meets the coefficient as it came
  pub turn : (rule k : ℕ) (l : List ℤ) → l ≡ fill k (token_at rule i) i.coefs → get_or l k (pos 0) ≡ get_or i.coefs k (pos 0)
  turn rule k l e = rw e (fill_rest (pos 0) k (token_at rule i) i.coefs k (omega arith))

  pub filled : (rule k : ℕ) (l : List ℤ) → k ≤ length i.coefs → length i.coefs ≤ k → l ≡ fill k (token_at rule i) i.coefs → l ≡ tokens_of rule i
  unfolding tokens_of
  filled rule k l p q e = fill_done (token_at rule i) i.coefs k (length i.coefs) p q e ∙ fill_all (pos 0) (token_at rule i) i.coefs
