-- The token law for whole lists, as the calls see them: the coefficients of codeable tokens are taken, and each token is given back.
use mathlib.Core.Path.{◌≡◌, refl, sym, ap, ◌∙◌}
use mathlib.Core.Bool.{false}
use mathlib.Core.List.{List}
use Prim.Native.Nat.{ℕ, ◌≤◌, ◌<◌}
use native.Mathlib.Omega.{arith}
use borrow.Author.Tests.{le-ltb}
use lib.IntN.{ℤ, pos, nat_abs}
use lib.ListN.{length, get_or}
use Rattle.whole.proofs.Lists.{length_tabulate, get_d_tabulate, tabulate_same}
use Rattle.answers.specs.Answers.{Answer, number}
use Rattle.answers.specs.Bad.{bad_depth, retired, bad_quantizer, any_beyond}
use Rattle.answers.specs.Limits.{COEF_LIMIT, LIST_LIMIT, codeable}
use Rattle.answers.proofs.Passed.{all_within}
use Rattle.quant.specs.Places.{quantizer_at, dequant_all, given_back_all}
use Rattle.quant.specs.Token.{dequant, quantize}
use Rattle.quant.specs.declared.AcQuant.{AcQuant}
use Rattle.quant.specs.declared.DcQuant.{DcQuant}
use Rattle.quant.proofs.TokenLaw.{token_law}
use Rattle.fwd_transform.specs.Quantize.{Input, answer_of, token_at, tokens_of, Quantized, bad_rule, Ruled}
use Rattle.quant.proofs.Places.{fine_each}
use Rattle.fwd_transform.proofs.Quantizer.{done, known}

-- what the call is given: the coefficients of these tokens
abbrev pub requantized : ℕ → ℕ → DcQuant → AcQuant → List ℤ → Input
requantized size depth dc ac tokens = record { coefs = dequant_all size dc ac tokens; dc = dc; ac = ac; size = size; depth = depth }

-- tokens that reconstruction would take, at most as many as the quantizer takes
pub record Codeable (size depth : ℕ) (dc : DcQuant) (ac : AcQuant) (tokens : List ℤ) : Type 0 where
  pub depth_ok : bad_depth depth ≡ false
  pub size_ok : size ≤ 3
  pub dc_ok : bad_quantizer dc.0 ≡ false
  pub ac_ok : bad_quantizer ac.0 ≡ false
  pub length_ok : length tokens ≤ LIST_LIMIT
  pub tokens_ok : (k : ℕ) → k < length tokens → nat_abs (get_or tokens k (pos 0)) ≤ codeable depth
  pub coefs_ok : (k : ℕ) → k < length tokens → nat_abs (dequant size (quantizer_at dc ac k) (get_or tokens k (pos 0))) ≤ COEF_LIMIT

module _ (size depth : ℕ) (dc : DcQuant) (ac : AcQuant) (tokens : List ℤ) (h : Codeable size depth dc ac tokens) where
  length_all : length (dequant_all size dc ac tokens) ≡ length tokens
  unfolding dequant_all
  length_all = length_tabulate _ (length tokens)

  at_place : (k : ℕ) → k < length tokens → get_or (dequant_all size dc ac tokens) k (pos 0) ≡ dequant size (quantizer_at dc ac k) (get_or tokens k (pos 0))
  unfolding dequant_all
  at_place k l = get_d_tabulate _ (length tokens) k (pos 0) l

  within : any_beyond COEF_LIMIT (length (dequant_all size dc ac tokens)) (dequant_all size dc ac tokens) ≡ false
  within = all_within COEF_LIMIT _ (dequant_all size dc ac tokens) (λ k l. let m : k < length tokens = omega (arith, length_all) in rw (at_place k m) (h.coefs_ok k m))

  -- the call takes them, at depths 8 and 10
  pub taken : retired depth ≡ false → answer_of (requantized size depth dc ac tokens) ≡ 0
  unfolding answer_of
  taken w =
      rw (h.depth_ok, w, le-ltb 3 size h.size_ok, h.dc_ok, h.ac_ok, length_all, le-ltb LIST_LIMIT (length tokens) h.length_ok, rw length_all at within)

  -- THE TOKEN LAW, for lists, under every rule and at every depth
  pub list_law : (rule : ℕ) → tokens_of rule (requantized size depth dc ac tokens) ≡ given_back_all size dc ac tokens
  unfolding tokens_of token_at given_back_all
  list_law rule =
      rw length_all (tabulate_same _ _ (length tokens) (λ k l. ap (quantize rule size (codeable depth) (quantizer_at dc ac k)) (at_place k l)
      ∙ token_law rule size depth (quantizer_at dc ac k) (get_or tokens k (pos 0)) (fine_each dc ac k h.dc_ok h.ac_ok) (h.tokens_ok k l)))

  -- whatever meets the promise, at the depths that are written
  pub rule_law : retired depth ≡ false → (rule : ℕ) (a : Answer) (after : List ℤ) → bad_rule rule ≡ false → Ruled rule (requantized size depth dc ac tokens) a after
      → (number a ≡ 0) × (after ≡ given_back_all size dc ac tokens)
  rule_law w rule a after r p =
      let u = requantized size depth dc ac tokens in
      let e = known u rule r ∙ taken w in
      (p.answered ∙ e, p.written ∙ sym (done u rule e) ∙ list_law rule)

  pub call_law : retired depth ≡ false → (a : Answer) (after : List ℤ) → Quantized (requantized size depth dc ac tokens) a after → (number a ≡ 0) × (after ≡ given_back_all size dc ac tokens)
  unfolding bad_rule
  call_law w a after p = rule_law w 1 a after refl (record { answered = p.answered; written = p.written })
