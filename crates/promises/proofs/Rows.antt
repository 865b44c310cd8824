-- The calls about the rows of a block give each number when, and only when, its condition holds and none before it does.
use mathlib.Core.Path.{◌≡◌, refl, sym, ap, subst, ◌∙◌}
use mathlib.Core.Bool.{Bool, true, false, not, cond, ◌||◌}
use mathlib.Core.List.{List, [], ◌∷◌}
use Prim.Native.Nat.{ℕ, ◌+◌, ◌≤◌}
use borrow.Author.Tests.{ltb-true, ltb-false, lt-ltb, le-ltb}
use lib.Dec.{ltb, eqb}
use lib.IntN.{ℤ, nat_abs}
use lib.ListN.{length}
use Rattle.answers.specs.declared.Refusal.TheVariants.{Size, Length}
use Rattle.answers.specs.Answers.{Answer, number, lowest}
use Rattle.answers.specs.Limits.{COEF_LIMIT, codeable}
use Rattle.answers.specs.Sizes.{side, area}
use Rattle.answers.specs.Bad.{bad_depth, bad_size, bad_side, bad_quantizer, bad_room}
use Rattle.answers.proofs.Numbers.{Applies, there}
use Rattle.std.specs.Prelude.{Result, Ok, Err}
use Rattle.answers.specs.declared.Refusal.{Refusal}
use Rattle.summary.specs.Summary.{summary_of, summarized}
use Rattle.summary.specs.Replace as Z
use Rattle.idct.specs.Driver as D
use Rattle.idct.specs.Rows.{Rowed}
use Rattle.exports.specs.Rows.{summary_number}
use Rattle.promises.specs.Exactly.{Exactly, InOrder}
use Rattle.promises.specs.When as W
use Rattle.promises.proofs.Exactly.{Each, none, more, here_if, exactly, in_order}
use Rattle.promises.proofs.Tests as T
use Rattle.promises.proofs.When.{no_side, side_test, driver_exactly}

-- ---- the row summary
numbered : (a b : Bool) (m : ℕ) → summary_number (cond a (Err Size) (cond b (Err Length) (Ok m))) ≡ lowest ((2, a) ∷ (6, b) ∷ [])
numbered true b m = refl
numbered false true m = refl
numbered false false m = refl

summary_number_lem : (n : ℕ) (block : List ℤ) → summary_number (summarized n block) ≡ lowest ((2, bad_side n) ∷ (6, bad_room (length block) n) ∷ [])
unfolding summarized
summary_number_lem n block = numbered (bad_side n) (bad_room (length block) n) (summary_of (side n) block)

summary_has : (n : ℕ) (block : List ℤ) (k : ℕ) → W.Summary n block k → Applies k ((2, bad_side n) ∷ (6, bad_room (length block) n) ∷ [])
summary_has n block k (W.Summary.side h) = here_if 2 _ _ (side_test n h)
summary_has n block k (W.Summary.room h) = there (here_if 6 _ _ (lt-ltb (length block) (area n) h))

-- `row_summary`
pub summary_when : (n : ℕ) (block : List ℤ) (r : Result ℕ Refusal) → r ≡ summarized n block → Exactly (W.Summary n block) (summary_number r)
summary_when n block r p =
    subst (λ (k : ℕ). Exactly (W.Summary n block) k) (sym (ap summary_number p ∙ summary_number_lem n block))
    (exactly (W.Summary n block) _ tt
    (more (λ e. W.Summary.side (no_side n e)) (more (λ e. W.Summary.room (ltb-true (length block) (area n) e)) none))
    (summary_has n block))

-- ---- one token replaced
module _ (u : Z.Input) where
  abbrev steps : List (ℕ × Bool)
  steps =
      (1, bad_depth u.depth)
      ∷ (2, bad_size u.size)
      ∷ (3, bad_quantizer u.dc.0 || bad_quantizer u.ac.0)
      ∷ (4, not (eqb (length u.block) (area (u.size + 2))))
      ∷ (5, not (ltb u.place (area (u.size + 2))))
      ∷ (6, ltb (codeable u.depth) (nat_abs u.token))
      ∷ (7, ltb COEF_LIMIT (nat_abs (Z.coefficient u)))
      ∷ []

  no_quantizers : bad_quantizer u.dc.0 || bad_quantizer u.ac.0 ≡ true → W.Replace u 3
  no_quantizers h =
      T.or_true (bad_quantizer u.dc.0) (bad_quantizer u.ac.0) (λ e. W.Replace.dc (T.no_quantizer u.dc.0 e))
      (λ e. W.Replace.ac (T.no_quantizer u.ac.0 e)) h

  past : not (ltb u.place (area (u.size + 2))) ≡ true → area (u.size + 2) ≤ u.place
  past e = ltb-false u.place (area (u.size + 2)) (T.not_true (ltb u.place (area (u.size + 2))) e)

  replace_each : Each (W.Replace u) steps
  replace_each =
      more (λ e. W.Replace.depth (T.no_depth u.depth e))
      (more (λ e. W.Replace.size (ltb-true 3 u.size e))
      (more no_quantizers
      (more (λ e. W.Replace.count (T.differ (length u.block) (area (u.size + 2)) e))
      (more (λ e. W.Replace.place (past e))
      (more (λ e. W.Replace.token (ltb-true (codeable u.depth) (nat_abs u.token) e))
      (more (λ e. W.Replace.coefficient (ltb-true COEF_LIMIT (nat_abs (Z.coefficient u)) e)) none))))))

  replace_has : (n : ℕ) → W.Replace u n → Applies n steps
  replace_has n (W.Replace.depth h) = here_if 1 _ _ (T.depth_test u.depth h)
  replace_has n (W.Replace.size h) = there (here_if 2 _ _ (lt-ltb 3 u.size h))
  replace_has n (W.Replace.dc h) =
      there (there (here_if 3 _ _ (T.left (bad_quantizer u.dc.0) (bad_quantizer u.ac.0) (T.quantizer_test u.dc.0 h))))
  replace_has n (W.Replace.ac h) =
      there (there (here_if 3 _ _ (T.right (bad_quantizer u.dc.0) (bad_quantizer u.ac.0) (T.quantizer_test u.ac.0 h))))
  replace_has n (W.Replace.count h) = there (there (there (here_if 4 _ _ (T.differs (length u.block) (area (u.size + 2)) h))))
  replace_has n (W.Replace.place h) = there (there (there (there (here_if 5 _ _ (ap not (le-ltb u.place (area (u.size + 2)) h))))))
  replace_has n (W.Replace.token h) =
      there (there (there (there (there (here_if 6 _ _ (lt-ltb (codeable u.depth) (nat_abs u.token) h))))))
  replace_has n (W.Replace.coefficient h) =
      there (there (there (there (there (there (here_if 7 _ _ (lt-ltb COEF_LIMIT (nat_abs (Z.coefficient u)) h)))))))

  replace_order : InOrder (W.Replace u) W.replace_numbers (Z.answer_of u)
  unfolding Z.answer_of
  replace_order = in_order (W.Replace u) W.replace_numbers steps refl tt replace_each replace_has

-- `replace_token`
pub replace_when : (u : Z.Input) (a : Answer) (block : List ℤ) (summary : ℕ) → Z.Replaced u a block summary
    → InOrder (W.Replace u) W.replace_numbers (number a)
replace_when u a block summary p = subst (λ (n : ℕ). InOrder (W.Replace u) W.replace_numbers n) (sym p.answered) (replace_order u)

-- ---- `inverse_transform_2d_rows`
pub rows_when : (u : D.Input) (a : Answer) (rows : ℕ) (after : List ℤ) → Rowed u a rows after → Exactly (W.Driver u) (number a)
rows_when u a rows after d = subst (λ (n : ℕ). Exactly (W.Driver u) n) (sym d.answered) (driver_exactly u)
