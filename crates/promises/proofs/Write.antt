-- `vbk_write` gives each number when, and only when, its condition holds and none before it does.
use Rattle.std.specs.Prelude.{Result}
use Rattle.answers.specs.declared.Refusal.{Refusal}
use mathlib.Core.Path.{◌≡◌, refl, sym, subst, ◌∙◌}
use mathlib.Core.Bool.{Bool, true, false, not, ◌||◌}
use mathlib.Core.List.{List, [], ◌∷◌}
use Prim.Native.Nat.{ℕ, ◌+◌, ◌*◌, ◌<◌}
use borrow.Author.Tests.{ltb-true, lt-ltb, eqb-true, eq-eqb}
use lib.Dec.{ltb, eqb}
use lib.ListN.{length, get_or}
use Rattle.whole.proofs.Tests.{any_hit}
use Rattle.answers.specs.Limits.{AREA_LIMIT, FILE_LIMIT}
use Rattle.answers.specs.Bad.{bad_depth, retired}
use Rattle.answers.specs.Sizes.{area}
use Rattle.answers.proofs.Numbers.{Applies, there}
use Rattle.vbk_read.specs.Header.{bad_area}
use Rattle.vbk_write.specs.Lent.{Lent, Alike, tokens_before, file_of}
use Rattle.vbk_write.specs.Promises.{any_above, bad_lists, bad_counts, bad_total, misfit, too_large, answer_of, Wrote}
use Rattle.vbk_read.specs.Header.{number_in}
use Rattle.vbk_write.proofs.Lengths.{alike}
use Rattle.promises.specs.Conditions.{SomeAbove, OtherCount}
use Rattle.promises.specs.Exactly.{InOrder}
use Rattle.promises.specs.When as W
use Rattle.promises.proofs.Exactly.{Each, none, more, here_if, in_order}
use Rattle.promises.proofs.Tests as T

-- ---- 2 and 14
some_above : (m : ℕ) (l : List ℕ) → any_above m l ≡ true → SomeAbove m l
unfolding any_above
some_above m l h =
    let f = T.found (λ k. ltb m (get_or l k 0)) (length l) h in
    record { place = f.0; listed = f.1; above = ltb-true m (get_or l f.0 0) f.2 }

above_test : (m : ℕ) (l : List ℕ) → SomeAbove m l → any_above m l ≡ true
unfolding any_above
above_test m l a = any_hit (λ k. ltb m (get_or l k 0)) a.place (length l) a.listed (lt-ltb m (get_or l a.place 0) a.above)

-- ---- 6
other_count : (sizes counts : List ℕ) → bad_counts sizes counts ≡ true → OtherCount sizes counts
unfolding bad_counts
other_count sizes counts h =
    let f = T.found (λ k. not (eqb (get_or counts k 0) (area (get_or sizes k 0 + 2)))) (length counts) h in
    record { place = f.0; listed = f.1; other = T.differ (get_or counts f.0 0) (area (get_or sizes f.0 0 + 2)) f.2 }

count_test : (sizes counts : List ℕ) → OtherCount sizes counts → bad_counts sizes counts ≡ true
unfolding bad_counts
count_test sizes counts o =
    any_hit (λ k. not (eqb (get_or counts k 0) (area (get_or sizes k 0 + 2)))) o.place (length counts) o.listed (T.differs (get_or counts o.place 0) (area (get_or sizes o.place 0 + 2)) o.other)

lists_fit : (l : Lent) → Alike l → bad_lists l ≡ false
unfolding bad_lists
lists_fit l a =
    let n = length l.xs in
    rw (eq-eqb (length l.ys) n a.ys, eq-eqb (length l.sizes) n a.sizes, eq-eqb (length l.tx_types) n a.tx_types, eq-eqb (length l.lossless) n a.lossless, eq-eqb (length l.dcs) n a.dcs, eq-eqb (length l.acs) n a.acs, eq-eqb (length l.counts) n a.counts)

unlike : (l : Lent) → bad_lists l ≡ true → Alike l → ⊥
unlike l h a = T.never (sym (lists_fit l a) ∙ h)

unlike_test : (l : Lent) → (Alike l → ⊥) → bad_lists l ≡ true
unlike_test l h = go (bad_lists l) refl
  where
    go : (b : Bool) → bad_lists l ≡ b → bad_lists l ≡ true
    go true e = e
    go false e = absurd (h (alike l e))

module _ (l : Lent) (room : ℕ) where
  abbrev samples : Bool
  samples = not (eqb (length l.samples) (l.width * l.height))

  abbrev counts : Bool
  counts = bad_counts l.sizes l.counts

  abbrev total : Bool
  total = bad_total l.counts (length l.tokens)

  misfits : misfit l ≡ true → W.Write l room 4
  unfolding misfit bad_total
  misfits h =
      T.or_true samples (bad_lists l || (counts || total)) (λ e. W.samples (T.differ (length l.samples) (l.width * l.height) e))
      (T.or_true (bad_lists l) (counts || total) (λ e. W.lists (unlike l e))
      (T.or_true counts total (λ e. W.count (other_count l.sizes l.counts e))
      (λ e. W.sum (T.differ (tokens_before l.counts (length l.counts)) (length l.tokens) e))))
      h

  misfit_samples : (length l.samples ≡ l.width * l.height → ⊥) → misfit l ≡ true
  unfolding misfit
  misfit_samples h = T.left samples (bad_lists l || (counts || total)) (T.differs (length l.samples) (l.width * l.height) h)

  misfit_lists : (Alike l → ⊥) → misfit l ≡ true
  unfolding misfit
  misfit_lists h = T.right samples (bad_lists l || (counts || total)) (T.left (bad_lists l) (counts || total) (unlike_test l h))

  misfit_count : OtherCount l.sizes l.counts → misfit l ≡ true
  unfolding misfit
  misfit_count h =
      T.right samples (bad_lists l || (counts || total)) (T.right (bad_lists l) (counts || total) (T.left counts total (count_test l.sizes l.counts h)))

  misfit_total : (tokens_before l.counts (length l.counts) ≡ length l.tokens → ⊥) → misfit l ≡ true
  unfolding misfit bad_total
  misfit_total h =
      T.right samples (bad_lists l || (counts || total))
      (T.right (bad_lists l) (counts || total) (T.right counts total (T.differs (tokens_before l.counts (length l.counts)) (length l.tokens) h)))

  -- ---- 13
  abbrev plane : ℕ
  plane = l.width * l.height

  larges : too_large l ≡ true → W.Write l room 5
  unfolding too_large bad_area
  larges h =
      T.or_true (eqb plane 0 || ltb AREA_LIMIT plane) (ltb FILE_LIMIT (length (file_of l)))
      (T.or_true (eqb plane 0) (ltb AREA_LIMIT plane) (λ e. W.empty (eqb-true plane 0 e)) (λ e. W.wide (ltb-true AREA_LIMIT plane e)))
      (λ e. W.long (ltb-true FILE_LIMIT (length (file_of l)) e))
      h

  large_empty : plane ≡ 0 → too_large l ≡ true
  unfolding too_large bad_area
  large_empty h = rw (eq-eqb plane 0 h)

  large_wide : AREA_LIMIT < plane → too_large l ≡ true
  unfolding too_large bad_area
  large_wide h = T.left (eqb plane 0 || ltb AREA_LIMIT plane) (ltb FILE_LIMIT (length (file_of l))) (T.right (eqb plane 0) (ltb AREA_LIMIT plane) (lt-ltb AREA_LIMIT plane h))

  large_long : FILE_LIMIT < length (file_of l) → too_large l ≡ true
  unfolding too_large
  large_long h = T.right (bad_area plane) (ltb FILE_LIMIT (length (file_of l))) (lt-ltb FILE_LIMIT (length (file_of l)) h)

  -- ---- the steps
  abbrev steps : List (ℕ × Bool)
  steps =
      (1, bad_depth l.depth)
      ∷ (2, retired l.depth)
      ∷ (3, any_above 3 l.sizes)
      ∷ (4, misfit l)
      ∷ (5, too_large l)
      ∷ (6, any_above 1 l.lossless)
      ∷ (7, ltb room (length (file_of l)))
      ∷ []

  has : (n : ℕ) → W.Write l room n → Applies n steps
  has n (W.Write.depth h) = here_if 1 _ _ (T.depth_test l.depth h)
  has n (W.Write.retired h) = there (here_if 2 _ _ (eq-eqb l.depth 12 h))
  has n (W.Write.size h) = there (there (here_if 3 _ _ (above_test 3 l.sizes h)))
  has n (W.Write.samples h) = there (there (there (here_if 4 _ _ (misfit_samples h))))
  has n (W.Write.lists h) = there (there (there (here_if 4 _ _ (misfit_lists h))))
  has n (W.Write.count h) = there (there (there (here_if 4 _ _ (misfit_count h))))
  has n (W.Write.sum h) = there (there (there (here_if 4 _ _ (misfit_total h))))
  has n (W.Write.empty h) = there (there (there (there (here_if 5 _ _ (large_empty h)))))
  has n (W.Write.wide h) = there (there (there (there (here_if 5 _ _ (large_wide h)))))
  has n (W.Write.long h) = there (there (there (there (here_if 5 _ _ (large_long h)))))
  has n (W.Write.lossless h) = there (there (there (there (there (here_if 6 _ _ (above_test 1 l.lossless h))))))
  has n (W.Write.short h) = there (there (there (there (there (there (here_if 7 _ _ (lt-ltb room (length (file_of l)) h)))))))

  each : Each (W.Write l room) steps
  each =
      more (λ e. W.Write.depth (T.no_depth l.depth e))
      (more (λ e. W.Write.retired (eqb-true l.depth 12 e))
      (more (λ e. W.Write.size (some_above 3 l.sizes e))
      (more misfits
      (more larges
      (more (λ e. W.Write.lossless (some_above 1 l.lossless e)) (more (λ e. W.Write.short (ltb-true room (length (file_of l)) e)) none))))))

  write_order : InOrder (W.Write l room) W.write_numbers (answer_of l room)
  unfolding answer_of
  write_order = in_order (W.Write l room) W.write_numbers steps refl tt each has

-- `vbk_write`
pub write_when : (l : Lent) (out : List ℕ) (r : Result ℕ Refusal) (after : List ℕ) → Wrote l out r after → InOrder (W.Write l (length out)) W.write_numbers (number_in r)
write_when l out r after w = subst (λ (n : ℕ). InOrder (W.Write l (length out)) W.write_numbers n) (sym w.answered) (write_order l (length out))
