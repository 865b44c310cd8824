-- The run over a whole file is the run over what it says.
use mathlib.Core.Path.{◌≡◌, refl, sym, ap, ◌∙◌}
use mathlib.Core.Bool.{Bool, true, false}
use mathlib.Core.List.{List, [], ◌∷◌}
use Prim.Native.Nat.{ℕ, zero, suc}
use borrow.Author.Tests.{ltb-false}
use lib.Dec.{eqb}
use lib.ListN.{length}
use Rattle.vbk_read.specs.Header.{first_record, samples_of, header_answer}
use Rattle.vbk_read.specs.Records.{next_at, found, end_answer}
use Rattle.vbk.specs.Replay.{Reconstruction, touched_by, rebuild_at, rebuilt_at, record_at, records, records_of}
use Rattle.vbk_write.specs.Clip.{Entry, entry_at, entries_from, says, whole_from, whole}
use Rattle.vbk_write.proofs.Back.{no_entries}
use Rattle.vbk_write.proofs.Forth.{whole_more, and_right}
use Rattle.vbk_report.specs.Lists.{beside}
use Rattle.vbk_report.specs.Run.{report_reconstruction, report_run}
use Rattle.promises.specs.Played.{rebuilt, written_by, played}

module _ (R : Reconstruction) (s : List ℕ) where
  none_left : (k at : ℕ) (samples : List ℕ) → found s at ≡ false → records R s (suc k) at samples ≡ played R (says s) [] samples
  unfolding records played
  none_left k at samples e = rw e

  -- a record that is whole, and the others
  one_more : (k at : ℕ) (samples : List ℕ) → found s at ≡ true → end_answer s at ≡ 0
      → ((left : List ℕ) → records R s k (next_at s at) left ≡ played R (says s) (entries_from s k (next_at s at)) left)
      → records R s (suc k) at samples ≡ played R (says s) (entry_at s at ∷ entries_from s k (next_at s at)) samples
  unfolding records played record_at rebuilt_at rebuild_at rebuilt written_by touched_by says
  one_more k at samples e n h = rw (e, n) (rw h)

  cut : (k at : ℕ) → end_answer s at ≡ 0 → entries_from s (suc k) at ≡ entry_at s at ∷ entries_from s k (next_at s at)
  unfolding entries_from
  cut k at n = rw n

  same_records : (k at : ℕ) (samples : List ℕ) → whole_from s k at ≡ true → records R s k at samples ≡ played R (says s) (entries_from s k at) samples
  unfolding records played entries_from
  same_records zero at samples h = refl
  same_records (suc k) at samples h = go (found s at) refl (λ w left. same_records k (next_at s at) left w)
    where
      go : (b : Bool) → found s at ≡ b → (whole_from s k (next_at s at) ≡ true → (left : List ℕ) → records R s k (next_at s at) left ≡ played R (says s) (entries_from s k (next_at s at)) left)
          → records R s (suc k) at samples ≡ played R (says s) (entries_from s (suc k) at) samples
      go true e r =
          let n = whole_more s k at e h in
          one_more k at samples e n.end (r n.on) ∙ ap (λ (es : List Entry). played R (says s) es samples) (sym (cut k at n.end))
      go false e r =
          none_left k at samples e ∙ ap (λ (es : List Entry). played R (says s) es samples) (sym (no_entries s at (ltb-false at (length s) e) (suc k)))

  -- the records of the run are those that the file says, whatever list they start from
  pub records_played : whole s ≡ true → (list : List ℕ) → records R s (length s) (first_record s) list ≡ played R (says s) (says s).entries list
  unfolding says whole
  records_played h list = same_records (length s) (first_record s) list (and_right (eqb (header_answer s) 0) _ h)

  pub run_played : whole s ≡ true → records_of R s ≡ played R (says s) (says s).entries (says s).samples
  unfolding records_of says
  run_played h = records_played h (samples_of s)

-- and with a report beside the samples
pub report_played : (s counts sums : List ℕ) → whole s ≡ true → report_run s counts sums ≡ played report_reconstruction (says s) (says s).entries (beside (says s).samples counts sums)
unfolding report_run says
report_played s counts sums h = records_played report_reconstruction s h (beside (samples_of s) counts sums)
