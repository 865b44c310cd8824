-- One row through its transform, and a loop over the rows of a summary turn by turn: once for every pass and size.
use mathlib.Core.Path.{◌≡◌, refl, sym, ap, ◌∙◌, subst}
use mathlib.Core.Bool.{Bool, true, false}
use mathlib.Core.List.{List, [], ◌∷◌}
use Prim.Native.Nat.{ℕ, ◌+◌, ◌*◌, ◌^◌, ◌≤◌, ◌<◌}
use native.Mathlib.Nat.{le_antisymm, mul-one}
use native.Mathlib.Numerals.{add-one}
use native.Mathlib.Omega.{arith}
use lib.IntN.{ℤ, pos}
use lib.ListN.{length, length-append, get_or, replicate}
use Rattle.whole.specs.Lists.{fill}
use Rattle.whole.specs.Steps.{run, each, when}
use Rattle.whole.proofs.Steps.{each_none, each_more, run_when, run_skip}
use Rattle.steps.proofs.Places.{Stays}
use Rattle.blocks.specs.Block.{row, rows, change_row}
use Rattle.blocks.specs.Inner.{set_line, change_line, FirstWithin, Safe}
use Rattle.blocks.specs.Inverse.{Pass, apply}
use Rattle.blocks.proofs.Lines.{zeros_at, line_length, line_past, line_same, fill_line}
use Rattle.blocks.proofs.Blocks.{change_row_length, change_row_other, change_row_line}
use Rattle.blocks.proofs.Passes.{Valid, pass_stays, pass_zeros}
use Rattle.blocks.proofs.Inverse.{side_most, row_safe}
use Rattle.summary.specs.Summary.{those, is_set, live_rows, summary_of}
use Rattle.summary.proofs.Rows.{those_yes, those_no, scanned_below}
use Rattle.summary.proofs.ByRows.{over_live}
use Rattle.row_pass.specs.Inner.{Clear, Passed}

-- ---- one row: loaded into T, transformed, stored
loaded : (n0 i : ℕ) (s t : List ℤ) → n0 ≤ 32 → Clear n0 t → {u : List ℤ} → u ≡ fill n0 (λ k. get_or s (i * n0 + k * 1) (pos 0)) t → u ≡ row n0 i s
loaded n0 i s t short clear e = e ∙ fill_line (i * n0) 1 n0 s t short clear.wide clear.zeros

module _ (p : Pass) (n i : ℕ) (s t : List ℤ) (least : 2 ≤ n) (most : n ≤ 5) (clear : Clear (2 ^ n) t) {u : List ℤ} (e : u ≡ fill (2 ^ n) (λ k. get_or s (i * 2 ^ n + k * 1) (pos 0)) t) where
  is_row : u ≡ row (2 ^ n) i s
  is_row = loaded (2 ^ n) i s t (side_most n least most) clear e

  pub line_safe : Safe p n (row (2 ^ n) i s) → Safe p n u
  line_safe = subst (Safe p n) (sym is_row)

  pub row_made : 2 ^ n * 2 ^ n ≤ length s → i < 2 ^ n → {w v : List ℤ} → w ≡ apply p n u → v ≡ set_line (λ z. z) (i * 2 ^ n) 1 (2 ^ n) w s → v ≡ change_row (apply p n) (2 ^ n) i s
  unfolding change_line
  row_made room hi f h =
      h ∙ ap (λ (x : List ℤ). set_line (λ z. z) (i * 2 ^ n) 1 (2 ^ n) x s) (f ∙ ap (apply p n) is_row) ∙ change_row_line (apply p n) (2 ^ n) i s (side_most n least most) room hi

  pub row_clear : Valid 2 p n → {w : List ℤ} → w ≡ apply p n u → Clear (2 ^ n) w
  row_clear v {w} f =
      let stay : Stays (2 ^ n) u w = rw f (pass_stays 2 p n v u) in
      record {
        wide = stay.long ∙ ap length is_row ∙ line_length (i * 2 ^ n) 1 (2 ^ n) s;
        zeros = λ k l. stay.same k l ∙ ap (λ (x : List ℤ). get_or x k (pos 0)) is_row ∙ line_past (i * 2 ^ n) 1 (2 ^ n) s k l;
      }

-- ---- the loop's invariant: of the rows below i those that have q are done and counted, the rows from i on are as they were
pub record RowTurn (p : Pass) (n : ℕ) (q : ℕ → Bool) (s₀ s t : List ℤ) (count i : ℕ) : Type 0 where
  pub most : i ≤ 2 ^ n
  pub done : s ≡ run (change_row (apply p n) (2 ^ n)) (those q i) s₀
  pub long : length s ≡ length s₀
  pub come : (k : ℕ) → i ≤ k → k < 2 ^ n → row (2 ^ n) k s ≡ row (2 ^ n) k s₀
  pub clear : Clear (2 ^ n) t
  pub counted : count ≡ length (those q i)
  pub few : count ≤ i

pub row_none : (p : Pass) (n : ℕ) (q : ℕ → Bool) (s₀ : List ℤ) → RowTurn p n q s₀ s₀ (replicate 32 (pos 0)) 0 0
unfolding those each
row_none p n q s₀ =
    record {
      most = omega arith;
      done = each_none (change_row (apply p n) (2 ^ n)) (λ i. when (q i) (i ∷ [])) s₀;
      long = refl;
      come = λ k _ _. refl;
      clear = record { wide = refl; zeros = λ k _. zeros_at 32 k };
      counted = refl;
      few = omega arith;
    }

-- what every turn rests on
pub record Job (p : Pass) (n : ℕ) (s₀ : List ℤ) : Type 0 where
  pub short : 2 ^ n ≤ 32
  pub room : 2 ^ n * 2 ^ n ≤ length s₀
  pub safe : (i : ℕ) → i < 2 ^ n → Safe p n (row (2 ^ n) i s₀)

pub rows_job : (p : Pass) (n : ℕ) (s₀ : List ℤ) → 2 ≤ n → n ≤ 5 → Valid 2 p n → 2 ^ n * 2 ^ n ≤ length s₀ → FirstWithin (2 ^ 31) (2 ^ n * 2 ^ n) s₀ → Job p n s₀
rows_job p n s₀ l h v room b = record { short = side_most n l h; room = room; safe = row_safe n l h p s₀ room v b }

module _ {p : Pass} {n : ℕ} {q : ℕ → Bool} {s₀ : List ℤ} (job : Job p n s₀) {s t : List ℤ} {count i : ℕ} (turn : RowTurn p n q s₀ s t count i) (hi : i < 2 ^ n) where
  pub turn_safe : Safe p n (row (2 ^ n) i s)
  turn_safe = subst (Safe p n) (sym (turn.come i (omega arith) hi)) (job.safe i hi)

  -- the bit is set: the row is transformed, and one more is counted
  pub row_next : q i ≡ true → {v w : List ℤ} {more : ℕ} → v ≡ change_row (apply p n) (2 ^ n) i s → Clear (2 ^ n) w → more ≡ count + 1 → RowTurn p n q s₀ v w more (i + 1)
  unfolding those run
  row_next set {v} {w} {more} f c g =
      let T = apply p n in
      let n0 = 2 ^ n in
      let space : n0 * n0 ≤ length s = rw turn.long job.room in
      record {
        most = omega arith;
        done = each_more (change_row T n0) (λ i. when (q i) (i ∷ [])) i s₀ turn.done (f ∙ run_when (change_row T n0) (i ∷ []) s set);
        long = ap length f ∙ change_row_length T n0 i s ∙ turn.long;
        come = λ k l hk. rw f
            (line_same (k * n0) 1 n0 (change_row T n0 i s) s
            (λ j hj. rw (mul-one j) (change_row_other T n0 i s job.short space k hk (λ e. omega arith) j hj))
            ∙ turn.come k (omega arith) hk);
        clear = c;
        counted = g ∙ rw (add-one i, those_yes q i set, length-append (those q i) (i ∷ []), turn.counted);
        few = omega (arith, g, turn.few);
      }

  -- it is not: nothing is done
  pub row_skip : q i ≡ false → RowTurn p n q s₀ s t count (i + 1)
  unfolding those
  row_skip clear =
      record {
        most = omega arith;
        done = each_more (change_row (apply p n) (2 ^ n)) (λ i. when (q i) (i ∷ [])) i s₀ turn.done (run_skip (change_row (apply p n) (2 ^ n)) (i ∷ []) s clear);
        long = turn.long;
        come = λ k l hk. turn.come k (omega arith) hk;
        clear = turn.clear;
        counted = turn.counted ∙ rw (add-one i, those_no q i clear);
        few = omega (arith, turn.few);
      }

-- at the end
pub row_done : {p : Pass} {n m : ℕ} {s₀ s t : List ℤ} {count i : ℕ} → RowTurn p n (is_set m) s₀ s t count i → 2 ^ n ≤ i → Passed p n m s₀ s count
row_done {p} {n} {m} {s₀} {s} {t} {count} {i} turn l =
    let e : i ≡ 2 ^ n = le_antisymm turn.most l in
    record {
      done = turn.done ∙ ap (λ (k : ℕ). run (change_row (apply p n) (2 ^ n)) (those (is_set m) k) s₀) e;
      counted = turn.counted ∙ ap (λ (k : ℕ). length (those (is_set m) k)) e;
    }

-- ---- by the block's own summary: all rows are done, and the live ones are counted
pub own_rows : (p : Pass) (n : ℕ) → 2 ≤ n → n ≤ 5 → Valid 2 p n → (s : List ℤ) → 2 ^ n * 2 ^ n ≤ length s → {m count : ℕ} {u : List ℤ} → m ≡ summary_of (2 ^ n) s
    → Passed p n m s u count → (u ≡ rows (apply p n) (2 ^ n) s) × (count ≡ length (live_rows (2 ^ n) s))
own_rows p n l h v s room {m} {count} {u} e f =
    let same : those (is_set m) (2 ^ n) ≡ live_rows (2 ^ n) s = ap (λ (x : ℕ). those (is_set x) (2 ^ n)) e ∙ scanned_below (2 ^ n) s in (
      f.done ∙ ap (λ (is : List ℕ). run (change_row (apply p n) (2 ^ n)) is s) same ∙ over_live (apply p n) (2 ^ n) s (side_most n l h) room (λ t z. pass_zeros 2 p n v z),
      f.counted ∙ ap length same,
    )
