-- A loop over the lines of a pass, turn by turn: the laws of its invariant, once for rows and columns, for every pass and every engine.
use mathlib.Core.Path.{◌≡◌, refl, sym, ap, ◌∙◌, subst}
use mathlib.Core.List.{List}
use Prim.Native.Nat.{ℕ, ◌+◌, ◌*◌, ◌^◌, ◌≤◌, ◌<◌}
use native.Mathlib.Nat.{le_antisymm}
use native.Mathlib.Omega.{arith}
use lib.IntN.{ℤ, pos}
use lib.ListN.{length, get_or, replicate}
use Rattle.whole.specs.Lists.{fill}
use Rattle.whole.specs.Inner.{times}
use Rattle.whole.proofs.Loops.{times_none, times_more}
use Rattle.whole.proofs.Within.{within_le}
use Rattle.steps.proofs.Places.{Stays}
use Rattle.blocks.specs.Block.{line, rows, columns}
use Rattle.blocks.specs.Inner.{set_line, change_line, FirstWithin, Safe}
use Rattle.blocks.specs.Inverse.{Pass, apply}
use Rattle.blocks.proofs.Places.{in_row, in_column}
use Rattle.blocks.proofs.Lines.{zeros_at, line_length, line_past, fill_line, set_line_length}
use Rattle.blocks.proofs.Blocks.{rows_loop, row_to_come, columns_loop, column_to_come}
use Rattle.blocks.proofs.Passes.{Valid, pass_stays}
use Rattle.blocks.proofs.Inverse.{side_most, row_safe, row_grown, column_safe, column_grown}

-- ---- what a pass over the block s₀ rests on, and what it comes to, g: n0 is 2^n, and line i is at base i, base i + step, ..
pub record Job (p : Pass) (n n0 : ℕ) (r : ℤ → ℤ) (base : ℕ → ℕ) (step : ℕ) (s₀ g : List ℤ) : Type 0 where
  pub short : n0 ≤ 32
  pub inside : (i k : ℕ) → i < n0 → k < n0 → base i + k * step < length s₀
  pub come : (i : ℕ) → i < n0 → line (base i) step n0 (times i (λ i. change_line (apply p n) r (base i) step n0) s₀) ≡ line (base i) step n0 s₀
  pub safe : (i : ℕ) → i < n0 → Safe p n (line (base i) step n0 s₀)
  pub grown : (i : ℕ) → i < n0 → FirstWithin (2 ^ 43) n0 (apply p n (line (base i) step n0 s₀))
  pub stays : (t : List ℤ) → Stays n0 t (apply p n t)
  pub whole : times n0 (λ i. change_line (apply p n) r (base i) step n0) s₀ ≡ g

-- all rows of a block within 2^31, and all columns of a block within 2^37
pub rows_job : (p : Pass) (n : ℕ) (s₀ : List ℤ) → 2 ≤ n → n ≤ 5 → Valid 2 p n → 2 ^ n * 2 ^ n ≤ length s₀ → FirstWithin (2 ^ 31) (2 ^ n * 2 ^ n) s₀
    → Job p n (2 ^ n) (λ z. z) (λ i. i * 2 ^ n) 1 s₀ (rows (apply p n) (2 ^ n) s₀)
rows_job p n s₀ l h v room b = record {
  short = side_most n l h;
  inside = λ i k hi hk. in_row (2 ^ n) i k (length s₀) hi hk room;
  come = row_to_come (apply p n) (2 ^ n) s₀;
  safe = row_safe n l h p s₀ room v b;
  grown = row_grown n l h p s₀ room v b;
  stays = pass_stays 2 p n v;
  whole = rows_loop (apply p n) (2 ^ n) s₀ room;
}

pub columns_job : (p : Pass) (n : ℕ) (r : ℤ → ℤ) (s₀ : List ℤ) → 2 ≤ n → n ≤ 5 → Valid 0 p n → 2 ^ n * 2 ^ n ≤ length s₀ → FirstWithin (2 ^ 37) (2 ^ n * 2 ^ n) s₀
    → Job p n (2 ^ n) r (λ j. j) (2 ^ n) s₀ (columns (apply p n) r (2 ^ n) s₀)
columns_job p n r s₀ l h v room b = record {
  short = side_most n l h;
  inside = λ j k hj hk. in_column (2 ^ n) j k (length s₀) hj hk room;
  come = column_to_come (apply p n) r (2 ^ n) s₀;
  safe = column_safe n l h p s₀ room v b;
  grown = column_grown n l h p s₀ room v b;
  stays = pass_stays 0 p n v;
  whole = columns_loop (apply p n) r (2 ^ n) s₀ room;
}

-- ---- the invariant: i lines are done; T is 32 long, and zeros past the line
pub record Turn (p : Pass) (n n0 : ℕ) (r : ℤ → ℤ) (base : ℕ → ℕ) (step : ℕ) (s₀ : List ℤ) (s t : List ℤ) (i : ℕ) : Type 0 where
  pub count : i ≤ n0
  pub done : s ≡ times i (λ i. change_line (apply p n) r (base i) step n0) s₀
  pub long : length s ≡ length s₀
  pub wide : length t ≡ 32
  pub clean : (k : ℕ) → n0 ≤ k → get_or t k (pos 0) ≡ pos 0

pub turn_none : (p : Pass) (n n0 : ℕ) (r : ℤ → ℤ) (base : ℕ → ℕ) (step : ℕ) (s₀ : List ℤ) → Turn p n n0 r base step s₀ s₀ (replicate 32 (pos 0)) 0
turn_none p n n0 r base step s₀ = record { count = omega arith; done = times_none _ _; long = refl; wide = refl; clean = λ k _. zeros_at 32 k }

module _ {p : Pass} {n n0 : ℕ} {r : ℤ → ℤ} {base : ℕ → ℕ} {step : ℕ} {s₀ g : List ℤ} (job : Job p n n0 r base step s₀ g) {s t : List ℤ} {i : ℕ} (turn : Turn p n n0 r base step s₀ s t i) where
  pub turn_inside : i < n0 → (k : ℕ) → k < n0 → base i + k * step < length s
  turn_inside hi k hk = rw turn.long (job.inside i k hi hk)

  -- T as it is loaded
  pub turn_line : i < n0 → {u : List ℤ} → u ≡ fill n0 (λ k. get_or s (base i + k * step) (pos 0)) t → u ≡ line (base i) step n0 s₀
  turn_line hi {u} e =
      e ∙ fill_line (base i) step n0 s t job.short turn.wide turn.clean
      ∙ ap (line (base i) step n0) turn.done ∙ job.come i hi

  pub turn_safe : i < n0 → {u : List ℤ} → u ≡ fill n0 (λ k. get_or s (base i + k * step) (pos 0)) t → Safe p n u
  turn_safe hi {u} e = subst (Safe p n) (sym (turn_line hi e)) (job.safe i hi)

  -- after the transform: what the stores need, and the next turn
  pub turn_grown : i < n0 → {u w : List ℤ} → u ≡ fill n0 (λ k. get_or s (base i + k * step) (pos 0)) t → w ≡ apply p n u → FirstWithin (2 ^ 62) n0 w
  turn_grown hi {u} {w} e f =
      let q : w ≡ apply p n (line (base i) step n0 s₀) = f ∙ ap (apply p n) (turn_line hi e) in
      record { each = λ k l. rw q (within_le (omega arith) ((job.grown i hi).each k l)) }

  pub turn_next : i < n0 → {u w v : List ℤ} → u ≡ fill n0 (λ k. get_or s (base i + k * step) (pos 0)) t → w ≡ apply p n u → v ≡ set_line r (base i) step n0 w s
      → Turn p n n0 r base step s₀ v w (i + 1)
  unfolding change_line
  turn_next hi {u} {w} {v} e f q =
      let made : u ≡ line (base i) step n0 s = e ∙ fill_line (base i) step n0 s t job.short turn.wide turn.clean in
      let stay : Stays n0 u w = rw f (job.stays u) in
      record {
        count = omega arith;
        done = times_more _ i s₀ turn.done (q ∙ ap (λ (x : List ℤ). set_line r (base i) step n0 x s) (f ∙ ap (apply p n) made));
        long = ap length q ∙ set_line_length r (base i) step n0 w s ∙ turn.long;
        wide = stay.long ∙ ap length made ∙ line_length (base i) step n0 s;
        clean = λ k l. stay.same k l ∙ ap (λ (x : List ℤ). get_or x k (pos 0)) made ∙ line_past (base i) step n0 s k l;
      }

  -- at the end
  pub turn_done : n0 ≤ i → s ≡ g
  turn_done l = turn.done ∙ ap (λ (k : ℕ). times k (λ i. change_line (apply p n) r (base i) step n0) s₀) (le_antisymm turn.count l) ∙ job.whole
