-- Lines one after the other, rows or columns: those that are done stayed within 16 bits.
use mathlib.Core.Path.{◌≡◌, refl, ap, subst, sym, ◌∙◌}
use mathlib.Core.Bool.{Bool, true, false, not}
use mathlib.Core.List.{List}
use mathlib.Core.Logic.{⊎_elim}
use Prim.Native.Nat.{ℕ, ◌+◌, ◌*◌, ◌≤◌, ◌<◌}
use native.Mathlib.Nat.{eq-or-lt_of_le, mul-le-mul}
use native.Mathlib.Omega.{arith}
use lib.IntN.{ℤ, pos}
use lib.ListN.{length, get_or, replicate}
use borrow.Author.Tests.{not-true, not-false}
use Rattle.whole.specs.Lists.{fill}
use Rattle.whole.specs.Inner.{times}
use Rattle.whole.proofs.Loops.{times_none, times_more}
use Rattle.answers.specs.Sizes.{side}
use Rattle.narrow.specs.Kept.{short, shorts}
use Rattle.narrow.proofs.Kept.{shorts_all}
use Rattle.blocks.specs.Block.{line}
use Rattle.blocks.specs.Inner.{set_line, change_line}
use Rattle.blocks.specs.Inverse.{Pass, apply}
use Rattle.blocks.proofs.Inverse.{side_most}
use Rattle.blocks.proofs.Lines.{line_length, line_at}
use Rattle.blocks.proofs.Places.{in_row, in_column}
use Rattle.weights.specs.Inner.{Keeps}
use Rattle.tested.specs.Line.{Line, Tells}

-- what holds below k and at k holds below k + 1
pub below_more : {P : ℕ → Type 0} (k : ℕ) → ((j : ℕ) → j < k → P j) → P k → (j : ℕ) → j < k + 1 → P j
below_more {P} k f p j h = ⊎_elim (λ (q : j ≡ k). subst P (sym q) p) (λ (q : j < k). f j q) (eq-or-lt_of_le (omega arith))

never : {A : Type 0} → true ≡ false → A
never h = absurd (let z : ◌≡◌ {A = ℕ} 0 1 = cc in omega arith)

pub tells_yes : {K G : Type 0} → K → G → Tells true K G
tells_yes k g = record { holds = λ _. k; made = λ _. g; fails = λ e _. never e }

pub tells_no : {K G : Type 0} → (K → ⊥) → Tells false K G
tells_no f = record { holds = λ e. never (sym e); made = λ e. never (sym e); fails = λ _ k. f k }

pub area_fits : (n : ℕ) {m : ℕ} → 2 ≤ n → n ≤ 5 → m ≡ 1024 → side n * side n ≤ m
area_fits n l h e = let k = side_most n l h in rw e (mul-le-mul k k)

-- ---- the places of a line
pub column_in : (n j : ℕ) {n0 : ℕ} → n0 ≡ side n → 2 ≤ n → n ≤ 5 → j < n0 → (k : ℕ) → k < side n → j + k * n0 < 1024
column_in n j e l h q k r = rw e (in_column (side n) j k 1024 (omega arith) r (area_fits n l h refl))

pub row_in : (n i : ℕ) {n0 : ℕ} → n0 ≡ side n → 2 ≤ n → n ≤ 5 → i < n0 → (k : ℕ) → k < side n → i * n0 + k * 1 < 1024
row_in n i e l h q k r = rw e (in_row (side n) i k 1024 (omega arith) r (area_fits n l h refl))

-- ---- a line's own answer
tells : {r k : Bool} {G : Type 0} → r ≡ k → (r ≡ true → G) → Tells r (k ≡ true) G
tells e f = record { holds = λ h. sym e ∙ h; made = f; fails = λ h g. never (sym g ∙ sym e ∙ h) }

line_tells : (p : Pass) (n : ℕ) (t : List ℤ) {r : Bool} {u : List ℤ} → Line p n t r u → Tells r (Keeps p n t) (u ≡ apply p n t)
line_tells p n t l = tells l.is l.made

-- ---- a line that is loaded, tried and stored
module _ (at step n : ℕ) {n0 : ℕ} (is : n0 ≡ side n) (s : List ℤ) {t : List ℤ} (made : t ≡ fill n0 (λ k. get_or s (at + k * step) (pos 0)) (replicate 32 (pos 0))) where
  loaded : t ≡ line at step (side n) s
  unfolding line
  loaded = subst (λ (m : ℕ). t ≡ fill m (λ k. get_or s (at + k * step) (pos 0)) (replicate 32 (pos 0))) is made

  pub loaded_long : length t ≡ 32
  loaded_long = ap length loaded ∙ line_length at step (side n) s

  pub loaded_short : side n ≤ 32 → ((k : ℕ) → k < n0 → short (get_or s (at + k * step) (pos 0)) ≡ true) → shorts (side n) t ≡ true
  loaded_short l f = shorts_all (side n) t (λ k h. ap (λ (u : List ℤ). short (get_or u k (pos 0))) loaded ∙ ap short (line_at at step (side n) s k l h) ∙ f k (omega arith))

  module _ (p : Pass) {r : Bool} {u : List ℤ} (o : Line p n t r u) where
    pub one_no : {G : Type 0} → not r ≡ true → Tells false (Keeps p n (line at step (side n) s)) G
    one_no e = tells_no (λ k. (line_tells p n t o).fails (not-true r e) (subst (Keeps p n) (sym loaded) k))

    pub one_yes : {v : List ℤ} → not r ≡ false → v ≡ set_line (λ z. z) at step n0 u s
        → Tells true (Keeps p n (line at step (side n) s)) (v ≡ change_line (apply p n) (λ z. z) at step (side n) s)
    unfolding change_line
    one_yes e q =
        let w = line_tells p n t o in
        let y = not-false r e in
        tells_yes (subst (Keeps p n) loaded (w.holds y))
        (q ∙ ap (λ (m : ℕ). set_line (λ z. z) at step m u s) is ∙ ap (λ (x : List ℤ). set_line (λ z. z) at step (side n) x s) (w.made y ∙ ap (apply p n) loaded))

-- ---- a line's places as the code has them
pub placed_as : (p : Pass) (n : ℕ) (s : List ℤ) {a b x y : ℕ} {r : Bool} {v : List ℤ} → a ≡ b → x ≡ y
    → Tells r (Keeps p n (line a x (side n) s)) (v ≡ change_line (apply p n) (λ z. z) a x (side n) s)
    → Tells r (Keeps p n (line b y (side n) s)) (v ≡ change_line (apply p n) (λ z. z) b y (side n) s)
placed_as p n s e f o = rw (← e, ← f) o

-- ---- m lines are done
module _ (p : Pass) (n : ℕ) (base : ℕ → ℕ) (step : ℕ) where
  abbrev pub Lines : ℕ → List ℤ → List ℤ
  Lines m = times m (λ j. change_line (apply p n) (λ z. z) (base j) step (side n))

  pub record Done (m : ℕ) (s₀ s : List ℤ) : Type 0 where
    pub is : s ≡ Lines m s₀
    pub keep : (j : ℕ) → j < m → Keeps p n (line (base j) step (side n) s₀)

  pub done_none : (s₀ : List ℤ) → Done 0 s₀ s₀
  done_none s₀ = record { is = times_none _ s₀; keep = λ j h. absurd (omega arith) }

  -- line m is as it was at the start
  module _ {m : ℕ} {s₀ s : List ℤ} (d : Done m s₀ s) (to_come : line (base m) step (side n) (Lines m s₀) ≡ line (base m) step (side n) s₀) {r : Bool} {v : List ℤ}
      (o : Tells r (Keeps p n (line (base m) step (side n) s)) (v ≡ change_line (apply p n) (λ z. z) (base m) step (side n) s)) where
    same : line (base m) step (side n) s ≡ line (base m) step (side n) s₀
    same = ap (line (base m) step (side n)) d.is ∙ to_come

    pub done_next : not r ≡ false → Done (m + 1) s₀ v
    done_next e =
        let y = not-false r e in
        record { is = times_more _ m s₀ d.is (o.made y); keep = below_more m d.keep (subst (Keeps p n) same (o.holds y)) }

    pub done_fails : not r ≡ true → Keeps p n (line (base m) step (side n) s₀) → ⊥
    done_fails e k = o.fails (not-true r e) (subst (Keeps p n) (sym same) k)
