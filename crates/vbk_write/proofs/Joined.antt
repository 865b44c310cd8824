-- Laws of bytes one after another: as a loop writes them.
use mathlib.Core.Path.{◌≡◌, refl, sym, ap, ◌∙◌}
use mathlib.Core.List.{List, ◌++◌, append_assoc, append-nil}
use Prim.Native.Nat.{ℕ, zero, suc}
use lib.ListN.{length, get_or}
use Rattle.whole.specs.Lists.{tabulate}
use Rattle.whole.specs.Steps.{each}
use Rattle.whole.proofs.Lists.{tabulate_is}
use Rattle.vbk_write.specs.Bytes.{joined}

-- the first piece apart
each_front : (h : ℕ → List ℕ) (n : ℕ) → each (suc n) h ≡ h 0 ++ each n (λ k. h (suc k))
unfolding each
each_front h zero = sym (append-nil (h 0))
each_front h (suc n) =
    ap (λ (l : List ℕ). l ++ h (suc n)) (each_front h n) ∙ append_assoc (h 0) (each n (λ k. h (suc k))) (h (suc n))

pub joined_tabulate : {A : Type 0} (f : A → List ℕ) (g : ℕ → A) (n : ℕ) → joined f (tabulate g n) ≡ each n (λ k. f (g k))
unfolding joined tabulate each
joined_tabulate f g zero = refl
joined_tabulate f g (suc n) =
    ap (λ (l : List ℕ). f (g 0) ++ l) (joined_tabulate f (λ k. g (suc k)) n) ∙ sym (each_front (λ k. f (g k)) n)

pub joined_each : {A : Type 0} (f : A → List ℕ) (d : A) (l : List A) → joined f l ≡ each (length l) (λ k. f (get_or l k d))
joined_each f d l =
    ap (joined f) (tabulate_is d (λ k. get_or l k d) l (length l) refl (λ k h. refl)) ∙ joined_tabulate f (λ k. get_or l k d) (length l)
