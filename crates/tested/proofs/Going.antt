-- A line that is on its way: the first i steps are done and have kept within 16 bits.
use mathlib.Core.Path.{◌≡◌, refl, sym, subst, ap, ◌∙◌}
use mathlib.Core.Bool.{Bool, true, false, not, ◌&&◌}
use mathlib.Core.List.{List, [], ◌∷◌}
use Prim.Native.Nat.{ℕ, ◌+◌, ◌≤◌, ◌<◌, ◌^◌}
use native.Mathlib.Numerals.{add-one}
use lib.IntN.{ℤ, pos}
use lib.ListN.{length, get_or, drop, replicate, drop_of_length-le}
use Rattle.whole.specs.Steps.{run}
use Rattle.whole.specs.Inner.{AllWithin}
use Rattle.steps.specs.Step.{Step, A4, step}
use Rattle.steps.specs.Step2.{Arrays, Step2, on, step2, fresh}
use Rattle.dct.specs.Dct.{dct_row, dct}
use Rattle.adst.specs.Adst.{on_t, adst}
use Rattle.adst.specs.Inner.{arrays}
use Rattle.wht.specs.Wht.{wht_row, wht}
use Rattle.narrow.specs.Kept.{shorts, always, kept, kept2}
use Rattle.narrow.specs.Inner.{fits, fits2, reach}
use Rattle.narrow.proofs.Tried.{all_passed, end}
use Rattle.narrow.proofs.Safe.{Safe, safe_begin, safe_next, safe_stop, told_T}
use Rattle.blocks.specs.Inverse as I
use Rattle.blocks.specs.Inverse.{Pass, Wht, apply}
use Rattle.weights.specs.Line.{kept_line}
use Rattle.tested.specs.Line.{Sized, pass_of, steps_of, Line}
use Rattle.tested.specs.Inner.{Told}
use Rattle.tested.specs.declared.Kind.{Kind}
use Rattle.tested.proofs.Lists.{all_placed}

-- ---- steps of T alone
kept_on : (m : ℕ) (ss : List Step) (t s : List ℤ) → kept2 m (on_t ss) (arrays t s) ≡ kept m ss t
unfolding kept kept2 always on_t step2
kept_on m [] t s = refl
kept_on m (x ∷ ss) t s = ap (λ (b : Bool). shorts m t && b) (kept_on m ss (step x t) s)

run_on : (ss : List Step) (t s : List ℤ) → (run step2 (on_t ss) (arrays t s)).T ≡ run step ss t
unfolding run on_t step2
run_on [] t s = refl
run_on (x ∷ ss) t s = run_on ss (step x t) s

kept_line_lem : (p : Pass) (n : ℕ) (t : List ℤ) → kept2 (2 ^ n) (steps_of p n) (fresh t) ≡ kept_line p n t
unfolding steps_of fresh
kept_line_lem I.Dct n t = kept_on (2 ^ n) (dct_row n) t (replicate 16 (pos 0))
kept_line_lem I.Adst n t = refl
kept_line_lem (Wht k) n t = kept_on (2 ^ n) (wht_row k) t (replicate 16 (pos 0))

line_is : (p : Pass) (n : ℕ) (t : List ℤ) → (run step2 (steps_of p n) (fresh t)).T ≡ apply p n t
unfolding steps_of fresh apply dct adst wht
line_is I.Dct n t = run_on (dct_row n) t (replicate 16 (pos 0))
line_is I.Adst n t = refl
line_is (Wht k) n t = run_on (wht_row k) t (replicate 16 (pos 0))

-- ---- on its way
pub record Going (p : Pass) (n : ℕ) (t₀ : List ℤ) (i : ℕ) (t s : List ℤ) : Type 0 where
  pub safe : Safe (2 ^ n) (steps_of p n) i
  pub start : safe.tried.start ≡ fresh t₀
  pub here : safe.tried.here ≡ arrays t s

told_as : {x y : Step2} {u v w : Arrays} {r : Bool} → x ≡ y → u ≡ v → Told step2 fits2 x u r w → Told step2 fits2 y v r w
told_as {x} {y} {u} {v} {w} {r} e f o = subst (λ (z : Arrays). Told step2 fits2 y z r w) f (subst (λ (z : Step2). Told step2 fits2 z u r w) e o)

pub going_begin : (k : Kind) (n : ℕ) (t : List ℤ) → Sized k n → 2 ^ n ≤ length t → shorts (2 ^ n) t ≡ true → Going (pass_of k) n t 0 t (replicate 16 (pos 0))
unfolding fresh
going_begin k n t h m e = record { safe = safe_begin (all_placed k n h) t m e; start = refl; here = refl }

module _ (k : Kind) (n : ℕ) {t₀ t s : List ℤ} {i : ℕ} (h : Sized k n) (g : Going (pass_of k) n t₀ i t s) where
  -- T has its places, and S is bounded
  pub going_room : (2 ^ n ≤ length t) × AllWithin reach s
  going_room = subst (λ (u : Arrays). (2 ^ n ≤ length u.T) × AllWithin reach u.S) g.here (g.safe.good.long, g.safe.good.near)

  module _ (l : i < length (steps_of (pass_of k) n)) {x : Step2} (q : x ≡ get_or (steps_of (pass_of k) n) i (on A4)) {t' s' : List ℤ} {r : Bool}
      (o : Told step2 fits2 x (arrays t s) r (arrays t' s')) where
    pub going_next : not r ≡ false → Going (pass_of k) n t₀ (i + 1) t' s'
    going_next f =
        rw (add-one i) (record { safe = safe_next (all_placed k n h) g.safe l (told_as q (sym g.here) o) f; start = g.start; here = refl })

    pub going_stop : {u : List ℤ} → not r ≡ true → Line (pass_of k) n t₀ false u
    going_stop {u} f =
        let z = safe_stop {v = u} {w = apply (pass_of k) n t₀} g.safe l (sym (kept_line_lem (pass_of k) n t₀) ∙ ap (kept2 (2 ^ n) (steps_of (pass_of k) n)) (sym g.start)) (told_as q (sym g.here) o) f in
        record { is = z.0; made = z.1 }

pub going_end : (p : Pass) (n : ℕ) {t₀ t s : List ℤ} {i : ℕ} → Going p n t₀ i t s → length (steps_of p n) ≤ i → Line p n t₀ true t
going_end p n {t₀} {t} {s} {i} g e =
    let ss = steps_of p n in
    let w = g.safe.tried in
    let all : drop i ss ≡ [] = drop_of_length-le ss e in
    let b : kept2 (2 ^ n) ss (fresh t₀) ≡ true = rw g.start at (g.safe.asks ∙ all_passed w all) in
    let q : arrays t s ≡ run step2 ss (fresh t₀) = rw (g.start, g.here) at (end w all) in
    record { is = sym (sym (kept_line_lem p n t₀) ∙ b); made = λ _. ap (λ (u : Arrays). u.T) q ∙ line_is p n t₀ }

-- ---- steps of T by themselves: step i of a line is x
pub record Nth (p : Pass) (n i : ℕ) (x : Step) : Type 0 where
  pub within : i < length (steps_of p n)
  pub is : on x ≡ get_or (steps_of p n) i (on A4)

module _ (k : Kind) (n : ℕ) {t₀ t s : List ℤ} {i : ℕ} {x : Step} (h : Sized k n) (g : Going (pass_of k) n t₀ i t s) (e : Nth (pass_of k) n i x) {t' : List ℤ} where
  told_on : {r : Bool} → Told step fits x t r t' → Told step2 fits2 (on x) (arrays t s) r (arrays t' s)
  told_on o = told_T (on x) (arrays t s) refl o

  pub on_next : {r : Bool} → Told step fits x t r t' → not r ≡ false → Going (pass_of k) n t₀ (i + 1) t' s
  on_next o f = going_next k n h g e.within e.is (told_on o) f

  pub on_stop : {r : Bool} {u : List ℤ} → Told step fits x t r t' → not r ≡ true → Line (pass_of k) n t₀ false u
  on_stop o f = going_stop k n h g e.within e.is (told_on o) f

  -- the last step's answer is the line's
  pub on_last : (r : Bool) → Told step fits x t r t' → length (steps_of (pass_of k) n) ≤ i + 1 → Line (pass_of k) n t₀ r t'
  on_last true o l = going_end (pass_of k) n (on_next o refl) l
  on_last false o l = on_stop o refl
