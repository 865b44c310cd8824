-- The drivers' table: what a passed test says, and the answer from its parts.
use mathlib.Core.Path.{◌≡◌, refl, sym, ◌∙◌}
use mathlib.Core.Bool.{Bool, true, false, cond}
use mathlib.Core.List.{List}
use Prim.Native.Nat.{ℕ, suc, ◌-◌, ◌^◌, ◌≤◌}
use native.Mathlib.Omega.{arith}
use borrow.Author.Tests.{ltb-false, eqb-true, eq-eqb, ne_eqb}
use lib.Dec.{ltb, eqb}
use lib.IntN.{ℤ}
use lib.ListN.{length}
use Rattle.whole.proofs.Within.{within_le}
use Rattle.std.specs.Prelude.{Ok, Err}
use Rattle.answers.specs.declared.Refusal.TheVariants.{Coefficient}
use Rattle.answers.specs.Answers.{Answer, number}
use Rattle.answers.specs.Bad.{bad_side, bad_room, bad_lossless, bad_tx_type, any_beyond}
use Rattle.answers.specs.Limits.{COEF_LIMIT}
use Rattle.answers.proofs.Passed.{side_range, none_within}
use Rattle.blocks.specs.Inner.{FirstWithin, Possible}
use Rattle.blocks.specs.Inverse.{inverse2d}
use Rattle.answers.specs.Sizes.{area}
use Rattle.idct.specs.Driver.{Input, answer_of, block_after, Driven}
use Rattle.idct.specs.Rows.{dc_only, row_list}
use Rattle.idct.specs.Inner.{shape_of, Tried}

never : {A : Type 0} → true ≡ false → A
never h = absurd (let z : ◌≡◌ {A = ℕ} 0 1 = cc in omega arith)

-- ---- lossless is 4 by 4; 32 by 32 has type 0
small_side : (n : ℕ) → 2 ≤ n → eqb (n - 2) 0 ≡ true → n ≡ 2
small_side n l e = omega (arith, eqb-true (n - 2) 0 e)

lossless_is : (n : ℕ) (lossless : Bool) → 2 ≤ n → bad_lossless lossless (n - 2) ≡ false → lossless ≡ true → n ≡ 2
unfolding bad_lossless
lossless_is n true l h e = go (eqb (n - 2) 0) refl
  where
    go : (b : Bool) → eqb (n - 2) 0 ≡ b → n ≡ 2
    go true p = small_side n l p
    go false p = never (rw (p) at h)
lossless_is n false l h e = never (sym e)

large_is : (n tx_type : ℕ) (lossless : Bool) → bad_tx_type lossless (n - 2) tx_type ≡ false → lossless ≡ false → n ≡ 5 → tx_type ≡ 0
unfolding bad_tx_type
large_is n tx_type true h e f = never e
large_is n tx_type false h e f = go (ltb 3 tx_type) (eqb tx_type 0) refl refl
  where
    size : eqb (n - 2) 3 ≡ true
    size = eq-eqb (n - 2) 3 (omega arith)

    go : (a b : Bool) → ltb 3 tx_type ≡ a → eqb tx_type 0 ≡ b → tx_type ≡ 0
    go a true p q = eqb-true tx_type 0 q
    go true false p q = never (rw (p) at h)
    go false false p q = never (rw (p, size, q) at h)

-- ---- what the tests before the numbers leave
cond_pass : (b : Bool) (k r : ℕ) → cond b (suc k) r ≡ 0 → (b ≡ false) × (r ≡ 0)
cond_pass true k r h = absurd (omega arith)
cond_pass false k r h = (refl, h)

pub possible : (count n tx_type : ℕ) (lossless : Bool) → shape_of count n tx_type lossless ≡ 0 → Possible n tx_type lossless × (area n ≤ count)
unfolding shape_of
possible count n tx_type lossless h =
    let a = cond_pass (bad_side n) 1 _ h in
    let b = cond_pass (bad_lossless lossless (n - 2)) 2 _ a.1 in
    let c = cond_pass (bad_tx_type lossless (n - 2) tx_type) 3 _ b.1 in
    let d = cond_pass (bad_room count n) 5 _ c.1 in
    let r = side_range n a.0 in (
      record { least = r.0; most = r.1; large = large_is n tx_type lossless c.0; small = lossless_is n lossless r.0 b.0 },
      ltb-false count (area n) d.0,
    )

-- the type is not looked at when lossless
pub any_tried : (tx_type : ℕ) (s : List ℤ) {a : Answer} {k : ℕ} {after : List ℤ} → Tried (record { block = s; n = 2; tx_type = 0; lossless = true }) a k after
    → Tried (record { block = s; n = 2; tx_type = tx_type; lossless = true }) a k after
unfolding inverse2d row_list dc_only
any_tried tx_type s h = record { answered = h.answered; written = h.written; counted = h.counted }

-- ---- the answer from its two parts
shape : Input → ℕ
shape u = shape_of (length u.block) u.n u.tx_type u.lossless

beyond : Input → Bool
beyond u = any_beyond COEF_LIMIT (area u.n) u.block

parts : (a b c d e : Bool) → ◌≡◌ {A = ℕ} (cond a 2 (cond b 3 (cond c 4 (cond d 6 (cond e 9 0))))) (cond (eqb (cond a 2 (cond b 3 (cond c 4 (cond d 6 0)))) 0) (cond e 9 0) (cond a 2 (cond b 3 (cond c 4 (cond d 6 0)))))
parts true b c d e = refl
parts false true c d e = refl
parts false false true d e = refl
parts false false false true e = refl
parts false false false false e = refl

answer_is : (u : Input) → answer_of u ≡ cond (eqb (shape u) 0) (cond (beyond u) 9 0) (shape u)
unfolding answer_of shape shape_of beyond
answer_is u =
    parts (bad_side u.n) (bad_lossless u.lossless (u.n - 2)) (bad_tx_type u.lossless (u.n - 2) u.tx_type) (bad_room (length u.block) u.n)
    (any_beyond COEF_LIMIT (area u.n) u.block)

-- a refusal before the numbers: the block stays
pub refused : (u : Input) (a : Answer) → number a ≡ shape_of (length u.block) u.n u.tx_type u.lossless → (number a ≡ 0 → ⊥) → Driven u a u.block
unfolding shape block_after
refused u a e h =
    let f : eqb (shape u) 0 ≡ false = ne_eqb (shape u) 0 (λ q. h (e ∙ q)) in
    let g : answer_of u ≡ shape u = answer_is u ∙ rw f in
    record { answered = e ∙ sym g; written = rw (g, f) }

-- past them: by what is beyond, 0 or 9
pub record Checked (u : Input) (answer : Answer) (after : List ℤ) : Type 0 where
  pub answered : number answer ≡ cond (any_beyond COEF_LIMIT (area u.n) u.block) 9 0
  pub written : after ≡ cond (any_beyond COEF_LIMIT (area u.n) u.block) u.block (inverse2d u.n u.tx_type u.lossless u.block)

by_beyond : (b : Bool) (l m : List ℤ) → cond b l m ≡ cond (eqb (cond b 9 0) 0) m l
by_beyond true l m = refl
by_beyond false l m = refl

pub driven : (u : Input) (a : Answer) (after : List ℤ) → shape_of (length u.block) u.n u.tx_type u.lossless ≡ 0 → Checked u a after → Driven u a after
unfolding shape beyond block_after
driven u a after e h =
    let f : eqb (shape u) 0 ≡ true = eq-eqb (shape u) 0 e in
    let g : answer_of u ≡ cond (beyond u) 9 0 = answer_is u ∙ rw f in
    record { answered = h.answered ∙ sym g; written = h.written ∙ rw g (by_beyond (beyond u) u.block (inverse2d u.n u.tx_type u.lossless u.block)) }

-- ---- the limit passed or not
pub over : (u : Input) → any_beyond COEF_LIMIT (area u.n) u.block ≡ true → Checked u (Err Coefficient) u.block
over u h = record { answered = rw h; written = rw h }

pub under : (u : Input) (after : List ℤ) → any_beyond COEF_LIMIT (area u.n) u.block ≡ false → after ≡ inverse2d u.n u.tx_type u.lossless u.block → Checked u (Ok tt) after
under u after h e = record { answered = rw h; written = rw h e }

-- ---- the fast engine: the residual made, or the block left
pub made : (u : Input) {k : ℕ} {after : List ℤ} → any_beyond COEF_LIMIT (area u.n) u.block ≡ false → after ≡ inverse2d u.n u.tx_type u.lossless u.block
    → k ≡ length (row_list u) → Tried u (Ok tt) k after
made u h e c = record { answered = rw h; written = rw h e; counted = rw h c }

pub left : (u : Input) {a : Answer} {k : ℕ} → a ≡ Err Coefficient → k ≡ 0 → any_beyond COEF_LIMIT (area u.n) u.block ≡ true → Tried u a k u.block
left u e z h = record { answered = rw (e, h); written = rw h; counted = rw h z }

-- sizes above 4 by 4 are not lossless
module _ (s : List ℤ) (n tx_type : ℕ) (lossless : Bool) (e : shape_of (length s) n tx_type lossless ≡ 0) (h : n ≡ 2 → ⊥) where
  lossy_is : lossless ≡ false
  lossy_is = go lossless refl
    where
      go : (b : Bool) → lossless ≡ b → lossless ≡ false
      go true q = absurd (h ((possible (length s) n tx_type lossless e).0.small q))
      go false q = q

  pub large_fine : (3 ≤ n) × Possible n tx_type false × (area n ≤ length s)
  large_fine = let p = possible (length s) n tx_type lossless e in (more p.0.least, rw lossy_is at p.0, p.1)
    where
      more : 2 ≤ n → 3 ≤ n
      more l = omega arith

  pub as_lossy : {a : Answer} {k : ℕ} {after : List ℤ} → Tried (record { block = s; n = n; tx_type = tx_type; lossless = false }) a k after
      → Tried (record { block = s; n = n; tx_type = tx_type; lossless = lossless }) a k after
  as_lossy t = rw lossy_is t

-- a block within the limit is within what the transforms take
pub in_range : (n : ℕ) (l : List ℤ) → any_beyond COEF_LIMIT n l ≡ false → FirstWithin (2 ^ 31) n l
in_range n l h = record { each = λ k q. within_le (omega arith) (none_within COEF_LIMIT n l h k q) }
