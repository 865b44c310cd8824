-- The table of a replacement: what a passed test says, and what is left where none refuses.
use mathlib.Core.Path.{◌≡◌, refl, sym, ap, ◌∙◌}
use mathlib.Core.Bool.{Bool, true, false, cond, not, ◌||◌}
use mathlib.Core.List.{List}
use Prim.Native.Nat.{ℕ, ◌+◌, ◌≤◌, ◌<◌}
use native.Mathlib.Nat.{mul-le-mul}
use native.Mathlib.Omega.{arith}
use borrow.Author.Tests.{ltb-false, ltb-true, eqb-true, eq-eqb, ne_eqb, not-false}
use lib.Dec.{ltb, eqb}
use lib.IntN.{ℤ, nat_abs}
use lib.ListN.{length, set}
use lib.Pow.{pow_mono, pow_pos}
use Rattle.std.specs.Prelude.{Ok}
use Rattle.answers.specs.Answers.{Answer, number}
use Rattle.answers.specs.Bad.{bad_depth, bad_size, bad_quantizer}
use Rattle.answers.specs.Limits.{codeable}
use Rattle.answers.specs.Sizes.{side, area}
use Rattle.answers.proofs.Numbers.{pass, rest}
use Rattle.answers.proofs.Passed.{codeable_most}
use Rattle.summary.specs.Summary.{summary_of}
use Rattle.summary.specs.Replace.{Input, coefficient, answer_of, block_after, summary_after, renewed, Replaced}
use Rattle.summary.proofs.Bit.{still_own}

never : {A : Type 0} → true ≡ false → A
never h = absurd (let z : ◌≡◌ {A = ℕ} 0 1 = cc in omega arith)

-- ---- no refusal: what the passed tests leave
pub record Accepted (u : Input) : Type 0 where
  pub small : u.size ≤ 3
  pub quantizers : bad_quantizer u.dc.0 || bad_quantizer u.ac.0 ≡ false
  pub long : length u.block ≡ area (u.size + 2)
  pub inside : u.place < area (u.size + 2)
  pub token : nat_abs u.token ≤ codeable 12

pub accepted : (u : Input) → answer_of u ≡ 0 → Accepted u
unfolding answer_of
accepted u h =
    let r1 = rest (bad_depth u.depth) 0 _ h in
    let b2 = pass (bad_size u.size) 1 _ r1 in
    let r2 = rest (bad_size u.size) 1 _ r1 in
    let b5 = pass (bad_quantizer u.dc.0 || bad_quantizer u.ac.0) 4 _ r2 in
    let r5 = rest (bad_quantizer u.dc.0 || bad_quantizer u.ac.0) 4 _ r2 in
    let b6 = pass (not (eqb (length u.block) (area (u.size + 2)))) 5 _ r5 in
    let r6 = rest (not (eqb (length u.block) (area (u.size + 2)))) 5 _ r5 in
    let b16 = pass (not (ltb u.place (area (u.size + 2)))) 15 _ r6 in
    let r16 = rest (not (ltb u.place (area (u.size + 2)))) 15 _ r6 in
    let b8 = pass (ltb (codeable u.depth) (nat_abs u.token)) 7 _ r16 in
    record {
      small = ltb-false 3 u.size b2;
      quantizers = b5;
      long = eqb-true (length u.block) (area (u.size + 2)) (not-false _ b6);
      inside = ltb-true u.place (area (u.size + 2)) (not-false _ b16);
      token = omega (arith, ltb-false (codeable u.depth) (nat_abs u.token) b8, codeable_most u.depth);
    }

pub side_most : (size : ℕ) → size ≤ 3 → side (size + 2) ≤ 32
side_most size h = pow_mono {i = size + 2} {j = 5} (omega arith)

pub area_most : (size : ℕ) → size ≤ 3 → area (size + 2) ≤ 1024
area_most size h = mul-le-mul (side_most size h) (side_most size h)

-- a refusal: block and summary stay
pub refused : (u : Input) (a : Answer) → number a ≡ answer_of u → (number a ≡ 0 → ⊥) → Replaced u a u.block u.summary
unfolding block_after summary_after
refused u a e h =
    let f : eqb (answer_of u) 0 ≡ false = ne_eqb (answer_of u) 0 (λ q. h (e ∙ q)) in
    record { answered = e; written = rw f; kept = rw f }

-- accepted: the coefficient at its place, and the bit of its row worked out again
pub replaced : (u : Input) (after : List ℤ) (m : ℕ) → answer_of u ≡ 0 → after ≡ set u.block u.place (coefficient u)
    → m ≡ renewed (side (u.size + 2)) u.place after u.summary → Replaced u (Ok tt) after m
unfolding block_after summary_after
replaced u after m h e f =
    let g : eqb (answer_of u) 0 ≡ true = eq-eqb (answer_of u) 0 h in
    record { answered = sym h; written = rw g e; kept = rw g (f ∙ ap (λ (s : List ℤ). renewed (side (u.size + 2)) u.place s u.summary) e) }

-- STILL OWN, of the call: a summary that was the block's own is the new block's own
pub own_kept : (u : Input) → u.summary ≡ summary_of (side (u.size + 2)) u.block → summary_after u ≡ summary_of (side (u.size + 2)) (block_after u)
unfolding block_after summary_after
own_kept u e = go (eqb (answer_of u) 0) refl
  where
    go : (b : Bool) → eqb (answer_of u) 0 ≡ b
        → cond b (renewed (side (u.size + 2)) u.place (cond b (set u.block u.place (coefficient u)) u.block) u.summary) u.summary
        ≡ summary_of (side (u.size + 2)) (cond b (set u.block u.place (coefficient u)) u.block)
    go false q = e
    go true q =
        let f = accepted u (eqb-true (answer_of u) 0 q) in
        still_own (side (u.size + 2)) u.place u.block (coefficient u) u.summary (pow_pos (u.size + 2)) (side_most u.size f.small) f.inside e
