-- What the answers say: reconstruction's own and the report's, and that a block beside the plane has the same answer and writes nothing.
use mathlib.Core.Path.{◌≡◌, refl, sym}
use mathlib.Core.Bool.{Bool, true, false, cond, not, ◌||◌}
use mathlib.Core.List.{List}
use Prim.Native.Nat.{ℕ, zero, suc, ◌+◌, ◌/◌, ◌%◌, ◌≤◌, ◌<◌}
use native.Mathlib.Decide.{dec_lt, ℕ_discrete}
use native.Mathlib.Nat as NatL
use native.Mathlib.Omega.{arith}
use borrow.Author.Tests.{ltb-false, eqb-true, eq-eqb, ne_eqb, not-false}
use lib.Dec.{eqb}
use lib.IntN.{ℤ}
use lib.ListN.{length, get_or}
use Rattle.whole.proofs.Lists.{tabulate_is}
use Rattle.answers.specs.Limits.{codeable}
use Rattle.answers.specs.Sizes.{side, area}
use Rattle.answers.specs.Bad.{bad_depth, bad_size, bad_lossless, bad_tx_type, any_beyond}
use Rattle.answers.proofs.Numbers.{pass, rest}
use Rattle.answers.proofs.Passed.{codeable_most, none_beyond}
use Rattle.plane.specs.declared.Plane.{Plane}
use Rattle.plane.specs.Place.{row_of, column_of, cut}
use Rattle.plane.specs.Plane.{inside, plane_after}
use Rattle.plane.proofs.Row.{inside_low, inside_high}
use Rattle.plane.proofs.Block.{off_columns}
use Rattle.reconstruct.specs.Reconstruct as R
use Rattle.report.specs.Classes.{shares}
use Rattle.report.specs.Report.{Input, bad_total, bad_sums, report_answer, answer_of, list_after, samples_after, noted}
use Rattle.report.specs.Inner.{or_fifteen, Noted, Taken}
use Rattle.report.proofs.OneClass.{shares_none}

-- ---- what reconstruction's answer 0 says of the tokens
pub record Good (u : R.Input) : Type 0 where
  pub size_ok : u.size ≤ 3
  pub length_ok : length u.tokens ≡ area (u.size + 2)
  pub taken : Taken u.tokens

pub good : (u : R.Input) → R.answer_of u ≡ 0 → Good u
unfolding R.answer_of
good u h =
    let n = length u.tokens in
    let h2 = rest (bad_depth u.depth) 0 _ h in
    let h3 = rest (bad_size u.size) 1 _ h2 in
    let h4 = rest (bad_lossless u.lossless u.size) 2 _ h3 in
    let h5 = rest (bad_tx_type u.lossless u.size u.tx_type) 3 _ h4 in
    let h6 = rest (R.bad_quantizers u.dc u.ac) 4 _ h5 in
    let h7 = rest (not (eqb n (area (u.size + 2)))) 5 _ h6 in
    let h8 = rest (R.bad_plane (length u.samples) u.plane) 6 _ h7 in
    record {
      size_ok = ltb-false 3 u.size (pass (bad_size u.size) 1 _ h2);
      length_ok = eqb-true n (area (u.size + 2)) (not-false (eqb n (area (u.size + 2))) (pass (not (eqb n (area (u.size + 2)))) 5 _ h6));
      taken = record { codeables = λ i l. NatL.le_trans (none_beyond (codeable u.depth) n u.tokens (pass (any_beyond (codeable u.depth) n u.tokens) 7 _ h8) i l) (codeable_most u.depth) };
    }

twice : (x : Bool) (a b : List ℕ) → cond x a b ≡ cond x (cond x a b) b
twice true a b = refl
twice false a b = refl

-- ---- the answer of a report that passes, and of one that does not
module _ (u : Input) where
  pub passes : bad_total (length u.block.tokens) u.counts || bad_sums u.counts u.sums ≡ false → R.answer_of u.block ≡ answer_of u
  unfolding answer_of report_answer
  passes h = rw h (go (ℕ_discrete (R.answer_of u.block) 0))
    where
      go : Dec (R.answer_of u.block ≡ 0) → R.answer_of u.block ≡ cond (eqb (R.answer_of u.block) 0) 0 (R.answer_of u.block)
      go (yes e) = rw (eq-eqb (R.answer_of u.block) 0 e) e
      go (no ne) = rw (ne_eqb (R.answer_of u.block) 0 ne)

  pub fails : bad_total (length u.block.tokens) u.counts || bad_sums u.counts u.sums ≡ true → or_fifteen (R.answer_of u.block) ≡ answer_of u
  unfolding answer_of report_answer
  fails h = rw h refl

  -- under a refusal all stays
  pub samples_stay : (answer_of u ≡ 0 → ⊥) → u.block.samples ≡ samples_after u
  unfolding samples_after
  samples_stay h = rw (ne_eqb (answer_of u) 0 h)

  pub list_stays : (f : ℕ → ℕ) (list : List ℕ) → (answer_of u ≡ 0 → ⊥) → list ≡ list_after f u list
  unfolding list_after
  list_stays f list h = rw (ne_eqb (answer_of u) 0 h)

  -- where the report passes, the samples are reconstruction's
  pub same_samples : R.answer_of u.block ≡ answer_of u → R.samples_after u.block ≡ samples_after u
  unfolding samples_after R.samples_after
  same_samples h = rw (sym h) (twice (eqb (R.answer_of u.block) 0) _ u.block.samples)

  pub list_done : (f : ℕ → ℕ) (list : List ℕ) → answer_of u ≡ 0 → noted f u.block.size (length u.block.tokens) u.block.tokens list ≡ list_after f u list
  unfolding list_after
  list_done f list h = rw (eq-eqb (answer_of u) 0 h)

pub not_zero : (a : ℕ) → or_fifteen a ≡ 0 → ⊥
not_zero zero h = absurd (omega arith)
not_zero (suc a) h = absurd (let e : suc a ≡ 0 = rw (ne_eqb (suc a) 0 (λ (z : suc a ≡ 0). absurd (omega arith))) at h in omega arith)

-- ---- a block beside the plane
abbrev pub beside : R.Input → R.Input
beside u =
    record {
      samples = u.samples;
      plane = u.plane;
      x = u.plane.width;
      y = 0;
      size = u.size;
      tokens = u.tokens;
      dc = u.dc;
      ac = u.ac;
      tx_type = u.tx_type;
      lossless = u.lossless;
      depth = u.depth;
    }

-- the same at the corner of the plane
abbrev pub corner : R.Input → R.Input
corner u =
    record {
      samples = u.samples;
      plane = u.plane;
      x = 0;
      y = 0;
      size = u.size;
      tokens = u.tokens;
      dc = u.dc;
      ac = u.ac;
      tx_type = u.tx_type;
      lossless = u.lossless;
      depth = u.depth;
    }

-- the answer does not look at the place
pub corner_answer : (u : R.Input) → R.answer_of (corner u) ≡ R.answer_of u
unfolding R.answer_of
corner_answer u = refl

pub beside_answer : (u : R.Input) → R.answer_of (beside u) ≡ R.answer_of u
unfolding R.answer_of
beside_answer u = refl

outside : (x v : ℕ) → inside x 0 v ≡ false
outside x v = go (dec_lt v x)
  where
    go : Dec (v < x) → inside x 0 v ≡ false
    go (yes h) = inside_low x 0 v h
    go (no h) = inside_high x 0 v (omega arith)

-- no column lies in the plane
unwritten : (p : Plane) (top y n0 : ℕ) (r : ℕ → ℕ → ℤ) (samples : List ℕ) → plane_after p top p.width y n0 r samples ≡ samples
unfolding plane_after
unwritten p top y n0 r samples =
    let none : cut p.width p.width n0 ≡ 0 = omega arith in
    sym (tabulate_is 0 _ samples (length samples) refl
    (λ k h. sym (rw none (off_columns top r p.width y samples (cut p.height y n0) 0 (row_of p k) (column_of p k) k (outside p.width (column_of p k))))))

pub beside_samples : (u : R.Input) → R.samples_after (beside u) ≡ u.samples
unfolding R.samples_after R.added
beside_samples u = go (eqb (R.answer_of (beside u)) 0)
  where
    go : (b : Bool)
        → cond b
        (R.added u.plane (R.largest u.depth) u.plane.width 0 u.size u.dc u.ac u.tx_type u.lossless u.tokens u.samples) u.samples
        ≡ u.samples
    go true = unwritten u.plane (R.largest u.depth) 0 (side (u.size + 2)) _ u.samples
    go false = refl

-- 15 in the place of 0
pub fifteen : (a : ℕ) → a ≡ 0 → 15 ≡ or_fifteen a
fifteen a e = rw (eq-eqb a 0 e)

pub no_fifteen : (a : ℕ) → (a ≡ 0 → ⊥) → a ≡ or_fifteen a
no_fifteen a ne = rw (ne_eqb a 0 ne)

-- a list after all tokens of a block
pub note_all : (f : ℕ → ℕ) (size : ℕ) (tokens : List ℤ) (n : ℕ) (a b : List ℕ) → Noted f size 0 n tokens a b → b ≡ noted f size n tokens a
unfolding noted
note_all f size tokens n a b p =
    tabulate_is 0 (λ k. get_or a k 0 + cond (eqb (k / 11) size) (shares f (k % 11) n tokens) 0) b (length a) p.as_long
    (λ k h. plain k (eqb (k / 11) size) (p.grown k h))
  where
    plain : (k : ℕ) (x : Bool) → get_or b k 0 + cond x (shares f (k % 11) 0 tokens) 0 ≡ get_or a k 0 + cond x (shares f (k % 11) n tokens) 0
        → get_or b k 0 ≡ get_or a k 0 + cond x (shares f (k % 11) n tokens) 0
    plain k true e = omega (arith, shares_none f (k % 11) tokens, e)
    plain k false e = omega (arith, e)
