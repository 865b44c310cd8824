-- What the table of answers says: its two parts, and what answer 0 means.
use mathlib.Core.Path.{◌≡◌, refl}
use mathlib.Core.Bool.{Bool, true, false, cond, not, ◌&&◌, ◌||◌}
use mathlib.Core.List.{List}
use Prim.Native.Nat.{ℕ, suc, ◌+◌, ◌≤◌}
use native.Mathlib.Nat as NatL
use native.Mathlib.Omega.{arith}
use borrow.Author.Tests.{ltb-false, eqb-true, eq-eqb, ne_eqb, not-false}
use lib.Dec.{ltb, eqb}
use lib.IntN.{ℤ}
use lib.ListN.{length}
use Rattle.answers.specs.Limits.{COEF_LIMIT, SIDE_LIMIT, codeable}
use Rattle.answers.specs.Bad.{bad_depth, bad_size, bad_lossless, bad_tx_type, any_beyond}
use Rattle.answers.proofs.Numbers.{pass, rest}
use Rattle.answers.proofs.Passed.{codeable_most, none_beyond}
use Rattle.quant.specs.declared.DcQuant.{DcQuant}
use Rattle.quant.specs.declared.AcQuant.{AcQuant}
use Rattle.quant.specs.Places.{dequant_all}
use Rattle.plane.specs.declared.Plane.{Plane}
use Rattle.plane.specs.Place.{SamplesOf, area_of}
use Rattle.blocks.specs.Inner.{Possible}
use Rattle.answers.specs.Sizes.{area}
use Rattle.reconstruct.specs.Reconstruct.{Input, largest, bad_quantizers, bad_plane, bad_coefficient, answer_of, added, samples_after}
use Rattle.tokens.specs.Inner.{token_answer, shape_of}
use Rattle.reconstruct.specs.Inner.{Accepted, Sound}

-- y goes on where x gives 0, and is x where it does not
record Goes (t x y : ℕ) : Type 0 where
  on : x ≡ 0 → y ≡ t
  stop : (x ≡ 0 → ⊥) → y ≡ x

at_end : (t : ℕ) → Goes t 0 t
at_end t = record { on = λ e. refl; stop = λ h. absurd (h refl) }

one_more : (t : ℕ) (b : Bool) (n : ℕ) {x y : ℕ} → Goes t x y → Goes t (cond b (suc n) x) (cond b (suc n) y)
one_more t true n g = record { on = λ e. absurd (omega arith); stop = λ h. refl }
one_more t false n g = g

module _ (u : Input) where
  parts : Goes (token_answer u.size u.dc u.ac u.depth u.tokens) (shape_of (length u.samples) u.plane u.size (length u.tokens) u.dc u.ac u.tx_type u.lossless u.depth) (answer_of u)
  unfolding answer_of token_answer shape_of
  parts =
      one_more _ (bad_depth u.depth) 0
      (one_more _ (bad_size u.size) 1
      (one_more _ (bad_lossless u.lossless u.size) 2
      (one_more _ (bad_tx_type u.lossless u.size u.tx_type) 3
      (one_more _ (bad_quantizers u.dc u.ac) 4
      (one_more _ (not (eqb (length u.tokens) (area (u.size + 2)))) 5
      (one_more _ (bad_plane (length u.samples) u.plane) 6
      (at_end _)))))))

  pub shape_stops : (shape_of (length u.samples) u.plane u.size (length u.tokens) u.dc u.ac u.tx_type u.lossless u.depth ≡ 0 → ⊥)
      → answer_of u ≡ shape_of (length u.samples) u.plane u.size (length u.tokens) u.dc u.ac u.tx_type u.lossless u.depth
  shape_stops = parts.stop

  pub shape_passes : shape_of (length u.samples) u.plane u.size (length u.tokens) u.dc u.ac u.tx_type u.lossless u.depth ≡ 0
      → answer_of u ≡ token_answer u.size u.dc u.ac u.depth u.tokens
  shape_passes = parts.on

  -- a refusal leaves the samples
  pub refused : (answer_of u ≡ 0 → ⊥) → u.samples ≡ samples_after u
  unfolding samples_after
  refused h = rw (ne_eqb (answer_of u) 0 h)

  pub done : answer_of u ≡ 0
      → added u.plane (largest u.depth) u.x u.y u.size u.dc u.ac u.tx_type u.lossless u.tokens u.samples ≡ samples_after u
  unfolding samples_after
  done h = rw (eq-eqb (answer_of u) 0 h)

neither : (a b : Bool) → a || b ≡ false → (a ≡ false) × (b ≡ false)
neither true b h = (h, cc)
neither false b h = (refl, h)

plane_fine : (samples : List ℕ) (p : Plane) → bad_plane (length samples) p ≡ false → SamplesOf p samples
unfolding bad_plane
plane_fine samples p h =
    let count = not (eqb (length samples) (area_of p)) in
    let high = ltb SIDE_LIMIT p.height in
    let wide = ltb SIDE_LIMIT p.width in
    let a = neither (ltb p.stride p.width) (ltb SIDE_LIMIT p.stride || (wide || (high || count))) h in
    let b = neither (ltb SIDE_LIMIT p.stride) (wide || (high || count)) a.1 in
    let d = neither high count (neither wide (high || count) b.1).1 in
    record {
      wide = ltb-false p.stride p.width a.0;
      long = ltb-false SIDE_LIMIT p.stride b.0;
      high = ltb-false SIDE_LIMIT p.height d.0;
      all = eqb-true (length samples) (area_of p) (not-false (eqb (length samples) (area_of p)) d.1);
    }

possible : (size tx_type : ℕ) (lossless : Bool) → size ≤ 3 → bad_lossless lossless size ≡ false → bad_tx_type lossless size tx_type ≡ false → Possible (size + 2) tx_type lossless
unfolding bad_lossless bad_tx_type
possible size tx_type true h a b =
    let e : size ≡ 0 = eqb-true size 0 (not-false (eqb size 0) a) in
    record { least = omega arith; most = omega arith; large = λ f. absurd (let z : ◌≡◌ {A = ℕ} 0 1 = cc in omega arith); small = λ f. omega arith }
possible size tx_type false h a b = record {
  least = omega arith;
  most = omega arith;
  large = λ f e. large (eqb tx_type 0) refl (neither (ltb 3 tx_type) (eqb size 3 && not (eqb tx_type 0)) b).1 (eq-eqb size 3 (omega arith));
  small = λ f. absurd (let z : ◌≡◌ {A = ℕ} 0 1 = cc in omega arith);
}
  where
    large : (c : Bool) → eqb tx_type 0 ≡ c → eqb size 3 && not (eqb tx_type 0) ≡ false → eqb size 3 ≡ true → tx_type ≡ 0
    large true p q r = eqb-true tx_type 0 p
    large false p q r = absurd (let z : ◌≡◌ {A = ℕ} 0 1 = cc (rw (r, p) at q) in omega arith)

-- what the first part passes
pub record Shaped (u : Input) : Type 0 where
  pub depth_ok : bad_depth u.depth ≡ false
  pub quantizers_ok : bad_quantizers u.dc u.ac ≡ false
  pub possible_ok : Possible (u.size + 2) u.tx_type u.lossless
  pub length_ok : length u.tokens ≡ area (u.size + 2)
  pub samples_ok : SamplesOf u.plane u.samples

pub shaped : (u : Input) → shape_of (length u.samples) u.plane u.size (length u.tokens) u.dc u.ac u.tx_type u.lossless u.depth ≡ 0 → Shaped u
unfolding shape_of
shaped u h =
    let h2 = rest (bad_depth u.depth) 0 _ h in
    let h3 = rest (bad_size u.size) 1 _ h2 in
    let h4 = rest (bad_lossless u.lossless u.size) 2 _ h3 in
    let h5 = rest (bad_tx_type u.lossless u.size u.tx_type) 3 _ h4 in
    let h6 = rest (bad_quantizers u.dc u.ac) 4 _ h5 in
    let h7 = rest (not (eqb (length u.tokens) (area (u.size + 2)))) 5 _ h6 in
    record {
      depth_ok = pass (bad_depth u.depth) 0 _ h;
      quantizers_ok = pass (bad_quantizers u.dc u.ac) 4 _ h5;
      possible_ok = possible u.size u.tx_type u.lossless (ltb-false 3 u.size (pass (bad_size u.size) 1 _ h2)) (pass (bad_lossless u.lossless u.size) 2 _ h3)
          (pass (bad_tx_type u.lossless u.size u.tx_type) 3 _ h4);
      length_ok = eqb-true (length u.tokens) (area (u.size + 2)) (not-false (eqb (length u.tokens) (area (u.size + 2))) (pass (not (eqb (length u.tokens) (area (u.size + 2)))) 5 _ h6));
      samples_ok = plane_fine u.samples u.plane (pass (bad_plane (length u.samples) u.plane) 6 _ h7);
    }

-- what answer 0 says of the tokens
pub taken : (size : ℕ) (dc : DcQuant) (ac : AcQuant) (tx_type : ℕ) (lossless : Bool) (depth : ℕ) (tokens : List ℤ) → Sound size dc ac tx_type lossless depth tokens
    → token_answer size dc ac depth tokens ≡ 0 → Accepted size dc ac tx_type lossless tokens
unfolding token_answer bad_coefficient
taken size dc ac tx_type lossless depth tokens s h =
    let n = length tokens in
    let c = dequant_all size dc ac tokens in
    record {
      possible = s.possible;
      quantizers = s.quantizers;
      all = s.all;
      codeables = λ k l. NatL.le_trans (none_beyond (codeable depth) n tokens (pass (any_beyond (codeable depth) n tokens) 7 _ h) k l) (codeable_most depth);
      coefs = none_beyond COEF_LIMIT n c (pass (any_beyond COEF_LIMIT n c) 8 _ (rest (any_beyond (codeable depth) n tokens) 7 _ h));
    }
