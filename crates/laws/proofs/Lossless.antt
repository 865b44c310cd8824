-- THE LOSSLESS LAW: the forward WHT of the differences and the reconstruction of its tokens give the source back.
use mathlib.Core.Path.{◌≡◌, refl, sym, ap, ◌∙◌, fun_ext}
use mathlib.Core.Bool.{Bool, true, false, cond, ◌&&◌}
use mathlib.Core.List.{List}
use Prim.Native.Nat.{ℕ, ◌+◌, ◌-◌, ◌*◌, ◌/◌, ◌%◌, ◌≤◌, ◌<◌}
use native.Mathlib.Decide.{dec_lt}
use native.Mathlib.Nat as NatL
use native.Mathlib.Omega.{arith}
use borrow.Author.Tests.{lt-ltb, le-ltb, eq-eqb}
use lib.Arith.{digits_div, digits_mod}
use lib.Dec.{ltb}
use lib.IntN.{ℤ, pos, neg_ℤ, nat_abs, ◌+ℤ◌, ◌-ℤ◌}
use lib.ListN.{length, get_or, get_or-eq_default}
use Rattle.std.specs.Prelude.{Ok}
use Rattle.whole.specs.Within.{Within}
use Rattle.whole.proofs.Lists.{length_tabulate, get_d_tabulate}
use Rattle.whole.proofs.Parts.{sum_parts, neg_P, neg_N, eq_parts}
use Rattle.whole.proofs.Within.{within_parts, within_zero, abs_bd}
use Rattle.answers.specs.Answers.{Answer}
use Rattle.answers.specs.Limits.{COEF_LIMIT, WHT_LIMIT, SIDE_LIMIT, codeable}
use Rattle.answers.specs.Bad.{bad_depth, bad_lossless, bad_tx_type, bad_quantizer, any_beyond}
use Rattle.answers.proofs.Numbers.{number_injective}
use Rattle.answers.proofs.Passed.{by_depth, codeable_most}
use Rattle.quant.specs.declared.DcQuant.{DcQuant}
use Rattle.quant.specs.declared.AcQuant.{AcQuant}
use Rattle.quant.specs.Places.{quantizer_at, dequant_all}
use Rattle.quant.specs.Token.{dequant}
use Rattle.blocks.specs.Block.{rows_then_columns}
use Rattle.blocks.specs.Inner.{FirstWithin}
use Rattle.blocks.proofs.Places.{by_place}
use Rattle.blocks.specs.Inverse.{inverse2d, apply, rounding, Wht}
use Rattle.wht.specs.Wht.{wht}
use Rattle.fwd_transform.specs.ForwardWht.{forward_wht, wht_answer, Forwarded}
use Rattle.fwd_transform.proofs.Wht as F
use Rattle.plane.specs.declared.Plane.{Plane}
use Rattle.plane.specs.Place.{row_of, column_of, area_of, cut, SamplesOf}
use Rattle.plane.specs.Plane.{clip, inside, sample_after, plane_after}
use Rattle.plane.proofs.Row.{inside_yes, inside_is}
use Rattle.plane.proofs.Block.{after_length, after_at, row_of_lem, column_of_lem, place_of_lem, row_in_plane, off_rows, off_columns, on_block}
use Rattle.reconstruct.specs.Reconstruct.{largest, bad_quantizers, bad_plane, bad_coefficient, answer_of, residual, added, samples_after, Reconstructed}
use Rattle.tokens.proofs.Above.{dequant_abs}
use Rattle.report.proofs.Good.{none_below}
use Rattle.reconstruct.proofs.Table.{done}
use Rattle.laws.specs.Lossless.{Coded, Shown, place_in, Lossless, decoding, Restored, differences_of}

-- ---- the residual of the tokens is the list of the differences
wht_rows : apply (Wht 2) 2 ≡ wht 2
unfolding apply
wht_rows = fun_ext (λ t. refl)

wht_columns : apply (Wht 0) 2 ≡ wht 0
unfolding apply
wht_columns = fun_ext (λ t. refl)

no_rounding : rounding 2 true ≡ (λ z. z)
unfolding rounding
no_rounding = fun_ext (λ z. refl)

inverse_is : (tx_type : ℕ) (s : List ℤ) → inverse2d 2 tx_type true s ≡ rows_then_columns (wht 2) (wht 0) (λ z. z) 4 s
unfolding inverse2d
inverse_is tx_type s = rw (wht_rows, wht_columns, no_rounding)

restored : (dc : DcQuant) (ac : AcQuant) (tx_type : ℕ) (d : List ℤ) → dc.0 ≡ pos 4 → ac.0 ≡ pos 4 → length d ≡ 16 → residual 0 dc ac tx_type true (forward_wht d) ≡ d
unfolding residual
restored dc ac tx_type d p q h = inverse_is tx_type (dequant_all 0 dc ac (forward_wht d)) ∙ F.lossless dc ac d p q h

-- ---- the differences are within the largest sample
sub_within : (m a b : ℕ) → a ≤ m → b ≤ m → Within m (pos a -ℤ pos b)
sub_within m a b h k =
    let z = pos a -ℤ pos b in
    within_parts m z (omega (arith, sum_parts (pos a) (neg_ℤ (pos b)), neg_P (pos b), neg_N (pos b))) (omega (arith, sum_parts (pos a) (neg_ℤ (pos b)), neg_P (pos b), neg_N (pos b)))

-- number (i, j) of the differences, and the block's rows and columns in the plane
abbrev at : Coded → ℕ → ℕ → ℤ
at c i j = get_or c.differences (i * 4 + j) (pos 0)

abbrev rows_of : Coded → ℕ
rows_of c = cut c.plane.height c.y 4

abbrev cols_of : Coded → ℕ
cols_of c = cut c.plane.width c.x 4

-- prediction and difference are the source, and the clip leaves it
sum_back : (top a b : ℕ) → a ≤ top → clip top (pos b +ℤ (pos a -ℤ pos b)) ≡ a
sum_back top a b h =
    let d = pos a -ℤ pos b in
    let e : pos b +ℤ d ≡ pos a = eq_parts (pos b +ℤ d) (pos a) (omega (arith, sum_parts (pos b) d, sum_parts (pos a) (neg_ℤ (pos b)), neg_P (pos b), neg_N (pos b))) in
    rw e (omega arith)

-- ---- what the tables ask
no_beyond : (m n : ℕ) (l : List ℤ) → ((k : ℕ) → k < n → nat_abs (get_or l k (pos 0)) ≤ m) → any_beyond m n l ≡ false
unfolding any_beyond
no_beyond m n l h = none_below _ n (λ k q. le-ltb m (nat_abs (get_or l k (pos 0))) (h k q))

small : (depth : ℕ) → bad_depth depth ≡ false → largest depth ≤ WHT_LIMIT
small = by_depth (λ depth. largest depth ≤ WHT_LIMIT) (omega arith) (omega arith) (omega arith)

four : (q : ℤ) → q ≡ pos 4 → bad_quantizer q ≡ false
unfolding bad_quantizer
four q e = rw e

fours : (dc : DcQuant) (ac : AcQuant) → dc.0 ≡ pos 4 → ac.0 ≡ pos 4 → bad_quantizers dc ac ≡ false
unfolding bad_quantizers
fours dc ac p q = rw (four dc.0 p, four ac.0 q)

plane_good : (p : Plane) (samples : List ℕ) → SamplesOf p samples → bad_plane (length samples) p ≡ false
unfolding bad_plane
plane_good p samples s =
    rw (
      le-ltb p.stride p.width s.wide,
      le-ltb SIDE_LIMIT p.stride s.long,
      le-ltb SIDE_LIMIT p.width (NatL.le_trans s.wide s.long),
      le-ltb SIDE_LIMIT p.height s.high,
      eq-eqb (length samples) (area_of p) s.all,
    )

coefs_good : (dc : DcQuant) (ac : AcQuant) (tokens : List ℤ) → dc.0 ≡ pos 4 → ac.0 ≡ pos 4 → ((k : ℕ) → k < length tokens → nat_abs (get_or tokens k (pos 0)) ≤ codeable 12)
    → bad_coefficient 0 dc ac tokens ≡ false
unfolding bad_coefficient dequant_all
coefs_good dc ac tokens p q h =
    no_beyond COEF_LIMIT (length tokens) (dequant_all 0 dc ac tokens)
    (λ k l. let t = get_or tokens k (pos 0) in
    rw (get_d_tabulate (λ k. dequant 0 (quantizer_at dc ac k) (get_or tokens k (pos 0))) (length tokens) k (pos 0) l, F.by_four dc ac p q k, dequant_abs 0 (pos 4) t (four (pos 4) refl))
    (omega (arith, h k l)))

module _ (c : Coded) (l : Lossless c) where
  shown? : (i j : ℕ) → i < 4 → j < 4 → Dec (Shown c i j)
  shown? i j hi hj = go (dec_lt (c.y + i) c.plane.height) (dec_lt (c.x + j) c.plane.width)
    where
      go : Dec (c.y + i < c.plane.height) → Dec (c.x + j < c.plane.width) → Dec (Shown c i j)
      go (yes p) (yes q) = yes (record { row = hi; column = hj; high = p; wide = q })
      go (yes p) (no q) = no (λ s. q s.wide)
      go (no p) q = no (λ s. p s.high)

  difference_within : (i j : ℕ) → i < 4 → j < 4 → Within (largest c.depth) (get_or c.differences (i * 4 + j) (pos 0))
  difference_within i j hi hj = go (shown? i j hi hj)
    where
      go : Dec (Shown c i j) → Within (largest c.depth) (get_or c.differences (i * 4 + j) (pos 0))
      go (yes s) = rw (l.inside i j s) (sub_within (largest c.depth) (c.source i j) (get_or c.samples (place_in c i j) 0) (l.source_ok i j s) (l.prediction_ok i j s))
      go (no s) = l.outside i j hi hj s

  differences_within : FirstWithin (largest c.depth) 16 c.differences
  differences_within = record { each = by_place 4 (λ k. Within (largest c.depth) (get_or c.differences k (pos 0))) difference_within }

  room : 16 ≤ length c.differences
  room = omega (arith, l.sixteen)

  -- ---- the forward transform is done
  forward_zero : wht_answer c.differences ≡ 0
  unfolding wht_answer
  forward_zero =
      rw (
        eq-eqb (length c.differences) 16 l.sixteen,
        no_beyond WHT_LIMIT (length c.differences) c.differences
            (λ k h. NatL.le_trans (abs_bd (differences_within.each k (omega (arith, l.sixteen)))) (small c.depth l.depth_ok)),
      )

  tokens_length : length (forward_wht c.differences) ≡ 16
  tokens_length = F.forward_length c.differences ∙ l.sixteen

  -- ---- and so is the reconstruction
  decoded_zero : answer_of (decoding c (forward_wht c.differences)) ≡ 0
  unfolding answer_of bad_lossless bad_tx_type
  decoded_zero =
      rw (
        l.depth_ok,
        fours c.dc c.ac l.dc_four l.ac_four,
        eq-eqb (length (forward_wht c.differences)) 16 tokens_length,
        plane_good c.plane c.samples l.samples_ok,
        no_beyond (codeable c.depth) (length (forward_wht c.differences)) (forward_wht c.differences)
            (λ k h. F.forward_codeable c.depth c.differences l.depth_ok room differences_within k (omega (arith, tokens_length))),
        coefs_good c.dc c.ac (forward_wht c.differences) l.dc_four l.ac_four
            (λ k h. NatL.le_trans (F.forward_codeable c.depth c.differences l.depth_ok room differences_within k (omega (arith, tokens_length))) (codeable_most c.depth)),
      )

  -- ---- the plane afterwards
  after : List ℕ
  after = plane_after c.plane (largest c.depth) c.x c.y 4 (at c) c.samples

  samples_are : samples_after (decoding c (forward_wht c.differences)) ≡ after
  unfolding added after
  samples_are =
      sym (done (decoding c (forward_wht c.differences)) decoded_zero)
      ∙ ap (λ (d : List ℤ). plane_after c.plane (largest c.depth) c.x c.y 4 (λ i j. get_or d (i * 4 + j) (pos 0)) c.samples)
      (restored c.dc c.ac c.tx_type c.differences l.dc_four l.ac_four l.sixteen)

  after_count : length after ≡ length c.samples
  unfolding after
  after_count = after_length c.plane (largest c.depth) c.x c.y 4 (at c) c.samples

  -- a shown sample stands in its line, and is a place of the plane
  in_line : (i j : ℕ) → Shown c i j → c.x + j < c.plane.stride
  in_line i j s = omega (arith, s.wide, l.samples_ok.wide)

  place_below : (i j : ℕ) → Shown c i j → place_in c i j < length c.samples
  place_below i j s =
      let w = c.plane.stride in
      let m : (c.y + i + 1) * w ≤ c.plane.height * w = NatL.mul-le-mul_right w (omega (arith, s.high)) in
      omega (arith, in_line i j s, l.samples_ok.all, NatL.add-mul (c.y + i) 1 w, NatL.mul_comm w c.plane.height)

  shows : (i j : ℕ) → Shown c i j → get_or after (place_in c i j) 0 ≡ c.source i j
  unfolding after
  shows i j s =
      let p = c.plane in
      let top = largest c.depth in
      let e : c.y + i - c.y ≡ i = omega arith in
      let f : c.x + j - c.x ≡ j = omega arith in
      after_at p top c.x c.y 4 (at c) c.samples (place_in c i j) (place_below i j s)
      ∙ rw (row_of_lem p (c.y + i) (in_line i j s), column_of_lem p (c.y + i) (in_line i j s))
      (on_block top (at c) c.x c.y c.samples (rows_of c) (cols_of c) (c.y + i) (c.x + j) (place_in c i j)
      (inside_yes c.y (rows_of c) (c.y + i) (omega arith) (omega (arith, s.row, s.high))) (inside_yes c.x (cols_of c) (c.x + j) (omega arith) (omega (arith, s.column, s.wide)))
      ∙ rw (e, f, l.inside i j s) (sum_back top (c.source i j) (get_or c.samples (place_in c i j) 0) (l.source_ok i j s)))

  others : (k : ℕ) → ((i j : ℕ) → Shown c i j → k ≡ place_in c i j → ⊥) → get_or after k 0 ≡ get_or c.samples k 0
  unfolding after
  others k h = go (dec_lt k (length c.samples))
    where
      -- inside the block, k would be a shown place
      never : k < length c.samples → inside c.y (rows_of c) (row_of c.plane k) ≡ true
          → inside c.x (cols_of c) (column_of c.plane k) ≡ true → ⊥
      never q a b =
          let row = row_of c.plane k in
          let col = column_of c.plane k in
          let u = inside_is c.y (rows_of c) row a in
          let v = inside_is c.x (cols_of c) col b in
          let e : c.y + (row - c.y) ≡ row = omega arith in
          let f : c.x + (col - c.x) ≡ col = omega arith in
          let w : col < c.plane.width = omega arith in
          h (row - c.y) (col - c.x)
          (record { row = omega arith; column = omega arith; high = rw e (row_in_plane c.plane c.samples l.samples_ok k q); wide = rw f w })
          (rw (e, f) (sym (place_of_lem c.plane c.samples l.samples_ok k)))

      by_tests : (a b : Bool) → inside c.y (rows_of c) (row_of c.plane k) ≡ a → inside c.x (cols_of c) (column_of c.plane k) ≡ b
          → k < length c.samples
          → sample_after (largest c.depth) (at c) c.x c.y (rows_of c) (cols_of c) c.samples (row_of c.plane k) (column_of c.plane k) k
          ≡ get_or c.samples k 0
      by_tests true true a b q = absurd (never q a b)
      by_tests false t a b q =
          off_rows (largest c.depth) (at c) c.x c.y c.samples (rows_of c) (cols_of c) (row_of c.plane k) (column_of c.plane k) k a
      by_tests true false a b q =
          off_columns (largest c.depth) (at c) c.x c.y c.samples (rows_of c) (cols_of c) (row_of c.plane k) (column_of c.plane k) k b

      go : Dec (k < length c.samples) → get_or after k 0 ≡ get_or c.samples k 0
      go (no q) =
          get_or-eq_default after 0 {n = k} (omega (arith, after_count)) ∙ sym (get_or-eq_default c.samples 0 {n = k} (omega arith))
      go (yes q) =
          after_at c.plane (largest c.depth) c.x c.y 4 (at c) c.samples k q
          ∙ by_tests (inside c.y (rows_of c) (row_of c.plane k)) (inside c.x (cols_of c) (column_of c.plane k)) refl refl q

-- both calls are done, and the source is there
pub lossless_law : (c : Coded) → Lossless c → (a b : Answer) (tokens : List ℤ) (after : List ℕ)
    → Forwarded c.differences a tokens → Reconstructed (decoding c tokens) b after → (a ≡ Ok tt) × Restored c b after
lossless_law c l a b tokens after f r =
    let e : tokens ≡ forward_wht c.differences = f.written ∙ sym (F.done c.differences (forward_zero c l)) in
    let q : Reconstructed (decoding c (forward_wht c.differences)) b after = rw e at r in
    let m = q.written ∙ samples_are c l in (
      number_injective a (Ok tt) (f.answered ∙ forward_zero c l),
      record {
        answered = number_injective b (Ok tt) (q.answered ∙ decoded_zero c l);
        shows = λ i j s. rw m (shows c l i j s);
        others = λ k h. rw m (others c l k h);
        count = rw m (after_count c l);
      },
    )

-- ---- any source and prediction within the depth can be coded so
pub codeable_source : (c : Coded) → bad_depth c.depth ≡ false → SamplesOf c.plane c.samples → c.dc.0 ≡ pos 4 → c.ac.0 ≡ pos 4
    → ((i j : ℕ) → Shown c i j → c.source i j ≤ largest c.depth) → ((i j : ℕ) → Shown c i j → get_or c.samples (place_in c i j) 0 ≤ largest c.depth)
    → c.differences ≡ differences_of c.plane c.samples c.x c.y c.source → Lossless c
unfolding differences_of
codeable_source c d s p q a b e =
    record {
      depth_ok = d;
      samples_ok = s;
      dc_four = p;
      ac_four = q;
      sixteen = rw e (length_tabulate _ 16);
      source_ok = a;
      prediction_ok = b;
      inside = λ i j h. number i j h.row h.column ∙ rw (lt-ltb (c.y + i) c.plane.height h.high, lt-ltb (c.x + j) c.plane.width h.wide);
      outside = λ i j hi hj h. rw (number i j hi hj) (zero i j hi hj h (dec_lt (c.y + i) c.plane.height) (dec_lt (c.x + j) c.plane.width));
    }
  where
    number : (i j : ℕ) → i < 4 → j < 4
        → get_or c.differences (i * 4 + j) (pos 0)
        ≡ cond (ltb (c.y + i) c.plane.height && ltb (c.x + j) c.plane.width) (pos (c.source i j) -ℤ pos (get_or c.samples (place_in c i j) 0)) (pos 0)
    number i j hi hj =
        let r : (i * 4 + j) / 4 ≡ i = digits_div i hj in
        let t : (i * 4 + j) % 4 ≡ j = digits_mod i hj in
        rw e (get_d_tabulate _ 16 (i * 4 + j) (pos 0) (omega arith) ∙ rw (r, t))

    zero : (i j : ℕ) → i < 4 → j < 4 → (Shown c i j → ⊥) → Dec (c.y + i < c.plane.height) → Dec (c.x + j < c.plane.width)
        → Within (largest c.depth) (cond (ltb (c.y + i) c.plane.height && ltb (c.x + j) c.plane.width) (pos (c.source i j) -ℤ pos (get_or c.samples (place_in c i j) 0)) (pos 0))
    zero i j hi hj h (yes u) (yes v) = absurd (h (record { row = hi; column = hj; high = u; wide = v }))
    zero i j hi hj h (yes u) (no v) = rw (lt-ltb (c.y + i) c.plane.height u, le-ltb (c.x + j) c.plane.width (omega arith)) within_zero
    zero i j hi hj h (no u) v = rw (le-ltb (c.y + i) c.plane.height (omega arith)) within_zero
