-- What one scan of a block's tokens tells: they are small, so are their coefficients and the sum of these; and what the residual then is.
use Rattle.std.proofs.Common.{◌≡◌, ℕ, suc, ◌+◌, ◌-◌, ◌*◌, ◌/◌, ◌^◌, ◌<◌, ◌≤◌, false, List, length, get_or, set, replicate, ℤ, pos, nat_abs, sym, ap, ◌∙◌, arith, lit≤, length-set, get_or-set_same}
use native.Mathlib.Decide.{dec_lt}
use native.Mathlib.Nat as NatL
use lib.ListN.{length-replicate, get_or-eq_default}
use Rattle.whole.specs.Lists.{fill}
use Rattle.whole.proofs.Lists.{length_tabulate, get_d_tabulate}
use Rattle.answers.specs.Sizes.{side, area}
use Rattle.quant.specs.declared.DcQuant.{DcQuant}
use Rattle.quant.specs.declared.AcQuant.{AcQuant}
use Rattle.quant.specs.Places.{quantizer_at, dequant_all}
use Rattle.quant.specs.Token.{dq_denom, dequant}
use Rattle.dct.proofs.Dct.{two_to_five}
use Rattle.blocks.specs.Inner.{dc_value}
use Rattle.blocks.specs.Inverse.{inverse2d}
use Rattle.narrow.specs.Tile.{raster}
use Rattle.weights.specs.Inner.{total}
use Rattle.weights.proofs.Sums.{total_one}
use Rattle.narrow_lines.specs.Inner.{Dead}
use Rattle.residual16.specs.Inner.{Scanned, Short, Lent, Served}
use Rattle.residual16.proofs.Sums.{total_most, each_most, added_is, first_alone, shorts, coefs_few, zero_token}
use Rattle.residual16.proofs.Tiles.{eights, area_most}
use Rattle.residual16.proofs.Coefs.{flat_made}

module _ (size : ℕ) (dc : DcQuant) (ac : AcQuant) (tx_type : ℕ) (tokens : List ℤ) (t : Lent size dc ac tx_type tokens) where
  pub size_most : size ≤ 3
  size_most = omega (arith, t.possible.most)

  n_least : 3 ≤ size + 2
  n_least = omega (arith, t.larger)

  pub some : 0 < area (size + 2)
  some = NatL.lt_of_lt_of_le {m = 4} (lit≤ tt) (two_to_five (λ n. 4 ≤ area n) (lit≤ tt) (lit≤ tt) (lit≤ tt) (lit≤ tt) (size + 2) t.possible.least t.possible.most)

  one_more : length tokens ≡ suc (area (size + 2) - 1)
  one_more = omega (arith, t.all, some)

  pub all_length : length (dequant_all size dc ac tokens) ≡ area (size + 2)
  unfolding dequant_all
  all_length = length_tabulate _ (length tokens) ∙ t.all

  -- a token of 0 has a coefficient of 0, and past the end there is none
  all_dead : (k : ℕ) → get_or tokens k (pos 0) ≡ pos 0 → get_or (dequant_all size dc ac tokens) k (pos 0) ≡ pos 0
  unfolding dequant_all
  all_dead k e = go (dec_lt k (length tokens))
    where
      go : Dec (k < length tokens) → get_or (dequant_all size dc ac tokens) k (pos 0) ≡ pos 0
      go (yes l) =
          get_d_tabulate (λ k. dequant size (quantizer_at dc ac k) (get_or tokens k (pos 0))) (length tokens) k (pos 0) l
          ∙ ap (dequant size (quantizer_at dc ac k)) e ∙ zero_token size dc ac tokens t.dc_ok t.ac_ok k
      go (no l) = get_or-eq_default (dequant_all size dc ac tokens) (pos 0) (omega (arith, all_length, t.all))

  pub dead_all : (m : ℕ) → Dead m tokens → Dead m (dequant_all size dc ac tokens)
  dead_all m d k h = all_dead k (d k h)

  all_first : get_or (dequant_all size dc ac tokens) 0 (pos 0) ≡ dequant size dc.0 (get_or tokens 0 (pos 0))
  unfolding dequant_all quantizer_at
  all_first = get_d_tabulate _ (length tokens) 0 (pos 0) (omega (arith, t.all, some))

  module _ (all added strips : ℕ) (w : Scanned (size + 2) tokens all added strips) where
    abbrev first : ℕ
    first = nat_abs (get_or tokens 0 (pos 0))

    pub small : all ≤ 16383 → (k : ℕ) → k < length tokens → nat_abs (get_or tokens k (pos 0)) ≤ 16383
    small h k l = omega (arith, each_most (area (size + 2)) tokens all added w.weighed k (omega (arith, t.all)))

    exact : all ≤ 16383 → added ≡ total (area (size + 2)) tokens
    exact h = added_is (area (size + 2)) tokens all added w.weighed (area_most size size_most) h

    pub bounded : all ≤ 16383 → (first ≤ added) × (added ≤ 2 ^ 24)
    bounded h =
        let e = exact h in (
          omega (arith, e, total_one (area (size + 2)) 0 tokens some),
          omega (arith, e, total_most (area (size + 2)) tokens (area_most size size_most) (λ k l. small h k (omega (arith, t.all)))),
        )

    module _ (h : all ≤ 16383) (few : first * nat_abs dc.0 + (added - first) * nat_abs ac.0 ≤ 31883 * dq_denom size) where
      few_total : first * nat_abs dc.0 + (total (length tokens) tokens - first) * nat_abs ac.0 ≤ 31883 * dq_denom size
      few_total = rw (t.all, sym (exact h)) few

      pub short : (k : ℕ) → k < length tokens → Short size (quantizer_at dc ac k) (get_or tokens k (pos 0))
      short = shorts size dc ac tokens t.dc_ok t.ac_ok (area (size + 2) - 1) one_more few_total (small h)

      pub few_coefs : total (area (size + 2)) (dequant_all size dc ac tokens) ≤ 31883
      few_coefs = rw (sym t.all) (coefs_few size dc ac tokens t.dc_ok t.ac_ok (area (size + 2) - 1) one_more few_total)

      pub served : (y z : List ℤ) → raster (side (size + 2)) y ≡ dequant_all size dc ac tokens
          → raster (side (size + 2)) z ≡ inverse2d (size + 2) tx_type false (raster (side (size + 2)) y) → Served size dc ac tx_type tokens z
      served y z e g = record { small = small h; made = g ∙ ap (inverse2d (size + 2) tx_type false) e }

      -- the first token alone
      pub served_flat : added ≡ first → tx_type ≡ 0 → (u y z : List ℤ) → u ≡ replicate 1024 (pos 0) → y ≡ set u 0 (dequant size dc.0 (get_or tokens 0 (pos 0)))
          → z ≡ fill (area (size + 2)) (λ k. dc_value (size + 2) (get_or y 0 (pos 0))) y → Served size dc ac tx_type tokens z
      served_flat a x u y z eu ey ez =
          let long : length y ≡ 1024 = ap length ey ∙ length-set u 0 _ ∙ ap length eu ∙ length-replicate 1024 (pos 0) in
          let v = dequant size dc.0 (get_or tokens 0 (pos 0)) in
          let is : get_or y 0 (pos 0) ≡ get_or (dequant_all size dc ac tokens) 0 (pos 0) =
          ap (λ (l : List ℤ). get_or l 0 (pos 0)) ey ∙ get_or-set_same u 0 v (pos 0) (rw (eu, length-replicate 1024 (pos 0)) (lit≤ tt)) ∙ sym all_first in
          let flat = flat_made (size + 2) (side (size + 2) / 8) (dequant_all size dc ac tokens) y t.possible.least t.possible.most (eights (size + 2) n_least t.possible.most)
          all_length (rw long (area_most size size_most)) alone in
          record { small = small h; made = rw x (ap (raster (side (size + 2))) ez ∙ rw is flat) }
        where
          alone : (k : ℕ) → 0 < k → get_or (dequant_all size dc ac tokens) k (pos 0) ≡ pos 0
          alone k p = go (dec_lt k (area (size + 2)))
            where
              go : Dec (k < area (size + 2)) → get_or (dequant_all size dc ac tokens) k (pos 0) ≡ pos 0
              go (yes l) = all_dead k (first_alone (area (size + 2)) tokens (sym (exact h) ∙ a) k p l)
              go (no l) = all_dead k (get_or-eq_default tokens (pos 0) (omega (arith, t.all)))
