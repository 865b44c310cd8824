-- The coefficient at place 0 alone: one number everywhere is the residual.
use Rattle.std.proofs.Common.{◌≡◌, ℕ, zero, suc, ◌+◌, ◌-◌, ◌*◌, ◌^◌, ◌<◌, ◌≤◌, Bool, false, List, length, get_or, ℤ, pos, sym, refl, ◌∙◌, arith}
use native.Mathlib.Nat as NatL
use lib.Arith.{digits_lt}
use Rattle.whole.specs.Lists.{fill}
use Rattle.whole.specs.Tests.{any_below}
use Rattle.whole.proofs.Lists.{length_fill, fill_below}
use Rattle.answers.specs.Sizes.{side, area}
use Rattle.blocks.specs.Block.{live}
use Rattle.blocks.specs.Inner.{dc_value}
use Rattle.blocks.specs.Inverse.{inverse2d}
use Rattle.blocks.proofs.Inverse.{dc_only_lem, filled}
use Rattle.narrow.specs.Tile.{place, raster}
use Rattle.narrow.proofs.Tile.{place_lt, raster_is}

none_live : (p : ℕ → Bool) (n : ℕ) → ((k : ℕ) → k < n → p k ≡ false) → any_below p n ≡ false
unfolding any_below
none_live p zero e = refl
none_live p (suc n) e = rw (e n (omega arith)) (none_live p n (λ k l. e k (omega arith)))

dead_live : (n : ℕ) (s : List ℤ) → ((k : ℕ) → 0 < k → get_or s k (pos 0) ≡ pos 0) → live 1 n s ≡ false
unfolding live
dead_live n s dead = none_live _ n (λ k l. rw (dead (1 + k) (omega arith)) refl)

-- a block of coefficients s, z with one number at the first n0 × n0 places
pub flat_made : (n w : ℕ) (s z : List ℤ) → 2 ≤ n → n ≤ 5 → side n ≡ w * 8 → length s ≡ area n → area n ≤ length z → ((k : ℕ) → 0 < k → get_or s k (pos 0) ≡ pos 0)
    → raster (side n) (fill (area n) (λ k. dc_value n (get_or s 0 (pos 0))) z) ≡ inverse2d n 0 false s
flat_made n w s z l h e long room dead =
    let v = dc_value n (get_or s 0 (pos 0)) in
    let wide : area n ≤ length s = omega (arith, long) in
    sym (raster_is (side n) (fill (area n) (λ k. v) z) (fill (area n) (λ k. v) s) (length_fill (area n) (λ k. v) s ∙ long)
    (λ i j hi hj.
    fill_below (pos 0) (area n) (λ k. v) s (i * side n + j) (digits_lt hi hj) (rw long (digits_lt hi hj))
    ∙ sym (fill_below (pos 0) (area n) (λ k. v) z (place (side n) i j) (place_lt (side n) w i j e hi hj) (NatL.lt_of_lt_of_le (place_lt (side n) w i j e hi hj) room))))
    ∙ filled (2 ^ n) v s wide ∙ sym (dc_only_lem n l h s wide (dead_live (area n - 1) s dead))
