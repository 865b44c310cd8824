-- One number at 16 bits: the range of what place 0 gives everywhere.
use Rattle.std.proofs.Common.{◌≡◌, ℕ, ◌+◌, ◌-◌, ◌*◌, ◌/◌, ◌^◌, ◌<◌, ◌≤◌, true, false, ℤ, pos, ◌*ℤ◌, arith, lit≤, w16, SFits}
use Rattle.whole.specs.Parts.{P}
use Rattle.whole.specs.Within.{Within}
use Rattle.whole.proofs.Round.{round2_within}
use Rattle.whole.proofs.Within.{within_le, within_mul, within_lit, sfits_P, sfits_N}
use Rattle.steps.specs.Inner.{turned}
use Rattle.dct.proofs.Dct.{two_to_five}
use Rattle.blocks.specs.Inner.{dc_value}
use Rattle.blocks.specs.Inverse.{bits}

pub short_within : (z : ℤ) → SFits w16 z → Within 32768 z
short_within z h = let a : P z < 32768 = sfits_P h in record { hi = omega arith; lo = sfits_N h }

pub never : {A : Type 0} → false ≡ true → A
never e = absurd (let z : ◌≡◌ {A = ℕ} 0 1 = cc in omega arith)

turned_within : (m : ℕ) {x : ℤ} → Within m x → Within ((m * 11585 + 8192) / 16384) (turned x)
unfolding turned
turned_within m {x} b = round2_within 14 {x = x *ℤ pos 11585} (omega arith) (within_mul b (within_lit 11585 (pos 11585) tt))

pub dc_short : (n : ℕ) (x : ℤ) → 2 ≤ n → n ≤ 5 → Within 32768 x → Within 32767 (dc_value n x)
unfolding dc_value
dc_short n x l h b =
    let w : Within 32768 (turned (turned x)) = within_le (lit≤ tt) (turned_within _ (turned_within _ b)) in
    within_le
    (two_to_five (λ n. (32768 + 2 ^ (bits n - 1)) / 2 ^ bits n ≤ 32767) (lit≤ tt) (lit≤ tt) (lit≤ tt) (lit≤ tt) n l h)
    (round2_within (bits n) (omega arith) w)
