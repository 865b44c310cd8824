-- What the statement of the choice refuses, each by one number: it is not met by whatever is chosen.
use mathlib.Core.Path.{◌≡◌, refl, ap}
use Prim.Native.Nat.{ℕ, ◌+◌, ◌*◌, ◌/◌, ◌≤◌}
use native.Mathlib.Omega.{arith}
use lib.IntN.{pos, nat_abs, ◌-ℤ◌}
use Rattle.answers.specs.Limits.{codeable}
use Rattle.quant.specs.Token.{dequant, quantize, rounded}
use Rattle.quant.specs.Choice.{distance, Nearest, Least, Greatest}

-- an exact half taken away from zero: of coefficient 2 under quantizer 4 token 0 is as near as 1
pub half_away_fails : (most : ℕ) → Least 0 most (pos 4) (pos 2) (pos 1) → ⊥
unfolding distance dequant
half_away_fails most h = absurd (omega (arith, h.least (pos 0) (omega arith) refl))

-- a cap that is one lower, at depth 8: of coefficient 16,450 under quantizer 1 token 16,450 is nearer than 16,449
pub lower_cap_fails : Nearest 0 (codeable 8) (pos 1) (pos 16450) (pos 16449) → ⊥
unfolding distance dequant
lower_cap_fails h = absurd (omega (arith, h.near (pos 16450) (omega arith)))

-- a coefficient that is not doubled at 32 by 32: of coefficient 4 under quantizer 4 token 2 is nearer than 1
pub not_doubled_fails : (most : ℕ) → 2 ≤ most → Nearest 3 most (pos 4) (pos 4) (pos 1) → ⊥
unfolding distance dequant
not_doubled_fails most l h = absurd (omega (arith, h.near (pos 2) l))

-- an odd cap, under quantizer 1 at 32 by 32: of coefficient k + 1 the formula takes the cap, 2k + 1, and 2k has the same value
pub odd_cap_fails : (k : ℕ) → Least 3 (2 * k + 1) (pos 1) (pos (k + 1)) (quantize 1 3 (2 * k + 1) (pos 1) (pos (k + 1))) → ⊥
unfolding distance dequant quantize rounded
odd_cap_fails k h =
    let e : quantize 1 3 (2 * k + 1) (pos 1) (pos (k + 1)) ≡ pos (2 * k + 1) = ap pos (omega arith) in
    let v : 2 * k * 1 / 2 ≡ (2 * k + 1) * 1 / 2 = omega arith in
    let l = (rw e at h).least (pos (2 * k)) (omega arith) (ap (λ (m : ℕ). nat_abs (pos (k + 1) -ℤ pos m)) v) in
    absurd (omega (arith, l))

-- and for rule 2: an exact half taken toward zero, of coefficient 2 under quantizer 4, where token 1 is as near as 0
pub half_toward_fails : (most : ℕ) → 1 ≤ most → Greatest 0 most (pos 4) (pos 2) (pos 0) → ⊥
unfolding distance dequant
half_toward_fails most l h = absurd (omega (arith, h.greatest (pos 1) l refl))

-- at 32 by 32 rule 2 does not always take the greatest: of coefficient 2 under quantizer 3 it takes token 1, and 2 is as near
pub greatest_at_32_fails : Greatest 3 (codeable 8) (pos 3) (pos 2) (quantize 2 3 (codeable 8) (pos 3) (pos 2)) → ⊥
unfolding distance dequant quantize rounded
greatest_at_32_fails h = absurd (omega (arith, h.greatest (pos 2) (omega arith) refl))
