-- The floor of a division by a number that is not known, by its two sides: d·q ≤ x < (d + 1)·q. All that is known of the quantizer's division comes from here.
use mathlib.Core.Path.{◌≡◌}
use mathlib.Core.Bool.{Bool, true, false, cond}
use Prim.Native.Nat.{ℕ, ◌+◌, ◌-◌, ◌*◌, ◌/◌, ◌≤◌, ◌<◌}
use native.Mathlib.Nat as NatL
use native.Mathlib.Omega.{arith}
use lib.Dec.{eqb}
use Rattle.quant.specs.Token.{short, rounded}

pub record Floor (x q d : ℕ) : Type 0 where
  pub low : d * q ≤ x
  pub high : x < d * q + q

pub floor : (x q : ℕ) → 0 < q → Floor x q (x / q)
floor x q p = record { low = NatL.div-mul-le_self x q; high = NatL.lt-div-mul-add p }

pub floor_is : (x q d : ℕ) → Floor x q d → x / q ≡ d
floor_is x q d f = NatL.div-eq_of_lt-le q f.low (omega (arith, f.high))

-- the rounded quotient
pub rounded_is : (rule q a t : ℕ) → Floor (2 * a + (q - short rule)) (2 * q) t → rounded rule q a ≡ t
unfolding rounded
rounded_is rule q a t f = floor_is (2 * a + (q - short rule)) (2 * q) t f

pub short_most : (rule : ℕ) → short rule ≤ 1
short_most rule = go (eqb rule 2)
  where
    go : (c : Bool) → cond c 0 1 ≤ 1
    go true = omega arith
    go false = omega arith
