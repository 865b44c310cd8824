-- Places of a block: a row is inside the block, and a place is in one row.
use Prim.Native.Nat.{ℕ, ◌+◌, ◌*◌, ◌/◌, ◌≤◌, ◌<◌}
use native.Mathlib.Nat.{mul-le-mul, div-lt_iff_lt-mul}
use native.Mathlib.Omega.{arith}

pub row_inside : (n0 i L : ℕ) → i < n0 → n0 * n0 ≤ L → i * n0 + n0 ≤ L
row_inside n0 i L h l = let m : (i + 1) * n0 ≤ n0 * n0 = mul-le-mul (omega arith) (omega arith) in omega arith

pub row_below : (n0 place : ℕ) → 1 ≤ n0 → place < n0 * n0 → place / n0 < n0
row_below n0 place l h = (div-lt_iff_lt-mul l).1 h
