use Rattle.std.proofs.Common.{ℕ, ◌*◌, ◌%◌, ◌≤◌, mul-le-mul, arith}
use Rattle.draws.proofs.product.Goals as goal

small : (a b : ℕ) → a % 64 * (b % 64) ≤ 63 * 63
small a b = let l : a % 64 ≤ 63 = omega arith in let h : b % 64 ≤ 63 = omega arith in mul-le-mul l h

pub overflow_mul-result : goal.overflow_mul-result
overflow_mul-result c = omega (arith, small c.args.a c.args.b)
