-- Round2(x, k) = floor((x + 2^(k − 1)) / 2^k). Specification §4.6; `shr_z z m` is floor(z / m).
use Rattle.std.specs.Prelude.{ℕ, ◌-◌, ◌^◌, ℤ, pos, ◌+ℤ◌}
use Rattle.std.specs.Int.Signed.{shr_z}

-- x / 2^k to the nearest, an exact half upward
unfoldable pub Round2 : ℤ → ℕ → ℤ
Round2 x k = shr_z (x +ℤ pos (2 ^ (k - 1))) (2 ^ k)
