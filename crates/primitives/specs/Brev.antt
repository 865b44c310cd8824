-- brev(numBits, x): the numBits low bits of x in reverse. Specification §8.7.1.1.
use Rattle.std.specs.Prelude.{ℕ, zero, suc, ◌+◌, ◌*◌, ◌/◌, ◌%◌, ◌^◌}

-- bit 0 of x becomes the highest of them, and the others stand below it in reverse
unfoldable pub Brev : ℕ → ℕ → ℕ
Brev zero x = 0
Brev (suc k) x = x % 2 * 2 ^ k + Brev k (x / 2)
