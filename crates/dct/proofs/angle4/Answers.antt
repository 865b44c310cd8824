use mathlib.Core.Path.{◌≡◌, refl}
use Prim.Native.Nat.{ℕ, zero, suc, ◌<◌, ◌-◌, ◌+◌, ◌*◌}
use native.Mathlib.Omega.{arith}
use lib.IntN.{pos, ◌+ℤ◌, ◌-ℤ◌}
use mir.Syntax.{w32}
use mir.Val.{to_z}
use Rattle.dct.proofs.angle4.Goals as goal

two : (P : ℕ → Type 0) → P 0 → P 1 → (i : ℕ) → i < 2 → P i
two P a b zero h = a
two P a b (suc zero) h = b
two P a b (suc (suc i)) h = absurd (omega arith)

pub returns : goal.returns
returns c =
    two (λ i. to_z w32 (28 + 56 * c.args.j - 16 * i) ≡ pos 28 -ℤ pos (16 * i) +ℤ pos (56 * c.args.j))
    (two (λ j. to_z w32 (28 + 56 * j - 16 * 0) ≡ pos 28 -ℤ pos (16 * 0) +ℤ pos (56 * j)) refl refl c.args.j c.requires.1)
    (two (λ j. to_z w32 (28 + 56 * j - 16 * 1) ≡ pos 28 -ℤ pos (16 * 1) +ℤ pos (56 * j)) refl refl c.args.j c.requires.1)
    c.args.i c.requires.0
