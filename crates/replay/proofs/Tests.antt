-- What the program's own tests tell.
use mathlib.Core.Path.{◌≡◌}
use mathlib.Core.Bool.{true, false}
use Prim.Native.Nat.{ℕ}
use native.Mathlib.Omega.{arith}
use borrow.Author.Tests.{leb-true}
use lib.Dec.{leb}
use lib.IntN.{ℤ, nat_abs}
use Rattle.whole.specs.Within.{Within}
use Rattle.whole.proofs.Within.{within_abs}

pub never : {A : Type 0} → false ≡ true → A
never h = absurd (let z : ◌≡◌ {A = ℕ} 0 1 = cc in omega arith)

-- a magnitude m of z that was tested
pub tested : (m most : ℕ) {z : ℤ} → m ≡ nat_abs z → leb m most ≡ true → Within most z
tested m most e h = within_abs (omega (arith, leb-true m most h))
