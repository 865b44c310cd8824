-- `idct32::is_short` meets its contract.
use mathlib.Core.Path.{◌≡◌, sym, ◌∙◌}
use mathlib.Core.Bool.{true, false}
use Prim.Native.Nat.{suc}
use native.Mathlib.Omega.{arith}
use borrow.Author.Tests.{leb-true, leb-false, le-leb, lt-leb}
use lib.IntN.{ℤ, pos, negsuc}
use lib.Signed.{le_z}
use mir.Facts.{to_z-of_z}
use Rattle.narrow.specs.Kept.{short}
use Rattle.narrow.proofs.Kept.{and_yes}
use Rattle.idct32.proofs.is_short.Goals as goal

-- the second test, where the first passed
upper : (x : ℤ) → le_z (negsuc 32767) x ≡ true → le_z x (pos 32767) ≡ short x
unfolding short
upper (pos a) h = sym (and_yes _)
upper (negsuc a) h = sym (le-leb (suc a) 32768 (omega (arith, leb-true a 32767 h)))

-- the first, where it failed
lower : (x : ℤ) → le_z (negsuc 32767) x ≡ false → le_z (negsuc 32767) x ≡ short x
unfolding short
lower (pos a) h = cc
lower (negsuc a) h = h ∙ sym (lt-leb (suc a) 32768 (omega (arith, leb-false a 32767 h)))

pub returns-then-x-geminus32768 : goal.returns-then-x-geminus32768
returns-then-x-geminus32768 c = rw (to_z-of_z c.ranges.x) (upper c.args.x (rw (to_z-of_z c.ranges.x) at c.if-x-geminus32768.true))

pub returns-else-x-geminus32768 : goal.returns-else-x-geminus32768
returns-else-x-geminus32768 c = rw (to_z-of_z c.ranges.x) (lower c.args.x (rw (to_z-of_z c.ranges.x) at c.if-x-geminus32768.false))
