use mathlib.Core.Path.{sym, ap, subst, ◌∙◌}
use Prim.Native.Nat.{ℕ, ◌≤◌}
use native.Mathlib.Omega.{arith}
use lib.IntN.{pos}
use mir.Syntax.{w32}
use mir.Facts.{to_z_pos}
use Rattle.std.specs.Prelude.{Option, ℕ}
use Rattle.whole.specs.Within.{Within}
use Rattle.whole.proofs.Within.{within_sfits}
use Rattle.rows_told.specs.Rows.{row_number}
use Rattle.rows_told.specs.Inner.{place_of}
use Rattle.rows_told.proofs.row_number.Goals as goal

below : (n : ℕ) → n ≤ 31 → Within 31 (pos n)
below n h = record { hi = h; lo = omega arith }

pub overflow_cast-result : goal.overflow_cast-result
overflow_cast-result c =
    within_sfits {m = 31} (omega arith) (below _ (subst (λ (x : Option ℕ). place_of x ≤ 31) c.in-Some.is c.requires))

pub returns-in-None : goal.returns-in-None
returns-in-None c = sym (ap row_number c.in-None.is)

pub returns-in-Some : goal.returns-in-Some
returns-in-Some c =
    let h = subst (λ (x : Option ℕ). place_of x ≤ 31) c.in-Some.is c.requires in
    to_z_pos w32 (omega (arith, h)) ∙ sym (ap row_number c.in-Some.is)
