use mathlib.Core.Path.{sym, ap, subst, ◌∙◌}
use Prim.Native.Nat.{◌≤◌}
use mir.Syntax.{w32}
use mir.ValLaws.{to_z-of_z}
use Rattle.std.specs.Prelude.{Option, ℕ}
use Rattle.rows_told.specs.Rows.{row_number}
use Rattle.rows_told.specs.Inner.{place_of}
use Rattle.exports.proofs.Rows.{last_below}
use Rattle.exports.proofs.bracetwill_last_row.Goals as goal

pub row_number-requires : goal.row_number-requires
row_number-requires c = subst (λ (x : Option ℕ). place_of x ≤ 31) (sym c.last_row.ensures) (last_below c.args.summary)

pub returns : goal.returns
returns c = to_z-of_z w32 _ (record { sfits = c.row_number.type_inv }) ∙ c.row_number.ensures ∙ ap row_number c.last_row.ensures
