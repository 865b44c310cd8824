-- `tested::line4` meets its contract.
use mathlib.Core.Path.{◌≡◌, refl, sym, subst}
use mathlib.Core.Bool.{Bool, true}
use mathlib.Core.List.{List}
use Prim.Native.Nat.{◌≤◌}
use lib.Dec.{lit≤, lit<}
use lib.IntN.{ℤ}
use lib.ListN.{length}
use Rattle.steps.specs.Step.{Step, A4, Wh, step}
use Rattle.adst.specs.Adst.{on_t, adst_steps}
use Rattle.wht.specs.Wht.{wht_row}
use Rattle.narrow.specs.Kept.{shorts}
use Rattle.narrow.specs.Inner.{fits}
use Rattle.tested.specs.Line.{pass_of, steps_of, Sized, Line}
use Rattle.tested.specs.Inner.{Told}
use Rattle.tested.specs.declared.Kind.{Kind}
use Rattle.tested.specs.declared.Kind.TheVariants.{Adst, WhtRow, WhtColumn}
use Rattle.tested.proofs.Going.{Nth, going_begin, on_last}
use Rattle.tested.proofs.line4.Goals as goal

-- a line of one step
pub only : (k : Kind) (x : Step) → Sized k 2 → Nth (pass_of k) 2 0 x → length (steps_of (pass_of k) 2) ≤ 1 → {t u : List ℤ} {r : Bool} → 4 ≤ length t → shorts 4 t ≡ true
    → Told step fits x t r u → Line (pass_of k) 2 t r u
only k x h e l {t} {u} {r} m s o = on_last k 2 h (going_begin k 2 t h m s) e r o l

of_kind : {k b : Kind} {t u : List ℤ} {r : Bool} → k ≡ b → Line (pass_of b) 2 t r u → Line (pass_of k) 2 t r u
of_kind {k} {b} {t} {u} {r} e o = subst (λ (d : Kind). Line (pass_of d) 2 t r u) (sym e) o

adst : {t u : List ℤ} {r : Bool} → 4 ≤ length t → shorts 4 t ≡ true → Told step fits A4 t r u → Line (pass_of Adst) 2 t r u
unfolding steps_of adst_steps
adst = only Adst A4 (lit≤ tt, lit≤ tt) (record { within = lit< tt; is = refl }) (lit≤ tt)

row : {t u : List ℤ} {r : Bool} → 4 ≤ length t → shorts 4 t ≡ true → Told step fits (Wh 2) t r u → Line (pass_of WhtRow) 2 t r u
unfolding steps_of on_t wht_row
row = only WhtRow (Wh 2) refl (record { within = lit< tt; is = refl }) (lit≤ tt)

column : {t u : List ℤ} {r : Bool} → 4 ≤ length t → shorts 4 t ≡ true → Told step fits (Wh 0) t r u → Line (pass_of WhtColumn) 2 t r u
unfolding steps_of on_t wht_row
column = only WhtColumn (Wh 0) refl (record { within = lit< tt; is = refl }) (lit≤ tt)

pub returns-in-Dct : goal.returns-in-Dct
returns-in-Dct c = of_kind c.in-Dct.is c.dct4.ensures

pub returns-in-Adst : goal.returns-in-Adst
returns-in-Adst c =
    of_kind c.in-Adst.is (adst c.requires.0 c.requires.1 c.adst4.ensures)

pub returns-in-WhtRow : goal.returns-in-WhtRow
returns-in-WhtRow c =
    of_kind c.in-WhtRow.is (row c.requires.0 c.requires.1 c.wht4.ensures)

pub returns-in-WhtColumn : goal.returns-in-WhtColumn
returns-in-WhtColumn c =
    of_kind c.in-WhtColumn.is (column c.requires.0 c.requires.1 c.wht4-in-WhtColumn.ensures)
