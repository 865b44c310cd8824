-- Lines through the transform of a pass, tested: what the answer tells.
use Rattle.std.specs.Prelude.{◌≡◌, Bool, true, false, List, ℕ, ◌≤◌, ◌<◌, ℤ}
use Rattle.answers.specs.Sizes.{side}
use Rattle.steps.specs.Step2.{Step2}
use Rattle.dct.specs.Dct.{dct_row}
use Rattle.adst.specs.Adst.{on_t, adst_steps}
use Rattle.wht.specs.Wht.{wht_row}
use Rattle.blocks.specs.Block.{row, column}
use Rattle.blocks.specs.Inverse as I
use Rattle.blocks.specs.Inverse.{Pass, Wht, apply}
use Rattle.weights.specs.Line.{kept_line}
use Rattle.weights.specs.Inner.{Keeps}
use Rattle.tested.specs.declared.Kind.{Kind}
use Rattle.tested.specs.declared.Kind.TheVariants.{Dct, Adst, WhtRow, WhtColumn}

-- the pass of a kind
abbrev pub pass_of : Kind → Pass
pass_of Dct = I.Dct
pass_of Adst = I.Adst
pass_of WhtRow = Wht 2
pass_of WhtColumn = Wht 0

-- which lines there are
abbrev pub Sized : Kind → ℕ → Type 0
Sized Dct n = (2 ≤ n) × (n ≤ 5)
Sized Adst n = (2 ≤ n) × (n ≤ 4)
Sized WhtRow n = n ≡ 2
Sized WhtColumn n = n ≡ 2

-- the steps of a line
unfoldable pub steps_of : Pass → ℕ → List Step2
steps_of I.Dct n = on_t (dct_row n)
steps_of I.Adst n = adst_steps n
steps_of (Wht shift) n = on_t (wht_row shift)

-- the answer r is the condition; where it holds, u is the line
pub record Line (p : Pass) (n : ℕ) (t : List ℤ) (r : Bool) (u : List ℤ) : Type 0 where
  pub is : r ≡ kept_line p n t
  pub made : r ≡ true → u ≡ apply p n t

-- every row, every column stays within 16 bits on its way
pub record RowsKeep (p : Pass) (n : ℕ) (s : List ℤ) : Type 0 where
  pub each : (i : ℕ) → i < side n → Keeps p n (row (side n) i s)

pub record ColumnsKeep (p : Pass) (n : ℕ) (s : List ℤ) : Type 0 where
  pub each : (j : ℕ) → j < side n → Keeps p n (column (side n) j s)

-- the answer r is whether K holds; where it does, G is made
pub record Tells (r : Bool) (K G : Type 0) : Type 0 where
  pub holds : r ≡ true → K
  pub made : r ≡ true → G
  pub fails : r ≡ false → K → ⊥
