-- Lines of which an answer tells whether they stay within 16 bits, as the condition has them.
use mathlib.Core.Path.{◌≡◌, refl, sym}
use mathlib.Core.Bool.{Bool, true, false}
use mathlib.Core.List.{List}
use Prim.Native.Nat.{ℕ}
use lib.IntN.{ℤ}
use Rattle.std.specs.Prelude.{Result, Ok, Err, is_ok, is_err, IsErr}
use Rattle.answers.specs.Sizes.{side}
use Rattle.blocks.specs.Inverse.{Pass}
use Rattle.blocks.proofs.Passes.{Valid}
use Rattle.tested.specs.Line.{pass_of, Sized, RowsKeep, ColumnsKeep, Tells}
use Rattle.tested.specs.declared.Kind.{Kind}
use Rattle.tested.specs.declared.Kind.TheVariants.{Dct, Adst, WhtRow, WhtColumn}
use Rattle.idct32.specs.Engine.{kept_rows, kept_columns}
use Rattle.idct32.proofs.Scan.{every_all, every_at, fails}

pub told_rows : (p : Pass) (n : ℕ) (s : List ℤ) (r : Bool) {G : Type 0} → Tells r (RowsKeep p n s) G → r ≡ kept_rows p n s
unfolding kept_rows
told_rows p n s true o = sym (every_all _ (side n) (o.holds refl).each)
told_rows p n s false o = sym (fails (kept_rows p n s) (λ e. absurd (o.fails refl (record { each = λ i h. every_at _ (side n) i e h }))))

pub told_columns : (p : Pass) (n : ℕ) (s : List ℤ) (r : Bool) {G : Type 0} → Tells r (ColumnsKeep p n s) G → r ≡ kept_columns p n s
unfolding kept_columns
told_columns p n s true o = sym (every_all _ (side n) (o.holds refl).each)
told_columns p n s false o = sym (fails (kept_columns p n s) (λ e. absurd (o.fails refl (record { each = λ j h. every_at _ (side n) j e h }))))

-- a kind whose pass there is at a size is one of the table's
pub sized_of : (k : Kind) (n shift : ℕ) → Valid shift (pass_of k) n → Sized k n
sized_of Dct n shift v = v
sized_of Adst n shift v = v
sized_of WhtRow n shift v = v.0
sized_of WhtColumn n shift v = v.0

-- what `?` gives back is no success
pub gone : {X E : Type 0} (r : Result X E) → IsErr r → is_ok r ≡ false
gone (Ok x) h = cc
gone (Err e) h = refl

pub good : {X E : Type 0} (r : Result X E) → is_err r ≡ false → is_ok r ≡ true
good (Ok x) h = refl
good (Err e) h = cc

-- a block from 8 by 8 on is not lossless
pub not_lossless : {n : ℕ} (b : Bool) → (b ≡ true → n ≡ 2) → (n ≡ 2 → ⊥) → b ≡ false
not_lossless true f g = absurd (g (f refl))
not_lossless false f g = refl
