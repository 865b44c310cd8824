-- A row whose numbers were tested is one that the transforms take.
use mathlib.Core.Path.{◌≡◌}
use mathlib.Core.List.{List}
use Prim.Native.Nat.{ℕ, ◌^◌, ◌≤◌, ◌<◌}
use native.Mathlib.Nat.{le_trans}
use native.Mathlib.Omega.{arith}
use lib.IntN.{ℤ, pos}
use lib.ListN.{get_or, length, replicate, length-replicate, get_or-replicate}
use lib.Pow.{pow_mono}
use Rattle.whole.specs.Inner.{Ok}
use Rattle.whole.specs.Within.{Within}
use Rattle.whole.proofs.Within.{EachWithin}
use Rattle.primitives.specs.Brev.{Brev}
use Rattle.steps.specs.Step.{Move, step}
use Rattle.steps.specs.Inner.{Fine, Fine2}
use Rattle.steps.specs.Step2.{step2, fresh}
use Rattle.dct.specs.Dct.{dct_steps}
use Rattle.adst.specs.Adst.{adst_steps}
use Rattle.dct.proofs.Dct.{dct_process}
use Rattle.dct.proofs.Ranges.{dct_row_lem}
use Rattle.adst.proofs.Ranges.{adst_row}

module _ {t : List ℤ} (m : ℕ) (near : (k : ℕ) → k < 32 → Within m (get_or t k (pos 0))) where
  each : (n : ℕ) → n ≤ 32 → EachWithin (replicate n m) t
  each n h = record { each = go }
    where
      go : (k : ℕ) → k < length (replicate n m) → Within (get_or (replicate n m) k 0) (get_or t k (pos 0))
      go k l = let q : k < n = rw length-replicate at l in rw (get_or-replicate n k m 0 q) (near k (omega arith))

pub adst_ready : (n : ℕ) → 2 ≤ n → n ≤ 4 → (t : List ℤ) → ((k : ℕ) → k < 32 → Within (2 ^ 31) (get_or t k (pos 0)))
    → Ok step2 (Fine2 (2 ^ 46)) (adst_steps n) (fresh t)
adst_ready n l h t near = (adst_row n l h (each (2 ^ 31) near (2 ^ n) (le_trans (pow_mono h) (omega arith)))).0

-- after the permutation
pub dct_ready : (n : ℕ) → 2 ≤ n → n ≤ 5 → (t : List ℤ) {u : List ℤ} → ((k : ℕ) → k < 32 → Within (2 ^ 31) (get_or t k (pos 0)))
    → u ≡ step (Move (2 ^ n) (Brev n)) t → Ok step (Fine (2 ^ 46)) (dct_steps n) u
dct_ready n l h t near e = (dct_process n (dct_row_lem n l h (each (2 ^ 31) near (2 ^ n) (pow_mono h))).0 e).ok
