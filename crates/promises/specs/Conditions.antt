-- The conditions that several calls share, in plain terms. Each number's line of the table of answers (docs/REFERENCE.md) stands above its own.
use Rattle.std.specs.Prelude.{◌≡◌, Bool, true, false, List, ℕ, ◌+◌, ◌*◌, ◌≤◌, ◌<◌, ℤ, pos, negsuc, nat_abs, length, get_or, take}
use Rattle.whole.specs.Steps.{run}
use Rattle.answers.specs.Sizes.{side, area}
use Rattle.steps.specs.Step.{step}
use Rattle.steps.specs.Step2.{step2, fresh}
use Rattle.dct.specs.Dct.{dct_row}
use Rattle.adst.specs.Adst.{adst_steps}
use Rattle.wht.specs.Wht.{wht_row}
use Rattle.blocks.specs.Inverse.{Pass, Dct, Adst, Wht}

-- 1: bit depth is not 8, 10 or 12
pub record NoDepth (depth : ℕ) : Type 0 where
  pub not_8 : depth ≡ 8 → ⊥
  pub not_10 : depth ≡ 10 → ⊥
  pub not_12 : depth ≡ 12 → ⊥

-- 3: lossless with a size other than 4 by 4
pub record LosslessAt (lossless : Bool) (size : ℕ) : Type 0 where
  pub set : lossless ≡ true
  pub larger : size ≡ 0 → ⊥

-- 4: not lossless, and either a type above 3 or 32 by 32 with a type other than 0
pub data NoTxType (lossless : Bool) (size tx_type : ℕ) : Type 0 where
  above : lossless ≡ false → 3 < tx_type → NoTxType lossless size tx_type
  at_32 : lossless ≡ false → size ≡ 3 → (tx_type ≡ 0 → ⊥) → NoTxType lossless size tx_type

-- 5: a quantizer outside 1 to 32,767
pub record NoQuantizer (q : ℤ) : Type 0 where
  pub outside : (n : ℕ) → 1 ≤ n → n ≤ 32767 → q ≡ pos n → ⊥

-- 8 and 9: of the first n numbers of a list, one has a magnitude above m
pub record SomeBeyond (m n : ℕ) (l : List ℤ) : Type 0 where
  pub place : ℕ
  pub listed : place < n
  pub beyond : m < nat_abs (get_or l place (pos 0))

-- 15: of a report's 44 sums, one is above its count × 262,210
pub record SumBeyond (counts sums : List ℕ) : Type 0 where
  pub place : ℕ
  pub listed : place < 44
  pub beyond : get_or counts place 0 * 262210 < get_or sums place 0

-- 2 and 14, of a file to be written: one number of the list is above m
pub record SomeAbove (m : ℕ) (l : List ℕ) : Type 0 where
  pub place : ℕ
  pub listed : place < length l
  pub above : m < get_or l place 0

-- 6, of a file to be written: one record brings another number of tokens than its size has, n0²
pub record OtherCount (sizes counts : List ℕ) : Type 0 where
  pub place : ℕ
  pub listed : place < length counts
  pub other : get_or counts place 0 ≡ area (get_or sizes place 0 + 2) → ⊥

-- 18: above 32,767, or below −32,768; negsuc n is −1 − n
pub data Outside : ℤ → Type 0 where
  above : {n : ℕ} → 32767 < n → Outside (pos n)
  below : {n : ℕ} → 32767 < n → Outside (negsuc n)

-- 18: one of the first n numbers of a list is
pub record SomeOutside (n : ℕ) (t : List ℤ) : Type 0 where
  pub place : ℕ
  pub listed : place < n
  pub outside : Outside (get_or t place (pos 0))

-- T of a line after the first k steps of its transform; after none it is the line as it is loaded
unfoldable pub after : Pass → ℕ → ℕ → List ℤ → List ℤ
after Dct n k t = run step (take k (dct_row n)) t
after Adst n k t = (run step2 (take k (adst_steps n)) (fresh t)).T
after (Wht shift) n k t = run step (take k (wht_row shift)) t

-- 18: on the way through a line's transform a number of T is outside
pub record LineLeaves (p : Pass) (n : ℕ) (t : List ℤ) : Type 0 where
  pub steps : ℕ
  pub some : SomeOutside (side n) (after p n steps t)
