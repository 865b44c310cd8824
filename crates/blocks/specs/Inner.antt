-- What only the contracts of inner functions read: one line of a block at a time, ranges, and the case of one number alone.
use Rattle.std.specs.Prelude.{◌≡◌, Bool, true, false, List, ℕ, ◌+◌, ◌*◌, ◌^◌, ◌≤◌, ◌<◌, ℤ, pos, get_or, set}
use Rattle.whole.specs.Round.{Round2}
use Rattle.whole.specs.Within.{Within}
use Rattle.whole.specs.Inner.{Ok, times}
use Rattle.steps.specs.Step.{step}
use Rattle.steps.specs.Step2.{step2, fresh}
use Rattle.steps.specs.Inner.{Fine, FourWithin, Fine2, turned}
use Rattle.dct.specs.Dct.{dct_row}
use Rattle.adst.specs.Adst.{adst_steps}
use Rattle.blocks.specs.Block.{line}
use Rattle.blocks.specs.Inverse.{Pass, Dct, Adst, Wht, bits}

-- line by line, as the code goes: the first n numbers of t, each through r, to the places of a line
unfoldable pub set_line : (ℤ → ℤ) → ℕ → ℕ → ℕ → List ℤ → List ℤ → List ℤ
set_line r start step n t = times n (λ k s. set s (start + k * step) (r (get_or t k (pos 0))))

-- a line replaced by what T and r make of it
unfoldable pub change_line : (List ℤ → List ℤ) → (ℤ → ℤ) → ℕ → ℕ → ℕ → List ℤ → List ℤ
change_line T r start step n s = set_line r start step n (T (line start step n s)) s

-- the first n numbers are within m
pub record FirstWithin (m n : ℕ) (s : List ℤ) : Type 0 where
  pub each : (k : ℕ) → k < n → Within m (get_or s k (pos 0))

-- every number of the residual where only place 0 is live, of type 0
unfoldable pub dc_value : ℕ → ℤ → ℤ
dc_value n x = Round2 (turned (turned x)) (bits n)

-- the sizes and types that there are: 32 by 32 has type 0 alone, lossless is 4 by 4
pub record Possible (n tx_type : ℕ) (lossless : Bool) : Type 0 where
  pub least : 2 ≤ n
  pub most : n ≤ 5
  pub large : lossless ≡ false → n ≡ 5 → tx_type ≡ 0
  pub small : lossless ≡ true → n ≡ 2

-- a transform of 2^n numbers that there is; the WHT at the pass's shift
abbrev pub Valid : ℕ → Pass → ℕ → Type 0
Valid shift Dct n = (2 ≤ n) × (n ≤ 5)
Valid shift Adst n = (2 ≤ n) × (n ≤ 4)
Valid shift (Wht k) n = (n ≡ 2) × (k ≡ shift)

-- a transform of 2^n numbers, whichever the pass
abbrev pub Sized : Pass → ℕ → Type 0
Sized Dct n = (2 ≤ n) × (n ≤ 5)
Sized Adst n = (2 ≤ n) × (n ≤ 4)
Sized (Wht shift) n = (n ≡ 2) × (shift ≤ 2)

-- every step of the transform is within its range
unfoldable pub Safe : Pass → ℕ → List ℤ → Type 0
Safe Dct n t = Ok step (Fine (2 ^ 46)) (dct_row n) t
Safe Adst n t = Ok step2 (Fine2 (2 ^ 46)) (adst_steps n) (fresh t)
Safe (Wht shift) n t = FourWithin (2 ^ 46) t
