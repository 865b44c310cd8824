-- Steps over T and the array S of higher precision, for the ADST of 8 and of 16 numbers. Specification §8.7.1.1.
use Rattle.std.specs.Prelude.{Bool, List, ℕ, ℤ, pos, replicate}
use Rattle.primitives.specs.Rotations.{apply_sb, apply_sh}
use Rattle.steps.specs.Step.{Step, step}

-- the two arrays of the specification
pub record Arrays : Type 0 where
  pub T : List ℤ
  pub S : List ℤ

-- a step of T alone, SB a b angle flip, SH a b
pub data Step2 : Type 0 where
  on : Step → Step2
  SB : ℕ → ℕ → ℤ → Bool → Step2
  SH : ℕ → ℕ → Step2

-- T and S after one step
unfoldable pub step2 : Step2 → Arrays → Arrays
step2 (on s) u = record { T = step s u.T; S = u.S }
step2 (SB a b angle flip) u = record { T = u.T; S = apply_sb u.T u.S a b angle flip }
step2 (SH a b) u = record { T = apply_sh u.T u.S a b; S = u.S }

-- S starts as zeros
unfoldable pub fresh : List ℤ → Arrays
fresh t = record { T = t; S = replicate 16 (pos 0) }
