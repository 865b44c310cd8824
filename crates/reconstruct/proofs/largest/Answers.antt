-- `reconstruct::largest` meets its contract.
use mathlib.Core.Path.{◌≡◌, refl}
use Prim.Native.Nat.{ℕ}
use Rattle.answers.proofs.Passed.{by_depth}
use Rattle.reconstruct.specs.Reconstruct.{largest}
use Rattle.reconstruct.proofs.largest.Goals as goal

pub returns-in_default : goal.returns-in_default
returns-in_default c =
    by_depth (λ (d : ℕ). (d ≡ 8 → ⊥) → (d ≡ 10 → ⊥) → 4095 ≡ largest d) (λ a b. absurd (a refl)) (λ a b. absurd (b refl)) (λ a b. refl)
    c.args.depth c.requires c.in_default.in_default-own.rest.0.1 c.in_default.in_default-own.rest.1

pub returns-in-8 : goal.returns-in-8
returns-in-8 c = rw c.in-8.is

pub returns-in-10 : goal.returns-in-10
returns-in-10 c = rw c.in-10.is
