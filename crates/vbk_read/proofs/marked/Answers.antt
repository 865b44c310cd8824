use mathlib.Core.Path.{◌≡◌, refl, sym, ◌∙◌}
use mathlib.Core.Bool.{Bool, true, false, ◌&&◌}
use mathlib.Core.List.{List, [], ◌∷◌}
use Prim.Native.Nat.{ℕ, ◌≤◌}
use native.Mathlib.Omega.{arith}
use native.Mathlib.Decide.{ℕ_discrete}
use borrow.Author.Tests.{ne_eqb}
use lib.Dec.{eqb}
use lib.ListN.{length}
use Rattle.std.specs.List.{starts_with}
use Rattle.vbk_read.specs.Header.{marked}
use Rattle.vbk_read.proofs.marked.Goals as goal

flip : (a b : ℕ) → eqb a b ≡ eqb b a
flip a b = go (ℕ_discrete a b)
  where
    go : Dec (a ≡ b) → eqb a b ≡ eqb b a
    go (yes e) = rw e
    go (no n) = rw (ne_eqb a b n, ne_eqb b a (λ q. n (sym q)))

and_true : (a b c : Bool) → a && (b && (c && true)) ≡ a && (b && c)
and_true true true true = refl
and_true true true false = refl
and_true true false c = refl
and_true false b c = refl

front : (s : List ℕ) → 3 ≤ length s → starts_with eqb s (86 ∷ 66 ∷ 75 ∷ []) ≡ marked s
unfolding marked
front [] h = absurd (omega arith)
front (a ∷ []) h = absurd (omega arith)
front (a ∷ b ∷ []) h = absurd (omega arith)
front (a ∷ b ∷ c ∷ r) h = rw (flip 86 a, flip 66 b, flip 75 c) (and_true (eqb a 86) (eqb b 66) (eqb c 75))

pub returns : goal.returns
returns c = c.starts_with.ensures.value ∙ front c.args.s.now c.requires
