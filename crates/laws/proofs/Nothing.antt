-- A forward and an inverse that both do nothing fail the lossless law: a source of 1 on a prediction of 0 would show as 4.
use mathlib.Core.Path.{◌≡◌, refl}
use mathlib.Core.List.{[], ◌∷◌}
use Prim.Native.Nat.{ℕ, zero, suc, ◌≤◌}
use native.Mathlib.Omega.{arith}
use lib.IntN.{pos}
use lib.ListN.{get_or}
use Rattle.whole.specs.Lists.{tabulate}
use Rattle.answers.specs.Bad.{bad_depth}
use Rattle.quant.specs.Places.{quantizer_at, dequant_all}
use Rattle.quant.specs.Token.{dequant}
use Rattle.plane.specs.Plane.{inside, sample_after, plane_after}
use Rattle.laws.specs.Lossless.{Coded, place_in, Lossless, differences_of, shown_by_nothing}
use Rattle.laws.proofs.Lossless.{codeable_source}

-- a plane of one sample
smallest : Coded
smallest =
    record {
      samples = 0 ∷ [];
      plane = record { width = 1; height = 1; stride = 1 };
      x = 0;
      y = 0;
      dc = record { 0 = pos 4 };
      ac = record { 0 = pos 4 };
      tx_type = 0;
      depth = 8;
      source = λ i j. 1;
      differences = differences_of (record { width = 1; height = 1; stride = 1 }) (0 ∷ []) 0 0 (λ i j. 1);
    }

dark : (k : ℕ) → get_or (0 ∷ []) k 0 ≤ 255
dark zero = omega arith
dark (suc k) = omega arith

coded : Lossless smallest
unfolding smallest bad_depth
coded = codeable_source smallest refl (record { wide = omega arith; long = omega arith; high = omega arith; all = refl }) refl refl (λ i j h. omega arith) (λ i j h. dark (place_in smallest i j)) refl

four : get_or (shown_by_nothing smallest) (place_in smallest 0 0) 0 ≡ 4
unfolding smallest shown_by_nothing plane_after sample_after inside dequant_all quantizer_at dequant differences_of tabulate
four = refl

pub do_nothing_fails : (c : Coded) × Lossless c × (get_or (shown_by_nothing c) (place_in c 0 0) 0 ≡ c.source 0 0 → ⊥)
unfolding smallest
do_nothing_fails = (smallest, coded, λ e. omega (arith, four))
