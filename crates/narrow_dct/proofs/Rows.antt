-- The DCT of a line is its pieces, one after the other; where the line stays within 16 bits, every piece may be called.
use mathlib.Core.Path.{◌≡◌, refl}
use mathlib.Core.Bool.{true}
use mathlib.Core.List.{List, []}
use Prim.Native.Nat.{ℕ, ◌^◌, ◌≤◌}
use lib.Dec.{T, lit≤}
use lib.IntN.{ℤ}
use lib.ListN.{length, drop}
use Rattle.whole.specs.Steps.{run, each, when}
use Rattle.whole.specs.Inner.{Ok}
use Rattle.primitives.specs.Brev.{Brev}
use Rattle.steps.specs.Step.{Step, step}
use Rattle.steps.proofs.Places.{every}
use Rattle.dct.specs.Dct.{dct, dct_row, dct_steps, tail, tail_at, steps2, steps3, steps4, steps5, steps6, steps7}
use Rattle.flat.proofs.Straight.{Done, joined, begin_pieces, end_pieces}
use Rattle.narrow.specs.Kept.{kept}
use Rattle.narrow.specs.Inner.{Fine16}
use Rattle.narrow.proofs.Kept.{placed, kept_ok}
use Rattle.narrow_dct.specs.Inner.{first4, last4, turns5, first5, next5, last5, sums5, pieces8, pieces16, pieces32}

-- the places of the steps are places of the line, two of a step are not the same
placed8 : T (every (placed 8) (dct_row 3))
unfolding every placed dct_row dct_steps tail tail_at steps2 steps3 steps4 steps5 steps6 steps7 each when Brev
placed8 = tt

placed16 : T (every (placed 16) (dct_row 4))
unfolding every placed dct_row dct_steps tail tail_at steps2 steps3 steps4 steps5 steps6 steps7 each when Brev
placed16 = tt

placed32 : T (every (placed 32) (dct_row 5))
unfolding every placed dct_row dct_steps tail tail_at steps2 steps3 steps4 steps5 steps6 steps7 each when Brev
placed32 = tt

-- the pieces are the DCT of 2^n numbers
pub record Cut (n : ℕ) (pieces : List (List Step)) : Type 0 where
  pub low : 2 ^ n ≤ 32
  pub whole : dct_row n ≡ joined pieces
  pub places : T (every (placed (2 ^ n)) (dct_row n))

pub cut8 : Cut 3 pieces8
unfolding joined dct_row dct_steps tail tail_at steps2 steps3 steps4 steps5 steps6 steps7 each when Brev
cut8 = record { low = lit≤ tt; whole = refl; places = placed8 }

pub cut16 : Cut 4 pieces16
unfolding joined dct_row dct_steps tail tail_at steps2 steps3 steps4 steps5 steps6 steps7 each when Brev first4 last4
cut16 = record { low = lit≤ tt; whole = refl; places = placed16 }

pub cut32 : Cut 5 pieces32
unfolding joined dct_row dct_steps tail tail_at steps2 steps3 steps4 steps5 steps6 steps7 each when Brev first4 last4 turns5 first5 next5 last5 sums5
cut32 = record { low = lit≤ tt; whole = refl; places = placed32 }

-- k pieces are called
abbrev pub Called : List (List Step) → ℕ → Type 0
Called pieces k = Done (run step) (Ok step Fine16) pieces k

module _ {n : ℕ} {pieces : List (List Step)} (cut : Cut n pieces) where
  abbrev pub dct_begin : (t : List ℤ) → 2 ^ n ≤ length t → kept (2 ^ n) (dct_row n) t ≡ true → Called pieces 0
  dct_begin t m k = begin_pieces cut.whole t (kept_ok (2 ^ n) cut.low (dct_row n) t cut.places m k)

  pub dct_end : {k : ℕ} (d : Called pieces k) → drop k pieces ≡ [] → d.here ≡ dct n d.start
  unfolding dct
  dct_end d e = end_pieces cut.whole d e
