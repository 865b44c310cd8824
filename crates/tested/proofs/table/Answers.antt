-- `tested::table` meets its contract: entry by entry it is the definitions' lists, by computation.
use mathlib.Core.Path.{refl}
use Rattle.whole.specs.Steps.{each, when}
use Rattle.primitives.specs.Brev.{Brev}
use Rattle.dct.specs.Dct.{steps2, steps3, steps4, steps5, steps6, steps7, tail_at, tail, dct_steps, dct_row}
use Rattle.adst.specs.Adst.{on_t, adst8_steps, adst16_steps, adst_steps}
use Rattle.wht.specs.Wht.{wht_row}
use Rattle.tested.specs.Line.{steps_of}
use Rattle.tested.specs.Inner.{among, known, step_of, ready, given, readies}
use Rattle.tested.proofs.table.Goals as goal

pub returns : goal.returns
unfolding given readies step_of ready known among Brev steps_of steps2 steps3 steps4 steps5 steps6 steps7 tail_at tail dct_steps dct_row each when on_t adst8_steps adst16_steps adst_steps wht_row
returns c =
    record {
      dct4 = record { steps = refl; fine = tt };
      dct8 = record { steps = refl; fine = tt };
      dct16 = record { steps = refl; fine = tt };
      dct32 = record { steps = refl; fine = tt };
      adst4 = record { steps = refl; fine = tt };
      adst8 = record { steps = refl; fine = tt };
      adst16 = record { steps = refl; fine = tt };
      wht_row = record { steps = refl; fine = tt };
      wht_column = record { steps = refl; fine = tt };
    }
