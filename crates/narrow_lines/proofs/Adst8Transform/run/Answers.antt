-- `run` of `Adst8` meets its contract: its calls are the pieces of the transform.
use mathlib.Core.Path.{◌≡◌, refl}
use mathlib.Core.List.{List, [], ◌∷◌}
use Prim.Native.Nat.{ℕ, ◌^◌, ◌≤◌}
use lib.Dec.{lit<, lit≤}
use lib.IntN.{ℤ}
use lib.ListN.{length}
use Rattle.whole.specs.Steps.{run}
use Rattle.steps.specs.Step.{Move, step}
use Rattle.steps.specs.Step2.{step2}
use Rattle.adst.specs.Adst.{adst_in}
use Rattle.adst.specs.Inner.{arrays}
use Rattle.blocks.specs.Inverse.{Adst, apply}
use Rattle.flat.proofs.Straight.{call, next, alone}
use Rattle.weights.specs.Inner.{Keeps}
use Rattle.narrow_adst.specs.Inner.{first8, next8, last8, pieces8}
use Rattle.narrow_adst.proofs.Rows.{Called, cut8, adst_begin, adst_end, call_T, next_T}
use Rattle.narrow_lines.proofs.Adst8Transform.run.Goals as goal

-- after k pieces
abbrev At : ℕ → Type 0
At k = Called pieces8 k

module _ (t : List ℤ) (long : 2 ^ 3 ≤ length t) (keeps : Keeps Adst 3 t) where
  abbrev at0 : At 0
  at0 = adst_begin cut8 t long keeps

  module _ (t1 : List ℤ) (e1 : t1 ≡ step (Move 8 (adst_in 3)) t) where
    abbrev at1 : At 1
    at1 = next_T (Move 8 (adst_in 3) ∷ []) at0 (lit< tt) refl (alone step e1)

    module _ (t2 s2 : List ℤ) (e2 : arrays t2 s2 ≡ run step2 first8 at1.here) where
      abbrev at2 : At 2
      at2 = next [] at1 (lit< tt) e2

      module _ (t3 s3 : List ℤ) (e3 : arrays t3 s3 ≡ run step2 next8 at2.here) where
        abbrev at3 : At 3
        at3 = next [] at2 (lit< tt) e3

        module _ (t4 : List ℤ) (e4 : t4 ≡ run step last8 at3.here.T) where
          abbrev at4 : At 4
          at4 = next_T last8 at3 (lit< tt) refl e4

pub adst8_first-requires : goal.adst8_first-requires
adst8_first-requires g c = call [] (at1 c.args.t.now (rw c.told-t (lit≤ tt)) c.requires c.permute.new.t c.permute.ensures) (lit< tt)

pub adst8_next-requires : goal.adst8_next-requires
adst8_next-requires g c = call [] (at2 c.args.t.now (rw c.told-t (lit≤ tt)) c.requires c.permute.new.t c.permute.ensures c.adst8_first.new.t c.adst8_first.new.s c.adst8_first.ensures) (lit< tt)

pub adst8_last-requires : goal.adst8_last-requires
adst8_last-requires g c = call_T last8 (at3 c.args.t.now (rw c.told-t (lit≤ tt)) c.requires c.permute.new.t c.permute.ensures c.adst8_first.new.t c.adst8_first.new.s c.adst8_first.ensures c.adst8_next.new.t c.adst8_next.new.s c.adst8_next.ensures) (lit< tt) refl

pub returns : goal.returns
unfolding apply
returns g c = adst_end cut8 (at4 c.args.t.now (rw c.told-t (lit≤ tt)) c.requires c.permute.new.t c.permute.ensures c.adst8_first.new.t c.adst8_first.new.s c.adst8_first.ensures c.adst8_next.new.t c.adst8_next.new.s c.adst8_next.ensures c.adst8_last.new.t c.adst8_last.ensures) refl c.args.t.now refl
