-- `run` of `Adst16` meets its contract: its calls are the pieces of the transform.
use mathlib.Core.Path.{◌≡◌, refl}
use mathlib.Core.List.{List, [], ◌∷◌}
use Prim.Native.Nat.{ℕ, ◌^◌, ◌≤◌}
use lib.Dec.{lit<, lit≤}
use lib.IntN.{ℤ}
use lib.ListN.{length}
use Rattle.whole.specs.Steps.{run}
use Rattle.steps.specs.Step.{Move, step}
use Rattle.steps.specs.Step2.{step2}
use Rattle.adst.specs.Adst.{adst_in}
use Rattle.adst.specs.Inner.{arrays}
use Rattle.blocks.specs.Inverse.{Adst, apply}
use Rattle.flat.proofs.Straight.{call, next, alone}
use Rattle.weights.specs.Inner.{Keeps}
use Rattle.narrow_adst.specs.Inner.{turns16, first16, next16, more16, last16, pieces16}
use Rattle.narrow_adst.proofs.Rows.{Called, cut16, adst_begin, adst_end, call_T, next_T}
use Rattle.narrow_lines.proofs.Adst16Transform.run.Goals as goal

-- after k pieces
abbrev At : ℕ → Type 0
At k = Called pieces16 k

module _ (t : List ℤ) (long : 2 ^ 4 ≤ length t) (keeps : Keeps Adst 4 t) where
  abbrev at0 : At 0
  at0 = adst_begin cut16 t long keeps

  module _ (t1 : List ℤ) (e1 : t1 ≡ step (Move 16 (adst_in 4)) t) where
    abbrev at1 : At 1
    at1 = next_T (Move 16 (adst_in 4) ∷ []) at0 (lit< tt) refl (alone step e1)

    module _ (t2 s2 : List ℤ) (e2 : arrays t2 s2 ≡ run step2 turns16 at1.here) where
      abbrev at2 : At 2
      at2 = next [] at1 (lit< tt) e2

      module _ (t3 s3 : List ℤ) (e3 : arrays t3 s3 ≡ run step2 first16 at2.here) where
        abbrev at3 : At 3
        at3 = next [] at2 (lit< tt) e3

        module _ (t4 s4 : List ℤ) (e4 : arrays t4 s4 ≡ run step2 next16 at3.here) where
          abbrev at4 : At 4
          at4 = next [] at3 (lit< tt) e4

          module _ (t5 s5 : List ℤ) (e5 : arrays t5 s5 ≡ run step2 more16 at4.here) where
            abbrev at5 : At 5
            at5 = next [] at4 (lit< tt) e5

            module _ (t6 : List ℤ) (e6 : t6 ≡ run step last16 at5.here.T) where
              abbrev at6 : At 6
              at6 = next_T last16 at5 (lit< tt) refl e6

pub adst16_turns-requires : goal.adst16_turns-requires
adst16_turns-requires g c = call [] (at1 c.args.t.now (rw c.told-t (lit≤ tt)) c.requires c.permute.new.t c.permute.ensures) (lit< tt)

pub adst16_first-requires : goal.adst16_first-requires
adst16_first-requires g c = call [] (at2 c.args.t.now (rw c.told-t (lit≤ tt)) c.requires c.permute.new.t c.permute.ensures c.permute.new.t c.adst16_turns.new.s c.adst16_turns.ensures) (lit< tt)

pub adst16_next-requires : goal.adst16_next-requires
adst16_next-requires g c = call [] (at3 c.args.t.now (rw c.told-t (lit≤ tt)) c.requires c.permute.new.t c.permute.ensures c.permute.new.t c.adst16_turns.new.s c.adst16_turns.ensures c.adst16_first.new.t c.adst16_turns.new.s c.adst16_first.ensures) (lit< tt)

pub adst16_more-requires : goal.adst16_more-requires
adst16_more-requires g c = call [] (at4 c.args.t.now (rw c.told-t (lit≤ tt)) c.requires c.permute.new.t c.permute.ensures c.permute.new.t c.adst16_turns.new.s c.adst16_turns.ensures c.adst16_first.new.t c.adst16_turns.new.s c.adst16_first.ensures c.adst16_next.new.t c.adst16_next.new.s c.adst16_next.ensures) (lit< tt)

pub adst16_last-requires : goal.adst16_last-requires
adst16_last-requires g c = call_T last16 (at5 c.args.t.now (rw c.told-t (lit≤ tt)) c.requires c.permute.new.t c.permute.ensures c.permute.new.t c.adst16_turns.new.s c.adst16_turns.ensures c.adst16_first.new.t c.adst16_turns.new.s c.adst16_first.ensures c.adst16_next.new.t c.adst16_next.new.s c.adst16_next.ensures c.adst16_more.new.t c.adst16_more.new.s c.adst16_more.ensures) (lit< tt) refl

pub returns : goal.returns
unfolding apply
returns g c = adst_end cut16 (at6 c.args.t.now (rw c.told-t (lit≤ tt)) c.requires c.permute.new.t c.permute.ensures c.permute.new.t c.adst16_turns.new.s c.adst16_turns.ensures c.adst16_first.new.t c.adst16_turns.new.s c.adst16_first.ensures c.adst16_next.new.t c.adst16_next.new.s c.adst16_next.ensures c.adst16_more.new.t c.adst16_more.new.s c.adst16_more.ensures c.adst16_last.new.t c.adst16_last.ensures) refl c.args.t.now refl
