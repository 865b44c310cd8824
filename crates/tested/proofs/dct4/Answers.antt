-- `tested::dct4` meets its contract: step after step, as far as each has kept.
use mathlib.Core.Path.{◌≡◌, refl, sym}
use mathlib.Core.Bool.{true, false}
use mathlib.Core.List.{List}
use Prim.Native.Nat.{ℕ, ◌≤◌, ◌^◌}
use lib.Dec.{lit≤, lit<}
use lib.IntN.{ℤ, pos}
use lib.ListN.{length, replicate}
use borrow.Author.Rules.{rules}
use Rattle.whole.specs.Steps.{each, when}
use Rattle.primitives.specs.Brev.{Brev}
use Rattle.steps.specs.Step.{Bf, Hd, Move, step}
use Rattle.dct.specs.Dct.{steps2, steps3, steps4, steps5, steps6, steps7, tail_at, tail, dct_steps, dct_row}
use Rattle.adst.specs.Adst.{on_t}
use Rattle.narrow.specs.Kept.{shorts}
use Rattle.narrow.proofs.Safe.{free_move}
use Rattle.blocks.specs.Inverse as I
use Rattle.tested.specs.Line.{Sized, steps_of}
use Rattle.tested.specs.Inner.{among, known}
use Rattle.tested.specs.declared.Kind.TheVariants.{Dct}
use Rattle.tested.proofs.Going.{Going, Nth, going_begin, on_next, on_stop, on_last}
use Rattle.tested.proofs.Answers.{left, gone, stayed}
use Rattle.tested.proofs.dct4.Goals as goal
use Rattle.tested.proofs.dct4.Goals.{After-reverse, In_ok-sums, In_ok-turn, In_ok-turn-2}

-- ---- the five steps
nth0 : Nth I.Dct 2 0 (Move (2 ^ 2) (Brev 2))
unfolding Brev steps_of steps2 steps3 steps4 steps5 steps6 steps7 tail_at tail dct_steps dct_row each when on_t
nth0 = record { within = lit< tt; is = refl }

nth1 : Nth I.Dct 2 1 (Bf 0 1 (pos 16) true)
unfolding Brev steps_of steps2 steps3 steps4 steps5 steps6 steps7 tail_at tail dct_steps dct_row each when on_t
nth1 = record { within = lit< tt; is = refl }

nth2 : Nth I.Dct 2 2 (Bf 2 3 (pos 24) false)
unfolding Brev steps_of steps2 steps3 steps4 steps5 steps6 steps7 tail_at tail dct_steps dct_row each when on_t
nth2 = record { within = lit< tt; is = refl }

nth3 : Nth I.Dct 2 3 (Hd 0 3 false)
unfolding Brev steps_of steps2 steps3 steps4 steps5 steps6 steps7 tail_at tail dct_steps dct_row each when on_t
nth3 = record { within = lit< tt; is = refl }

nth4 : Nth I.Dct 2 4 (Hd 1 2 false)
unfolding Brev steps_of steps2 steps3 steps4 steps5 steps6 steps7 tail_at tail dct_steps dct_row each when on_t
nth4 = record { within = lit< tt; is = refl }

no_more : length (steps_of I.Dct 2) ≤ 5
unfolding Brev steps_of steps2 steps3 steps4 steps5 steps6 steps7 tail_at tail dct_steps dct_row each when on_t
no_more = lit≤ tt

sized : Sized Dct 2
sized = (lit≤ tt, lit≤ tt)

-- ---- after each
abbrev After : ℕ → List ℤ → List ℤ → Type 0
After i t₀ t = Going I.Dct 2 t₀ i t (replicate 16 (pos 0))

moved : {t₀ t : List ℤ} → 4 ≤ length t₀ → shorts 4 t₀ ≡ true → t ≡ step (Move (2 ^ 2) (Brev 2)) t₀ → After 1 t₀ t
moved {t₀} m e o = on_next Dct 2 sized (going_begin Dct 2 t₀ sized m e) nth0 (sym (free_move (2 ^ 2) (Brev 2) t₀), λ _. o) refl

after1 : (c : After-reverse) → After 1 c.args.t.now c.reverse.new.t
after1 c = moved c.requires.0 c.requires.1 c.reverse.ensures

after2 : (c : In_ok-turn) → After 2 c.args.t.now c.turn.new.t
after2 c = on_next Dct 2 sized (after1 c.before.before.before.before) nth1 c.turn.ensures (stayed c.in_ok-turn.was)

after3 : (c : In_ok-turn-2) → After 3 c.args.t.now c.turn-2.new.t
after3 c = on_next Dct 2 sized (after2 c.before.before.before.before) nth2 c.turn-2.ensures (stayed c.in_ok-turn-2.was)

after4 : (c : In_ok-sums) → After 4 c.args.t.now c.sums.new.t
after4 c = on_next Dct 2 sized (after3 c.before.before.before.before) nth3 c.sums.ensures (stayed c.in_ok-sums.was)

pub returns-in_err-turn : goal.returns-in_err-turn
returns-in_err-turn c = rw (gone c.from_residual.result c.from_residual.ensures.0) (on_stop Dct 2 sized (after1 c.before.before.before.before.before) nth1 c.turn.ensures (left c.in_err-turn.was))

pub returns-in_err-turn-2 : goal.returns-in_err-turn-2
returns-in_err-turn-2 c = rw (gone c.from_residual-in_err-turn-2.result c.from_residual-in_err-turn-2.ensures.0) (on_stop Dct 2 sized (after2 c.before.before.before.before.before) nth2 c.turn-2.ensures (left c.in_err-turn-2.was))

pub returns-in_err-sums : goal.returns-in_err-sums
returns-in_err-sums c = rw (gone c.from_residual-in_err-sums.result c.from_residual-in_err-sums.ensures.0) (on_stop Dct 2 sized (after3 c.before.before.before.before.before) nth3 c.sums.ensures (left c.in_err-sums.was))

pub returns : goal.returns
returns c = on_last Dct 2 sized (after4 c.before.before) nth4 _ c.sums-2.ensures no_more

pub turn-requires : goal.turn-requires
unfolding known among
turn-requires c = search rules

pub turn-requires-2 : goal.turn-requires-2
unfolding known among
turn-requires-2 c = search rules
