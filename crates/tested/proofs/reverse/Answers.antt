-- `tested::reverse` meets its contract: after i turns, one exchange for each number below i.
use mathlib.Core.Path.{◌≡◌, sym, ap, ◌∙◌}
use mathlib.Core.List.{List, [], ◌∷◌}
use Prim.Native.Nat.{ℕ, ◌^◌, ◌<◌}
use native.Mathlib.Omega.{arith}
use borrow.Author.Rules.{rules}
use lib.IntN.{ℤ, pos}
use lib.ListN.{length, get_or, set}
use Rattle.std.specs.List.{swap}
use Rattle.std.proofs.lemmas.List.{get_or_default}
use lib.Pow.{pow_mono}
use Rattle.primitives.specs.Brev.{Brev}
use Rattle.primitives.proofs.Reversal.{brev_lt}
use Rattle.flat.proofs.Exchange.{exchange, exchanges, exchanges_none, exchanges_more, exchange_taken, exchange_left, reversed}
use Rattle.tested.proofs.reverse.Goals as goal
use Rattle.tested.proofs.reverse.Goals.{After-brev-j, In-loop-i, Joined-i-j, else-i-j, then-i-j}

-- the place of a turn, and its reverse, are places of t
place : (c : In-loop-i) → c.loop-i.i < 32
place c = omega (arith, c.side-i-end.ensures.1, c.loop-i-test.true)

reverse : (c : After-brev-j) → c.brev-j.result < 32
reverse c =
    omega (arith, c.brev-j.ensures, brev_lt c.args.n c.loop-i.i, pow_mono {i = c.args.n} {j = 5} c.requires.1)

-- what the library's swap leaves, by place
swapped : (t : List ℤ) (i j : ℕ) → i < length t → j < length t → swap t i j ≡ set (set t i (get_or t j (pos 0))) j (get_or t i (pos 0))
swapped [] i j h k = absurd (omega arith)
swapped (d ∷ ys) i j h k = rw (get_or_default (d ∷ ys) j d (pos 0) k, get_or_default (d ∷ ys) i d (pos 0) h)

-- a turn, whichever way it went
turn : (c : Joined-i-j) → c.if-i-j.t ≡ exchange c.loop-i.i c.brev-j.result c.loop-i.t
turn c =
    let i = c.loop-i.i in
    let j = c.brev-j.result in
    let y = c.loop-i.t in
    let p = place c.before.before in
    let q = reverse c.before in
    elim c.if-i-j.branch [
      | then-i-j w ↦
          let a : i < length y = search rules in
          let b : j < length y = search rules in
          w.t-is ∙ w.swap.ensures.after ∙ swapped y i j a b ∙ sym (exchange_taken i j y w.if-i-j.true)
      | else-i-j w ↦ w.t-is ∙ sym (exchange_left i j y w.if-i-j.false)
    ]

pub loop-i-preserved : goal.loop-i-preserved
loop-i-preserved c =
    let f = Brev c.args.n in
    (omega arith, exchanges_more f c.args.t.now c.loop-i.i c.loop-i.invariant.1 (turn c ∙ ap (λ (m : ℕ). exchange c.loop-i.i m c.loop-i.t) c.brev-j.ensures))

pub returns : goal.returns
returns c =
    let e : c.loop-i.i ≡ 2 ^ c.args.n = omega (arith, c.side-i-end.ensures.0) in
    c.loop-i.invariant.1 ∙ ap (λ (m : ℕ). exchanges (Brev c.args.n) m c.args.t.now) e ∙ reversed c.args.n c.requires.1 c.args.t.now

pub loop-i-init : goal.loop-i-init
loop-i-init c = (omega arith, exchanges_none _ _)

pub swap-requires-clause-a_in_bounds : goal.swap-requires-clause-a_in_bounds
swap-requires-clause-a_in_bounds c = let h = place (goal.at.swap-requires-clause-a_in_bounds c).In-loop-i in search rules

pub swap-requires-clause-b_in_bounds : goal.swap-requires-clause-b_in_bounds
swap-requires-clause-b_in_bounds c = let h = reverse (goal.at.swap-requires-clause-b_in_bounds c).After-brev-j in search rules
