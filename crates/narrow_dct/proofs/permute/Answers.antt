-- `narrow_dct::permute` meets its contract: after a groups of k and b turns more, one exchange for each number below k a + b.
use mathlib.Core.Path.{◌≡◌, sym, ap, ◌∙◌}
use mathlib.Core.List.{List, [], ◌∷◌}
use Prim.Native.Nat.{ℕ, ◌+◌, ◌*◌, ◌<◌}
use native.Mathlib.Nat as NatL
use native.Mathlib.Omega.{arith}
use lib.IntN.{ℤ, pos}
use lib.ListN.{length, get_or, set}
use lib.Pow.{pow_mono}
use Rattle.std.specs.List.{swap}
use Rattle.std.proofs.lemmas.List.{get_or_default}
use Rattle.primitives.specs.Brev.{Brev}
use Rattle.primitives.proofs.Reversal.{brev_lt}
use Rattle.flat.proofs.Exchange.{exchange, exchanges, exchanges_none, exchanges_more, exchange_taken, exchange_left, reversed, inside, group}
use Rattle.narrow_dct.proofs.permute.Goals as goal
use Rattle.narrow_dct.proofs.permute.Goals.{After-brev-j, In-loop-b, Joined-i-j, else-i-j, then-i-j}

-- the place of a turn, and its reverse, are places of t
place : (c : In-loop-b) → c.args.k * c.loop-a.a + c.loop-b.b < 32
place c =
    omega (
      arith,
      inside c.args.h c.args.k c.loop-a.a c.loop-b.b (omega arith) (omega arith),
      c.requires.1,
      pow_mono {i = c.args.n} {j = 5} c.requires.0,
    )

reverse : (c : After-brev-j) → c.brev-j.result < 32
reverse c =
    omega (arith, c.brev-j.ensures, brev_lt c.args.n (c.args.k * c.loop-a.a + c.loop-b.b), pow_mono {i = c.args.n} {j = 5} c.requires.0)

pub loop-a-init : goal.loop-a-init
loop-a-init c = (
  omega arith,
  c.told-t,
  exchanges_none (Brev c.args.n) c.args.t.now ∙ ap (λ (m : ℕ). exchanges (Brev c.args.n) m c.args.t.now) (sym (NatL.mul-zero c.args.k)),
)

pub loop-b-init : goal.loop-b-init
loop-b-init c =
    let m = c.args.k * c.loop-a.a in
    (omega arith, c.loop-a.invariant.1, λ u e. e ∙ ap (λ (m : ℕ). exchanges (Brev c.args.n) m u) (sym (NatL.add-zero m)))

pub overflow_mul-i : goal.overflow_mul-i
overflow_mul-i c = omega (arith, place c)

pub overflow_add-i : goal.overflow_add-i
overflow_add-i c = omega (arith, place c)

pub swap-requires-clause-a_in_bounds : goal.swap-requires-clause-a_in_bounds
swap-requires-clause-a_in_bounds c = omega (arith, place c.before.before.before)

pub swap-requires-clause-b_in_bounds : goal.swap-requires-clause-b_in_bounds
swap-requires-clause-b_in_bounds c = omega (arith, reverse c.before.before)

-- the library's exchange is ours
swapped : (t : List ℤ) (i j : ℕ) → i < length t → j < length t → swap t i j ≡ set (set t i (get_or t j (pos 0))) j (get_or t i (pos 0))
swapped [] i j li lj = absurd (omega arith)
swapped (d ∷ ys) i j li lj = rw (get_or_default (d ∷ ys) j d (pos 0) lj, get_or_default (d ∷ ys) i d (pos 0) li)

-- a turn, whichever way it went
turn : (c : Joined-i-j) → c.if-i-j.t ≡ exchange (c.args.k * c.loop-a.a + c.loop-b.b) c.brev-j.result c.loop-b.t
turn c =
    let i = c.args.k * c.loop-a.a + c.loop-b.b in
    let j = c.brev-j.result in
    let y = c.loop-b.t in
    elim c.if-i-j.branch [
      | then-i-j w ↦ w.t-is ∙ w.swap.ensures.after
          ∙ swapped y i j (omega (arith, place c.before.before)) (omega (arith, reverse c.before))
          ∙ sym (exchange_taken i j y w.if-i-j.true)
      | else-i-j w ↦ w.t-is ∙ sym (exchange_left i j y w.if-i-j.false)
    ]

long : (c : Joined-i-j) → length c.if-i-j.t ≡ 32
long c = elim c.if-i-j.branch [ then-i-j w ↦ ap length w.t-is ∙ w.swap.ensures.len ∙ c.loop-b.invariant.1 | else-i-j w ↦ ap length w.t-is ∙ c.loop-b.invariant.1 ]

pub loop-b-preserved : goal.loop-b-preserved
loop-b-preserved c =
    let f = Brev c.args.n in
    let i = c.args.k * c.loop-a.a + c.loop-b.b in (
      omega arith,
      long c,
      λ u e.
          exchanges_more f u i (c.loop-b.invariant.2 u e) (turn c ∙ ap (λ (m : ℕ). exchange i m c.loop-b.t) c.brev-j.ensures)
          ∙ ap (λ (m : ℕ). exchanges f m u) (omega arith),
    )

pub loop-a-preserved : goal.loop-a-preserved
loop-a-preserved c = (
  omega arith,
  c.loop-b.invariant.1,
  c.loop-b.invariant.2 c.args.t.now c.loop-a.invariant.2
      ∙ ap (λ (m : ℕ). exchanges (Brev c.args.n) m c.args.t.now) (group c.args.k c.loop-a.a c.loop-b.b (omega arith) (omega arith)),
)

pub returns : goal.returns
returns c =
    let e : c.loop-a.a ≡ c.args.h = omega arith in
    c.loop-a.invariant.2
    ∙ ap (λ (m : ℕ). exchanges (Brev c.args.n) m c.args.t.now)
    (NatL.mul_comm c.args.k c.loop-a.a ∙ ap (λ (m : ℕ). m * c.args.k) e ∙ c.requires.1)
    ∙ reversed c.args.n c.requires.0 c.args.t.now
