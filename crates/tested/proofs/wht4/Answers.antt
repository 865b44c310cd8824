-- `tested::wht4` meets its contract.
use mathlib.Core.Path.{◌≡◌, ap, ◌∙◌}
use Prim.Native.Nat.{ℕ, ◌^◌}
use lib.Dec.{lit<}
use Rattle.std.specs.Prelude.{is_ok as was_ok}
use lib.IntN.{ℤ, pos}
use lib.ListN.{get_or}
use lib.Signed.{shr_z}
use mir.Syntax.{w32}
use Rattle.whole.proofs.Signed.{is_ok, is_rd}
use Rattle.steps.specs.Step.{step, wht4}
use Rattle.narrow.specs.Inner.{fits}
use Rattle.narrow.proofs.Locals.{read}
use Rattle.tested.proofs.Four as four
use Rattle.tested.proofs.Four.{four_stops, four_told, same_four, wht0, wht1, wht2, wht3}
use Rattle.tested.proofs.Answers.{left, gone, stayed}
use Rattle.tested.proofs.wht4.Goals as goal
use Rattle.tested.proofs.wht4.Goals.{After-wide-4}

module _ (c : After-wide-4) where
  abbrev k : ℕ
  k = c.args.shift

  v0 : c.wide.result ≡ get_or c.args.t.now 0 (pos 0)
  v0 = read c.wide-arg-1.given c.wide.ensures.0

  v1 : c.wide-2.result ≡ get_or c.args.t.now 1 (pos 0)
  v1 = read c.wide-arg-2-1.given c.wide-2.ensures.0

  v2 : c.wide-3.result ≡ get_or c.args.t.now 2 (pos 0)
  v2 = read c.wide-arg-3-1.given c.wide-3.ensures.0

  v3 : c.wide-4.result ≡ get_or c.args.t.now 3 (pos 0)
  v3 = read c.wide-arg-4-1.given c.wide-4.ensures.0

  -- the line's own numbers, after the shift
  abbrev of : (ℤ → ℤ → ℤ → ℤ → ℤ) → ℤ
  of f =
      let t = c.args.t.now in
      f (shr_z (get_or t 0 (pos 0)) (2 ^ k)) (shr_z (get_or t 1 (pos 0)) (2 ^ k)) (shr_z (get_or t 2 (pos 0)) (2 ^ k)) (shr_z (get_or t 3 (pos 0)) (2 ^ k))

  abbrev at : (ℤ → ℤ → ℤ → ℤ → ℤ) → ℤ
  at f = f (shr_z c.wide.result (2 ^ k)) (shr_z c.wide-2.result (2 ^ k)) (shr_z c.wide-3.result (2 ^ k)) (shr_z c.wide-4.result (2 ^ k))

  same : (f : ℤ → ℤ → ℤ → ℤ → ℤ) → at f ≡ of f
  same f = let down : ℤ → ℤ = λ z. shr_z z (2 ^ k) in same_four f (ap down v0) (ap down v1) (ap down v2) (ap down v3)

pub returns-in_err-put : goal.returns-in_err-put
unfolding fits step wht4
returns-in_err-put c =
    rw (gone c.from_residual.result c.from_residual.ensures.0) (four_stops c.args.t.now c.requires.1 (of c.before.before.before.before.before wht0) (of c.before.before.before.before.before wht1) (of c.before.before.before.before.before wht2) (of c.before.before.before.before.before wht3) (rw ((is_rd w32 (lit< tt) (four.a_is (k c.before.before.before.before.before) c.wide.ensures.1 c.wide-2.ensures.1 c.wide-3.ensures.1 c.wide-4.ensures.1)).eq ∙ same c.before.before.before.before.before wht0, (is_rd w32 (lit< tt) (four.b_is (k c.before.before.before.before.before) c.wide.ensures.1 c.wide-2.ensures.1 c.wide-3.ensures.1 c.wide-4.ensures.1)).eq ∙ same c.before.before.before.before.before wht1) at c.put.ensures.0) (left c.in_err-put.was))

pub returns : goal.returns
unfolding fits step wht4
returns c =
    let e0 = (is_rd w32 (lit< tt) (four.a_is (k c.before.before.before.before.before.before) c.wide.ensures.1 c.wide-2.ensures.1 c.wide-3.ensures.1 c.wide-4.ensures.1)).eq ∙ same c.before.before.before.before.before.before wht0 in
    let e1 = (is_rd w32 (lit< tt) (four.b_is (k c.before.before.before.before.before.before) c.wide.ensures.1 c.wide-2.ensures.1 c.wide-3.ensures.1 c.wide-4.ensures.1)).eq ∙ same c.before.before.before.before.before.before wht1 in
    let e2 = (is_rd w32 (lit< tt) (four.c_is (k c.before.before.before.before.before.before) c.wide.ensures.1 c.wide-2.ensures.1 c.wide-3.ensures.1 c.wide-4.ensures.1)).eq ∙ same c.before.before.before.before.before.before wht2 in
    let e3 = (is_rd w32 (lit< tt) (four.d_is (k c.before.before.before.before.before.before) c.wide.ensures.1 c.wide-2.ensures.1 c.wide-3.ensures.1 c.wide-4.ensures.1)).eq ∙ same c.before.before.before.before.before.before wht3 in
    four_told c.args.t.now c.requires.1 (of c.before.before.before.before.before.before wht0) (of c.before.before.before.before.before.before wht1) (of c.before.before.before.before.before.before wht2) (of c.before.before.before.before.before.before wht3) (rw (e0, e1) at c.put.ensures.0) (stayed c.in_ok-put.was)
    (rw (e0, e1) at (c.put.ensures.1 (ap was_ok c.in_ok-put.was))) (rw (e3, e2) at c.put-2.ensures.0, λ k. rw (e3, e2) at (c.put-2.ensures.1 k))

pub overflow_add-a : goal.overflow_add-a
overflow_add-a c = is_ok w32 (lit< tt) (four.p_is (k c) c.wide.ensures.1 c.wide-2.ensures.1 c.wide-3.ensures.1 c.wide-4.ensures.1)

pub overflow_sub-d : goal.overflow_sub-d
overflow_sub-d c = is_ok w32 (lit< tt) (four.q_is (k c) c.wide.ensures.1 c.wide-2.ensures.1 c.wide-3.ensures.1 c.wide-4.ensures.1)

pub overflow_sub-e : goal.overflow_sub-e
overflow_sub-e c = is_ok w32 (lit< tt) (four.s_is (k c) c.wide.ensures.1 c.wide-2.ensures.1 c.wide-3.ensures.1 c.wide-4.ensures.1)

pub overflow_sub-b : goal.overflow_sub-b
overflow_sub-b c = is_ok w32 (lit< tt) (four.b_is (k c) c.wide.ensures.1 c.wide-2.ensures.1 c.wide-3.ensures.1 c.wide-4.ensures.1)

pub overflow_sub-c : goal.overflow_sub-c
overflow_sub-c c = is_ok w32 (lit< tt) (four.c_is (k c) c.wide.ensures.1 c.wide-2.ensures.1 c.wide-3.ensures.1 c.wide-4.ensures.1)

pub overflow_sub-a : goal.overflow_sub-a
overflow_sub-a c = is_ok w32 (lit< tt) (four.a_is (k c) c.wide.ensures.1 c.wide-2.ensures.1 c.wide-3.ensures.1 c.wide-4.ensures.1)

pub overflow_add-d : goal.overflow_add-d
overflow_add-d c = is_ok w32 (lit< tt) (four.d_is (k c) c.wide.ensures.1 c.wide-2.ensures.1 c.wide-3.ensures.1 c.wide-4.ensures.1)
