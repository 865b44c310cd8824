-- `tested::sums` meets its contract.
use mathlib.Core.Path.{◌≡◌, ap₂, ◌∙◌}
use lib.IntN.{ℤ, pos, ◌+ℤ◌, ◌-ℤ◌}
use lib.ListN.{get_or}
use mir.Syntax.{w32}
use Rattle.whole.proofs.Signed.{C, loc, ◌⊕◌, ◌⊖◌, code, fits as room, value}
use Rattle.primitives.specs.Rotations.{apply_h, set_pair}
use Rattle.steps.specs.Step.{step}
use Rattle.narrow.specs.Inner.{fits, fits_h}
use Rattle.narrow.proofs.Locals.{read}
use Rattle.tested.proofs.sums.Goals as goal
use Rattle.tested.proofs.sums.Goals.{After-wide-p, After-wide-q}

p_is : (c : After-wide-p) → c.wide-p.result ≡ get_or c.args.t.now c.args.a (pos 0)
p_is c = read c.wide-arg-1.given c.wide-p.ensures.0

q_is : (c : After-wide-q) → c.wide-q.result ≡ get_or c.args.t.now c.args.b (pos 0)
q_is c = read c.wide-arg-2-1.given c.wide-q.ensures.0

module _ (c : After-wide-q) where
  abbrev p : C
  p = loc c.wide-p.ensures.1

  abbrev q : C
  q = loc c.wide-q.ensures.1

  -- both results, of the operands
  abbrev of : (ℤ → ℤ → ℤ) → ℤ
  of f = f (get_or c.args.t.now c.args.a (pos 0)) (get_or c.args.t.now c.args.b (pos 0))

  sum_is : code w32 (p ⊕ q) ≡ of ◌+ℤ◌
  sum_is = value w32 (p ⊕ q) tt ∙ ap₂ (λ (x y : ℤ). x +ℤ y) (p_is c.before.before) (q_is c)

  less_is : code w32 (p ⊖ q) ≡ of ◌-ℤ◌
  less_is = value w32 (p ⊖ q) tt ∙ ap₂ (λ (x y : ℤ). x -ℤ y) (p_is c.before.before) (q_is c)

pub returns : goal.returns
unfolding step apply_h set_pair fits fits_h
returns c =
    let r = c.put.ensures in
    let e = sum_is c.before.before in
    let f = less_is c.before.before in
    (rw (e, f) at r.0, λ h. rw (e, f) at (r.1 h))

pub overflow_add-p : goal.overflow_add-p
overflow_add-p c = room w32 (p c.before ⊕ q c.before) tt

pub overflow_sub-p : goal.overflow_sub-p
overflow_sub-p c = room w32 (p c.before ⊖ q c.before) tt
