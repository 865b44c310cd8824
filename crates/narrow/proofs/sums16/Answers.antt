use mathlib.Core.Path.{◌≡◌, ap₂, ◌∙◌}
use lib.IntN.{ℤ, pos, ◌+ℤ◌, ◌-ℤ◌}
use lib.ListN.{get_or}
use mir.Syntax.{w32}
use Rattle.whole.proofs.Signed.{C, loc, ◌⊕◌, ◌⊖◌, code, fits as room, value}
use Rattle.primitives.specs.Rotations.{apply_h, set_pair}
use Rattle.steps.specs.Step.{step}
use Rattle.narrow.specs.Inner.{fits, fits_h}
use Rattle.narrow.proofs.Locals.{read}
use Rattle.narrow.proofs.sums16.Goals as goal
use Rattle.narrow.proofs.sums16.Goals.{After-wide-p, After-wide-q}

p_is : (c : After-wide-p) → c.wide-p.result ≡ get_or c.args.t.now c.args.a (pos 0)
p_is c = read c.wide-arg-1.given c.wide-p.ensures.0

q_is : (c : After-wide-q) → c.wide-q.result ≡ get_or c.args.t.now c.args.b (pos 0)
q_is c = read c.wide-arg-2-1.given c.wide-q.ensures.0

module _ (c : After-wide-q) where
  abbrev p : C
  p = loc c.wide-p.ensures.1

  abbrev q : C
  q = loc c.wide-q.ensures.1

  -- both results, of the operands s
  abbrev of : (ℤ → ℤ → ℤ) → ℤ
  of f = f (get_or c.args.t.now c.args.a (pos 0)) (get_or c.args.t.now c.args.b (pos 0))

  sum_is : code w32 (p ⊕ q) ≡ of ◌+ℤ◌
  sum_is = value w32 (p ⊕ q) tt ∙ ap₂ (λ (x y : ℤ). x +ℤ y) (p_is c.before.before) (q_is c)

  less_is : code w32 (p ⊖ q) ≡ of ◌-ℤ◌
  less_is = value w32 (p ⊖ q) tt ∙ ap₂ (λ (x y : ℤ). x -ℤ y) (p_is c.before.before) (q_is c)

pub put16-requires : goal.put16-requires
unfolding fits fits_h
put16-requires c =
    (c.requires.0, c.requires.1, rw (sum_is c.before, less_is c.before) c.requires.2)

pub returns : goal.returns
unfolding step apply_h set_pair
returns c = rw (sum_is c.before.before, less_is c.before.before) at c.put16.ensures

pub overflow_add-p : goal.overflow_add-p
overflow_add-p c = room w32 (p c.before ⊕ q c.before) tt

pub overflow_sub-p : goal.overflow_sub-p
overflow_sub-p c = room w32 (p c.before ⊖ q c.before) tt
