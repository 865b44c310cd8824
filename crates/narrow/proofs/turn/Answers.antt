-- `narrow::turn` meets its contract.
use mathlib.Core.Path.{◌≡◌, ap₂, subst, ◌∙◌}
use lib.IntN.{ℤ, pos, ◌+ℤ◌, ◌-ℤ◌, ◌*ℤ◌}
use lib.ListN.{get_or}
use mir.Syntax.{w32}
use Rattle.whole.specs.Within.{Within}
use Rattle.whole.proofs.Signed.{C, loc, ◌⊕◌, ◌⊖◌, ◌⊗◌, code, fits, value, within}
use Rattle.narrow.specs.Inner.{spin_x, spin_y}
use Rattle.narrow.proofs.Locals.{read}
use Rattle.narrow.proofs.turn.Goals as goal
use Rattle.narrow.proofs.turn.Goals.{After-wide-p, After-wide-q}

p_is : (c : After-wide-p) → c.wide-p.result ≡ get_or c.args.t.now c.args.a (pos 0)
p_is c = read c.wide-arg-1.given c.wide-p.ensures.0

q_is : (c : After-wide-q) → c.wide-q.result ≡ get_or c.args.t.now c.args.b (pos 0)
q_is c = read c.wide-arg-2-1.given c.wide-q.ensures.0

module _ (c : After-wide-q) where
  abbrev p : C
  p = loc c.wide-p.ensures.1

  abbrev q : C
  q = loc c.wide-q.ensures.1

  abbrev cos : C
  cos = loc c.requires.2

  abbrev sin : C
  sin = loc c.requires.3

  abbrev xs : C
  xs = p ⊗ cos ⊖ q ⊗ sin

  abbrev ys : C
  ys = p ⊗ sin ⊕ q ⊗ cos

  x_is : code w32 xs ≡ spin_x c.args.t.now c.args.a c.args.b c.args.cos c.args.sin
  unfolding spin_x
  x_is = value w32 xs tt ∙ ap₂ (λ (y z : ℤ). y *ℤ c.args.cos -ℤ z *ℤ c.args.sin) (p_is c.before.before) (q_is c)

  y_is : code w32 ys ≡ spin_y c.args.t.now c.args.a c.args.b c.args.cos c.args.sin
  unfolding spin_y
  y_is = value w32 ys tt ∙ ap₂ (λ (y z : ℤ). y *ℤ c.args.sin +ℤ z *ℤ c.args.cos) (p_is c.before.before) (q_is c)

pub returns : goal.returns
returns c =
    record {
      x_is = x_is c;
      y_is = y_is c;
      x_in = within w32 1073741824 (xs c) tt tt;
      y_in = within w32 1073741824 (ys c) tt tt;
      a_in = subst (Within 32768) (p_is c.before.before) c.wide-p.ensures.1;
      b_in = subst (Within 32768) (q_is c) c.wide-q.ensures.1;
    }

pub overflow_mul-result : goal.overflow_mul-result
overflow_mul-result c = fits w32 (p c ⊗ cos c) tt

pub overflow_mul-result-2 : goal.overflow_mul-result-2
overflow_mul-result-2 c = fits w32 (q c ⊗ sin c) tt

pub overflow_sub-result : goal.overflow_sub-result
overflow_sub-result c = fits w32 (xs c) tt

pub overflow_mul-result-3 : goal.overflow_mul-result-3
overflow_mul-result-3 c = fits w32 (p c ⊗ sin c) tt

pub overflow_mul-result-4 : goal.overflow_mul-result-4
overflow_mul-result-4 c = fits w32 (q c ⊗ cos c) tt

pub overflow_add-result : goal.overflow_add-result
overflow_add-result c = fits w32 (ys c) tt
