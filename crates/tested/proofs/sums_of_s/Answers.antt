-- `tested::sums_of_s` meets its contract.
use mathlib.Core.Path.{◌≡◌, ap}
use mathlib.Core.List.{List}
use lib.IntN.{ℤ, pos, ◌+ℤ◌, ◌-ℤ◌}
use lib.ListN.{get_or}
use mir.Syntax.{w32}
use Rattle.whole.specs.Round.{Round2}
use Rattle.whole.proofs.Signed.{C, loc, ◌⊕◌, ◌⊖◌, raw, rd, fits as room, value, within}
use Rattle.primitives.specs.Rotations.{apply_sh, set_pair}
use Rattle.steps.specs.Step2.{step2}
use Rattle.adst.specs.Inner.{arrays}
use Rattle.narrow.specs.Inner.{fits2}
use Rattle.narrow.proofs.Locals.{round_is}
use Rattle.tested.proofs.sums_of_s.Goals as goal
use Rattle.tested.proofs.sums_of_s.Goals.{After-round14-x, After-round14-y, Start}

module _ (s : Start) where
  abbrev p : C
  p = loc (s.requires.2.each s.args.a)

  abbrev q : C
  q = loc (s.requires.2.each s.args.b)

  abbrev of : (ℤ → ℤ → ℤ) → ℤ
  of f = Round2 (f (get_or s.args.s.now s.args.a (pos 0)) (get_or s.args.s.now s.args.b (pos 0))) 14

x_is : (c : After-round14-x) → rd w32 c.round14-x.result ≡ of c.before.before.before ◌+ℤ◌
x_is c =
    round_is (raw w32 (p c.before.before.before ⊕ q c.before.before.before)) c.round14-x.type_inv c.round14-x.ensures (value w32 (p c.before.before.before ⊕ q c.before.before.before) tt)

y_is : (c : After-round14-y) → rd w32 c.round14-y.result ≡ of c.before.before.before.before ◌-ℤ◌
y_is c =
    round_is (raw w32 (p c.before.before.before.before ⊖ q c.before.before.before.before)) c.round14-y.type_inv c.round14-y.ensures (value w32 (p c.before.before.before.before ⊖ q c.before.before.before.before) tt)

pub returns : goal.returns
unfolding step2 apply_sh set_pair fits2
returns c =
    let r = c.put.ensures in
    let e = x_is c.before.before.before in
    let f = y_is c.before.before in
    (rw (e, f) at r.0, λ h. ap (λ (t : List ℤ). arrays t c.args.s.now) (rw (e, f) at (r.1 h)))

pub overflow_add-p : goal.overflow_add-p
overflow_add-p c = room w32 (p c.before.before ⊕ q c.before.before) tt

pub round14-x-requires : goal.round14-x-requires
round14-x-requires c = within w32 2147475455 (p c.before.before ⊕ q c.before.before) tt tt

pub overflow_sub-p : goal.overflow_sub-p
overflow_sub-p c = room w32 (p c.before.before.before ⊖ q c.before.before.before) tt

pub round14-y-requires : goal.round14-y-requires
round14-y-requires c = within w32 2147475455 (p c.before.before.before ⊖ q c.before.before.before) tt tt
