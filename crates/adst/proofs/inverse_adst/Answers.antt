-- `adst::inverse_adst` meets its contract.
use mathlib.Core.Path.{◌≡◌, ◌∙◌}
use native.Mathlib.Omega.{arith}
use Rattle.whole.proofs.Steps.{ok_here}
use Rattle.steps.specs.Step2.{fresh}
use Rattle.adst.proofs.Adst.{four_steps, eight_steps, sixteen_steps, four_is, eight_is, sixteen_is}
use Rattle.adst.proofs.inverse_adst.Goals as goal
use Rattle.adst.proofs.inverse_adst.Goals.{In-2, In-3, In_default}

is_two : (c : In-2) → c.args.n ≡ 2
is_two c = omega arith

is_three : (c : In-3) → c.args.n ≡ 3
is_three c = omega arith

is_four : (c : In_default) → c.args.n ≡ 4
is_four c = omega arith

pub inverse_adst4-requires : goal.inverse_adst4-requires
unfolding fresh
inverse_adst4-requires c = ok_here (rw (four_steps c.args.n (is_two c.before)) at c.requires.2)

pub inverse_adst8-requires : goal.inverse_adst8-requires
inverse_adst8-requires c = rw (eight_steps c.args.n (is_three c.before)) at c.requires.2

pub inverse_adst16-requires : goal.inverse_adst16-requires
inverse_adst16-requires c = rw (sixteen_steps c.args.n (is_four c.before)) at c.requires.2

pub returns-in-2 : goal.returns-in-2
returns-in-2 c = let a = c.args in c.inverse_adst4.ensures ∙ four_is a.n a.t.now (is_two c.before.before)

pub returns-in-3 : goal.returns-in-3
returns-in-3 c = let a = c.args in c.inverse_adst8.ensures ∙ eight_is a.n a.t.now (is_three c.before.before)

pub returns-in_default : goal.returns-in_default
returns-in_default c = let a = c.args in c.inverse_adst16.ensures ∙ sixteen_is a.n a.t.now (is_four c.before.before)
