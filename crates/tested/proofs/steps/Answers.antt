-- `tested::steps` meets its contract.
use mathlib.Core.Path.{◌≡◌}
use Prim.Native.Nat.{ℕ}
use native.Mathlib.Omega.{arith}
use mathlib.Core.List.{List}
use Rattle.tested.specs.Inner.{Has}
use Rattle.tested.specs.declared.Kind.{Kind}
use Rattle.tested.specs.declared.Kind.TheVariants.{Dct, Adst, WhtRow, WhtColumn}
use Rattle.tested.specs.declared.Step.{Step}
use Rattle.tested.proofs.Lists.{sized}
use Rattle.tested.proofs.steps.Goals as goal

given_as : {k b : Kind} {n m : ℕ} {es : List Step} → k ≡ b → n ≡ m → Has b m es → Has k n es
given_as e f h = rw (e, f) h

pub returns-in-Dct-eq2 : goal.returns-in-Dct-eq2
returns-in-Dct-eq2 c = given_as c.in-Dct-eq2.is-0 c.in-Dct-eq2.is-1 c.requires.0.dct4

pub returns-in-Dct-eq3 : goal.returns-in-Dct-eq3
returns-in-Dct-eq3 c = given_as c.in-Dct-eq3.is-0 c.in-Dct-eq3.is-1 c.requires.0.dct8

pub returns-in-Dct-eq4 : goal.returns-in-Dct-eq4
returns-in-Dct-eq4 c = given_as c.in-Dct-eq4.is-0 c.in-Dct-eq4.is-1 c.requires.0.dct16

pub returns-in-Dct-default : goal.returns-in-Dct-default
returns-in-Dct-default c = let h = sized c.args.n Dct c.in-Dct-default.is-0 c.requires.1 in given_as c.in-Dct-default.is-0 (omega arith) c.requires.0.dct32

pub returns-in-Adst-eq2 : goal.returns-in-Adst-eq2
returns-in-Adst-eq2 c = given_as c.in-Adst-eq2.is-0 c.in-Adst-eq2.is-1 c.requires.0.adst4

pub returns-in-Adst-eq3 : goal.returns-in-Adst-eq3
returns-in-Adst-eq3 c = given_as c.in-Adst-eq3.is-0 c.in-Adst-eq3.is-1 c.requires.0.adst8

pub returns-in-Adst-default : goal.returns-in-Adst-default
returns-in-Adst-default c = let h = sized c.args.n Adst c.in-Adst-default.is-0 c.requires.1 in given_as c.in-Adst-default.is-0 (omega arith) c.requires.0.adst16

pub returns-in-WhtRow-default : goal.returns-in-WhtRow-default
returns-in-WhtRow-default c = given_as c.in-WhtRow-default.is-0 (sized c.args.n WhtRow c.in-WhtRow-default.is-0 c.requires.1) c.requires.0.wht_row

pub returns-in-WhtColumn-default : goal.returns-in-WhtColumn-default
returns-in-WhtColumn-default c = given_as c.in-WhtColumn-default.is-0 (sized c.args.n WhtColumn c.in-WhtColumn-default.is-0 c.requires.1) c.requires.0.wht_column
