use mathlib.Core.Path.{◌≡◌, refl, ap, ◌∙◌}
use Prim.Native.Nat.{ℕ, ◌+◌, ◌*◌}
use native.Mathlib.Omega.{arith}
use borrow.Author.Rules.{rules}
use lib.ListN.{set}
use Rattle.whole.proofs.Lists.{fill_none, fill_more, fill_done}
use Rattle.vbk_read.specs.Bytes.{le2}
use Rattle.vbk_read.specs.Header.{sample_at}
use Rattle.vbk_read.proofs.Cursor.read_samples.Goals as goal

pub loop-k-init : goal.loop-k-init
loop-k-init c = (search rules, search rules, refl, fill_none _ _)

pub loop-k-preserved : goal.loop-k-preserved
unfolding sample_at
loop-k-preserved c =
    let a = c.args in
    let l = c.loop-k in
    let e : c.read_u16-got.result.value ≡ le2 a.s.now (a.self.at + 2 * l.k) = c.read_u16-got.ensures.value_is ∙ ap (le2 a.s.now) l.invariant.1 in
    (search rules, omega (arith, l.invariant.1, c.read_u16-got.ensures.next_is), search rules, fill_more _ _ l.k l.invariant.3 (ap (set l.samples l.k) e))

pub returns : goal.returns
returns c =
    let l = c.loop-k in
    let e : l.k ≡ c.args.count = omega arith in
    (l.invariant.1 ∙ ap (λ (k : ℕ). c.args.self.at + 2 * k) e, fill_done _ _ l.k _ l.invariant.0 (omega arith) l.invariant.3)
