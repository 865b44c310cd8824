use mathlib.Core.Path.{◌≡◌, refl, ap, ◌∙◌}
use Prim.Native.Nat.{ℕ, ◌+◌, ◌*◌}
use native.Mathlib.Omega.{arith}
use borrow.Author.Rules.{rules}
use lib.ListN.{set}
use mir.Syntax.{w64}
use mir.Val.{to_z, of_z}
use mir.ValLaws.{to_z-of_z}
use Rattle.whole.proofs.Lists.{fill_none, fill_more, fill_done}
use Rattle.vbk_read.specs.Bytes.{le4, signed32}
use Rattle.vbk_read.specs.Records.{token_at}
use Rattle.vbk_read.proofs.Signed.{back32}
use Rattle.vbk_read.proofs.Cursor.read_tokens.Goals as goal

pub loop-k-init : goal.loop-k-init
loop-k-init c = (search rules, search rules, refl, fill_none _ _)

pub loop-k-preserved : goal.loop-k-preserved
unfolding token_at
loop-k-preserved c =
    let a = c.args in
    let l = c.loop-k in
    let got = c.read_i32-got in
    let e : to_z w64 (of_z w64 c.from.result) ≡ signed32 (le4 a.s.now (a.self.at + 4 * l.k)) =
    to_z-of_z w64 c.from.result (record { sfits = c.from.type_inv }) ∙ c.from.ensures ∙ back32 got.result.value c.struct_told-1.given.0.1 ∙ got.ensures.value_is ∙ ap (λ (p : ℕ). signed32 (le4 a.s.now p)) l.invariant.1
    in
    (search rules, omega (arith, l.invariant.1, got.ensures.next_is), search rules, fill_more _ _ l.k l.invariant.3 (ap (set l.tokens l.k) e))

pub returns : goal.returns
returns c =
    let l = c.loop-k in
    let e : l.k ≡ c.args.count = omega arith in
    (l.invariant.1 ∙ ap (λ (k : ℕ). c.args.self.at + 4 * k) e, fill_done _ _ l.k _ l.invariant.0 (omega arith) l.invariant.3)
