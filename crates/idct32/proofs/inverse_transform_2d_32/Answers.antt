-- `idct32::inverse_transform_2d_32` meets its contract.
use mathlib.Core.Path.{◌≡◌, sym, ap, ◌∙◌}
use mathlib.Core.Bool.{Bool, true, false}
use mathlib.Core.List.{List}
use Prim.Native.Nat.{ℕ, ◌≤◌}
use native.Mathlib.Omega.{arith}
use lib.IntN.{ℤ, pos}
use lib.ListN.{length, get_or, replicate}
use mir.Syntax.{w16}
use Rattle.std.specs.Prelude.{Err, is_ok}
use Rattle.std.proofs.lemmas.Result.{err_from_is_err_and}
use Rattle.whole.specs.Lists.{fill}
use Rattle.whole.proofs.Signed.{rd_ok}
use Rattle.answers.proofs.Numbers.{refused_number}
use Rattle.answers.specs.declared.Refusal.TheVariants.{Coefficient}
use Rattle.answers.specs.Answers.{number}
use Rattle.answers.specs.Bad.{any_beyond}
use Rattle.answers.specs.Limits.{COEF_LIMIT}
use Rattle.answers.specs.Sizes.{area}
use Rattle.narrow.specs.Kept.{shorts}
use Rattle.blocks.specs.Inner.{Possible}
use Rattle.blocks.proofs.Inverse.{side_most}
use Rattle.weights.specs.Inner.{total}
use Rattle.dc.proofs.Alone.{area_some}
use Rattle.idct.specs.Driver.{Input}
use Rattle.idct.specs.Inner.{shape_of}
use Rattle.idct.proofs.Answers as D
use Rattle.idct32.proofs.Answers.{refused, clear, narrow, Entered, entered, leaves, stays}
use Rattle.idct32.proofs.Told.{gone, good}
use Rattle.idct32.proofs.Work.{not_entered}
use Rattle.idct32.proofs.Flat.{total_same, flat_done}
use Rattle.idct32.proofs.inverse_transform_2d_32.Goals as goal

-- what the call is given
abbrev given : List ℤ → ℕ → ℕ → Bool → Input
given block n tx_type lossless = record { block = block; n = n; tx_type = tx_type; lossless = lossless }

-- no refusal before the numbers: a list long enough, of a size and a type that there are
fine : (u : Input) → shape_of (length u.block) u.n u.tx_type u.lossless ≡ 0 → Possible u.n u.tx_type u.lossless × (area u.n ≤ length u.block)
fine u e = D.possible (length u.block) u.n u.tx_type u.lossless e

pub returns-in_err-shape : goal.returns-in_err-shape
returns-in_err-shape c =
    let u = given c.args.block.now c.args.n c.args.tx_type c.args.lossless in
    let p = err_from_is_err_and c.from_residual.result c.from_residual.ensures.1 in
    let ne = refused_number c.in_err-shape.field-0.0 in
    rw (p.1, p.2) (refused u (D.refused u (Err c.in_err-shape.field-0.0) c.in_err-shape.ensures ne) ne)

pub area-count-requires : goal.area-count-requires
area-count-requires c =
    let f = fine (given c.args.block.now c.args.n c.args.tx_type c.args.lossless) (sym c.in_ok-shape.ensures) in
    (f.0.least, f.0.most)

pub take-requires : goal.take-requires
take-requires c =
    let f = fine (given c.args.block.now c.args.n c.args.tx_type c.args.lossless) (sym c.in_ok-shape.ensures) in
    (c.area-count.ensures.1, rw c.area-count.ensures.0 f.1)

pub any_beyond-requires : goal.any_beyond-requires
any_beyond-requires c =
    let f = fine (given c.args.block.now c.args.n c.args.tx_type c.args.lossless) (sym c.in_ok-shape.ensures) in
    rw c.area-count.ensures.0 f.1

pub returns-then-any_beyond : goal.returns-then-any_beyond
returns-then-any_beyond c =
    let u = given c.args.block.now c.args.n c.args.tx_type c.args.lossless in
    let e = sym c.in_ok-shape.ensures in
    let over : any_beyond COEF_LIMIT (area u.n) u.block ≡ true = sym (rw c.area-count.ensures.0 at c.any_beyond.ensures) ∙ c.if-any_beyond.true in
    refused u (D.driven u (Err Coefficient) u.block e (D.over u over)) (λ z. absurd (omega arith))

pub returns-then-is_err : goal.returns-then-is_err
returns-then-is_err c =
    let u = given c.args.block.now c.args.n c.args.tx_type c.args.lossless in
    let e = sym c.in_ok-shape.ensures in
    let p = (fine u e).0 in
    let none : any_beyond COEF_LIMIT (area u.n) u.block ≡ false = sym (rw c.area-count.ensures.0 at c.any_beyond.ensures) ∙ c.if-any_beyond.false in
    let left : shorts (area u.n) u.block ≡ false = sym (rw c.area-count.ensures.0 at c.take.ensures.is) ∙ gone c.take.result (sym c.is_err.ensures.value ∙ c.if-is_err.true) in
    narrow u (clear u e none) (not_entered u.n u.tx_type u.lossless u.block (side_most u.n p.least p.most) left)

-- the block's numbers are in the work
module _ (u : Input) (e : shape_of (length u.block) u.n u.tx_type u.lossless ≡ 0) {count : ℕ} {zeros w : List ℤ} (a : count ≡ area u.n) (z : zeros ≡ replicate 1024 (pos 0)) where
  pub in_work : {r : Bool} → r ≡ shorts count u.block → (r ≡ true → w ≡ fill count (λ k. get_or u.block k (pos 0)) zeros) → r ≡ true → Entered u w
  in_work is then h = entered u w e (rw a at (sym is ∙ h)) (rw (a, z) at (then h))

pub give_flat-requires : goal.give_flat-requires
give_flat-requires c =
    let u = given c.args.block.now c.args.n c.args.tx_type c.args.lossless in
    let e = sym c.in_ok-shape.ensures in
    let p = fine u e in
    (p.0.least, p.0.most, rw c.area-count.ensures.0 p.1)

pub returns-then-is_flat : goal.returns-then-is_flat
returns-then-is_flat c =
    let u = given c.args.block.now c.args.n c.args.tx_type c.args.lossless in
    let e = sym c.in_ok-shape.ensures in
    let w = c.take.new.work in
    let k = in_work u e c.area-count.ensures.0 c.zeros-work.ensures c.take.ensures.is c.take.ensures.then (good c.take.result (sym c.is_err.ensures.value ∙ c.if-is_err.false)) in
    let sum : c.total-sum.result ≡ total (area u.n) w = rw c.area-count.ensures.0 at c.total-sum.ensures in
    let f = c.is_flat.ensures c.if-is_flat.true in
    let one = total_same 1 u.block w (λ i l. k.agree i (omega (arith, area_some u.n))) in
    let all = total_same (area u.n) u.block w k.agree in
    flat_done u e f.lossy f.zero_kind (omega (arith, f.few, sum, all)) (sym one ∙ f.first ∙ sum ∙ all)
    (rw (c.area-count.ensures.0, rd_ok w16 {z = get_or w 0 (pos 0)} c.give_flat-arg-then-is_flat-1.given, k.agree 0 (area_some u.n)) at c.give_flat.ensures)

pub passes-requires : goal.passes-requires
passes-requires c =
    let u = given c.args.block.now c.args.n c.args.tx_type c.args.lossless in
    let e = sym c.in_ok-shape.ensures in
    let k = in_work u e c.area-count.ensures.0 c.zeros-work.ensures c.take.ensures.is c.take.ensures.then (good c.take.result (sym c.is_err.ensures.value ∙ c.if-is_err.false)) in
    (k.possible, k.long, rw c.area-count.ensures.0 at c.total-sum.ensures)

pub returns-in_err-passes : goal.returns-in_err-passes
returns-in_err-passes c =
    let u = given c.args.block.now c.args.n c.args.tx_type c.args.lossless in
    let e = sym c.in_ok-shape.ensures in
    let k = in_work u e c.area-count.ensures.0 c.zeros-work.ensures c.take.ensures.is c.take.ensures.then (good c.take.result (sym c.is_err.ensures.value ∙ c.if-is_err.false)) in
    let p = err_from_is_err_and c.from_residual-in_err-passes.result c.from_residual-in_err-passes.ensures.1 in
    rw (p.1, p.2) (leaves k (sym (ap is_ok c.in_err-passes.was) ∙ c.passes.ensures.is))

pub give-requires : goal.give-requires
give-requires c =
    let u = given c.args.block.now c.args.n c.args.tx_type c.args.lossless in
    let e = sym c.in_ok-shape.ensures in
    let k = in_work u e c.area-count.ensures.0 c.zeros-work.ensures c.take.ensures.is c.take.ensures.then (good c.take.result (sym c.is_err.ensures.value ∙ c.if-is_err.false)) in
    (k.possible.least, k.possible.most, k.possible.small, k.room)

pub returns : goal.returns
returns c =
    let u = given c.args.block.now c.args.n c.args.tx_type c.args.lossless in
    let e = sym c.in_ok-shape.ensures in
    let k = in_work u e c.area-count.ensures.0 c.zeros-work.ensures c.take.ensures.is c.take.ensures.then (good c.take.result (sym c.is_err.ensures.value ∙ c.if-is_err.false)) in
    let a = ap is_ok c.in_ok-passes.was in
    stays k (sym a ∙ c.passes.ensures.is) (c.passes.ensures.then a) c.give.ensures
