use mathlib.Core.Path.{◌≡◌, refl, ap, ◌∙◌}
use Prim.Native.Nat.{ℕ, ◌+◌}
use native.Mathlib.Omega.{arith}
use Rattle.answers.specs.Sizes.{area}
use Rattle.vbk_read.specs.Records.{size_at, lossless_at, next_at, end_answer}
use Rattle.vbk_read.specs.declared.Head.{Head}
use Rattle.vbk_read.proofs.Records.{cut_head, size_above, cut_tokens, goes_on, none, last, skipped, whole}
use Rattle.vbk_read.proofs.record_at.Goals as goal
use Rattle.vbk_read.proofs.record_at.Goals.{After-read_head-head, After-area-n, Else-end-from}

size_is : (c : After-read_head-head) → c.read_head-head.result.size ≡ size_at c.args.s.now c.args.at
size_is c = ap (λ (h : Head). h.size) c.read_head-head.ensures

lossless_is : (c : After-read_head-head) → c.read_head-head.result.lossless ≡ lossless_at c.args.s.now c.args.at
lossless_is c = ap (λ (h : Head). h.lossless) c.read_head-head.ensures

count_is : (c : After-area-n) → c.area-n.result ≡ area (size_at c.args.s.now c.args.at + 2)
count_is c = c.area-n.ensures.0 ∙ ap (λ (k : ℕ). area (k + 2)) c.from.ensures ∙ ap (λ (h : Head). area (h.size + 2)) c.read_head-head.ensures

-- the record is there to its last byte
whole_there : (c : Else-end-from) → end_answer c.args.s.now c.args.at ≡ 0
unfolding next_at
whole_there c =
    goes_on c.args.s.now c.args.at (omega arith) (omega (arith, ap (λ (h : Head). h.size) c.read_head-head.ensures))
    (omega (arith, c.area-n.ensures.0 ∙ ap (λ (k : ℕ). area (k + 2)) c.from.ensures ∙ ap (λ (h : Head). area (h.size + 2)) c.read_head-head.ensures))

pub returns-then-end-at : goal.returns-then-end-at
returns-then-end-at c = none c.args.s.now c.args.at (omega arith)

pub returns-then-end-at-lt-HEAD_BYTES : goal.returns-then-end-at-lt-HEAD_BYTES
returns-then-end-at-lt-HEAD_BYTES c =
    last c.args.s.now c.args.at 11 _ (omega arith) (cut_head c.args.s.now c.args.at (omega arith)) refl

pub returns-then-head-gt3 : goal.returns-then-head-gt3
returns-then-head-gt3 c =
    let p = (goal.at.returns-then-head-gt3 c).After-read_head-head in
    last c.args.s.now c.args.at 1 _ (omega arith) (size_above c.args.s.now c.args.at (omega arith) (omega (arith, size_is p))) refl

pub returns-then-end-from : goal.returns-then-end-from
unfolding next_at
returns-then-end-from c =
    let p = goal.at.returns-then-end-from c in
    last c.args.s.now c.args.at 11 _ (omega arith)
    (cut_tokens c.args.s.now c.args.at (omega arith) (omega (arith, size_is p.After-read_head-head)) (omega (arith, count_is p.After-area-n))) refl

pub returns-then-head-gt1 : goal.returns-then-head-gt1
unfolding next_at
returns-then-head-gt1 c =
    let p = goal.at.returns-then-head-gt1 c in
    skipped c.args.s.now c.args.at _ (omega arith) (whole_there p.Else-end-from) (omega (arith, count_is p.After-area-n)) (omega (arith, lossless_is p.After-read_head-head))

pub returns : goal.returns
unfolding next_at
returns c =
    let p = goal.at.returns c in
    whole c.args.s.now c.args.at _ (omega arith) (whole_there p.Else-end-from) (omega (arith, count_is p.After-area-n)) (omega (arith, lossless_is p.After-read_head-head))
    c.read_head-head.ensures
