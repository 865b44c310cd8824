use mathlib.Core.Path.{◌≡◌, ap, ◌∙◌}
use Prim.Native.Nat.{ℕ, ◌+◌, ◌*◌}
use native.Mathlib.Omega.{arith}
use Rattle.answers.specs.Sizes.{side}
use Rattle.clip_dump.proofs.Whole.{some_side, whole_size, whole_next, whole_there}
use Rattle.clip_dump.proofs.put_one.Goals as goal

pub side-side-requires : goal.side-side-requires
side-side-requires c =
    let a = c.args in
    let d = rw c.in-Whole.is at c.record_at.ensures in
    let n = whole_size a.file.now a.from d c.requires.1.0 in
    (omega (arith, c.from.ensures), omega (arith, n, c.from.ensures))

pub put_record-requires : goal.put_record-requires
put_record-requires c =
    let a = c.args in
    let d = rw c.in-Whole.is at c.record_at.ensures in
    let h = c.in-Whole.head in
    let n = whole_size a.file.now a.from d c.requires.1.0 in
    let e = c.side-side.ensures.0 ∙ ap (λ (x : ℕ). side (x + 2)) c.from.ensures in
    let q : c.side-side.result * c.side-side.result ≡ side (h.size + 2) * side (h.size + 2) = ap (λ (x : ℕ). x * x) e in
    let w = whole_next a.file.now a.from d c.requires.1.0 in
    let t = whole_there a.file.now a.from d c.requires.1.0 in
    (omega (arith, e, some_side h.size n), (omega (arith, q, w, t, c.requires.0, c.requires.1.1), omega (arith, q, w, t)))

pub returns-in-Whole : goal.returns-in-Whole
returns-in-Whole c =
    let a = c.args in
    let d = rw c.in-Whole.is at c.record_at.ensures in
    let h = c.in-Whole.head in
    let n = whole_size a.file.now a.from d c.requires.1.0 in
    let e = c.side-side.ensures.0 ∙ ap (λ (x : ℕ). side (x + 2)) c.from.ensures in
    let q : c.side-side.result * c.side-side.result ≡ side (h.size + 2) * side (h.size + 2) = ap (λ (x : ℕ). x * x) e in
    let w = whole_next a.file.now a.from d c.requires.1.0 in
    let t = whole_there a.file.now a.from d c.requires.1.0 in
    let o = c.put_record.ensures in
    record { step = (omega (arith, q, w, t, c.requires.0, o.0), (omega (arith, w), t)); room = omega (arith, o.1) }
