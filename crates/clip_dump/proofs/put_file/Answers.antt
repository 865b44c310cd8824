use mathlib.Core.Path.{◌≡◌, ap, ◌∙◌}
use Prim.Native.Nat.{ℕ, ◌*◌}
use native.Mathlib.Omega.{arith}
use Rattle.clip_dump.proofs.Whole.{some_width}
use Rattle.clip_dump.proofs.put_file.Goals as goal

pub put_plane-b-requires : goal.put_plane-b-requires
put_plane-b-requires c =
    let a = c.args in
    let g = c.requires.0 in
    let w = c.from-w.result in
    let h = c.from-h.result in
    let e : w ≡ a.width = c.from-w.ensures in
    let q : h * w ≡ a.height * a.width = ap (λ (x : ℕ). x * w) c.from-h.ensures ∙ ap (λ (x : ℕ). a.height * x) e in
    let o = c.put_header-a.ensures in
    (omega (arith, e, some_width a.width a.height g.0), (omega (arith, q, g.1.0, o.0, o.1, c.requires.1), omega (arith, q, g.1.1.0)))

pub put_records-requires : goal.put_records-requires
put_records-requires c =
    let a = c.args in
    let g = c.requires.0 in
    let w = c.from-w.result in
    let h = c.from-h.result in
    let e : w ≡ a.width = c.from-w.ensures in
    let q : h * w ≡ a.height * a.width = ap (λ (x : ℕ). x * w) c.from-h.ensures ∙ ap (λ (x : ℕ). a.height * x) e in
    let o = c.put_header-a.ensures in
    let r = c.put_plane-b.ensures in
    (omega (arith, q, o.0, r.0), (omega (arith, q, g.1.1.0), omega (arith, g.1.1.1, o.1, r.1, c.requires.1)))
