use mathlib.Core.Path.{refl, sym, ap, ◌∙◌}
use native.Mathlib.Omega.{arith}
use lib.Seq.{length-take-le}
use lib.IntN.{pos}
use Rattle.std.specs.Prelude.{replicate}
use Rattle.vbk_read.specs.declared.Head.{Head}
use Rattle.vbk.specs.Replay.{Rebuilt}
use Rattle.vbk.proofs.Tokens.{fits, bytes, fits_filled, tokens_are, block_is}
use borrow.Author.Rules.{rules}
use Rattle.vbk.proofs.rebuild.Goals as goal

pub area-n-requires : goal.area-n-requires
area-n-requires g c =
    let p = c.requires in (search rules, omega (arith, p.0, ap (λ (h : Head). h.size) p.2))

pub read_tokens-requires : goal.read_tokens-requires
read_tokens-requires g c =
    let a = c.args in
    let n = c.area-n in
    (bytes a.file.now a.at a.head n.result c.requires.0 c.requires.1 c.requires.2 n.ensures.0 (replicate 1024 (pos 0)) refl, fits a.file.now a.at a.head n.result c.requires.0 c.requires.1 c.requires.2 n.ensures.0 (replicate 1024 (pos 0)) refl)

pub slice_bounds-tokens-end : goal.slice_bounds-tokens-end
slice_bounds-tokens-end g c =
    let a = c.args in
    let n = c.area-n in
    let r = c.read_tokens in
    fits_filled a.file.now a.at a.head n.result c.requires.0 c.requires.1 c.requires.2 n.ensures.0 (replicate 1024 (pos 0)) refl r.new.tokens r.ensures.1

pub slice_bounds-block-end : goal.slice_bounds-block-end
slice_bounds-block-end g c =
    let a = c.args in
    let n = c.area-n in
    let r = c.read_tokens in
    sym (length-take-le n.result r.new.tokens (fits_filled a.file.now a.at a.head n.result c.requires.0 c.requires.1 c.requires.2 n.ensures.0 (replicate 1024 (pos 0)) refl r.new.tokens r.ensures.1))

pub returns : goal.returns
returns g c =
    let a = c.args in
    let m = g.B.Reconstruct in
    let n = c.area-n in
    let r = c.read_tokens in
    let e = c.block.ensures in
    let t = tokens_are a.file.now a.at a.head n.result c.requires.0 c.requires.1 c.requires.2 n.ensures.0 (replicate 1024 (pos 0)) refl r.new.tokens r.ensures.1 in
    let b = block_is m.rebuilds a.file.now a.at (m.beside a.samples.now a.blocks.now) c.requires.2 c.requires.3 t in
    record { answered = e.answered ∙ ap (λ (x : Rebuilt). x.answer) b; written = e.written ∙ ap (λ (x : Rebuilt). x.samples) b }
