use mathlib.Core.Path.{◌≡◌}
use Prim.Native.Nat.{ℕ, ◌≤◌}
use native.Mathlib.Omega.{arith}
use Rattle.blocks.specs.Inverse.{inverse2d}
use Rattle.blocks.proofs.Inverse.{side_most}
use Rattle.idct.proofs.Counted.{lossless_counted, lossy_counted}
use Rattle.idct.proofs.fast.residual.Goals as goal

more : (n : ℕ) → 2 ≤ n → (n ≡ 2 → ⊥) → 3 ≤ n
more n l h = omega arith

pub wht_by_summary-requires : goal.wht_by_summary-requires
wht_by_summary-requires c =
    let e = c.requires.0.small c.if-lossless.true in
    (rw e at c.requires.1, rw e at c.requires.2)

pub returns-then-lossless : goal.returns-then-lossless
unfolding inverse2d
returns-then-lossless c =
    let m = c.wht_by_summary.ensures in
    rw (c.requires.0.small c.if-lossless.true, c.if-lossless.true) (m.written, lossless_counted c.args.block.now 2 c.args.tx_type (omega arith) m.counted)

pub inverse4-requires : goal.inverse4-requires
inverse4-requires c = (rw c.if-n-eq2.true at c.requires.1, rw c.if-n-eq2.true at c.requires.2)

pub returns-then-n-eq2 : goal.returns-then-n-eq2
returns-then-n-eq2 c =
    let m = c.inverse4.ensures in
    rw (c.if-n-eq2.true, c.if-lossless.false) (m.written, lossy_counted c.args.block.now 2 c.args.tx_type (omega arith) m.counted)

pub larger-requires : goal.larger-requires
larger-requires c =
    (more c.args.n c.requires.0.least c.if-n-eq2.false, rw c.if-lossless.false at c.requires.0, c.requires.1, c.requires.2)

pub returns : goal.returns
returns c =
    let m = c.larger.ensures in
    rw c.if-lossless.false (m.written, lossy_counted c.args.block.now c.args.n c.args.tx_type (side_most c.args.n c.requires.0.least c.requires.0.most) m.counted)
