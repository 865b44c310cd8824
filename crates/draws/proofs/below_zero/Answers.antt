use Rattle.std.proofs.Common.{ℕ, ◌<◌, pos, ◌-ℤ◌, arith, w64, SFits, to_z}
use mir.ValLaws.{to_z_pos}
use Rattle.whole.proofs.Ring.{at, neg, sfits_by}
use Rattle.whole.proofs.Parts.{zero_minus}
use Rattle.draws.proofs.below_zero.Goals as goal

-- −m fits
neg_fits : (m : ℕ) → m < 4294967296 → SFits w64 (pos 0 -ℤ to_z w64 m)
neg_fits m h = rw (to_z_pos w64 m (omega arith), zero_minus (pos m)) (sfits_by w64 (neg (at (pos m))) (omega arith) (omega arith))

pub overflow_sub-result : goal.overflow_sub-result
overflow_sub-result c = neg_fits c.args.m (omega arith)
