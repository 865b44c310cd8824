-- What only the contracts of inner functions read: when a step is fine, and what becomes of a number that is alone.
use Rattle.std.specs.Prelude.{List, ℕ, ◌*◌, ◌≤◌, ◌<◌, ℤ, pos, ◌*ℤ◌, get_or}
use Rattle.whole.specs.Within.{Within}
use Rattle.whole.specs.Round.{Round2}
use Rattle.steps.specs.Step.{Step, Bf, Hd, Neg, Move, A4, Wh}
use Rattle.steps.specs.Step2.{Arrays, Step2, on, SB, SH}

-- the first four numbers are within m
abbrev pub FourWithin : ℕ → List ℤ → Type 0
FourWithin m t = Within m (get_or t 0 (pos 0)) × Within m (get_or t 1 (pos 0)) × Within m (get_or t 2 (pos 0)) × Within m (get_or t 3 (pos 0))

-- what a step's arithmetic reads is within m, and its places exist
abbrev pub Fine : ℕ → Step → List ℤ → Type 0
Fine m (Bf a b angle flip) t = (a < 32) × (b < 32) × Within m (get_or t a (pos 0)) × Within m (get_or t b (pos 0))
Fine m (Hd a b flip) t = (a < 32) × (b < 32) × Within m (get_or t a (pos 0)) × Within m (get_or t b (pos 0))
Fine m (Neg i) t = (i < 32) × Within m (get_or t i (pos 0))
Fine m (Move k f) t = k ≤ 32
Fine m A4 t = FourWithin m t
Fine m (Wh shift) t = FourWithin m t

-- what a step's arithmetic reads is within m, of S within twice 16384 m, and its places exist
abbrev pub Fine2 : ℕ → Step2 → Arrays → Type 0
Fine2 m (on s) u = Fine m s u.T
Fine2 m (SB a b angle flip) u = (a < 16) × (b < 16) × Within m (get_or u.T a (pos 0)) × Within m (get_or u.T b (pos 0))
Fine2 m (SH a b) u = (a < 16) × (b < 16) × Within (m * 32768) (get_or u.S a (pos 0)) × Within (m * 32768) (get_or u.S b (pos 0))

-- x through the rotation by 16: 11585 is cos64(16) and sin64(16)
unfoldable pub turned : ℤ → ℤ
turned x = Round2 (x *ℤ pos 11585) 14
