-- Every answer's number has at most two digits.
use Prim.Native.Nat.{◌≤◌}
use native.Mathlib.Omega.{arith}
use Rattle.std.specs.Prelude.{Ok, Err}
use Rattle.answers.specs.Answers.{Answer, number, refusal_number}
use Rattle.answers.specs.declared.Refusal.{Refusal}
use Rattle.answers.specs.declared.Refusal.TheVariants.{Depth, Size, LosslessSize, TxType, Quantizer, Length, Plane, Token, Coefficient, Mark, Version, CutShort, TooLarge, LosslessByte, Report, Place, Room, Narrow, Rule, Retired}

pub refusal_most : (r : Refusal) → refusal_number r ≤ 99
refusal_most Depth = omega arith
refusal_most Size = omega arith
refusal_most LosslessSize = omega arith
refusal_most TxType = omega arith
refusal_most Quantizer = omega arith
refusal_most Length = omega arith
refusal_most Plane = omega arith
refusal_most Token = omega arith
refusal_most Coefficient = omega arith
refusal_most Mark = omega arith
refusal_most Version = omega arith
refusal_most CutShort = omega arith
refusal_most TooLarge = omega arith
refusal_most LosslessByte = omega arith
refusal_most Report = omega arith
refusal_most Place = omega arith
refusal_most Room = omega arith
refusal_most Narrow = omega arith
refusal_most Rule = omega arith
refusal_most Retired = omega arith

pub number_most : (a : Answer) → number a ≤ 99
number_most (Ok u) = omega arith
number_most (Err r) = refusal_most r
