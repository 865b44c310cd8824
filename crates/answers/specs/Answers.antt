-- The answers of all calls and of the VBK reader: their numbers, and the choice of the lowest that applies.
use Rattle.std.specs.Prelude.{Bool, cond, List, [], ◌∷◌, ℕ, Result, Ok, Err}
use Rattle.answers.specs.declared.Refusal.{Refusal}
use Rattle.answers.specs.declared.Refusal.TheVariants.{Depth, Size, LosslessSize, TxType, Quantizer, Length, Plane, Token, Coefficient, Mark, Version, CutShort, TooLarge, LosslessByte, Report, Place, Room, Narrow, Rule, Retired}

-- the number of a refusal
abbrev pub refusal_number : Refusal → ℕ
refusal_number Depth = 1
refusal_number Size = 2
refusal_number LosslessSize = 3
refusal_number TxType = 4
refusal_number Quantizer = 5
refusal_number Length = 6
refusal_number Plane = 7
refusal_number Token = 8
refusal_number Coefficient = 9
refusal_number Mark = 10
refusal_number Version = 11
refusal_number CutShort = 12
refusal_number TooLarge = 13
refusal_number LosslessByte = 14
refusal_number Report = 15
refusal_number Place = 16
refusal_number Room = 17
refusal_number Narrow = 18
refusal_number Rule = 19
refusal_number Retired = 20

-- an answer: done, or refused
abbrev pub Answer : Type 0
Answer = Result (Unit {0}) Refusal

-- the number of an answer
abbrev pub number : Answer → ℕ
number (Ok _) = 0
number (Err refusal) = refusal_number refusal

-- of numbers with their tests: the first number whose test holds, and 0 where none does
abbrev pub lowest : List (ℕ × Bool) → ℕ
lowest [] = 0
lowest (t ∷ ts) = cond t.1 t.0 (lowest ts)
