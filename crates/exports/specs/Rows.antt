-- What the calls about the rows of a block are given, and what they are lent, as one value each.
use Rattle.std.specs.Prelude.{cond, List, ℕ, eqb, ℤ, length, Result, Ok, Err}
use Rattle.answers.specs.Answers.{refusal_number}
use Rattle.answers.specs.declared.Refusal.{Refusal}
use Rattle.summary.specs.Summary.{summarized}
use Rattle.summary.specs.Replace as Z
use Rattle.idct.specs.Driver as D
use Rattle.idct.specs.Rows.{transformed}

-- a block, n, and the number in the room for the summary
pub record Asked : Type 0 where
  pub block : List ℤ
  pub n : ℕ
  pub room : ℕ

-- the number of its answer
abbrev pub summary_number : Result ℕ Refusal → ℕ
summary_number (Ok m) = 0
summary_number (Err refusal) = refusal_number refusal

-- the summary, and under a refusal what stood in its room
abbrev pub summary_or : ℕ → Result ℕ Refusal → ℕ
summary_or room (Ok m) = m
summary_or room (Err refusal) = room

-- the answer of the call, and the room afterwards
abbrev pub asked_answer : Asked → ℕ
asked_answer u = summary_number (summarized u.n u.block)

abbrev pub asked_after : Asked → ℕ
asked_after u = summary_or u.room (summarized u.n u.block)

-- a block, and a number beside it: its summary, or how many rows were transformed
pub record Beside : Type 0 where
  pub block : List ℤ
  pub rows : ℕ

-- what a replacement leaves
abbrev pub replaced_after : Z.Input → Beside
replaced_after u = record { block = Z.block_after u; rows = Z.summary_after u }

-- what the driver is given, and the number in the room for its row transforms
pub record Counting : Type 0 where
  pub input : D.Input
  pub room : ℕ

abbrev pub counting_answer : Counting → ℕ
counting_answer u = D.answer_of u.input

-- the block, and how many rows were transformed; the room stays under a refusal
abbrev pub counting_after : Counting → Beside
counting_after u = record { block = D.block_after u.input; rows = cond (eqb (D.answer_of u.input) 0) (length (transformed u.input)) u.room }
