-- For each call, the condition of each number that it can give.
use Rattle.std.specs.Prelude.{◌≡◌, List, [], ◌∷◌, ℕ, suc, ◌+◌, ◌-◌, ◌*◌, ◌≤◌, ◌<◌, ℤ, nat_abs, length}
use Rattle.answers.specs.Limits.{COEF_LIMIT, WHT_LIMIT, SIDE_LIMIT, LIST_LIMIT, FILE_LIMIT, AREA_LIMIT, codeable}
use Rattle.quant.specs.Places.{dequant_all}
use Rattle.answers.specs.Sizes.{side as n0, area}
use Rattle.blocks.specs.Block.{row, column, rows}
use Rattle.blocks.specs.Inverse.{apply, row_pass, column_pass}
use Rattle.summary.specs.Replace as Z
use Rattle.idct.specs.Driver as D
use Rattle.reconstruct.specs.Reconstruct as R
use Rattle.report.specs.Report as P
use Rattle.report.specs.Report.{TOTAL_LIMIT, total}
use Rattle.fwd_dct.specs.Forward as F
use Rattle.fwd_dct.specs.Forward.{RESIDUAL_LIMIT}
use Rattle.fwd_transform.specs.Quantize as Q
use Rattle.vbk_read.specs.Bytes.{le1}
use Rattle.vbk_read.specs.Header.{HEADER_BYTES, version_of, depth_of, plane_area, first_record}
use Rattle.vbk_read.specs.Records.{HEAD_BYTES, size_at, lossless_at, next_at}
use Rattle.vbk.specs.Replay.{RECORD_LIMIT}
use Rattle.vbk_write.specs.Lent.{Lent, Alike, tokens_before, file_of}
use Rattle.promises.specs.Conditions.{NoDepth, LosslessAt, NoTxType, NoQuantizer, SomeBeyond, SumBeyond, SomeAbove, OtherCount, LineLeaves}

-- the 2D driver and the reference driver; the size number is n − 2
pub data Driver (u : D.Input) : ℕ → Type 0 where
  side : (2 ≤ u.n → u.n ≤ 5 → ⊥) → Driver u 2
  lossless : LosslessAt u.lossless (u.n - 2) → Driver u 3
  tx_type : NoTxType u.lossless (u.n - 2) u.tx_type → Driver u 4
  room : length u.block < area u.n → Driver u 6
  coefficient : SomeBeyond COEF_LIMIT (area u.n) u.block → Driver u 9

-- the row summary
pub data Summary (n : ℕ) (block : List ℤ) : ℕ → Type 0 where
  side : (2 ≤ n → n ≤ 5 → ⊥) → Summary n block 2
  room : length block < area n → Summary n block 6

-- one token replaced, step by step: the place comes before the token
pub data Replace (u : Z.Input) : ℕ → Type 0 where
  depth : NoDepth u.depth → Replace u 1
  size : 3 < u.size → Replace u 2
  dc : NoQuantizer u.dc.0 → Replace u 3
  ac : NoQuantizer u.ac.0 → Replace u 3
  count : (length u.block ≡ area (u.size + 2) → ⊥) → Replace u 4
  place : area (u.size + 2) ≤ u.place → Replace u 5
  token : codeable u.depth < nat_abs u.token → Replace u 6
  coefficient : COEF_LIMIT < nat_abs (Z.coefficient u) → Replace u 7

-- the number of each step of a replacement, 0 for none
abbrev pub replace_numbers : List ℕ
replace_numbers = 0 ∷ 1 ∷ 2 ∷ 5 ∷ 6 ∷ 16 ∷ 8 ∷ 9 ∷ []

-- the 32-bit engine: all that the driver refuses, then a row of the block, or a column of what the rows leave, that does not stay within 16 bits
pub data Engine32 (u : D.Input) : ℕ → Type 0 where
  driver : {k : ℕ} → Driver u k → Engine32 u k
  row_leaves : (i : ℕ) → i < n0 u.n → LineLeaves (row_pass u.tx_type u.lossless) u.n (row (n0 u.n) i u.block) → Engine32 u 18
  column_leaves : (j : ℕ) → j < n0 u.n
      → LineLeaves (column_pass u.tx_type u.lossless) u.n (column (n0 u.n) j (rows (apply (row_pass u.tx_type u.lossless) u.n) (n0 u.n) u.block))
      → Engine32 u 18

-- reconstruction
pub data Reconstruct (u : R.Input) : ℕ → Type 0 where
  depth : NoDepth u.depth → Reconstruct u 1
  size : 3 < u.size → Reconstruct u 2
  lossless : LosslessAt u.lossless u.size → Reconstruct u 3
  tx_type : NoTxType u.lossless u.size u.tx_type → Reconstruct u 4
  dc : NoQuantizer u.dc.0 → Reconstruct u 5
  ac : NoQuantizer u.ac.0 → Reconstruct u 5
  count : (length u.tokens ≡ area (u.size + 2) → ⊥) → Reconstruct u 6
  short : u.plane.stride < u.plane.width → Reconstruct u 7
  long : SIDE_LIMIT < u.plane.stride → Reconstruct u 7
  wide : SIDE_LIMIT < u.plane.width → Reconstruct u 7
  high : SIDE_LIMIT < u.plane.height → Reconstruct u 7
  samples : (length u.samples ≡ u.plane.stride * u.plane.height → ⊥) → Reconstruct u 7
  token : SomeBeyond (codeable u.depth) (length u.tokens) u.tokens → Reconstruct u 8
  coefficient : SomeBeyond COEF_LIMIT (length u.tokens) (dequant_all u.size u.dc u.ac u.tokens) → Reconstruct u 9

-- reconstruction with a report beside it: all that reconstruction refuses, then the report
pub data Report (u : P.Input) : ℕ → Type 0 where
  block : {k : ℕ} → Reconstruct u.block k → Report u k
  past : TOTAL_LIMIT < total u.counts + length u.block.tokens → Report u 15
  sum : SumBeyond u.counts u.sums → Report u 15

-- the quantizer, step by step: depth 12, which is no longer written, is told in the place of a depth that there is not
pub data Quantize (u : Q.Input) : ℕ → Type 0 where
  depth : NoDepth u.depth → Quantize u 1
  retired : u.depth ≡ 12 → Quantize u 2
  size : 3 < u.size → Quantize u 3
  dc : NoQuantizer u.dc.0 → Quantize u 4
  ac : NoQuantizer u.ac.0 → Quantize u 4
  count : LIST_LIMIT < length u.coefs → Quantize u 5
  coefficient : SomeBeyond COEF_LIMIT (length u.coefs) u.coefs → Quantize u 6

-- the number of each of its steps, 0 for none
abbrev pub quantize_numbers : List ℕ
quantize_numbers = 0 ∷ 1 ∷ 20 ∷ 2 ∷ 5 ∷ 6 ∷ 9 ∷ []

-- the quantizer that takes a rule, step by step: a rule other than 1 and 2, then all that the quantizer refuses
pub data Rule (rule : ℕ) (u : Q.Input) : ℕ → Type 0 where
  unknown : (1 ≤ rule → rule ≤ 2 → ⊥) → Rule rule u 1
  quantizer : {k : ℕ} → Quantize u k → Rule rule u (suc k)

-- the number of each of its steps, 0 for none
abbrev pub rule_numbers : List ℕ
rule_numbers = 0 ∷ 19 ∷ 1 ∷ 20 ∷ 2 ∷ 5 ∷ 6 ∷ 9 ∷ []

-- the forward WHT
pub data Forward (block : List ℤ) : ℕ → Type 0 where
  count : (length block ≡ 16 → ⊥) → Forward block 6
  coefficient : SomeBeyond WHT_LIMIT (length block) block → Forward block 9

-- the forward DCT
pub data ForwardDct (u : F.Input) : ℕ → Type 0 where
  side : (2 ≤ u.n → u.n ≤ 5 → ⊥) → ForwardDct u 2
  count : (length u.block ≡ area u.n → ⊥) → ForwardDct u 6
  residual : SomeBeyond RESIDUAL_LIMIT (length u.block) u.block → ForwardDct u 9

-- the header of a VBK file, step by step
pub data Header (s : List ℕ) : ℕ → Type 0 where
  large : FILE_LIMIT < length s → Header s 1
  short : length s < HEADER_BYTES → Header s 2
  mark : (le1 s 0 ≡ 86 → le1 s 1 ≡ 66 → le1 s 2 ≡ 75 → ⊥) → Header s 3
  version : (version_of s ≡ 1 → ⊥) → Header s 4
  depth : NoDepth (depth_of s) → Header s 5
  empty : plane_area s ≡ 0 → Header s 6
  wide : AREA_LIMIT < plane_area s → Header s 6
  samples : length s < first_record s → Header s 7

-- the number of each step of the header, 0 for none
abbrev pub header_numbers : List ℕ
header_numbers = 0 ∷ 13 ∷ 12 ∷ 10 ∷ 11 ∷ 1 ∷ 13 ∷ 12 ∷ []

-- a record at a place, before its reconstruction: with no byte left there is none, and nothing is answered
pub data Record (s : List ℕ) (at : ℕ) : ℕ → Type 0 where
  none : length s ≤ at → Record s at 1
  head : length s < at + HEAD_BYTES → Record s at 2
  size : 3 < size_at s at → Record s at 3
  tokens : length s < next_at s at → Record s at 4
  lossless : 1 < lossless_at s at → Record s at 5

-- the number of each step of a record, 0 for none
abbrev pub record_numbers : List ℕ
record_numbers = 0 ∷ 0 ∷ 12 ∷ 2 ∷ 12 ∷ 14 ∷ []

-- the reading ends at a place: one of the first four steps of a record applies
pub data Ends (s : List ℕ) (at : ℕ) : Type 0 where
  none : length s ≤ at → Ends s at
  head : length s < at + HEAD_BYTES → Ends s at
  size : 3 < size_at s at → Ends s at
  tokens : length s < next_at s at → Ends s at

-- a run over a file: the rooms lent for the plane and the answers, then the header
pub data Run (s samples answers : List ℕ) : ℕ → Type 0 where
  plane_room : length samples < AREA_LIMIT → Run s samples answers 1
  answers_room : length answers < RECORD_LIMIT → Run s samples answers 1
  header : {k : ℕ} → Header s k → Run s samples answers (suc k)

-- the number of each step of a run, 0 for none
abbrev pub run_numbers : List ℕ
run_numbers = 0 ∷ 6 ∷ 13 ∷ 12 ∷ 10 ∷ 11 ∷ 1 ∷ 13 ∷ 12 ∷ []

-- a VBK file to be written, step by step: depth 12 is told in the place of a depth that there is not
pub data Write (l : Lent) (room : ℕ) : ℕ → Type 0 where
  depth : NoDepth l.depth → Write l room 1
  retired : l.depth ≡ 12 → Write l room 2
  size : SomeAbove 3 l.sizes → Write l room 3
  samples : (length l.samples ≡ l.width * l.height → ⊥) → Write l room 4
  lists : (Alike l → ⊥) → Write l room 4
  count : OtherCount l.sizes l.counts → Write l room 4
  sum : (tokens_before l.counts (length l.counts) ≡ length l.tokens → ⊥) → Write l room 4
  empty : l.width * l.height ≡ 0 → Write l room 5
  wide : AREA_LIMIT < l.width * l.height → Write l room 5
  long : FILE_LIMIT < length (file_of l) → Write l room 5
  lossless : SomeAbove 1 l.lossless → Write l room 6
  short : room < length (file_of l) → Write l room 7

-- the number of each of its steps, 0 for none
abbrev pub write_numbers : List ℕ
write_numbers = 0 ∷ 1 ∷ 20 ∷ 2 ∷ 6 ∷ 13 ∷ 14 ∷ 17 ∷ []
