-- The numbers of docs/REFERENCE.md that are proved, in one table: what a definition gives, beside what is said there.
use Rattle.std.specs.Prelude.{false, cond, List, [], ◌∷◌, ◌++◌, map, ℕ, ◌+◌, eqb, ℤ, pos, negsuc, length, replicate, take}
use Rattle.whole.specs.Lists.{tabulate}
use Rattle.answers.specs.Sizes.{area}
use Rattle.primitives.specs.Brev.{Brev}
use Rattle.primitives.specs.Cosine.{Cos64, Sin64}
use Rattle.wht.specs.Wht.{wht}
use Rattle.summary.specs.Summary.{set_rows, summary_of, first_of, last_of}
use Rattle.summary.specs.Replace.{summary_after}
use Rattle.rows_told.specs.Rows.{row_number}
use Rattle.idct.specs.Driver as D
use Rattle.idct32.specs.Engine.{answer_of32}
use Rattle.fwd_transform.specs.Quantize as Q
use Rattle.fwd_dct.specs.Forward as F
use Rattle.reconstruct.specs.Reconstruct as R
use Rattle.report.specs.Classes.{CLASSES, one, itself}
use Rattle.report.specs.Report.{list_after}
use Rattle.report.specs.History.{empty}
use Rattle.vbk_write.specs.Lent.{Lent, file_of}
use Rattle.vbk_write.specs.Promises as W

-- a row of the table
pub record Row : Type 0 where
  pub given : List ℤ
  pub said : List ℤ

-- a row of one number
abbrev number : ℤ → ℤ → Row
number given said = record { given = given ∷ []; said = said ∷ [] }

-- a row of what a call answers to each of some numbers
abbrev answers : (ℤ → ℕ) → List ℤ → List ℕ → Row
answers f xs said = record { given = map (λ x. pos (f x)) xs; said = map pos said }

-- a number at place 0 of a 4 by 4 block, and no other
abbrev alone : ℤ → List ℤ
alone x = x ∷ replicate 15 (pos 0)

-- ---- the drivers, type 0
abbrev driven : ℤ → D.Input
driven x = record { block = alone x; n = 2; tx_type = 0; lossless = false }

-- the residual of a number alone, and the number that each of its sixteen is
abbrev dc_block : ℤ → ℤ → Row
dc_block x said = record { given = D.block_after (driven x); said = replicate 16 said }

-- the answer of the driver, and of the 32-bit engine
abbrev driver : ℤ → ℕ
driver x = D.answer_of (driven x)

abbrev engine : ℤ → ℕ
engine x = answer_of32 (driven x)

-- ---- the quantizer, at a depth of 8
abbrev quantized : ℕ → ℤ → ℤ → Q.Input
quantized size q coef = record { coefs = coef ∷ []; dc = record { 0 = q }; ac = record { 0 = q }; size = size; depth = 8 }

-- the token of a coefficient by a rule
abbrev token_by : ℕ → ℕ → ℤ → ℤ → ℤ → Row
token_by rule size q coef said = record { given = Q.ruled_after rule (quantized size q coef); said = said ∷ [] }

-- by rule 1
abbrev token : ℕ → ℤ → ℤ → ℤ → Row
token = token_by 1

-- the answer
abbrev quantizer : ℤ → ℕ
quantizer coef = Q.answer_of (quantized 0 (pos 4) coef)

-- ---- reconstruction of a 4 by 4 block beside a plane that has no sample
abbrev rebuilt : ℕ → ℤ → List ℤ → R.Input
rebuilt depth q tokens =
    record {
      samples = [];
      plane = record { width = 0; height = 0; stride = 0 };
      x = 0;
      y = 0;
      size = 0;
      tokens = tokens;
      dc = record { 0 = q };
      ac = record { 0 = q };
      tx_type = 0;
      lossless = false;
      depth = depth;
    }

-- the answer to a token at a depth of 12 under quantizers of 32,767
abbrev token_at12 : ℤ → ℕ
token_at12 t = R.answer_of (rebuilt 12 (pos 32767) (alone t))

-- the numbers on both sides of each edge between two classes
abbrev edges : List ℤ
edges = map pos (0 ∷ 1 ∷ 2 ∷ 3 ∷ 4 ∷ 5 ∷ 6 ∷ 7 ∷ 10 ∷ 11 ∷ 18 ∷ 19 ∷ 34 ∷ 35 ∷ 66 ∷ 67 ∷ [])

-- the eleven classes of 4 by 4 after a block of these: how many tokens each has, or the sum of their magnitudes
abbrev classes : (ℕ → ℕ) → List ℕ → Row
classes f said =
    record { given = map pos (take CLASSES (list_after f (record { block = rebuilt 8 (pos 1) edges; counts = empty; sums = empty }) empty)); said = map pos said }

-- ---- the forward DCT
-- the answer to a residual alone
abbrev residual : ℤ → ℕ
residual x = F.answer_of (record { block = alone x; n = 2 })

-- the first coefficients of the numbers 1, 2, 3 and so on
abbrev counting : ℕ → List ℤ → Row
counting n said = record { given = take (length said) (F.block_after (record { block = tabulate (λ k. pos (k + 1)) (area n); n = n })); said = said }

-- ---- a VBK file: a plane of 4 by 4 samples and one lossless block
abbrev file : Lent
file =
    record {
      depth = 8;
      width = 4;
      height = 4;
      samples = replicate 16 100;
      xs = 0 ∷ [];
      ys = 0 ∷ [];
      sizes = 0 ∷ [];
      tx_types = 0 ∷ [];
      lossless = 1 ∷ [];
      dcs = 4 ∷ [];
      acs = 4 ∷ [];
      counts = 16 ∷ [];
      tokens = alone (pos 5);
    }

-- the writer's answer in a buffer of so many bytes, and the length that it gives
abbrev writes : ℕ → ℤ → ℤ → Row
writes room answer bytes =
    record { given = pos (W.answer_of file room) ∷ pos (cond (eqb (W.answer_of file room) 0) (length (file_of file)) 0) ∷ []; said = answer ∷ bytes ∷ [] }

-- ---- row summaries
-- what a summary says: how many rows, the first and the last, −1 for none
abbrev says : ℕ → ℤ → ℤ → ℤ → Row
says m count first last =
    record { given = pos (length (set_rows m)) ∷ row_number (first_of (set_rows m)) ∷ row_number (last_of (set_rows m)) ∷ []; said = count ∷ first ∷ last ∷ [] }

-- the summary of a 32 by 32 block of zeros after a token at its last place, under quantizers of 1
abbrev halved : ℤ → ℤ → Row
halved t said =
    number
    (pos (summary_after (record { block = replicate 1024 (pos 0); summary = 0; size = 3; place = 1023; token = t; dc = record { 0 = pos 1 }; ac = record { 0 = pos 1 }; depth = 8 })))
    said

-- the numbers marked P, in the order of their table
unfoldable pub numbers : List Row
numbers =
    number (pos (Brev 5 1)) (pos 16)
    ∷ number (Cos64 (pos 100)) (pos 3196)
    ∷ number (Cos64 (pos 65)) (negsuc 16363)
    ∷ number (Cos64 (negsuc 31)) (pos 0)
    ∷ number (Sin64 (pos 32)) (pos 16384)
    ∷ number (Sin64 (negsuc 2147483647)) (pos 0)
    ∷ dc_block (pos 16) (pos 1)
    ∷ dc_block (pos 14) (pos 0)
    ∷ dc_block (negsuc 15) (pos 0)
    ∷ dc_block (pos 32) (pos 1)
    ∷ record { given = take 4 (wht 0 (pos 5 ∷ replicate 31 (pos 0))); said = pos 3 ∷ pos 2 ∷ pos 2 ∷ pos 2 ∷ [] }
    ∷ token 0 (pos 4) (pos 2) (pos 0)
    ∷ token 0 (pos 4) (pos 3) (pos 1)
    ∷ token 0 (pos 4) (pos 6) (pos 1)
    ∷ token 0 (pos 4) (pos 7) (pos 2)
    ∷ token 3 (pos 3) (pos 2) (pos 1)
    ∷ token_by 2 0 (pos 4) (pos 2) (pos 1)
    ∷ token_by 2 0 (pos 4) (negsuc 1) (negsuc 0)
    ∷ token_by 2 0 (pos 4) (pos 3) (pos 1)
    ∷ token 3 (pos 4) (pos 1) (pos 0)
    ∷ token_by 2 3 (pos 4) (pos 1) (pos 1)
    ∷ token_by 2 3 (pos 3) (pos 2) (pos 1)
    ∷ answers token_at12 (pos 65536 ∷ pos 65539 ∷ []) (0 ∷ 9 ∷ [])
    ∷ answers driver (pos 2147483648 ∷ negsuc 2147483647 ∷ pos 2147483649 ∷ negsuc 2147483648 ∷ []) (0 ∷ 0 ∷ 9 ∷ 9 ∷ [])
    ∷ answers quantizer (pos 2147483648 ∷ negsuc 2147483647 ∷ pos 2147483649 ∷ negsuc 2147483648 ∷ []) (0 ∷ 0 ∷ 9 ∷ 9 ∷ [])
    ∷ answers engine (pos 32767 ∷ pos 32768 ∷ []) (0 ∷ 18 ∷ [])
    ∷ number (pos (summary_of 4 (pos 0 ∷ pos 7 ∷ replicate 7 (pos 0) ++ (negsuc 8 ∷ replicate 6 (pos 0))))) (pos 5)
    ∷ says 5 (pos 2) (pos 0) (pos 2)
    ∷ says 2147483652 (pos 2) (pos 2) (pos 31)
    ∷ says 0 (pos 0) (negsuc 0) (negsuc 0)
    ∷ halved (pos 1) (pos 0)
    ∷ halved (pos 2) (pos 2147483648)
    ∷ record { given = F.block_after (record { block = replicate 16 (pos 100); n = 2 }); said = pos 3200 ∷ replicate 15 (pos 0) }
    ∷ counting 2 (pos 272 ∷ negsuc 35 ∷ pos 0 ∷ negsuc 2 ∷ negsuc 142 ∷ replicate 7 (pos 0) ++ (negsuc 9 ∷ replicate 3 (pos 0)))
    ∷ counting 3 (pos 2080 ∷ negsuc 145 ∷ [])
    ∷ counting 4 (pos 16447 ∷ negsuc 585 ∷ [])
    ∷ counting 5 (pos 65597 ∷ negsuc 1172 ∷ [])
    ∷ answers residual (pos 4095 ∷ negsuc 4094 ∷ pos 4096 ∷ negsuc 4095 ∷ []) (0 ∷ 0 ∷ 9 ∷ 9 ∷ [])
    ∷ classes one (1 ∷ 1 ∷ 1 ∷ 1 ∷ 1 ∷ 2 ∷ 2 ∷ 2 ∷ 2 ∷ 2 ∷ 1 ∷ [])
    ∷ classes itself (0 ∷ 1 ∷ 2 ∷ 3 ∷ 4 ∷ 11 ∷ 17 ∷ 29 ∷ 53 ∷ 101 ∷ 67 ∷ [])
    ∷ writes 116 (pos 17) (pos 0)
    ∷ writes 117 (pos 0) (pos 117)
    ∷ []

-- what the definitions give
abbrev pub givens : List Row → List (List ℤ)
givens [] = []
givens (r ∷ rs) = r.given ∷ givens rs

-- what docs/REFERENCE.md says
abbrev pub saids : List Row → List (List ℤ)
saids [] = []
saids (r ∷ rs) = r.said ∷ saids rs
