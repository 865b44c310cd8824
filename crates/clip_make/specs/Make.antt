-- What `make` promises: what it made is a file that the writer takes the lists of, or nothing; and words that their buffer has room for.
use Rattle.std.specs.Prelude.{◌≡◌, List, ◌++◌, ℕ, length, drop, IfSome, IfNone}
use Rattle.clip_rows.specs.Rows.{Said}
use Rattle.vbk_write.specs.Lent.{Lent, file_of}
use Rattle.vbk_write.specs.Promises.{answer_of}
use Rattle.clip_make.specs.declared.Made.{Made}

-- the file of some lists, which the writer answers 0, stands at the buffer's front, and what is past it stays
pub record FileMade (out : List ℕ) (n : ℕ) (after : List ℕ) : Type 0 where
  pub lists : Lent
  pub taken : answer_of lists (length out) ≡ 0
  pub length_is : n ≡ length (file_of lists)
  pub after_is : after ≡ file_of lists ++ drop (length (file_of lists)) out

-- the promise
pub record MadeOf (out words : List ℕ) (r : Made) (after told : List ℕ) : Type 0 where
  pub said : Said words r.said told
  pub file : IfSome r.file (λ n. FileMade out n after)
  pub stays : IfNone r.file (after ≡ out)
