-- Writing a VBK file as C sees it: the file's length stands in a number that is lent for it.
use Rattle.std.specs.Prelude.{cond, List, ◌++◌, ℕ, eqb, length, drop, set}
use Rattle.vbk_write.specs.Lent.{Lent, file_of}
use Rattle.vbk_write.specs.Promises.{answer_of}

-- what the call is given: what the file is to say, the buffer, and the place for the length, a list of one number
pub record Request : Type 0 where
  pub lent : Lent
  pub out : List ℕ
  pub size : List ℕ

-- the buffer and that place
pub record Buffer : Type 0 where
  pub out : List ℕ
  pub size : List ℕ

abbrev pub request_answer : Request → ℕ
request_answer u = answer_of u.lent (length u.out)

-- done, the file at the buffer's front, and its length; as they were under a refusal
unfoldable pub buffer_after : Request → Buffer
buffer_after u =
    record {
      out = cond (eqb (request_answer u) 0) (file_of u.lent ++ drop (length (file_of u.lent)) u.out) u.out;
      size = cond (eqb (request_answer u) 0) (set u.size 0 (length (file_of u.lent))) u.size;
    }
