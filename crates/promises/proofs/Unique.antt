-- One result per promise: two results that meet a call's promise on the same input coincide, the answer, every value and every lent element.
use Rattle.std.specs.Prelude.{Result}
use Rattle.answers.specs.declared.Refusal.{Refusal}
use mathlib.Core.Path.{◌≡◌, sym, ap, ◌∙◌}
use mathlib.Core.List.{List}
use Prim.Native.Nat.{ℕ}
use lib.IntN.{ℤ, pos}
use lib.ListN.{length}
use denote.Ref.{Bor}
use Rattle.answers.specs.Answers.{Answer, number}
use Rattle.answers.specs.Limits.{codeable}
use Rattle.answers.proofs.Numbers.{number_injective}
use Rattle.std.specs.Prelude.{Option, Result}
use Rattle.answers.specs.declared.Refusal.{Refusal}
use Rattle.summary.specs.Summary.{set_rows, first_of, last_of, summarized}
use Rattle.summary.specs.Replace as Z
use Rattle.idct.specs.Driver as D
use Rattle.idct.specs.Rows.{Rowed}
use Rattle.idct32.specs.Engine.{answer_of32, Driven32}
use Rattle.reconstruct.specs.Reconstruct as R
use Rattle.report.specs.Report as P
use Rattle.fwd_dct.specs.Forward as F
use Rattle.fwd_transform.specs.Quantize as Q
use Rattle.fwd_transform.specs.ForwardWht.{Forwarded}
use Rattle.vbk_read.specs.Header.{header_answer, fields_of, Headed}
use Rattle.vbk_read.specs.Records.{Recorded, Opened}
use Rattle.vbk_read.specs.declared.Fields.{Fields}
use Rattle.vbk_read.proofs.Results.{result_unique, record_same}
use Rattle.vbk_read.specs.declared.Record.{Record}
use Rattle.vbk_read.specs.declared.Reader.{Reader}
use Rattle.vbk.specs.Promises.{run_of, run_answer, Tells, Replayed, Printed}
use Rattle.vbk.proofs.Runs.{tells_unique}
use Rattle.vbk.specs.declared.Run.{Run}
use Rattle.vbk_write.specs.Lent.{Lent}
use Rattle.vbk_write.specs.Lent.{file_of}
use Rattle.vbk_write.specs.Promises as W
use Rattle.vbk_write.specs.Promises.{Wrote}
use Rattle.exports.specs.Told.{Told}
use Rattle.rows_told.specs.Rows.{row_number}
use Rattle.exports.specs.Run.{RunTold}

-- two answers with one number, and two values with one definition
same_answer : (n : ℕ) (a b : Answer) → number a ≡ n → number b ≡ n → a ≡ b
same_answer n a b p q = number_injective a b (p ∙ sym q)

same : {A : Type 0} {d x y : A} → x ≡ d → y ≡ d → x ≡ y
same p q = p ∙ sym q

-- `inverse_transform_2d` and `inverse_transform_2d_reference`, and so the two give one result
pub driver_unique : (u : D.Input) (a b : Answer) (s t : List ℤ) → D.Driven u a s → D.Driven u b t → (a ≡ b) × (s ≡ t)
driver_unique u a b s t p q = (same_answer (D.answer_of u) a b p.answered q.answered, same p.written q.written)

-- `inverse_transform_2d_rows`
pub rows_unique : (u : D.Input) (a b : Answer) (k l : ℕ) (s t : List ℤ) → Rowed u a k s → Rowed u b l t → (a ≡ b) × (k ≡ l) × (s ≡ t)
rows_unique u a b k l s t p q =
    (same_answer (D.answer_of u) a b p.answered q.answered, same p.counted q.counted, same p.written q.written)

-- `row_summary`
pub summary_unique : (n : ℕ) (block : List ℤ) (r t : Result ℕ Refusal) → r ≡ summarized n block → t ≡ summarized n block → r ≡ t
summary_unique n block r t p q = same p q

-- `row_count` and its export
pub row_count_unique : (m r t : ℕ) → r ≡ length (set_rows m) → t ≡ length (set_rows m) → r ≡ t
row_count_unique m r t p q = same p q

-- `first_row` and `last_row`
pub first_row_unique : (m : ℕ) (r t : Option ℕ) → r ≡ first_of (set_rows m) → t ≡ first_of (set_rows m) → r ≡ t
first_row_unique m r t p q = same p q

pub last_row_unique : (m : ℕ) (r t : Option ℕ) → r ≡ last_of (set_rows m) → t ≡ last_of (set_rows m) → r ≡ t
last_row_unique m r t p q = same p q

-- `bracetwill_first_row` and `bracetwill_last_row`
pub row_told_unique : (row : Option ℕ) (r t : ℤ) → r ≡ row_number row → t ≡ row_number row → r ≡ t
row_told_unique row r t p q = same p q

-- `replace_token`
pub replace_unique : (u : Z.Input) (a b : Answer) (s t : List ℤ) (m n : ℕ) → Z.Replaced u a s m → Z.Replaced u b t n → (a ≡ b) × (s ≡ t) × (m ≡ n)
replace_unique u a b s t m n p q =
    (same_answer (Z.answer_of u) a b p.answered q.answered, same p.written q.written, same p.kept q.kept)

-- `inverse_transform_2d_32`
pub engine32_unique : (u : D.Input) (a b : Answer) (s t : List ℤ) → Driven32 u a s → Driven32 u b t → (a ≡ b) × (s ≡ t)
engine32_unique u a b s t p q = (same_answer (answer_of32 u) a b p.answered q.answered, same p.written q.written)

-- `reconstruct_block`
pub reconstruct_unique : (u : R.Input) (a b : Answer) (s t : List ℕ) → R.Reconstructed u a s → R.Reconstructed u b t → (a ≡ b) × (s ≡ t)
reconstruct_unique u a b s t p q = (same_answer (R.answer_of u) a b p.answered q.answered, same p.written q.written)

-- `reconstruct_block_report`
pub report_unique : (u : P.Input) (a b : Answer) (s t c d m n : List ℕ) → P.Reported u a s c m → P.Reported u b t d n → (a ≡ b) × (s ≡ t) × (c ≡ d) × (m ≡ n)
report_unique u a b s t c d m n p q =
    (same_answer (P.answer_of u) a b p.answered q.answered, same p.written q.written, same p.counted q.counted, same p.summed q.summed)

-- `forward_wht_2d`
pub forward_unique : (block : List ℤ) (a b : Answer) (s t : List ℤ) → Forwarded block a s → Forwarded block b t → (a ≡ b) × (s ≡ t)
forward_unique block a b s t p q = (same_answer _ a b p.answered q.answered, same p.written q.written)

-- `forward_dct_2d`
pub dct_unique : (u : F.Input) (a b : Answer) (s t : List ℤ) → F.Transformed u a s → F.Transformed u b t → (a ≡ b) × (s ≡ t)
dct_unique u a b s t p q = (same_answer (F.answer_of u) a b p.answered q.answered, same p.written q.written)

-- `quantize_block_tx` and `quantize_block`
pub quantize_unique : (u : Q.Input) (a b : Answer) (s t : List ℤ) → Q.Quantized u a s → Q.Quantized u b t → (a ≡ b) × (s ≡ t)
quantize_unique u a b s t p q = (same_answer (Q.answer_of u) a b p.answered q.answered, same p.written q.written)

-- `quantize_block_rule`
pub rule_unique : (rule : ℕ) (u : Q.Input) (a b : Answer) (s t : List ℤ) → Q.Ruled rule u a s → Q.Ruled rule u b t → (a ≡ b) × (s ≡ t)
rule_unique rule u a b s t p q = (same_answer (Q.rule_answer rule u) a b p.answered q.answered, same p.written q.written)

-- `max_codeable_coef` and its export
pub codeable_unique : (depth : ℕ) (r t : ℤ) → r ≡ pos (codeable depth) → t ≡ pos (codeable depth) → r ≡ t
codeable_unique depth r t p q = same p q

-- `read_header`
pub header_unique : (s : List ℕ) (h k : Result Fields Refusal) → Headed s h → Headed s k → h ≡ k
header_unique s h k p q =
    result_unique (λ f. f ≡ fields_of s) (header_answer s) (λ x y p q. same p q) h k p.answered q.answered p.fields_are q.fields_are

-- what is read at a place
pub record_unique : (s : List ℕ) (at : ℕ) (r t : Record) → Recorded s at r → Recorded s at t → r ≡ t
record_unique s at r t p q =
    record_same (length s) r t (same p.found_is q.found_is) (same p.ends_is q.ends_is) (same p.answered q.answered) (same p.head_is q.head_is) (same p.next_is q.next_is)

-- `open` and the reader's `next`
pub open_unique : (file : Bor (List ℕ)) (at : ℕ) (r t : Reader) → Opened file at r → Opened file at t → r ≡ t
open_unique file at r t p q =
    ap (λ x. record { file = x; at = r.at; «record» = r.«record» }) (same p.file_is q.file_is)
    ∙ ap (λ x. record { file = t.file; at = x; «record» = r.«record» }) (same p.at_is q.at_is)
    ∙ ap (λ x. record { file = t.file; at = t.at; «record» = x }) (record_unique file.now at r.«record» t.«record» p.record_is q.record_is)

-- `replay`
pub replay_unique : (s samples answers : List ℕ) (r t : Result Run Refusal) (p₁ p₂ a₁ a₂ : List ℕ) → Replayed s samples answers r p₁ a₁ → Replayed s samples answers t p₂ a₂
    → (r ≡ t) × (p₁ ≡ p₂) × (a₁ ≡ a₂)
replay_unique s samples answers r t p₁ p₂ a₁ a₂ p q =
    (result_unique (Tells s (run_of s)) (run_answer s samples answers) (tells_unique s (run_of s)) r t p.answered q.answered p.told q.told, same p.samples_are q.samples_are, same p.answers_are q.answers_are)

-- `blockrun` and its export
pub blockrun_unique : (s samples answers out : List ℕ) (r t : ℕ) (p₁ p₂ a₁ a₂ o₁ o₂ : List ℕ) → Printed s samples answers out r p₁ a₁ o₁
    → Printed s samples answers out t p₂ a₂ o₂ → (r ≡ t) × (p₁ ≡ p₂) × (a₁ ≡ a₂) × (o₁ ≡ o₂)
blockrun_unique s samples answers out r t p₁ p₂ a₁ a₂ o₁ o₂ p q =
    (same p.length_is q.length_is, same p.samples_are q.samples_are, same p.answers_are q.answers_are, same p.text_is q.text_is)

-- `vbk_write`
pub write_unique : (l : Lent) (out : List ℕ) (r t : Result ℕ Refusal) (o₁ o₂ : List ℕ) → Wrote l out r o₁ → Wrote l out t o₂ → (r ≡ t) × (o₁ ≡ o₂)
write_unique l out r t o₁ o₂ p q =
    (result_unique (λ n. n ≡ length (file_of l)) (W.answer_of l (length out)) (λ x y p q. same p q) r t p.answered q.answered p.length_is q.length_is, same p.out_is q.out_is)

-- `bracetwill_inverse_transform_2d`, its reference, `bracetwill_inverse_transform_2d_rows`, `bracetwill_row_summary`, `bracetwill_replace_token`, `bracetwill_reconstruct_block`, `bracetwill_reconstruct_block_report`, `bracetwill_forward_wht_2d`, `bracetwill_forward_dct_2d`, `bracetwill_quantize_block_tx`, `bracetwill_quantize_block`, `bracetwill_quantize_block_rule` and `bracetwill_vbk_write`
pub told_unique : {Given Lent : Type 0} (answer : Given → ℕ) (after : Given → Lent) (u : Given) (r t : ℕ) (k l : Lent) → Told answer after u r k
    → Told answer after u t l → (r ≡ t) × (k ≡ l)
told_unique answer after u r t k l p q = (same p.answered q.answered, same p.written q.written)

-- `bracetwill_replay`
pub run_told_unique : (s samples answers room : List ℕ) (r t : ℕ) (p₁ p₂ a₁ a₂ f₁ f₂ : List ℕ) → RunTold s samples answers room r p₁ a₁ f₁
    → RunTold s samples answers room t p₂ a₂ f₂ → (r ≡ t) × (p₁ ≡ p₂) × (a₁ ≡ a₂) × (f₁ ≡ f₂)
run_told_unique s samples answers room r t p₁ p₂ a₁ a₂ f₁ f₂ p q =
    (same p.answered q.answered, same p.samples_are q.samples_are, same p.answers_are q.answers_are, same p.figures_are q.figures_are)
