-- One result each: what is read is fixed by its number and by what it says, and a record by what is asked of it.
use mathlib.Core.Path.{◌≡◌, refl, sym, ap, ap₂, ◌∙◌}
use mathlib.Core.Bool.{false}
use Prim.Native.Nat.{ℕ}
use borrow.Author.Tests.{both_ways}
use Rattle.std.specs.Prelude.{Result, Ok, Err, IfOk}
use Rattle.answers.specs.Answers.{Answer, refusal_number}
use Rattle.answers.specs.declared.Refusal.{Refusal}
use Rattle.answers.proofs.Numbers.{refused_number, number_injective}
use Rattle.vbk_read.specs.Header.{number_in}
use Rattle.vbk_read.specs.Records.{is_found, is_last, record_number, head_in, next_in}
use Rattle.vbk_read.specs.declared.Cursor.{Cursor}
use Rattle.vbk_read.specs.declared.Record.{Record}
use Rattle.vbk_read.specs.declared.Record.TheVariants.{End, Last, Skipped, Whole}

-- the refusal of an answer; of one that is done another
refusal_in : Refusal → Answer → Refusal
refusal_in other (Ok _) = other
refusal_in other (Err r) = r

pub refusal_unique : (a b : Refusal) → refusal_number a ≡ refusal_number b → a ≡ b
unfolding refusal_in
refusal_unique a b e = ap (refusal_in a) (number_injective (Err a) (Err b) e)

pub result_unique : {A : Type 0} (P : A → Type 0) (n : ℕ) → ((x y : A) → P x → P y → x ≡ y) → (r t : Result A Refusal) → number_in r ≡ n → number_in t ≡ n → IfOk r P → IfOk t P → r ≡ t
result_unique P n u (Ok x) (Ok y) e f p q = ap Ok (u x y p q)
result_unique P n u (Ok x) (Err b) e f p q = absurd (refused_number b (f ∙ sym e))
result_unique P n u (Err a) (Ok y) e f p q = absurd (refused_number a (e ∙ sym f))
result_unique P n u (Err a) (Err b) e f p q = ap Err (refusal_unique a b (e ∙ sym f))

place : (c d : Cursor) → c.at ≡ d.at → c ≡ d
place c d e = ap (λ (x : ℕ). record { at = x }) e

pub record_same : (n : ℕ) (r t : Record) → is_found r ≡ is_found t → is_last r ≡ is_last t → record_number r ≡ record_number t → head_in r ≡ head_in t → next_in n r ≡ next_in n t → r ≡ t
record_same n End End f l a h p = refl
record_same n End (Last b) f l a h p = absurd (both_ways false refl f)
record_same n End (Skipped b m) f l a h p = absurd (both_ways false refl f)
record_same n End (Whole k m) f l a h p = absurd (both_ways false refl f)
record_same n (Last r) End f l a h p = absurd (both_ways false refl (sym f))
record_same n (Last r) (Last b) f l a h p = ap Last (refusal_unique r b a)
record_same n (Last r) (Skipped b m) f l a h p = absurd (both_ways false refl (sym l))
record_same n (Last r) (Whole k m) f l a h p = absurd (both_ways false refl (sym l))
record_same n (Skipped r c) End f l a h p = absurd (both_ways false refl (sym f))
record_same n (Skipped r c) (Last b) f l a h p = absurd (both_ways false refl l)
record_same n (Skipped r c) (Skipped b m) f l a h p = ap₂ Skipped (refusal_unique r b a) (place c m p)
record_same n (Skipped r c) (Whole k m) f l a h p = absurd (refused_number r a)
record_same n (Whole g c) End f l a h p = absurd (both_ways false refl (sym f))
record_same n (Whole g c) (Last b) f l a h p = absurd (both_ways false refl l)
record_same n (Whole g c) (Skipped b m) f l a h p = absurd (refused_number b (sym a))
record_same n (Whole g c) (Whole k m) f l a h p = ap₂ Whole h (place c m p)
