-- The file in the order in which it is written, and what the call promises of it.
use mathlib.Core.Path.{◌≡◌, ap, ◌∙◌, sym}
use mathlib.Core.List.{List, ◌++◌}
use Prim.Native.Nat.{ℕ}
use native.Mathlib.Omega.{arith}
use borrow.Author.Tests.{ne_eqb, eq-eqb}
use lib.ListN.{length}
use Rattle.whole.specs.Steps.{each}
use Rattle.std.specs.Prelude.{Ok, Err}
use Rattle.answers.specs.Answers.{refusal_number}
use Rattle.answers.specs.declared.Refusal.{Refusal}
use Rattle.answers.proofs.Numbers.{refused_number}
use Rattle.vbk_text.specs.Inner.{Room, Put}
use Rattle.vbk_text.proofs.Writing.{put_front, put_count}
use Rattle.vbk_write.specs.Bytes.{two, joined}
use Rattle.vbk_write.specs.Clip.{header_bytes, entry_bytes, bytes_of}
use Rattle.vbk_write.specs.Lent.{Lent, entry_of, clip_of, file_of}
use Rattle.vbk_write.specs.Promises.{answer_of, Wrote}
use Rattle.vbk_write.proofs.Joined.{joined_tabulate}
use Rattle.vbk_write.proofs.Answers.{taken}

-- all records, as the loop writes them
abbrev pub entries : Lent → List ℕ
entries l = each (length l.xs) (λ k. entry_bytes (entry_of l k))

pub in_order : (l : Lent) → header_bytes l.depth l.width l.height ++ (joined two l.samples ++ entries l) ≡ file_of l
unfolding file_of bytes_of clip_of
in_order l =
    ap (λ (r : List ℕ). header_bytes l.depth l.width l.height ++ (joined two l.samples ++ r)) (sym (joined_tabulate entry_bytes (entry_of l) (length l.xs)))

module _ (l : Lent) (out : List ℕ) where
  pub room : answer_of l (length out) ≡ 0 → Room out 0 (file_of l)
  room h = omega (arith, (taken l (length out) h).there)

  pub refused : {a : Refusal} → refusal_number a ≡ answer_of l (length out) → Wrote l out (Err a) out
  refused {a} e =
      let n = ne_eqb (answer_of l (length out)) 0 (λ q. refused_number a (e ∙ q)) in
      record { answered = e; length_is = tt; out_is = rw n }

  pub done : {n : ℕ} {after : List ℕ} → answer_of l (length out) ≡ 0 → Put out 0 (file_of l) n after → Wrote l out (Ok n) after
  done h p =
      let n = eq-eqb (answer_of l (length out)) 0 h in
      record { answered = sym h; length_is = put_count p; out_is = rw n (put_front (room h) p) }
