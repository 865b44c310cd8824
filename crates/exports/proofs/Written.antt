-- A file written, as C is told of it.
use mathlib.Core.Path.{◌≡◌, sym, ap, ◌∙◌}
use mathlib.Core.List.{List}
use Prim.Native.Nat.{ℕ}
use borrow.Author.Tests.{eq-eqb, ne_eqb}
use lib.ListN.{set}
use Rattle.std.specs.Prelude.{Ok, Err}
use Rattle.answers.specs.Answers.{refusal_number}
use Rattle.answers.specs.declared.Refusal.{Refusal}
use Rattle.answers.proofs.Numbers.{refused_number}
use Rattle.vbk_write.specs.Promises.{Wrote}
use Rattle.exports.specs.Told.{Told}
use Rattle.exports.specs.Write.{Request, Buffer, request_answer, buffer_after}

both : {o p s t : List ℕ} → o ≡ p → s ≡ t → ◌≡◌ {A = Buffer} (record { out = o; size = s }) (record { out = p; size = t })
both e f = rw (e, f)

module _ (u : Request) {after : List ℕ} where
  pub refused : {a : Refusal} → Wrote u.lent u.out (Err a) after → {n : ℕ} → n ≡ refusal_number a → Told request_answer buffer_after u n (record { out = after; size = u.size })
  unfolding buffer_after
  refused {a} w e =
      let b = ne_eqb (request_answer u) 0 (λ q. refused_number a (w.answered ∙ q)) in
      record { answered = e ∙ w.answered; written = both w.out_is (rw b) }

  pub done : {k : ℕ} → Wrote u.lent u.out (Ok k) after → {size : List ℕ} → size ≡ set u.size 0 k → Told request_answer buffer_after u 0 (record { out = after; size = size })
  unfolding buffer_after
  done {k} w f =
      let b = eq-eqb (request_answer u) 0 (sym w.answered) in
      record { answered = w.answered; written = both w.out_is (rw b (f ∙ ap (set u.size 0) w.length_is)) }
