-- Laws of the answers' numbers: no two answers share one; what a lowest number says of its table.
use mathlib.Core.Path.{◌≡◌, refl, sym, ap, ◌∙◌}
use mathlib.Core.Bool.{Bool, true, false, cond}
use mathlib.Core.List.{List, [], ◌∷◌}
use Rattle.std.specs.Prelude.{Ok, Err}
use Prim.Native.Nat.{ℕ, suc, ◌≤◌, ◌<◌}
use native.Mathlib.Omega.{arith}
use lib.Dec.{T, ltb, ltb→lt}
use lib.ListN.{get_or}
use Rattle.whole.proofs.Tests.{both, b₁, b₂}
use Rattle.answers.specs.declared.Refusal.{Refusal}
use Rattle.answers.specs.declared.Refusal.TheVariants.{Depth, Size, LosslessSize, TxType, Quantizer, Length, Plane, Token, Coefficient, Mark, Version, CutShort, TooLarge, LosslessByte, Report, Place, Room, Narrow, Rule, Retired}
use Rattle.answers.specs.Answers.{Answer, number, refusal_number, lowest}

-- the answer of a number; the one that is done stands in the gaps
abbrev pub numbered : ℕ → Answer
numbered n =
    get_or (Ok tt ∷ Err Depth ∷ Err Size ∷ Err LosslessSize ∷ Err TxType ∷ Err Quantizer ∷ Err Length ∷ Err Plane ∷ Err Token ∷ Err Coefficient ∷ Err Mark ∷ Err Version ∷ Err CutShort ∷ Err TooLarge ∷ Err LosslessByte ∷ Err Report ∷ Err Place ∷ Err Room ∷ Err Narrow ∷ Err Rule ∷ Err Retired ∷ []) n (Ok tt)

numbered_refusal : (r : Refusal) → numbered (refusal_number r) ≡ Err r
numbered_refusal Depth = refl
numbered_refusal Size = refl
numbered_refusal LosslessSize = refl
numbered_refusal TxType = refl
numbered_refusal Quantizer = refl
numbered_refusal Length = refl
numbered_refusal Plane = refl
numbered_refusal Token = refl
numbered_refusal Coefficient = refl
numbered_refusal Mark = refl
numbered_refusal Version = refl
numbered_refusal CutShort = refl
numbered_refusal TooLarge = refl
numbered_refusal LosslessByte = refl
numbered_refusal Report = refl
numbered_refusal Place = refl
numbered_refusal Room = refl
numbered_refusal Narrow = refl
numbered_refusal Rule = refl
numbered_refusal Retired = refl

pub numbered_number : (a : Answer) → numbered (number a) ≡ a
numbered_number (Ok u) = refl
numbered_number (Err r) = numbered_refusal r

-- a refusal's number is never 0
pub refused_number : (r : Refusal) → refusal_number r ≡ 0 → ⊥
refused_number Depth e = absurd (omega arith)
refused_number Size e = absurd (omega arith)
refused_number LosslessSize e = absurd (omega arith)
refused_number TxType e = absurd (omega arith)
refused_number Quantizer e = absurd (omega arith)
refused_number Length e = absurd (omega arith)
refused_number Plane e = absurd (omega arith)
refused_number Token e = absurd (omega arith)
refused_number Coefficient e = absurd (omega arith)
refused_number Mark e = absurd (omega arith)
refused_number Version e = absurd (omega arith)
refused_number CutShort e = absurd (omega arith)
refused_number TooLarge e = absurd (omega arith)
refused_number LosslessByte e = absurd (omega arith)
refused_number Report e = absurd (omega arith)
refused_number Place e = absurd (omega arith)
refused_number Room e = absurd (omega arith)
refused_number Narrow e = absurd (omega arith)
refused_number Rule e = absurd (omega arith)
refused_number Retired e = absurd (omega arith)

pub number_injective : (a b : Answer) → number a ≡ number b → a ≡ b
number_injective a b e = sym (numbered_number a) ∙ ap numbered e ∙ numbered_number b

-- answer 0: each test of the table is passed, and the rest gives 0
pub pass : (b : Bool) (n r : ℕ) → cond b (suc n) r ≡ 0 → b ≡ false
pass true n r h = absurd (omega arith)
pass false n r h = refl

pub rest : (b : Bool) (n r : ℕ) → cond b (suc n) r ≡ 0 → r ≡ 0
rest true n r h = absurd (omega arith)
rest false n r h = h

-- ---- a table whose numbers rise from above m: `lowest` gives a number that applies, and no lower one does
abbrev pub rising : ℕ → List (ℕ × Bool) → Bool
rising m [] = true
rising m (t ∷ ts) = both (ltb m t.0) (rising t.0 ts)

-- the number n stands in the table with a test that holds
pub data Applies (n : ℕ) : List (ℕ × Bool) → Type 0 where
  here : {ts : List (ℕ × Bool)} → Applies n ((n, true) ∷ ts)
  there : {t : ℕ × Bool} {ts : List (ℕ × Bool)} → Applies n ts → Applies n (t ∷ ts)

above : (m n : ℕ) (ts : List (ℕ × Bool)) → T (rising m ts) → Applies n ts → m < n
above m n (t ∷ ts) h here = ltb→lt m n (b₁ (ltb m n) (rising n ts) h)
above m n (t ∷ ts) h (there a) =
    let p = ltb→lt m t.0 (b₁ (ltb m t.0) (rising t.0 ts) h) in
    let q = above t.0 n ts (b₂ (ltb m t.0) (rising t.0 ts) h) a in
    omega arith
above m n [] h x'' = elim x'' [ ]

pub lowest_least : (m n : ℕ) (ts : List (ℕ × Bool)) → T (rising m ts) → Applies n ts → lowest ts ≤ n
lowest_least m n (t ∷ ts) h here = omega arith
lowest_least m n ((k, true) ∷ ts) h (there a) = let q = above k n ts (b₂ (ltb m k) (rising k ts) h) a in omega arith
lowest_least m n ((k, false) ∷ ts) h (there a) = lowest_least k n ts (b₂ (ltb m k) (rising k ts) h) a
lowest_least m n [] h x'' = elim x'' [ ]

pub lowest_applies : (n : ℕ) (ts : List (ℕ × Bool)) → lowest ts ≡ suc n → Applies (suc n) ts
lowest_applies n [] h = absurd (omega arith)
lowest_applies n ((k, true) ∷ ts) h = rw h here
lowest_applies n ((k, false) ∷ ts) h = there (lowest_applies n ts h)

-- where something applies, the answer is not 0
pub lowest_above : (m n : ℕ) (ts : List (ℕ × Bool)) → T (rising m ts) → Applies n ts → m < lowest ts
lowest_above m n (t ∷ ts) h here = ltb→lt m n (b₁ (ltb m n) (rising n ts) h)
lowest_above m n ((k, true) ∷ ts) h (there a) = ltb→lt m k (b₁ (ltb m k) (rising k ts) h)
lowest_above m n ((k, false) ∷ ts) h (there a) =
    let p = ltb→lt m k (b₁ (ltb m k) (rising k ts) h) in
    let q = lowest_above k n ts (b₂ (ltb m k) (rising k ts) h) a in
    omega arith
lowest_above m n [] h x'' = elim x'' [ ]
