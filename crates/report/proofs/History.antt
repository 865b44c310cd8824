-- THE HISTORY LAW: whatever calls were made and however they were answered, a report grows by the recount of the blocks that were done; from an empty report it is that recount.
use mathlib.Core.Path.{◌≡◌, refl, sym, ap, ◌∙◌}
use mathlib.Core.Bool.{Bool, true, false, cond, ◌&&◌}
use mathlib.Core.List.{List}
use Prim.Native.Nat.{ℕ, zero, suc, ◌+◌, ◌*◌, ◌/◌, ◌%◌, ◌<◌}
use native.Mathlib.Decide.{ℕ_discrete}
use native.Mathlib.Nat as NatL
use native.Mathlib.Omega.{arith}
use borrow.Author.Tests.{eqb-true, ne_eqb}
use lib.Arith.{digits_div, digits_mod}
use lib.Dec.{eqb}
use lib.ListN.{length, get_or, replicate}
use Rattle.whole.proofs.Lists.{length_tabulate, get_d_tabulate}
use Rattle.answers.specs.Answers.{number}
use Rattle.answers.specs.Sizes.{area}
use Rattle.reconstruct.specs.Reconstruct as R
use Rattle.report.specs.Classes.{CLASSES, sum_below, shares, one, itself}
use Rattle.report.specs.Report.{ENTRIES, entry, Input, answer_of, noted, list_after, Reported}
use Rattle.report.specs.History.{Call, empty, History, none, next, is_done, blocks, recount, Added, Recounted}
use Rattle.report.proofs.OneClass.{sum_plus, sum_same, sum_zero, all_counted}
use Rattle.report.proofs.Table.{good}

-- size and class of their entry
size_of : (s c : ℕ) → c < 11 → entry s c / 11 ≡ s
size_of s c h = digits_div s h

class_of : (s c : ℕ) → c < 11 → entry s c % 11 ≡ c
class_of s c h = digits_mod s h

both_left : (a b : Bool) → a && b ≡ true → a ≡ true
both_left true b h = refl
both_left false b h = h

both_right : (a b : Bool) → a && b ≡ true → b ≡ true
both_right true b h = h
both_right false b h = cc

get_d_replicate : (n k : ℕ) → ◌≡◌ {A = ℕ} (get_or (replicate n 0) k 0) 0
get_d_replicate zero k = refl
get_d_replicate (suc n) zero = refl
get_d_replicate (suc n) (suc k) = get_d_replicate n k

-- ---- one call: what it adds to an entry
module _ (f : ℕ → ℕ) (call : Call) (counts sums list : List ℕ) (all : length list ≡ ENTRIES) where
  abbrev given : Input
  given = record { block = call.block; counts = counts; sums = sums }

  after_length : length (list_after f given list) ≡ ENTRIES
  unfolding list_after noted
  after_length = go (eqb (answer_of given) 0)
    where
      go : (b : Bool) → length (cond b (noted f call.block.size (length call.block.tokens) call.block.tokens list) list) ≡ ENTRIES
      go true = length_tabulate _ (length list) ∙ all
      go false = all

  after_entry : number call.answer ≡ answer_of given → (s c : ℕ) → s < 4 → c < CLASSES
      → get_or (list_after f given list) (entry s c) 0 ≡ get_or list (entry s c) 0 + cond (is_done s call) (shares f c (length call.block.tokens) call.block.tokens) 0
  unfolding list_after noted is_done
  after_entry e s c hs hc = rw (sym e) (go (eqb (number call.answer) 0))
    where
      go : (b : Bool)
          → get_or (cond b (noted f call.block.size (length call.block.tokens) call.block.tokens list) list) (entry s c) 0
          ≡ get_or list (entry s c) 0 + cond (b && eqb s call.block.size) (shares f c (length call.block.tokens) call.block.tokens) 0
      go true = get_d_tabulate _ (length list) (entry s c) 0 (omega (arith, all)) ∙ rw (size_of s c hc, class_of s c hc)
      go false = omega arith

-- ---- the calls of a history
grown : {counts sums counts' sums' : List ℕ} {cs : List Call} → History counts sums cs counts' sums' → length counts ≡ ENTRIES → length sums ≡ ENTRIES → (s c : ℕ) → s < 4 → c < CLASSES
    → (get_or counts' (entry s c) 0 ≡ get_or counts (entry s c) 0 + recount one s c cs) × (get_or sums' (entry s c) 0 ≡ get_or sums (entry s c) 0 + recount itself s c cs)
unfolding recount
grown none p q s c hs hc = (omega arith, omega arith)
grown (next {counts} {sums} {c = call} {cs = cs} r h) p q s c hs hc =
    let ih = grown h (rw r.counted (after_length one call counts sums counts p)) (rw r.summed (after_length itself call counts sums sums q)) s c hs hc in
    let a = rw (sym r.counted) at (after_entry one call counts sums counts p r.answered s c hs hc) in
    let b = rw (sym r.summed) at (after_entry itself call counts sums sums q r.answered s c hs hc) in
    (omega (arith, ih.0, a), omega (arith, ih.1, b))

-- reconstruction's own answer was 0
pub own_zero : (u : Input) → answer_of u ≡ 0 → R.answer_of u.block ≡ 0
unfolding answer_of
own_zero u h = go (ℕ_discrete (R.answer_of u.block) 0)
  where
    go : Dec (R.answer_of u.block ≡ 0) → R.answer_of u.block ≡ 0
    go (yes e) = e
    go (no ne) = absurd (ne (rw (ne_eqb (R.answer_of u.block) 0 ne) at h))

-- a block of a size that is done has n0² tokens
tokens_of_lem : (call : Call) (counts sums samples counts' sums' : List ℕ) → Reported (record { block = call.block; counts = counts; sums = sums }) call.answer samples counts' sums'
    → (s : ℕ) → is_done s call ≡ true → length call.block.tokens ≡ area (s + 2)
unfolding is_done
tokens_of_lem call counts sums samples counts' sums' r s h =
    let z = eqb-true (number call.answer) 0 (both_left (eqb (number call.answer) 0) (eqb s call.block.size) h) in
    let e = eqb-true s call.block.size (both_right (eqb (number call.answer) 0) (eqb s call.block.size) h) in
    rw e (good call.block (own_zero (record { block = call.block; counts = counts; sums = sums }) (sym r.answered ∙ z))).length_ok

-- the classes of a size have n0² tokens for each block
add_up : {counts sums counts' sums' : List ℕ} {cs : List Call} → History counts sums cs counts' sums' → (s : ℕ) → sum_below (λ c. recount one s c cs) 11 ≡ area (s + 2) * blocks s cs
unfolding recount blocks
add_up none s = sum_zero 11 ∙ omega arith
add_up (next {counts} {sums} {counts₁} {sums₁} {samples = samples} {c = call} {cs = cs} r h) s =
    let n = length call.block.tokens in
    sum_plus (λ c. cond (is_done s call) (shares one c n call.block.tokens) 0) (λ c. recount one s c cs) 11
    ∙ go (is_done s call) (tokens_of_lem call counts sums samples counts₁ sums₁ r s) (add_up h s)
  where
    go : (b : Bool) → (b ≡ true → length call.block.tokens ≡ area (s + 2)) → sum_below (λ c. recount one s c cs) 11 ≡ area (s + 2) * blocks s cs
        → sum_below (λ c. cond b (shares one c (length call.block.tokens) call.block.tokens) 0) 11 + sum_below (λ c. recount one s c cs) 11 ≡ area (s + 2) * (cond b 1 0 + blocks s cs)
    go true e ih = omega (arith, all_counted (length call.block.tokens) call.block.tokens, e refl, ih, NatL.mul-add (area (s + 2)) 1 (blocks s cs))
    go false e ih = omega (arith, sum_zero 11, ih, NatL.mul-add (area (s + 2)) 0 (blocks s cs))

nothing : (k : ℕ) → get_or empty k 0 ≡ 0
nothing k = get_d_replicate ENTRIES k

-- FROM ANY REPORT, good or not: its lists have an entry for each size and class
pub history_from : (counts sums : List ℕ) (cs : List Call) (counts' sums' : List ℕ) → length counts ≡ ENTRIES → length sums ≡ ENTRIES → History counts sums cs counts' sums' → Added cs counts sums counts' sums'
history_from counts sums cs counts' sums' p q h =
    record {
      counts_grow = λ s c hs hc. (grown h p q s c hs hc).0;
      sums_grow = λ s c hs hc. (grown h p q s c hs hc).1;
      add_up = λ s hs.
          sum_same _ (λ c. get_or counts (entry s c) 0 + recount one s c cs) 11 (λ c hc. (grown h p q s c hs hc).0)
          ∙ sum_plus (λ c. get_or counts (entry s c) 0) (λ c. recount one s c cs) 11
          ∙ ap (λ (n : ℕ). sum_below (λ c. get_or counts (entry s c) 0) 11 + n) (add_up h s);
    }

-- FROM AN EMPTY ONE
pub history_law : (cs : List Call) (counts sums : List ℕ) → History empty empty cs counts sums → Recounted cs counts sums
history_law cs counts sums h =
    let a = history_from empty empty cs counts sums refl refl h in
    record {
      counts_are = λ s c hs hc. a.counts_grow s c hs hc ∙ ap (λ (x : ℕ). x + recount one s c cs) (nothing (entry s c)) ∙ omega arith;
      sums_are = λ s c hs hc. a.sums_grow s c hs hc ∙ ap (λ (x : ℕ). x + recount itself s c cs) (nothing (entry s c)) ∙ omega arith;
      add_up = λ s hs.
          a.add_up s hs
          ∙ ap (λ (x : ℕ). x + area (s + 2) * blocks s cs) (sum_same _ (λ c. 0) 11 (λ c hc. nothing (entry s c)) ∙ sum_zero 11) ∙ omega arith;
    }
