-- NO CONFORMING STREAM IS REFUSED: where the decoder's own numbers are in order, only 8 and 9 are left, and conformance shuts both out.
use mathlib.Core.Path.{◌≡◌, ◌∙◌}
use mathlib.Core.Bool.{Bool, true, false, cond}
use mathlib.Core.List.{List}
use Prim.Native.Nat.{ℕ, ◌+◌, ◌*◌, ◌^◌, ◌≤◌, ◌<◌}
use native.Mathlib.Omega.{arith}
use borrow.Author.Tests.{eq-eqb}
use lib.IntN.{ℤ, pos, nat_abs}
use lib.ListN.{length, get_or}
use Rattle.std.specs.Prelude.{Ok}
use Rattle.answers.specs.Answers.{Answer}
use Rattle.answers.specs.Limits.{COEF_LIMIT, codeable}
use Rattle.answers.specs.Sizes.{area}
use Rattle.answers.specs.Bad.{bad_depth, any_beyond}
use Rattle.answers.proofs.Numbers.{number_injective}
use Rattle.answers.proofs.Passed.{by_depth, all_within}
use Rattle.quant.specs.Places.{dequant_all}
use Rattle.reconstruct.specs.Reconstruct.{Input, bad_coefficient, answer_of, Reconstructed}
use Rattle.laws.specs.Conforming.{Signed, up, down, Called, OfStream, done, token, coefficient, stored_bits, Conforming}

-- a signed number of 8 + BitDepth bits is within the limit of a coefficient, at every depth
within_limit : (depth : ℕ) → bad_depth depth ≡ false → (m : ℕ) → 2 * m < 2 ^ stored_bits depth → m + 1 ≤ COEF_LIMIT
within_limit = by_depth (λ depth. (m : ℕ) → 2 * m < 2 ^ stored_bits depth → m + 1 ≤ COEF_LIMIT) (λ m h. omega arith) (λ m h. omega arith) (λ m h. omega arith)

magnitude : (depth : ℕ) → bad_depth depth ≡ false → (z : ℤ) → Signed (stored_bits depth) z → nat_abs z ≤ COEF_LIMIT
magnitude depth d _ (up m h) = omega (arith, within_limit depth d m h)
magnitude depth d _ (down m h) = omega (arith, within_limit depth d m h)

-- the answers that the stream can cause
two_left : (a b : Bool) → OfStream (cond a 8 (cond b 9 0))
two_left true b = token
two_left false true = coefficient
two_left false false = done

table : (u : Input) → Called u
    → answer_of u ≡ cond (any_beyond (codeable u.depth) (length u.tokens) u.tokens) 8 (cond (bad_coefficient u.size u.dc u.ac u.tokens) 9 0)
unfolding answer_of
table u c =
    rw (c.depth_ok, c.size_ok, c.lossless_ok, c.tx_type_ok, c.quantizers_ok, eq-eqb (length u.tokens) (area (u.size + 2)) c.tokens_ok, c.plane_ok)

pub stream_answers : (u : Input) → Called u → OfStream (answer_of u)
stream_answers u c =
    rw (table u c) (two_left (any_beyond (codeable u.depth) (length u.tokens) u.tokens) (bad_coefficient u.size u.dc u.ac u.tokens))

-- and a conforming stream causes neither
pub conforming_answer : (u : Input) → Called u → Conforming u → answer_of u ≡ 0
unfolding bad_coefficient
conforming_answer u c f =
    let n = length u.tokens in
    let l = dequant_all u.size u.dc u.ac u.tokens in
    table u c
    ∙ rw (
      all_within (codeable u.depth) n u.tokens f.coded,
      all_within COEF_LIMIT n l (λ k h. magnitude u.depth c.depth_ok (get_or l k (pos 0)) (f.stored k h)),
    )

-- the call itself: done
pub conforming_done : (u : Input) → Called u → Conforming u → (answer : Answer) (after : List ℕ) → Reconstructed u answer after → answer ≡ Ok tt
conforming_done u c f answer after r = number_injective answer (Ok tt) (r.answered ∙ conforming_answer u c f)
