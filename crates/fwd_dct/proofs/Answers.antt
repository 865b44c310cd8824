-- Laws of the call: what a refusal leaves, and what answer 0 says of the input.
use mathlib.Core.Path.{◌≡◌, ◌∙◌}
use mathlib.Core.List.{List}
use mathlib.Core.Bool.{not, cond}
use Prim.Native.Nat.{ℕ, ◌^◌, ◌≤◌}
use native.Mathlib.Omega.{arith}
use borrow.Author.Tests.{eqb-true, eq-eqb, ne_eqb, not-false}
use lib.Dec.{eqb}
use lib.IntN.{ℤ, pos}
use lib.ListN.{length, get_or}
use Rattle.whole.specs.Lists.{fill}
use Rattle.whole.specs.Round.{Round2}
use Rattle.answers.specs.Bad.{bad_side, any_beyond}
use Rattle.whole.proofs.Within.{within_le}
use Rattle.answers.specs.Sizes.{side, area}
use Rattle.answers.proofs.Numbers.{pass, rest}
use Rattle.answers.proofs.Passed.{side_range, none_within}
use Rattle.blocks.specs.Block.{rows, columns}
use Rattle.blocks.specs.Inner.{FirstWithin}
use Rattle.blocks.proofs.Blocks.{rows_length, columns_length}
use Rattle.fwd_dct.specs.Inner.{line_of}
use Rattle.fwd_dct.proofs.Passes.{rows_within, columns_within, whole}
use Rattle.fwd_dct.specs.Forward.{RESIDUAL_LIMIT, Input, answer_of, block_after, bits, forward_dct}

module _ (u : Input) where
  pub refused : (answer_of u ≡ 0 → ⊥) → u.block ≡ cond (eqb (answer_of u) 0) (forward_dct u.n u.block) u.block
  refused h = rw (ne_eqb (answer_of u) 0 h)

  pub done : answer_of u ≡ 0 → forward_dct u.n u.block ≡ cond (eqb (answer_of u) 0) (forward_dct u.n u.block) u.block
  done h = rw (eq-eqb (answer_of u) 0 h)

  pub sized : answer_of u ≡ 0 → (2 ≤ u.n) × (u.n ≤ 5)
  unfolding answer_of
  sized h = side_range u.n (pass (bad_side u.n) 1 _ h)

  pub counted : answer_of u ≡ 0 → length u.block ≡ area u.n
  unfolding answer_of
  counted h =
      eqb-true (length u.block) (area u.n)
      (not-false (eqb (length u.block) (area u.n)) (pass (not (eqb (length u.block) (area u.n))) 5 _ (rest (bad_side u.n) 1 _ h)))

  pub in_range : answer_of u ≡ 0 → FirstWithin RESIDUAL_LIMIT (area u.n) u.block
  unfolding answer_of
  in_range h =
      let l = counted h in
      record { each = λ k q. none_within RESIDUAL_LIMIT (length u.block) u.block (pass (any_beyond RESIDUAL_LIMIT (length u.block) u.block) 8 _ (rest (not (eqb (length u.block) (area u.n))) 5 _ (rest (bad_side u.n) 1 _ h))) k (omega arith) }

  -- the block before, between and after the passes has its room and its range
  module _ (z : answer_of u ≡ 0) where
    pub room : area u.n ≤ length u.block
    room = omega (arith, counted z)

    pub range : FirstWithin (2 ^ 31) (area u.n) u.block
    range = record { each = λ k q. within_le (omega arith) ((in_range z).each k q) }

    pub middle_room : area u.n ≤ length (rows (line_of u.n) (side u.n) u.block)
    middle_room = rw (rows_length (line_of u.n) (side u.n) u.block) room

    pub middle_range : FirstWithin (2 ^ 31) (area u.n) (rows (line_of u.n) (side u.n) u.block)
    middle_range = record { each = λ k q. within_le (omega arith) ((rows_within u.n (sized z).0 (sized z).1 RESIDUAL_LIMIT u.block room (in_range z)).each k q) }

    pub last_count : length (columns (line_of u.n) (λ z. z) (side u.n) (rows (line_of u.n) (side u.n) u.block)) ≡ area u.n
    last_count =
        columns_length (line_of u.n) (λ z. z) (side u.n) (rows (line_of u.n) (side u.n) u.block) ∙ rows_length (line_of u.n) (side u.n) u.block ∙ counted z

    pub last_range : FirstWithin (2 ^ 62) (area u.n) (columns (line_of u.n) (λ z. z) (side u.n) (rows (line_of u.n) (side u.n) u.block))
    last_range = record { each = λ k q. within_le (omega arith) ((columns_within u.n (sized z).0 (sized z).1 (2 ^ 31) (rows (line_of u.n) (side u.n) u.block) middle_room middle_range).each k q) }

    -- what the steps of the call come to
    pub in_steps : (r c after : List ℤ) (shift : ℕ) → r ≡ rows (line_of u.n) (side u.n) u.block → c ≡ columns (line_of u.n) (λ z. z) (side u.n) r
        → shift ≡ bits u.n → after ≡ fill (length c) (λ k. Round2 (get_or c k (pos 0)) shift) c → after ≡ block_after u
    in_steps r c after shift p q f g =
        g ∙ rw (q, p, last_count, f) (whole u.n (sized z).0 (sized z).1 u.block (counted z) ∙ done z)
