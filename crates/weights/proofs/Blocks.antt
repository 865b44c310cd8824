-- A block whose magnitudes come to 31883 or less stays within 16 bits on its whole way, through the rows and the columns.
use mathlib.Core.Path.{◌≡◌, ap, ◌∙◌}
use mathlib.Core.List.{List}
use Prim.Native.Nat.{ℕ, ◌+◌, ◌*◌, ◌≤◌, ◌<◌}
use native.Mathlib.Omega.{arith}
use lib.IntN.{ℤ, pos, nat_abs}
use lib.ListN.{length, get_or}
use Rattle.answers.specs.Sizes.{side, area}
use Rattle.blocks.specs.Block.{line, row, column, rows}
use Rattle.blocks.specs.Inverse.{Pass, apply}
use Rattle.blocks.proofs.Lines.{line_at, line_length}
use Rattle.blocks.proofs.Blocks.{rows_at}
use Rattle.blocks.proofs.Passes.{Valid}
use Rattle.blocks.proofs.Inverse.{side_most}
use Rattle.weights.specs.Inner.{total, Keeps}
use Rattle.weights.proofs.Sums.{sum_weighs, total_rows, total_row}
use Rattle.weights.proofs.Steps.{Reaches}
use Rattle.weights.proofs.Passes.{pass_weights}

-- what rows leave to a column: number i is a result of row i, so the totals of the rows add up to the block's
column_total : (n0 k e : ℕ) (T : List ℤ → List ℤ) (s : List ℤ) → n0 ≤ 32 → n0 * n0 ≤ length s
    → ((i : ℕ) → i < n0 → Reaches n0 k e (row n0 i s) (T (row n0 i s))) → (j : ℕ) → j < n0
    → 16384 * total n0 (column n0 j (rows T n0 s)) ≤ k * total (n0 * n0) s + n0 * e
unfolding total
column_total n0 k e T s h room each j l =
    rw (total_rows n0 s h) (sum_weighs n0 k e (λ i. nat_abs (get_or (column n0 j (rows T n0 s)) i (pos 0))) (λ i. total n0 (row n0 i s)) (λ i q. rw (there i q) ((each i q).each j l)))
  where
    there : (i : ℕ) → i < n0 → get_or (column n0 j (rows T n0 s)) i (pos 0) ≡ get_or (T (row n0 i s)) j (pos 0)
    there i q = line_at j n0 n0 (rows T n0 s) i h q ∙ ap (λ p. get_or (rows T n0 s) p (pos 0)) (omega arith) ∙ rows_at T n0 s room i j q l

-- every row, and every column of what the rows leave
pub record AllKept (p q : Pass) (n : ℕ) (s : List ℤ) : Type 0 where
  pub of_row : (i : ℕ) → i < side n → Keeps p n (row (side n) i s)
  pub of_column : (j : ℕ) → j < side n → Keeps q n (column (side n) j (rows (apply p n) (side n) s))

-- THE law: 31883 is the greatest total for which these weights give it; a column's is at most 32690 then
pub few_kept : (p q : Pass) (n : ℕ) (s : List ℤ) → 2 ≤ n → n ≤ 5 → Valid 2 p n → Valid 0 q n → area n ≤ length s → total (area n) s ≤ 31883 → AllKept p q n s
few_kept p q n s l h v w room few =
    record {
      of_row = λ i hi. (through i hi).0;
      of_column = λ j hj. (pass_weights 0 q n w (between j) (long j n0 (rows R n0 s)) (column_small j hj)).0;
    }
  where
    n0 : ℕ
    n0 = side n

    R : List ℤ → List ℤ
    R = apply p n

    between : ℕ → List ℤ
    between j = column n0 j (rows R n0 s)

    most : n0 ≤ 32
    most = side_most n l h

    long : (start step : ℕ) (u : List ℤ) → n0 ≤ length (line start step n0 u)
    long start step u = rw (line_length start step n0 u) most

    through : (i : ℕ) → i < n0 → Keeps p n (row n0 i s) × Reaches n0 16411 386740 (row n0 i s) (R (row n0 i s))
    through i hi = pass_weights 2 p n v (row n0 i s) (long (i * n0) 1 s) (omega (arith, total_row n0 i s most hi))

    column_small : (j : ℕ) → j < n0 → 16411 * total n0 (between j) + 386740 < 536870912
    column_small j hj = omega (arith, column_total n0 16411 386740 R s most room (λ i hi. (through i hi).1) j hj, most)

-- from 8 by 8 on
pub small_kept : (p q : Pass) (n : ℕ) (s : List ℤ) → 3 ≤ n → n ≤ 5 → Valid 2 p n → Valid 0 q n → area n ≤ length s → total (area n) s ≤ 31883 → AllKept p q n s
small_kept p q n s l = few_kept p q n s (omega arith)
