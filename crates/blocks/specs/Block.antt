-- A block of n0 × n0 numbers, row by row, at the front of a list that may be longer: its lines, and what transforms of all rows or all columns make of it. Specification §8.7.2.
use Rattle.std.specs.Prelude.{Bool, cond, not, ◌&&◌, List, ℕ, ◌+◌, ◌-◌, ◌*◌, ◌/◌, ◌%◌, ltb, eqb, ℤ, pos, nat_abs, length, get_or, replicate}
use Rattle.whole.specs.Lists.{tabulate, fill}
use Rattle.whole.specs.Tests.{any_below}

-- the array T with n numbers of s, the first at `start` and each `step` past the one before, in front of zeros
unfoldable pub line : ℕ → ℕ → ℕ → List ℤ → List ℤ
line start step n s = fill n (λ k. get_or s (start + k * step) (pos 0)) (replicate 32 (pos 0))

-- row i of a block
abbrev pub row : ℕ → ℕ → List ℤ → List ℤ
row n0 i = line (i * n0) 1 n0

-- column j of a block
abbrev pub column : ℕ → ℕ → List ℤ → List ℤ
column n0 j = line j n0 n0

-- number (i, j) of the block becomes f i j; what is past the block stays
unfoldable pub anew : ℕ → (ℕ → ℕ → ℤ) → List ℤ → List ℤ
anew n0 f s = tabulate (λ p. cond (ltb p (n0 * n0)) (f (p / n0) (p % n0)) (get_or s p (pos 0))) (length s)

-- every row through T: number (i, j) is number j of T of row i
unfoldable pub rows : (List ℤ → List ℤ) → ℕ → List ℤ → List ℤ
rows T n0 s = anew n0 (λ i j. get_or (T (row n0 i s)) j (pos 0)) s

-- row i through T, and all else as it was
unfoldable pub change_row : (List ℤ → List ℤ) → ℕ → ℕ → List ℤ → List ℤ
change_row T n0 i s = anew n0 (λ k j. get_or (cond (eqb k i) (T (row n0 i s)) (row n0 k s)) j (pos 0)) s

-- every column through T, and each number then through r: number (i, j) is r of number i of T of column j
unfoldable pub columns : (List ℤ → List ℤ) → (ℤ → ℤ) → ℕ → List ℤ → List ℤ
columns T r n0 s = anew n0 (λ i j. r (get_or (T (column n0 j s)) i (pos 0))) s

-- the two passes: all rows through R, then all columns through C, each number then through r
unfoldable pub rows_then_columns : (List ℤ → List ℤ) → (List ℤ → List ℤ) → (ℤ → ℤ) → ℕ → List ℤ → List ℤ
rows_then_columns R C r n0 s = columns C r n0 (rows R n0 s)

-- of the n numbers from `start` on some is not 0
unfoldable pub live : ℕ → ℕ → List ℤ → Bool
live start n s = any_below (λ k. ltb 0 (nat_abs (get_or s (start + k) (pos 0)))) n

-- the type is 0, and of `count` numbers only the first is live
unfoldable pub only_dc : ℕ → ℕ → List ℤ → Bool
only_dc count tx_type s = eqb tx_type 0 && not (live 1 (count - 1) s)
