-- The case of place 0 alone: what it says of the block, what can be beyond the limit, what is written.
use mathlib.Core.Path.{◌≡◌, refl, sym, ap, ◌∙◌}
use mathlib.Core.Bool.{Bool, true, false}
use mathlib.Core.List.{List}
use Prim.Native.Nat.{ℕ, ◌-◌, ◌≤◌}
use native.Mathlib.Nat.{mul-le-mul}
use native.Mathlib.Omega.{arith}
use borrow.Author.Tests.{eqb-true}
use lib.Dec.{ltb, eqb}
use lib.IntN.{ℤ, pos, nat_abs}
use lib.ListN.{length, get_or}
use lib.Pow.{pow_pos}
use Rattle.whole.specs.Lists.{fill}
use Rattle.answers.specs.Bad.{any_beyond}
use Rattle.answers.specs.Limits.{COEF_LIMIT}
use Rattle.dct.proofs.Dct.{two_to_five}
use Rattle.blocks.specs.Block.{only_dc, live}
use Rattle.blocks.specs.Inner.{dc_value}
use Rattle.blocks.specs.Inverse.{inverse2d}
use Rattle.blocks.proofs.Inverse.{dc_only_lem, filled}
use Rattle.answers.specs.Sizes.{side, area}
use Rattle.dc.proofs.Beyond.{first_beyond}

never : {A : Type 0} → true ≡ false → A
never h = absurd (let z : ◌≡◌ {A = ℕ} 0 1 = cc in omega arith)

pub record Alone (n tx_type : ℕ) (block : List ℤ) : Type 0 where
  pub zero_kind : tx_type ≡ 0
  pub dead : live 1 (area n - 1) block ≡ false

pub alone : (n tx_type : ℕ) (block : List ℤ) → only_dc (area n) tx_type block ≡ true → Alone n tx_type block
unfolding only_dc
alone n tx_type block h = go (eqb tx_type 0) (live 1 (area n - 1) block) refl refl
  where
    go : (b c : Bool) → eqb tx_type 0 ≡ b → live 1 (area n - 1) block ≡ c → Alone n tx_type block
    go false c q r = never (sym (rw q at h))
    go true true q r = never (sym (rw (q, r) at h))
    go true false q r = record { zero_kind = eqb-true tx_type 0 q; dead = r }

pub area_some : (n : ℕ) → 1 ≤ area n
area_some n = mul-le-mul (pow_pos n) (pow_pos n)

pub area_more : (n : ℕ) → 2 ≤ n → n ≤ 5 → 2 ≤ area n
area_more n l h = two_to_five (λ n. 2 ≤ area n) (omega arith) (omega arith) (omega arith) (omega arith) n l h

module _ (n : ℕ) (block : List ℤ) (l : 2 ≤ n) (h : n ≤ 5) (room : area n ≤ length block) (dead : live 1 (area n - 1) block ≡ false) where
  pub dc_beyond : any_beyond COEF_LIMIT (area n) block ≡ ltb COEF_LIMIT (nat_abs (get_or block 0 (pos 0)))
  dc_beyond = first_beyond COEF_LIMIT (area n) block (area_some n) dead

  pub dc_written : {tx_type : ℕ} {after : List ℤ} → tx_type ≡ 0 → after ≡ fill (area n) (λ k. dc_value n (get_or block 0 (pos 0))) block → after ≡ inverse2d n tx_type false block
  dc_written q e =
      e ∙ filled (side n) (dc_value n (get_or block 0 (pos 0))) block room ∙ sym (dc_only_lem n l h block room dead)
      ∙ ap (λ (tx_type : ℕ). inverse2d n tx_type false block) (sym q)
