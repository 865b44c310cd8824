-- One line of a pass within 16 bits: what the 32-bit engine's condition asks of it.
use Rattle.std.specs.Prelude.{Bool, List, ℕ, ℤ}
use Rattle.answers.specs.Sizes.{side}
use Rattle.steps.specs.Step2.{fresh}
use Rattle.dct.specs.Dct.{dct_row}
use Rattle.adst.specs.Adst.{adst_steps}
use Rattle.wht.specs.Wht.{wht_row}
use Rattle.narrow.specs.Kept.{kept, kept2}
use Rattle.blocks.specs.Inverse.{Pass, Dct, Adst, Wht}

-- a line: all n0 numbers of T are of 16 bits as it is loaded and after every step of its transform
abbrev pub kept_line : Pass → ℕ → List ℤ → Bool
kept_line Dct n t = kept (side n) (dct_row n) t
kept_line Adst n t = kept2 (side n) (adst_steps n) (fresh t)
kept_line (Wht shift) n t = kept (side n) (wht_row shift) t
