use mathlib.Core.Path.{◌≡◌, refl, ap, ◌∙◌}
use native.Mathlib.Omega.{arith}
use lib.IntN.{pos}
use lib.ListN.{get_or, set, length-set}
use mir.Syntax.{w64}
use mir.ValLaws.{to_z-of_z}
use Rattle.whole.proofs.Signed.{rd, rd_ok}
use Rattle.whole.proofs.Lists.{fill_none, fill_more}
use Rattle.answers.specs.Limits.{codeable}
use Rattle.answers.proofs.Passed.{codeable_most}
use Rattle.fwd_transform.specs.Quantize.{Input, token_at}
use Rattle.fwd_transform.proofs.Quantizer.{turn, filled}
use Rattle.fwd_transform.proofs.tokens_in_place.Goals as goal
use Rattle.fwd_transform.proofs.tokens_in_place.Goals.{After-coef-1, After-max_codeable_coef-most, Start}

abbrev input : Start → Input
input s = record { coefs = s.args.coefs.now; dc = s.args.dc; ac = s.args.ac; size = s.args.size; depth = s.args.depth }

-- the limit
limit : (c : After-max_codeable_coef-most) → rd w64 c.max_codeable_coef-most.result ≡ pos (codeable c.args.depth)
limit c = rd_ok w64 {z = c.max_codeable_coef-most.result} c.max_codeable_coef-most.type_inv ∙ c.max_codeable_coef-most.ensures

pub overflow_cast-most : goal.overflow_cast-most
overflow_cast-most c = rw (limit c) (tt, record { fits = omega (arith, codeable_most c.args.depth) })

pub loop-k-init : goal.loop-k-init
loop-k-init c = (omega arith, refl, fill_none _ _)

module _ (c : After-coef-1) where
  -- the coefficient that the turn meets is the one that came
  met : rd w64 (get_or c.loop-k.coefs c.loop-k.k (pos 0)) ≡ get_or c.args.coefs.now c.loop-k.k (pos 0)
  met =
      to_z-of_z w64 (get_or c.loop-k.coefs c.loop-k.k (pos 0)) (record { sfits = c.coef-1.given })
      ∙ turn (input c.before.before.before.before) c.args.rule c.loop-k.k c.loop-k.coefs c.loop-k.invariant.2

pub token_at-requires : goal.token_at-requires
token_at-requires c =
    rw (met c, limit c.before.before.before) (
      c.requires.0,
      c.requires.1,
      c.requires.2 c.loop-k.k (omega arith),
      codeable_most c.args.depth,
    )

pub loop-k-preserved : goal.loop-k-preserved
unfolding token_at
loop-k-preserved c =
    let l = c.loop-k in
    let e = rd_ok w64 {z = c.token_at.result} c.token_at.type_inv ∙ c.token_at.ensures in (
      omega arith,
      length-set l.coefs l.k (rd w64 c.token_at.result) ∙ l.invariant.1,
      fill_more _ _ l.k l.invariant.2 (ap (set l.coefs l.k) (e ∙ rw (met c.before, limit c.before.before.before.before))),
    )

pub returns : goal.returns
returns c =
    let l = c.loop-k in
    filled (input c.before.before.before) c.args.rule l.k l.coefs (omega arith) (omega arith) l.invariant.2
