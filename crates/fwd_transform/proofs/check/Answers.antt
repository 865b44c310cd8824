use mathlib.Core.Path.{◌≡◌, sym, ◌∙◌}
use mathlib.Core.Bool.{false, ◌||◌}
use borrow.Author.Tests.{lt-ltb, le-ltb}
use lib.Dec.{ltb}
use lib.ListN.{length}
use Rattle.answers.specs.Bad.{bad_depth, retired, bad_size, bad_quantizer}
use Rattle.answers.specs.Limits.{LIST_LIMIT}
use Rattle.fwd_transform.specs.Quantize.{answer_of}
use Rattle.fwd_transform.proofs.check.Goals as goal
use Rattle.fwd_transform.proofs.check.Goals.{Else-bad_depth, Else-bad_quantizers, Else-bad_size, Else-n-gt-LIST_LIMIT, Else-retired}

-- what each passed test says
no1 : (c : Else-bad_depth) → bad_depth c.args.depth ≡ false
no1 c = sym c.bad_depth.ensures ∙ c.if-bad_depth.false

kept : (c : Else-retired) → retired c.args.depth ≡ false
kept c = sym c.retired.ensures ∙ c.if-retired.false

no2 : (c : Else-bad_size) → bad_size c.args.size ≡ false
no2 c = sym c.bad_size.ensures ∙ c.if-bad_size.false

no3 : (c : Else-bad_quantizers) → bad_quantizer c.args.dc.0 || bad_quantizer c.args.ac.0 ≡ false
no3 c = sym c.bad_quantizers.ensures ∙ c.if-bad_quantizers.false

no5 : (c : Else-n-gt-LIST_LIMIT) → ltb LIST_LIMIT (length c.args.coefs.now) ≡ false
no5 c = le-ltb _ _ c.if-n-gt-LIST_LIMIT.false

pub returns-then-bad_depth : goal.returns-then-bad_depth
unfolding answer_of
returns-then-bad_depth c = rw (sym c.bad_depth.ensures ∙ c.if-bad_depth.true)

pub returns-then-retired : goal.returns-then-retired
unfolding answer_of
returns-then-retired c = rw (no1 c.before.before, sym c.retired.ensures ∙ c.if-retired.true)

pub returns-then-bad_size : goal.returns-then-bad_size
unfolding answer_of
returns-then-bad_size c = rw (no1 c.before.before.before.before, kept c.before.before, sym c.bad_size.ensures ∙ c.if-bad_size.true)

pub returns-then-bad_quantizers : goal.returns-then-bad_quantizers
unfolding answer_of
returns-then-bad_quantizers c =
    rw (no1 c.before.before.before.before.before.before, kept c.before.before.before.before, no2 c.before.before, sym c.bad_quantizers.ensures ∙ c.if-bad_quantizers.true)

pub returns-then-n-gt-LIST_LIMIT : goal.returns-then-n-gt-LIST_LIMIT
unfolding answer_of
returns-then-n-gt-LIST_LIMIT c =
    rw (no1 c.before.before.before.before.before.before.before, kept c.before.before.before.before.before, no2 c.before.before.before, no3 c.before, lt-ltb _ _ c.if-n-gt-LIST_LIMIT.true)

pub returns-then-any_beyond : goal.returns-then-any_beyond
unfolding answer_of
returns-then-any_beyond c =
    rw (no1 c.before.before.before.before.before.before.before.before.before, kept c.before.before.before.before.before.before.before, no2 c.before.before.before.before.before, no3 c.before.before.before, no5 c.before.before, sym c.any_beyond.ensures ∙ c.if-any_beyond.true)

pub returns : goal.returns
unfolding answer_of
returns c =
    rw (no1 c.before.before.before.before.before.before.before.before.before, kept c.before.before.before.before.before.before.before, no2 c.before.before.before.before.before, no3 c.before.before.before, no5 c.before.before, sym c.any_beyond.ensures ∙ c.if-any_beyond.false)
