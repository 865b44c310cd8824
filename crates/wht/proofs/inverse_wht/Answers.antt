-- `wht::inverse_wht` meets its contract.
use lib.Dec.{lit<}
use mir.Syntax.{w64}
use Rattle.whole.specs.Steps.{run}
use Rattle.whole.proofs.Signed.{is_ok, is_rd}
use Rattle.steps.specs.Step.{step, wht4}
use Rattle.wht.specs.Wht.{wht_row, wht}
use Rattle.wht.proofs.Machine.{put_four, p_is, q_is, s_is, a_is, b_is, c_is, d_is}
use Rattle.wht.proofs.inverse_wht.Goals as goal

pub overflow_add-a : goal.overflow_add-a
overflow_add-a c = is_ok w64 (lit< tt) (p_is c.args.shift c.args.t.now c.requires.1)

pub overflow_sub-d : goal.overflow_sub-d
overflow_sub-d c = is_ok w64 (lit< tt) (q_is c.args.shift c.args.t.now c.requires.1)

pub overflow_sub-e : goal.overflow_sub-e
overflow_sub-e c = is_ok w64 (lit< tt) (s_is c.args.shift c.args.t.now c.requires.1)

pub overflow_sub-b : goal.overflow_sub-b
overflow_sub-b c = is_ok w64 (lit< tt) (b_is c.args.shift c.args.t.now c.requires.1)

pub overflow_sub-c : goal.overflow_sub-c
overflow_sub-c c = is_ok w64 (lit< tt) (c_is c.args.shift c.args.t.now c.requires.1)

pub overflow_sub-a : goal.overflow_sub-a
overflow_sub-a c = is_ok w64 (lit< tt) (a_is c.args.shift c.args.t.now c.requires.1)

pub overflow_add-d : goal.overflow_add-d
overflow_add-d c = is_ok w64 (lit< tt) (d_is c.args.shift c.args.t.now c.requires.1)

pub returns : goal.returns
unfolding wht wht_row run step wht4
returns c =
    let k = c.args.shift in
    let t = c.args.t.now in
    let h = c.requires.1 in
    put_four t (is_rd w64 (lit< tt) (a_is k t h)).eq (is_rd w64 (lit< tt) (b_is k t h)).eq
    (is_rd w64 (lit< tt) (c_is k t h)).eq (is_rd w64 (lit< tt) (d_is k t h)).eq
