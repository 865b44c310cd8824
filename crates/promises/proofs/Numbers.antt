-- The numbers of docs/REFERENCE.md that are proved, by computation.
use mathlib.Core.Path.{◌≡◌, refl}
use Rattle.whole.specs.Lists.{tabulate, fill, move}
use Rattle.whole.specs.Round.{Round2}
use Rattle.whole.specs.Steps.{run, each, when}
use Rattle.whole.specs.Tests.{any_below}
use Rattle.answers.specs.Bad.{bad_depth, bad_side, bad_lossless, bad_tx_type, bad_quantizer, any_beyond}
use Rattle.primitives.specs.Brev.{Brev}
use Rattle.primitives.specs.Cosine.{Cos64, Sin64, cos_at}
use Rattle.primitives.specs.Rotations.{turn_x, turn_y, set_pair, apply_b, apply_h}
use Rattle.steps.specs.Step.{step, halfway, wht4}
use Rattle.dct.specs.Dct.{steps2, steps3, steps4, steps5, steps6, steps7, tail_at, tail, dct_steps, dct_row, dct}
use Rattle.wht.specs.Wht.{wht_row, wht}
use Rattle.quant.specs.Token.{dequant, rounded, quantize}
use Rattle.quant.specs.Places.{quantizer_at, dequant_all}
use Rattle.narrow.specs.Kept.{short, shorts, always, kept}
use Rattle.blocks.specs.Block.{line, anew, rows, columns, rows_then_columns, live}
use Rattle.blocks.specs.Inverse.{apply, rounding, inverse2d}
use Rattle.basis.specs.Basis.{basis_at}
use Rattle.summary.specs.Summary.{those, mask, is_set, set_rows, live_rows, summary_of}
use Rattle.summary.specs.Replace as Z
use Rattle.idct.specs.Driver as D
use Rattle.idct32.specs.Engine.{every, kept_rows, kept_columns, within16, width_answer, answer_of32}
use Rattle.fwd_transform.specs.Quantize as Q
use Rattle.fwd_dct.specs.Sum.{sum}
use Rattle.fwd_dct.specs.Forward as F
use Rattle.reconstruct.specs.Reconstruct as R
use Rattle.report.specs.Classes.{in_class, sum_below, share, shares}
use Rattle.report.specs.Report as P
use Rattle.vbk_read.specs.Header.{bad_area}
use Rattle.vbk_write.specs.Bytes.{two, word32, four, joined}
use Rattle.vbk_write.specs.Clip.{head_bytes, entry_bytes, header_bytes, bytes_of}
use Rattle.vbk_write.specs.Lent.{tokens_before, tokens_from, entry_of, clip_of, file_of}
use Rattle.vbk_write.specs.Promises as W
use Rattle.promises.specs.Numbers.{numbers, givens, saids}

pub worked : givens numbers ≡ saids numbers
unfolding numbers inverse2d rows_then_columns rows columns anew line tabulate apply rounding dct dct_row dct_steps tail tail_at steps2 steps3 steps4 steps5 steps6 steps7 each when run step move fill apply_b apply_h set_pair turn_x turn_y Round2 Cos64 Sin64 cos_at Brev wht wht_row wht4 halfway quantize rounded summary_of live_rows those mask is_set set_rows live any_below Z.summary_after Z.renewed Z.with_bit Z.block_after Z.answer_of Z.coefficient bad_depth bad_side bad_lossless bad_tx_type bad_quantizer any_beyond dequant dequant_all quantizer_at D.answer_of D.block_after answer_of32 width_answer within16 kept_rows kept_columns every kept always shorts short Q.answer_of Q.bad_rule Q.token_at Q.tokens_of F.answer_of F.forward_dct F.exact sum basis_at R.answer_of R.bad_quantizers R.bad_plane R.bad_coefficient P.answer_of P.report_answer P.bad_total P.bad_sums P.total P.list_after P.noted in_class sum_below share shares W.answer_of W.any_above W.bad_lists W.bad_counts W.bad_total W.misfit W.too_large bad_area file_of clip_of entry_of tokens_from tokens_before bytes_of header_bytes entry_bytes head_bytes joined two four word32
worked = refl
