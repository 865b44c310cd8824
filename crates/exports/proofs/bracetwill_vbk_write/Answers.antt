use mathlib.Core.Path.{refl}
use Rattle.exports.specs.Write.{Request}
use Rattle.exports.proofs.Written.{refused, done}
use Rattle.exports.proofs.bracetwill_vbk_write.Goals as goal
use Rattle.exports.proofs.bracetwill_vbk_write.Goals.{Start}

-- what the call is given
abbrev request : Start → Request
request s =
    record {
      lent = record { depth = s.args.depth; width = s.args.width; height = s.args.height; samples = s.args.samples.now; xs = s.args.xs.now; ys = s.args.ys.now; sizes = s.args.sizes.now; tx_types = s.args.tx_types.now; lossless = s.args.lossless.now; dcs = s.args.dcs.now; acs = s.args.acs.now; counts = s.args.counts.now; tokens = s.args.tokens.now };
      out = s.args.out.now;
      size = s.args.length.now;
    }

pub returns-in-Err : goal.returns-in-Err
returns-in-Err c = refused (request (goal.at.returns-in-Err c).Start) c.in-Err.ensures c.from.ensures

pub returns-in-Ok : goal.returns-in-Ok
returns-in-Ok c = done (request (goal.at.returns-in-Ok c).Start) c.in-Ok.ensures refl
