-- What only the contracts inside this crate read.
use Rattle.std.specs.Prelude.{ℕ, ◌+◌, ◌*◌}
use Rattle.vbk_write.specs.Lent.{Lent}
use Rattle.vbk_write.specs.declared.Lists.{Lists}

-- the length of a file of so many samples, records and tokens
abbrev pub file_length : ℕ → ℕ → ℕ → ℕ
file_length samples records tokens = 10 + 2 * samples + 11 * records + 4 * tokens

-- what the lists say
abbrev pub told : Lists → Lent
told l =
    record {
      depth = l.depth;
      width = l.width;
      height = l.height;
      samples = l.samples.now;
      xs = l.xs.now;
      ys = l.ys.now;
      sizes = l.sizes.now;
      tx_types = l.tx_types.now;
      lossless = l.lossless.now;
      dcs = l.dcs.now;
      acs = l.acs.now;
      counts = l.counts.now;
      tokens = l.tokens.now;
    }
