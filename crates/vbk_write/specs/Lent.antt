-- What the call is given: a list for each of a record's numbers, one entry a record, and all tokens one after another.
use Rattle.std.specs.Prelude.{◌≡◌, List, map, ℕ, zero, suc, ◌+◌, ℤ, pos, length, get_or}
use Rattle.whole.specs.Lists.{tabulate}
use Rattle.vbk_write.specs.Bytes.{joined}
use Rattle.vbk_write.specs.Clip.{Entry, Clip, bytes_of}

-- the header's numbers, the samples and the records' lists
pub record Lent : Type 0 where
  pub depth : ℕ
  pub width : ℕ
  pub height : ℕ
  pub samples : List ℕ
  pub xs : List ℕ
  pub ys : List ℕ
  pub sizes : List ℕ
  pub tx_types : List ℕ
  pub lossless : List ℕ
  pub dcs : List ℕ
  pub acs : List ℕ
  pub counts : List ℕ
  pub tokens : List ℤ

-- the records' lists are all of one length
pub record Alike (l : Lent) : Type 0 where
  pub ys : length l.ys ≡ length l.xs
  pub sizes : length l.sizes ≡ length l.xs
  pub tx_types : length l.tx_types ≡ length l.xs
  pub lossless : length l.lossless ≡ length l.xs
  pub dcs : length l.dcs ≡ length l.xs
  pub acs : length l.acs ≡ length l.xs
  pub counts : length l.counts ≡ length l.xs

-- how many tokens the records before record k bring
unfoldable pub tokens_before : List ℕ → ℕ → ℕ
tokens_before counts zero = 0
tokens_before counts (suc k) = tokens_before counts k + get_or counts k 0

-- `count` tokens from `from` on
unfoldable pub tokens_from : List ℤ → ℕ → ℕ → List ℤ
tokens_from tokens from count = tabulate (λ j. get_or tokens (from + j) (pos 0)) count

-- record k: the k-th of each list, and its share of the tokens
unfoldable pub entry_of : Lent → ℕ → Entry
entry_of l k =
    record {
      x = get_or l.xs k 0;
      y = get_or l.ys k 0;
      size = get_or l.sizes k 0;
      tx_type = get_or l.tx_types k 0;
      lossless = get_or l.lossless k 0;
      dc = get_or l.dcs k 0;
      ac = get_or l.acs k 0;
      tokens = tokens_from l.tokens (tokens_before l.counts k) (get_or l.counts k 0);
    }

-- what the file is to say
unfoldable pub clip_of : Lent → Clip
clip_of l =
    record { depth = l.depth; width = l.width; height = l.height; samples = l.samples; entries = tabulate (entry_of l) (length l.xs) }

-- the file
unfoldable pub file_of : Lent → List ℕ
file_of l = bytes_of (clip_of l)

-- the lists of a clip, as a caller makes them
unfoldable pub lent_of : Clip → Lent
lent_of c =
    record {
      depth = c.depth;
      width = c.width;
      height = c.height;
      samples = c.samples;
      xs = map (λ e. e.x) c.entries;
      ys = map (λ e. e.y) c.entries;
      sizes = map (λ e. e.size) c.entries;
      tx_types = map (λ e. e.tx_type) c.entries;
      lossless = map (λ e. e.lossless) c.entries;
      dcs = map (λ e. e.dc) c.entries;
      acs = map (λ e. e.ac) c.entries;
      counts = map (λ e. length e.tokens) c.entries;
      tokens = joined (λ e. e.tokens) c.entries;
    }
