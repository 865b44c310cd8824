-- The tokens that a record's reconstruction is given, and the rest of what it is given.
use mathlib.Core.Path.{◌≡◌, ap, ◌∙◌}
use mathlib.Core.List.{List}
use Prim.Native.Nat.{ℕ, ◌+◌, ◌*◌, ◌≤◌}
use native.Mathlib.Omega.{arith}
use lib.Dec.{eqb}
use lib.IntN.{ℤ, pos}
use lib.ListN.{length, take, replicate, length-replicate}
use lib.Seq.{get_or-take, length-take-le}
use Rattle.whole.specs.Lists.{fill, tabulate}
use Rattle.whole.proofs.Lists.{length_fill, fill_below, tabulate_is}
use Rattle.answers.specs.Sizes.{area}
use Rattle.plane.specs.declared.Plane.{Plane}
use Rattle.reconstruct.specs.Reconstruct.{Input, answer_of, samples_after}
use Rattle.vbk_read.specs.Header.{fields_of}
use Rattle.vbk_read.specs.Records.{size_at, head_at, token_at, tokens_at, next_at}
use Rattle.vbk_read.specs.declared.Fields.{Fields}
use Rattle.vbk_read.specs.declared.Head.{Head}
use Rattle.vbk_read.proofs.Records.{count_most}
use Rattle.vbk.specs.Replay.{Reconstruction, block_of, rebuild_at}
use Rattle.vbk.specs.Filled.{reconstruction}

take_fill : (n : ℕ) (g : ℕ → ℤ) (u : List ℤ) → n ≤ length u → take n (fill n g u) ≡ tabulate g n
take_fill n g u h =
    let l : n ≤ length (fill n g u) = omega (arith, length_fill n g u) in
    tabulate_is (pos 0) g (take n (fill n g u)) n (length-take-le n (fill n g u) l)
    (λ k q. get_or-take n (fill n g u) k (pos 0) q ∙ fill_below (pos 0) n g u k q (omega arith))

-- a whole record's head, the count of its tokens, and the room for them
module _ (s : List ℕ) (at : ℕ) (head : Head) (n : ℕ) (small : size_at s at ≤ 3) (there : next_at s at ≤ length s) (is : head ≡ head_at s at) (count : n ≡ area (head.size + 2)) (room : List ℤ) (zeros : room ≡ replicate 1024 (pos 0)) where
  count_is : n ≡ area (size_at s at + 2)
  count_is = count ∙ ap (λ (h : Head). area (h.size + 2)) is

  long : length room ≡ 1024
  long = ap length zeros ∙ length-replicate 1024 (pos 0)

  pub fits : n ≤ length room
  fits = omega (arith, count_is, long, count_most (size_at s at) small)

  pub bytes : head.next.at + 4 * n ≤ length s
  unfolding next_at
  bytes = omega (arith, there, count_is, ap (λ (h : Head). h.next.at) is)

  module _ (tokens : List ℤ) (filled : tokens ≡ fill n (token_at s head.next.at) room) where
    pub fits_filled : n ≤ length tokens
    fits_filled = rw (filled, length_fill n (token_at s head.next.at) room) fits

    pub tokens_are : take n tokens ≡ tokens_at s at
    unfolding tokens_at
    tokens_are =
        ap (take n) filled ∙ take_fill n (token_at s head.next.at) room fits
        ∙ ap (λ (h : Head). tabulate (token_at s h.next.at) n) is ∙ ap (tabulate (token_at s (at + 11))) count_is

-- reconstruction on the numbers that were read is the run's
module _ (R : Reconstruction) (s : List ℕ) (at : ℕ) (samples : List ℕ) {head : Head} {fields : Fields} {tokens : List ℤ} (h : head ≡ head_at s at) (f : fields ≡ fields_of s) (t : tokens ≡ tokens_at s at) where
  pub block_is : block_of R fields head tokens samples ≡ rebuild_at R s at samples
  unfolding rebuild_at
  block_is = rw (h, f, t)

-- a block with nothing beside the plane
module _ (samples : List ℕ) (fields : Fields) (head : Head) (tokens : List ℤ) {dc ac : ℤ} {plane : Plane} (p : plane ≡ record { width = fields.width; height = fields.height; stride = fields.width }) (d : dc ≡ pos head.dc) (a : ac ≡ pos head.ac) where
  abbrev given : Input
  given =
      record {
        samples = samples;
        plane = plane;
        x = head.x;
        y = head.y;
        size = head.size;
        tokens = tokens;
        dc = record { 0 = dc };
        ac = record { 0 = ac };
        tx_type = head.tx_type;
        lossless = eqb head.lossless 1;
        depth = fields.depth;
      }

  pub answer_is : answer_of given ≡ (block_of reconstruction fields head tokens samples).answer
  unfolding reconstruction
  answer_is = rw (p, d, a)

  pub samples_are : samples_after given ≡ (block_of reconstruction fields head tokens samples).samples
  unfolding reconstruction
  samples_are = rw (p, d, a)
