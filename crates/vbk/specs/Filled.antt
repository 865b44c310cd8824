-- The run's reconstruction: the definition of `reconstruct_block`.
use Rattle.reconstruct.specs.Reconstruct.{Input, answer_of, samples_after}
use Rattle.vbk.specs.Replay.{Reconstruction}

-- the answer and the samples of `reconstruct_block`, for the numbers of a record
unfoldable pub reconstruction : Reconstruction
reconstruction samples width height x y size tokens dc ac tx_type lossless depth =
    let u : Input =
    record {
      samples = samples;
      plane = record { width = width; height = height; stride = width };
      x = x;
      y = y;
      size = size;
      tokens = tokens;
      dc = record { 0 = dc };
      ac = record { 0 = ac };
      tx_type = tx_type;
      lossless = lossless;
      depth = depth;
    }
    in
    record { answer = answer_of u; samples = samples_after u }
