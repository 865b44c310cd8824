-- A run over what a file says: its records one after another. Reconstruction R is a parameter.
use Rattle.std.specs.Prelude.{cond, List, [], ◌∷◌, ℕ, ◌+◌, ltb, eqb, pos}
use Rattle.answers.specs.Sizes.{side}
use Rattle.plane.specs.Place.{written}
use Rattle.vbk.specs.Replay.{Reconstruction, Rebuilt, After, no_record, and_then}
use Rattle.vbk_write.specs.Clip.{Entry, Clip}

module _ (R : Reconstruction) (c : Clip) where
  -- a record: a lossless byte above 1 is 14; then reconstruction's own answer
  unfoldable pub rebuilt : Entry → List ℕ → Rebuilt
  rebuilt e samples =
      cond (ltb 1 e.lossless) (record { answer = 14; samples = samples })
      (R samples c.width c.height e.x e.y e.size e.tokens (pos e.dc) (pos e.ac) e.tx_type (eqb e.lossless 1) c.depth)

  -- the samples that it writes where its answer is 0
  unfoldable pub written_by : ℕ → Entry → ℕ
  written_by answer e = cond (eqb answer 0) (written (record { width = c.width; height = c.height; stride = c.width }) e.x e.y (side (e.size + 2))) 0

  -- the records in their order
  unfoldable pub played : List Entry → List ℕ → After
  played [] samples = no_record samples
  played (e ∷ es) samples = and_then (rebuilt e samples).answer (written_by (rebuilt e samples).answer e) (played es (rebuilt e samples).samples)
