-- What the contracts of the functions that write rows say of the buffer.
use Rattle.std.specs.Prelude.{◌≡◌, List, ℕ, ◌+◌, ◌*◌, ◌≤◌, ◌<◌, length}

-- at most so many bytes were written from `at` on, and the buffer is as long as it was
abbrev pub Within : List ℕ → ℕ → ℕ → ℕ → List ℕ → Type 0
Within out at most next after = (next ≤ at + most) × (length after ≡ length out)

-- a plane of 1 to 4,096 samples that is there in a file of at most 65,535 bytes
abbrev pub Plane : List ℕ → ℕ → ℕ → Type 0
Plane file width height =
    (0 < height * width) × ((height * width ≤ 4096) × ((10 + 2 * (height * width) ≤ length file) × (length file ≤ 65535)))
