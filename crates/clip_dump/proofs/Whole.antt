-- A record that is answered 0 is whole: its size, and the place past it. What rows of a plane and of a block take.
use mathlib.Core.Path.{◌≡◌, refl, sym, ap, ◌∙◌}
use mathlib.Core.Bool.{Bool, true, false, cond, not}
use mathlib.Core.List.{List}
use Prim.Native.Nat.{ℕ, zero, suc, ◌+◌, ◌*◌, ◌≤◌, ◌<◌}
use native.Mathlib.Nat as N
use native.Mathlib.Omega.{arith}
use borrow.Author.Tests.{lt-ltb, ltb-false, eqb-true}
use lib.Dec.{ltb, eqb}
use lib.ListN.{length}
use Rattle.answers.specs.Sizes.{side}
use Rattle.answers.proofs.Numbers.{pass, rest}
use Rattle.vbk_read.specs.Records.{size_at, lossless_at, next_at, end_answer, ends, lossless_answer, check_answer, Recorded}
use Rattle.vbk_read.specs.Header.{width_of, height_of, plane_area, header_answer, Headed}
use Rattle.vbk_read.specs.declared.Cursor.{Cursor}
use Rattle.vbk_read.specs.declared.Fields.{Fields}
use Rattle.vbk_read.specs.declared.Head.{Head}
use Rattle.vbk_read.specs.declared.Record.TheVariants.{Whole}
use Rattle.std.specs.Prelude.{Ok}
use Rattle.vbk_read.proofs.Records.{sizes}
use Rattle.vbk_read.proofs.Headers.{good}
use Rattle.clip_dump.specs.Inner.{Plane}

pub some_side : (n : ℕ) → n ≤ 3 → 0 < side (n + 2)
some_side = sizes (λ (n : ℕ). 0 < side (n + 2)) (omega arith) (omega arith) (omega arith) (omega arith)

-- a check that ends the reading is no 0
none_ends : (n m : ℕ) → cond (not (eqb n 0)) n m ≡ 0 → n ≡ 0
none_ends n m h = go (eqb n 0) refl
  where
    go : (b : Bool) → eqb n 0 ≡ b → n ≡ 0
    go true e = eqb-true n 0 e
    go false e = rw e at h

goes_on : (n : ℕ) → n ≡ 0 → not (eqb n 0) ≡ false
goes_on n e = rw e

module _ (s : List ℕ) (at : ℕ) {head : Head} {next : Cursor} (d : Recorded s at (Whole head next)) (h : at < length s) where
  checked : check_answer s at ≡ 0
  checked = sym d.answered

  end_is : end_answer s at ≡ 0
  unfolding check_answer
  end_is = none_ends (end_answer s at) (lossless_answer (lossless_at s at)) (rw (lt-ltb at (length s) h) at checked)

  on : ends s at ≡ false
  on = goes_on (end_answer s at) end_is

  lossless_is : ltb 1 (lossless_at s at) ≡ false
  unfolding check_answer
  lossless_is = pass (ltb 1 (lossless_at s at)) 13 0 (rw (lt-ltb at (length s) h, on) at checked)

  there : (size_at s at ≤ 3) × (next_at s at ≤ length s)
  unfolding end_answer
  there =
      let e2 = rest (ltb (length s) (at + 11)) 11 _ end_is in
      let e3 = rest (ltb 3 (size_at s at)) 1 _ e2 in
      (ltb-false 3 (size_at s at) (pass (ltb 3 (size_at s at)) 1 _ e2), ltb-false (length s) (next_at s at) (pass (ltb (length s) (next_at s at)) 11 _ e3))

  size_is : head.size ≡ size_at s at
  size_is = ap (λ (x : Head). x.size) d.head_is ∙ rw (on, lossless_is)

  pub whole_size : head.size ≤ 3
  whole_size = omega (arith, size_is, there.0)

  pub whole_next : next.at ≡ at + 11 + 4 * (side (head.size + 2) * side (head.size + 2))
  unfolding next_at
  whole_next = d.next_is ∙ rw (on, size_is)

  pub whole_there : next.at ≤ length s
  whole_there =
      let e : next.at ≡ next_at s at = d.next_is ∙ rw on in
      omega (arith, e, there.1)

-- rows of w numbers: row r of h, one more, all of them
pub row_there : (r w h : ℕ) → r < h → r * w + w ≤ h * w
row_there r w h l = omega (arith, N.mul-le-mul_right w l, N.suc-mul r w)

pub one_more : (r w : ℕ) → (r + 1) * w ≡ r * w + w
one_more r w = ap (λ (n : ℕ). n * w) (omega arith) ∙ N.suc-mul r w

pub all_rows : (r w h : ℕ) → r ≤ h → h ≤ r → r * w ≡ h * w
all_rows r w h p q = ap (λ (n : ℕ). n * w) (N.le_antisymm p q)

pub some_width : (w h : ℕ) → 0 < h * w → 0 < w
some_width zero h p = absurd (omega (arith, N.mul-zero h))
some_width (suc w) h p = omega arith

-- a header that is answered 0
pub header_plane : (s : List ℕ) {f : Fields} → Headed s (Ok f) → Plane s f.width f.height
header_plane s {f} d =
    let a : header_answer s ≡ 0 = sym d.answered in
    let g = good s a in
    let e : f.height * f.width ≡ plane_area s = rw d.fields_are (N.mul_comm (height_of s) (width_of s)) in
    (omega (arith, e, g.area_some), (omega (arith, e, g.area_fits), (omega (arith, e, g.samples_there), g.file_fits)))
