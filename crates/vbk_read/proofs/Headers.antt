-- Laws of the header: what answer 0 says of the file; the numbers read one after another.
use mathlib.Core.Path.{◌≡◌, refl}
use mathlib.Core.Bool.{Bool, true, false, not, ◌||◌}
use mathlib.Core.List.{List}
use Prim.Native.Nat.{ℕ, ◌+◌, ◌*◌, ◌≤◌, ◌<◌, ◌^◌}
use native.Mathlib.Nat as N
use native.Mathlib.Omega.{arith}
use borrow.Author.Tests.{ltb-false, eqb-true, eqb-false, not-false}
use lib.Dec.{ltb, eqb}
use lib.ListN.{length}
use Rattle.answers.specs.Bad.{bad_depth}
use Rattle.answers.proofs.Numbers.{pass, rest}
use Rattle.vbk_read.specs.Bytes.{le1, le2}
use Rattle.vbk_read.specs.Inner.{Took}
use Rattle.vbk_read.specs.Header.{marked, bad_area, header_answer, fields_of, version_of, depth_of, plane_area, first_record}
use Rattle.vbk_read.specs.declared.Fields.{Fields}

below : (n : ℕ) → n < 2 ^ 16 → n ≤ 65535
below n p = omega arith

-- a product of two u16
pub area_small : {w h : ℕ} → w < 2 ^ 16 → h < 2 ^ 16 → w * h ≤ 4294836225
area_small {w} {h} p q = N.mul-le-mul (below w p) (below h q)

pub record Good (s : List ℕ) : Type 0 where
  pub file_fits : length s ≤ 65535
  pub mark_there : 10 ≤ length s
  pub marked_is : marked s ≡ true
  pub version_is : version_of s ≡ 1
  pub depth_is : bad_depth (depth_of s) ≡ false
  pub area_some : 0 < plane_area s
  pub area_fits : plane_area s ≤ 4096
  pub samples_there : first_record s ≤ length s

or_left : (a b : Bool) → a || b ≡ false → a ≡ false
or_left true b h = h
or_left false b h = refl

or_right : (a b : Bool) → a || b ≡ false → b ≡ false
or_right true b h = absurd (let z : ◌≡◌ {A = ℕ} 0 1 = cc in omega arith)
or_right false b h = h

pub area_ok : (n : ℕ) → bad_area n ≡ false → (0 < n) × (n ≤ 4096)
unfolding bad_area
area_ok n h =
    (omega (arith, eqb-false n 0 (or_left (eqb n 0) (ltb 4096 n) h)), ltb-false 4096 n (or_right (eqb n 0) (ltb 4096 n) h))

pub good : (s : List ℕ) → header_answer s ≡ 0 → Good s
unfolding header_answer
good s h =
    let h2 = rest (ltb 65535 (length s)) 12 _ h in
    let h3 = rest (ltb (length s) 10) 11 _ h2 in
    let h4 = rest (not (marked s)) 9 _ h3 in
    let h5 = rest (not (eqb (version_of s) 1)) 10 _ h4 in
    let h6 = rest (bad_depth (depth_of s)) 0 _ h5 in
    let h7 = rest (bad_area (plane_area s)) 12 _ h6 in
    let a = area_ok (plane_area s) (pass (bad_area (plane_area s)) 12 _ h6) in
    record {
      file_fits = ltb-false 65535 (length s) (pass (ltb 65535 (length s)) 12 _ h);
      mark_there = ltb-false (length s) 10 (pass (ltb (length s) 10) 11 _ h2);
      marked_is = not-false (marked s) (pass (not (marked s)) 9 _ h3);
      version_is = eqb-true (version_of s) 1 (not-false (eqb (version_of s) 1) (pass (not (eqb (version_of s) 1)) 10 _ h4));
      depth_is = pass (bad_depth (depth_of s)) 0 _ h5;
      area_some = a.0;
      area_fits = a.1;
      samples_there = ltb-false (length s) (first_record s) (pass (ltb (length s) (first_record s)) 11 _ h7);
    }

-- four numbers read one after another
pub fields : (s : List ℕ) (v d w h n1 n2 n3 n4 : ℕ) → Took (le2 s 3) 5 v n1 → Took (le1 s n1) (n1 + 1) d n2 → Took (le2 s n2) (n2 + 2) w n3 → Took (le2 s n3) (n3 + 2) h n4
    → ◌≡◌ {A = Fields} (record { version = v; depth = d; width = w; height = h; next = record { at = n4 } }) (fields_of s)
fields s v d w h n1 n2 n3 n4 a b c e =
    let e1 : n1 ≡ 5 = a.next_is in
    let e2 : n2 ≡ 6 = omega (arith, b.next_is) in
    let e3 : n3 ≡ 8 = omega (arith, c.next_is) in
    let e4 : n4 ≡ 10 = omega (arith, e.next_is) in
    rw (a.value_is, b.value_is, c.value_is, e.value_is, e1, e2, e3, e4) refl
