use mathlib.Core.Path.{◌≡◌, sym, ap, ◌∙◌}
use mathlib.Core.Bool.{false, not}
use Prim.Native.Nat.{◌*◌, ◌≤◌}
use native.Mathlib.Omega.{arith}
use borrow.Author.Tests.{lt-ltb, le-ltb, eq-eqb, ne_eqb}
use lib.Dec.{ltb, eqb}
use lib.ListN.{length}
use Rattle.answers.specs.Bad.{bad_depth}
use Rattle.vbk_read.specs.Header.{marked, version_of, depth_of, plane_area, bad_area, header_answer}
use Rattle.vbk_read.specs.declared.Fields.{Fields}
use Rattle.vbk_read.proofs.Headers.{area_ok}
use Rattle.vbk_read.proofs.read_header.Goals as goal
use Rattle.vbk_read.proofs.read_header.Goals.{Else-s-gt-FILE_LIMIT, Else-s-lt-HEADER_BYTES, Else-not-marked, Else-f-ne1, Else-bad_depth, Else-bad_area}

-- what each passed check says of the definition's test
no1 : (c : Else-s-gt-FILE_LIMIT) → ltb 65535 (length c.args.s.now) ≡ false
no1 c = le-ltb _ _ c.if-s-gt-FILE_LIMIT.false

no2 : (c : Else-s-lt-HEADER_BYTES) → ltb (length c.args.s.now) 10 ≡ false
no2 c = le-ltb _ _ c.if-s-lt-HEADER_BYTES.false

no3 : (c : Else-not-marked) → not (marked c.args.s.now) ≡ false
no3 c = ap not (sym c.marked.ensures ∙ c.if-not-marked.false)

no4 : (c : Else-f-ne1) → not (eqb (version_of c.args.s.now) 1) ≡ false
no4 c = ap not (eq-eqb _ _ (sym (ap (λ (f : Fields). f.version) c.read_fields-f.ensures) ∙ c.if-f-ne1.false))

no5 : (c : Else-bad_depth) → bad_depth (depth_of c.args.s.now) ≡ false
no5 c =
    sym (c.bad_depth.ensures ∙ ap bad_depth (c.from.ensures ∙ ap (λ (f : Fields). f.depth) c.read_fields-f.ensures)) ∙ c.if-bad_depth.false

no6 : (c : Else-bad_area) → bad_area (plane_area c.args.s.now) ≡ false
no6 c =
    sym (c.bad_area.ensures ∙ ap bad_area (c.plane_area-n.ensures ∙ ap (λ (f : Fields). f.width * f.height) c.read_fields-f.ensures))
    ∙ c.if-bad_area.false

-- the area, as the definition has it
area_is : (c : Else-bad_area) → c.plane_area-n.result ≡ plane_area c.args.s.now
area_is c = c.plane_area-n.ensures ∙ ap (λ (f : Fields). f.width * f.height) c.read_fields-f.ensures

small : (c : Else-bad_area) → c.plane_area-n.result ≤ 4096
small c = rw (area_is c) (area_ok _ (no6 c)).1

pub returns-then-s-gt-FILE_LIMIT : goal.returns-then-s-gt-FILE_LIMIT
unfolding header_answer
returns-then-s-gt-FILE_LIMIT c = record { answered = rw (lt-ltb _ _ c.if-s-gt-FILE_LIMIT.true); fields_are = tt }

pub returns-then-s-lt-HEADER_BYTES : goal.returns-then-s-lt-HEADER_BYTES
unfolding header_answer
returns-then-s-lt-HEADER_BYTES c =
    let p = goal.at.returns-then-s-lt-HEADER_BYTES c in
    record { answered = rw (no1 p.Else-s-gt-FILE_LIMIT, lt-ltb _ _ c.if-s-lt-HEADER_BYTES.true); fields_are = tt }

pub returns-then-not-marked : goal.returns-then-not-marked
unfolding header_answer
returns-then-not-marked c =
    let p = goal.at.returns-then-not-marked c in
    record { answered = rw (no1 p.Else-s-gt-FILE_LIMIT, no2 p.Else-s-lt-HEADER_BYTES, ap not (sym c.marked.ensures ∙ c.if-not-marked.true)); fields_are = tt }

pub returns-then-f-ne1 : goal.returns-then-f-ne1
unfolding header_answer
returns-then-f-ne1 c =
    let p = goal.at.returns-then-f-ne1 c in
    record { answered = rw (no1 p.Else-s-gt-FILE_LIMIT, no2 p.Else-s-lt-HEADER_BYTES, no3 p.Else-not-marked, ap not (ne_eqb _ _ (rw (ap (λ (f : Fields). f.version) c.read_fields-f.ensures) at c.if-f-ne1.true))); fields_are = tt }

pub returns-then-bad_depth : goal.returns-then-bad_depth
unfolding header_answer
returns-then-bad_depth c =
    let p = goal.at.returns-then-bad_depth c in
    record { answered = rw (no1 p.Else-s-gt-FILE_LIMIT, no2 p.Else-s-lt-HEADER_BYTES, no3 p.Else-not-marked, no4 p.Else-f-ne1, sym (c.bad_depth.ensures ∙ ap bad_depth (c.from.ensures ∙ ap (λ (f : Fields). f.depth) c.read_fields-f.ensures)) ∙ c.if-bad_depth.true); fields_are = tt }

pub returns-then-bad_area : goal.returns-then-bad_area
unfolding header_answer
returns-then-bad_area c =
    let p = goal.at.returns-then-bad_area c in
    record { answered = rw (no1 p.Else-s-gt-FILE_LIMIT, no2 p.Else-s-lt-HEADER_BYTES, no3 p.Else-not-marked, no4 p.Else-f-ne1, no5 p.Else-bad_depth, sym (c.bad_area.ensures ∙ ap bad_area (c.plane_area-n.ensures ∙ ap (λ (f : Fields). f.width * f.height) c.read_fields-f.ensures)) ∙ c.if-bad_area.true); fields_are = tt }

pub overflow_mul-n : goal.overflow_mul-n
overflow_mul-n c = record { fits = omega (arith, small c) }

pub overflow_add-n : goal.overflow_add-n
overflow_add-n c = record { fits = omega (arith, small c) }

pub returns-then-s-n : goal.returns-then-s-n
unfolding header_answer
returns-then-s-n c =
    let p = goal.at.returns-then-s-n c in
    record { answered = rw (no1 p.Else-s-gt-FILE_LIMIT, no2 p.Else-s-lt-HEADER_BYTES, no3 p.Else-not-marked, no4 p.Else-f-ne1, no5 p.Else-bad_depth, no6 p.Else-bad_area, lt-ltb _ _ (rw (area_is p.Else-bad_area) at c.if-s-n.true)); fields_are = tt }

pub returns : goal.returns
unfolding header_answer
returns c =
    let p = goal.at.returns c in
    record { answered = rw (no1 p.Else-s-gt-FILE_LIMIT, no2 p.Else-s-lt-HEADER_BYTES, no3 p.Else-not-marked, no4 p.Else-f-ne1, no5 p.Else-bad_depth, no6 p.Else-bad_area, le-ltb _ _ (rw (area_is p.Else-bad_area) at c.if-s-n.false)); fields_are = c.read_fields-f.ensures }
