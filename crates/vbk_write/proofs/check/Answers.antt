use mathlib.Core.Path.{◌≡◌, sym, ap, ◌∙◌}
use mathlib.Core.Bool.{false, ◌||◌}
use Prim.Native.Nat.{◌*◌}
use native.Mathlib.Omega.{arith}
use lib.Dec.{ltb}
use lib.ListN.{length}
use Rattle.answers.specs.Limits.{FILE_LIMIT}
use Rattle.answers.specs.Bad.{bad_depth, retired}
use Rattle.vbk_read.specs.Header.{bad_area}
use Rattle.vbk_write.specs.Promises.{any_above, bad_lists, misfit, too_large}
use Rattle.vbk_write.specs.Inner.{file_length, told}
use Rattle.vbk_write.proofs.Lengths.{alike}
use Rattle.vbk_write.proofs.Answers as A
use Rattle.vbk_write.proofs.check.Goals as goal
use Rattle.vbk_write.proofs.check.Goals.{After-bad_depth, After-file_length, After-retired, After-too_large, Else-any_above, Else-any_above-2, Else-bad_lists, Else-bad_counts, Else-bad_depth, Else-retired, Else-samples-area, Else-too_large}

-- the tests that are passed, one after another
depth_is : (c : After-bad_depth) → c.bad_depth.result ≡ bad_depth c.args.l.depth
depth_is c = c.bad_depth.ensures ∙ ap bad_depth c.from-bits.ensures

depth_passed : (c : Else-bad_depth) → bad_depth (told c.args.l).depth ≡ false
depth_passed c = sym (c.bad_depth.ensures ∙ ap bad_depth c.from-bits.ensures) ∙ c.if-bad_depth.false

kept_is : (c : After-retired) → c.retired.result ≡ retired c.args.l.depth
kept_is c = c.retired.ensures ∙ ap retired c.from-bits.ensures

kept_passed : (c : Else-retired) → retired (told c.args.l).depth ≡ false
kept_passed c = sym (c.retired.ensures ∙ ap retired c.from-bits.ensures) ∙ c.if-retired.false

sizes_passed : (c : Else-any_above) → any_above 3 (told c.args.l).sizes ≡ false
sizes_passed c = sym c.any_above.ensures ∙ c.if-any_above.false

samples_passed : (c : Else-samples-area) → let l = told c.args.l in length l.samples ≡ l.width * l.height
samples_passed c = c.if-samples-area.false ∙ c.plane_area-area.ensures

lists_passed : (c : Else-bad_lists) → bad_lists (told c.args.l) ≡ false
unfolding bad_lists
lists_passed c = sym c.bad_lists.ensures ∙ c.if-bad_lists.false

fits : (c : Else-bad_counts) → misfit (told c.args.l) ≡ false
unfolding bad_lists
fits c =
    A.together (told c.args.l) (c.if-samples-area.false ∙ c.plane_area-area.ensures) (sym c.bad_lists.ensures ∙ c.if-bad_lists.false) (sym c.bad_counts.ensures ∙ c.if-bad_counts.false)

large_is : (c : After-too_large) → misfit (told c.args.l) ≡ false → c.too_large.result ≡ too_large (told c.args.l)
large_is c fit =
    let l = told c.args.l in
    c.too_large.ensures
    ∙ ap (λ k. bad_area k || ltb FILE_LIMIT (file_length k (length l.xs) (length l.tokens))) c.plane_area-area.ensures
    ∙ sym (A.large_is l fit)

large_passed : (c : Else-too_large) → misfit (told c.args.l) ≡ false → too_large (told c.args.l) ≡ false
large_passed c fit =
    let l = told c.args.l in
    A.large_is l fit
    ∙ sym (ap (λ k. bad_area k || ltb FILE_LIMIT (file_length k (length l.xs) (length l.tokens))) c.plane_area-area.ensures)
    ∙ sym c.too_large.ensures
    ∙ c.if-too_large.false

lossless_passed : (c : Else-any_above-2) → any_above 1 (told c.args.l).lossless ≡ false
lossless_passed c = sym c.any_above-2.ensures ∙ c.if-any_above-2.false

pub returns-then-bad_depth : goal.returns-then-bad_depth
returns-then-bad_depth c = A.is_depth_lem (told c.args.l) c.args.room (sym (depth_is (goal.at.returns-then-bad_depth c).After-bad_depth) ∙ c.if-bad_depth.true)

pub returns-then-retired : goal.returns-then-retired
returns-then-retired c = A.is_retired (told c.args.l) c.args.room (depth_passed (goal.at.returns-then-retired c).Else-bad_depth) (sym (kept_is (goal.at.returns-then-retired c).After-retired) ∙ c.if-retired.true)

pub returns-then-any_above : goal.returns-then-any_above
returns-then-any_above c =
    A.is_size (told c.args.l) c.args.room (depth_passed (goal.at.returns-then-any_above c).Else-bad_depth) (kept_passed (goal.at.returns-then-any_above c).Else-retired) (sym c.any_above.ensures ∙ c.if-any_above.true)

pub returns-then-samples-area : goal.returns-then-samples-area
returns-then-samples-area c =
    let l = told c.args.l in
    A.is_length l c.args.room (depth_passed (goal.at.returns-then-samples-area c).Else-bad_depth) (kept_passed (goal.at.returns-then-samples-area c).Else-retired) (sizes_passed (goal.at.returns-then-samples-area c).Else-any_above)
    (A.other_samples l (λ e. c.if-samples-area.true (e ∙ sym c.plane_area-area.ensures)))

pub returns-then-bad_lists : goal.returns-then-bad_lists
unfolding bad_lists
returns-then-bad_lists c =
    let l = told c.args.l in
    A.is_length l c.args.room (depth_passed (goal.at.returns-then-bad_lists c).Else-bad_depth) (kept_passed (goal.at.returns-then-bad_lists c).Else-retired) (sizes_passed (goal.at.returns-then-bad_lists c).Else-any_above)
    (A.other_lists l (samples_passed (goal.at.returns-then-bad_lists c).Else-samples-area) (sym c.bad_lists.ensures ∙ c.if-bad_lists.true))

pub bad_counts-requires : goal.bad_counts-requires
bad_counts-requires c =
    let a = alike (told c.args.l) (lists_passed (goal.at.bad_counts-requires c).Else-bad_lists) in
    (a.sizes ∙ sym a.counts, sizes_passed (goal.at.bad_counts-requires c).Else-any_above)

pub returns-then-bad_counts : goal.returns-then-bad_counts
returns-then-bad_counts c =
    let l = told c.args.l in
    A.is_length l c.args.room (depth_passed (goal.at.returns-then-bad_counts c).Else-bad_depth) (kept_passed (goal.at.returns-then-bad_counts c).Else-retired) (sizes_passed (goal.at.returns-then-bad_counts c).Else-any_above)
    (A.other_counts l (samples_passed (goal.at.returns-then-bad_counts c).Else-samples-area) (lists_passed (goal.at.returns-then-bad_counts c).Else-bad_lists) (sym c.bad_counts.ensures ∙ c.if-bad_counts.true))

pub returns-then-too_large : goal.returns-then-too_large
returns-then-too_large c =
    A.is_large (told c.args.l) c.args.room (depth_passed (goal.at.returns-then-too_large c).Else-bad_depth) (kept_passed (goal.at.returns-then-too_large c).Else-retired) (sizes_passed (goal.at.returns-then-too_large c).Else-any_above) (fits (goal.at.returns-then-too_large c).Else-bad_counts)
    (sym (large_is (goal.at.returns-then-too_large c).After-too_large (fits (goal.at.returns-then-too_large c).Else-bad_counts)) ∙ c.if-too_large.true)

pub returns-then-any_above-2 : goal.returns-then-any_above-2
returns-then-any_above-2 c =
    A.is_lossless (told c.args.l) c.args.room (depth_passed (goal.at.returns-then-any_above-2 c).Else-bad_depth) (kept_passed (goal.at.returns-then-any_above-2 c).Else-retired) (sizes_passed (goal.at.returns-then-any_above-2 c).Else-any_above) (fits (goal.at.returns-then-any_above-2 c).Else-bad_counts) (large_passed (goal.at.returns-then-any_above-2 c).Else-too_large (fits (goal.at.returns-then-any_above-2 c).Else-bad_counts))
    (sym c.any_above-2.ensures ∙ c.if-any_above-2.true)

pub file_length-requires : goal.file_length-requires
file_length-requires c =
    let l = told c.args.l in
    let m = A.small l (fits (goal.at.file_length-requires c).Else-bad_counts) (large_passed (goal.at.file_length-requires c).Else-too_large (fits (goal.at.file_length-requires c).Else-bad_counts)) in
    (omega (arith, m.0, c.plane_area-area.ensures), m.1, m.2)

-- the file's length
length_is : (c : After-file_length) → let l = told c.args.l in c.file_length.result ≡ file_length (l.width * l.height) (length l.xs) (length l.tokens)
length_is c =
    let l = told c.args.l in
    c.file_length.ensures ∙ ap (λ k. file_length k (length l.xs) (length l.tokens)) c.plane_area-area.ensures

pub returns-then-room-file_length : goal.returns-then-room-file_length
returns-then-room-file_length c =
    A.is_room (told c.args.l) c.args.room (depth_passed (goal.at.returns-then-room-file_length c).Else-bad_depth) (kept_passed (goal.at.returns-then-room-file_length c).Else-retired) (sizes_passed (goal.at.returns-then-room-file_length c).Else-any_above) (fits (goal.at.returns-then-room-file_length c).Else-bad_counts) (large_passed (goal.at.returns-then-room-file_length c).Else-too_large (fits (goal.at.returns-then-room-file_length c).Else-bad_counts)) (lossless_passed (goal.at.returns-then-room-file_length c).Else-any_above-2)
    (length_is (goal.at.returns-then-room-file_length c).After-file_length) c.if-room-file_length.true

pub returns : goal.returns
returns c =
    A.is_done_lem (told c.args.l) c.args.room (depth_passed (goal.at.returns c).Else-bad_depth) (kept_passed (goal.at.returns c).Else-retired) (sizes_passed (goal.at.returns c).Else-any_above) (fits (goal.at.returns c).Else-bad_counts) (large_passed (goal.at.returns c).Else-too_large (fits (goal.at.returns c).Else-bad_counts)) (lossless_passed (goal.at.returns c).Else-any_above-2)
    (length_is (goal.at.returns c).After-file_length) c.if-room-file_length.false
