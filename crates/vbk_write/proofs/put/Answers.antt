use mathlib.Core.Path.{◌≡◌, refl, sym, ap, ◌∙◌}
use mathlib.Core.List.{List, ◌++◌, append_assoc}
use Prim.Native.Nat.{ℕ, ◌+◌, ◌-◌, ◌≤◌}
use native.Mathlib.Omega.{arith}
use lib.ListN.{length, take, drop}
use lib.Seq.{sets, drop-drop}
use borrow.Rule.Slice.PartMut.{put_mid}
use Rattle.std.proofs.lemmas.List.Edits.{sets-eq}
use Rattle.vbk_write.proofs.put.Goals as goal

-- a part of the buffer, written over, is bytes set one by one
placed : (at : ℕ) (out bytes now : List ℕ) → now ≡ bytes → at + length bytes ≤ length out → put_mid at (at + length bytes - at) out now ≡ sets out at bytes
placed at out bytes now e h =
    let n : at + length bytes - at ≡ length bytes = omega arith in
    ap (λ (l : List ℕ). put_mid at (at + length bytes - at) out l) e
    ∙ ap (λ (k : ℕ). put_mid at k out bytes) n
    ∙ ap (λ (l : List ℕ). take at out ++ (bytes ++ l)) (drop-drop (length bytes) at out)
    ∙ sym (append_assoc (take at out) bytes (drop (at + length bytes) out)) ∙ sym (sets-eq bytes out at h)

pub returns : goal.returns
returns c =
    let a = c.args in
    record { next_is = refl; after_is = placed a.at a.out.now a.bytes.now c.copy_from_slice.new.self c.copy_from_slice.ensures.after c.requires }
