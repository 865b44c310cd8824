-- The four writes one after the other.
use Rattle.std.proofs.lemmas.Bool.{and_parts}
use Rattle.std.proofs.KnownBytes.{Appends-trans}
use Rattle.streams.proofs.fail.Goals as goal

pub returns : goal.returns
returns g c = λ all.
    let three = and_parts _ _ all in
    let two = and_parts _ _ three.0 in
    let one = and_parts _ _ two.0 in
    let named = c.write_all-named.ensures one.0 in
    let parted = Appends-trans _ _ _ _ _ named (c.write_all-parted.ensures one.1) in
    let told = Appends-trans _ _ _ _ _ parted (c.write_all-told.ensures two.1) in
    (c.as_bytes.result.now, Appends-trans _ _ _ _ _ told (c.write_all-ended.ensures three.1))
