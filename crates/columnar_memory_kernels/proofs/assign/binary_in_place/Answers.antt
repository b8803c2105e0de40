use Rattle.std.proofs.Common.{◌≡◌, ◌∙◌, List, ℕ, length, drop, ap, rules}
use Rattle.std.proofs.lemmas.List.{take_at}
use Rattle.columnar_memory_bitmap.specs.bits.Bits.{bits_of}
use Rattle.columnar_memory_kernels.proofs.assign.binary_in_place.Goals as goal

pub returns : goal.returns
returns g c =
    let own = c.into_inner-bytes.result.0 in
    let n = c.into_inner-bytes.result.1 in
    let new : List ℕ = c.assign_two.new.bytes in
    let count : length c.args.lhs.now ≡ n = search rules in
    let same : c.args.lhs.now ≡ bits_of c.deref_mut.result.now 0 n = search rules in
    let other : c.args.rhs.now ≡ bits_of c.as_slice-offset.result.0.now c.as_slice-offset.result.1 n = search rules in
    let long : length new ≡ own.len = search rules in
    let written : c.from_vec.result ≡ bits_of new 0 n =
    c.from_vec.ensures ∙ ap (λ bytes. bits_of bytes 0 n) (take_at new (drop (length new) own.items) own.len long) in
    rw (written, count, same, other) c.assign_two.ensures
