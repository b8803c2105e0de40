use Rattle.std.proofs.Common.{◌∙◌, ◌≤◌, ◌+◌, ◌*◌, arith}
use Rattle.columnar_memory_bitmap.proofs.Places.{bits_of-range}
use Rattle.columnar_memory_bitmap.proofs.bitmap.Bitmap.as_slice.Goals as goal

pub returns-clause-bits : goal.returns-clause-bits
returns-clause-bits c =
    let b = c.self.inside in
    let within : b.offset + b.len ≤ 8 * c.bytes_for-end.result = omega arith in
    let e = bits_of-range b.bytes.value.items b.offset b.len c.bytes_for-end.result within in
    rw (c.deref-2.ensures.value, c.deref.ensures) (e ∙ c.self.view_is)
