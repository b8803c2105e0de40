use Rattle.std.proofs.Common.{◌≡◌, ◌∙◌, ◌+◌, ◌-◌, ap, sym, length, take, arith}
use Rattle.nested_arrays_core.specs.arrays.columnar_memory.Bits.{bits_of, unset_count}
use Rattle.nested_arrays_builder_parts.proofs.MarkLists.{bits_split}
use Rattle.nested_arrays_builder_parts.proofs.marks.unset_behind.Goals as goal

pub returns : goal.returns
returns c =
    let bits = c.args.bits.now in
    let bytes = c.as_slice.result.now in
    let rest = c.len-held.result - c.args.len in
    let parts : length bits ≡ c.args.len + rest = omega (arith, c.len-held.ensures, c.requires) in
    bits_split bytes bits c.args.len (length bits) rest c.as_slice.ensures.bits parts
    ∙ ap (λ n. unset_count (take c.args.len bits) + n) (sym c.count_zeros.ensures)
