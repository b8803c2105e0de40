use Rattle.std.proofs.Common.{◌∙◌, ◌≤◌, length, arith}
use Rattle.nested_arrays_builder_parts.proofs.MarkLists.{bits_begin}
use Rattle.nested_arrays_builder_parts.proofs.marks.first_bits.Goals as goal

pub returns : goal.returns
returns c =
    let parts = c.into_inner-bytes in
    let within : c.args.len ≤ parts.result.1 = omega (arith, parts.ensures.len, c.requires) in
    c.from_vec.ensures ∙ bits_begin parts.result.0.items c.args.bits c.args.len parts.result.1 parts.ensures.bits within
