use Rattle.std.proofs.Common.{◌≡◌, ◌∙◌, sym}
use Rattle.nested_arrays_builder_arrays.proofs.ByteSlots.{binary_count, text_count}
use Rattle.nested_arrays_builder_arrays.proofs.byte_builders.count_of.Goals as goal

pub returns-clause-binary : goal.returns-clause-binary
returns-clause-binary g c = c.len.ensures.value ∙ sym (binary_count c.args.builder.now)

pub returns-clause-text : goal.returns-clause-text
returns-clause-text g c = c.len.ensures.value ∙ sym (text_count c.args.builder.now)
