use Rattle.std.proofs.Common.{◌≡◌, ◌<◌, ℕ, List, Bool, subst}
use Rattle.std.specs.Prelude.{Some, not, slice_get}
use Rattle.nested_arrays_builders.specs.flat_arrays.ByteStrings.{ByteStrings, len_of}
use Rattle.nested_arrays_builders.specs.columnar_memory.Spans.{offsets_of}
use Rattle.nested_arrays_builders.specs.columns.StoredColumns.{Stored, byte_strings, flat, texts}
use Rattle.nested_arrays_builders.specs.generic.access.Nulls.{is_null_at}
use Rattle.nested_arrays_builders.specs.values.ByteBuilders.{from_zero}
use Rattle.nested_arrays_builder_arrays.proofs.ByteSlots.{binary_count, same_marks}
use Rattle.nested_arrays_builder_arrays.proofs.FlatSlots.{null_by_mark}
use Rattle.nested_arrays_builder_arrays.proofs.byte_builders.has_value.Goals as goal

pub is_valid-requires : goal.is_valid-requires
is_valid-requires g c = subst (λ (n : ℕ). c.args.i < n) (binary_count c.args.builder.now) c.requires

pub returns-clause-binary : goal.returns-clause-binary
returns-clause-binary g c =
    let own = c.args.builder.now in
    let moved = from_zero own in
    let within : c.args.i < len_of own = subst (λ (n : ℕ). c.args.i < n) (binary_count own) c.requires in
    null_by_mark own.data_type (len_of own) own.validity (byte_strings (offsets_of moved.offsets) moved.bytes) c.args.i c.is_valid.result within
    (subst (λ (marks : List Bool). slice_get marks c.args.i ≡ Some c.is_valid.result) (same_marks (len_of own) own.validity) c.is_valid.ensures)

pub returns-clause-text : goal.returns-clause-text
returns-clause-text g c =
    let own = c.args.builder.now in
    let moved = from_zero own in
    let within : c.args.i < len_of own = subst (λ (n : ℕ). c.args.i < n) (binary_count own) c.requires in
    null_by_mark own.data_type (len_of own) own.validity (texts (offsets_of moved.offsets) moved.bytes) c.args.i c.is_valid.result within
    (subst (λ (marks : List Bool). slice_get marks c.args.i ≡ Some c.is_valid.result) (same_marks (len_of own) own.validity) c.is_valid.ensures)
