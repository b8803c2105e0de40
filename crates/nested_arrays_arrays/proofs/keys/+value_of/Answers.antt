use Rattle.std.proofs.Common.{rules, ◌≡◌, ◌∙◌, ◌+◌, ap, arith, length, sym}
use Rattle.nested_arrays_arrays.proofs.KeyPlaces.{key_within}
use Rattle.nested_arrays_arrays.specs.AnyColumns.{column_of}
use Rattle.nested_arrays_parts.specs.columns.SoundColumns.{is_sound}
use Rattle.nested_arrays_parts.specs.columns.StoredColumns.{column_len, column_size, is_valid_at}
use Rattle.nested_arrays_parts.specs.flat.ColumnMasks.{column_mask}
use Rattle.nested_arrays_parts.specs.Keys.{keyed, numbers_in}
use Rattle.nested_arrays_arrays.proofs.keys.+value_of.Goals as goal

pub value_of-requires : goal.value_of-requires
value_of-requires t c =
    let node = c.in-Dictionary.node in
    let is : keyed node.data_type node.keys node.values.value ≡ c.args.array.now = ap column_of (sym c.in-Dictionary.is) ∙ c.array.view_is in
    let size : column_size node.values.value + 1 ≡ column_size c.args.array.now = ap column_size is in
    let child : column_size c.deref.result.now ≡ column_size node.values.value = ap column_size c.deref.ensures in
    let len : length (numbers_in node.keys) ≡ column_len c.args.array.now = ap column_len is in
    let child_len : column_len c.deref.result.now ≡ column_len node.values.value = ap column_len c.deref.ensures in
    let named = key_within node.data_type node.keys node.values.value c.args.i c.key_at.result
    (ap is_sound (ap column_of (sym c.in-Dictionary.is)) ∙ c.array.invariant.sound) (omega (arith, c.requires, len))
    (ap (λ column. is_valid_at (column_mask column) c.args.i) is ∙ sym c.is_set.ensures ∙ c.if-not-is_set.false) c.key_at.ensures in
    (search (rules, size, child), omega (arith, named, child_len))
