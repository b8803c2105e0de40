use Rattle.std.proofs.Common.{◌∙◌, None, ap}
use Rattle.nested_arrays_columns.specs.SoundColumns.{is_sound}
use Rattle.nested_arrays_flat.specs.FlatColumns.{byte_width, fixed_column}
use Rattle.nested_arrays_flat.proofs.FixedWidths.{none_sound}
use Rattle.nested_arrays_flat.proofs.fixed_size_binary.FixedSizeBinaryArray.new_empty.Goals as goal

pub new-requires-2 : goal.new-requires-2
new-requires-2 c =
    ap (λ values. is_sound (fixed_column c.args.data_type (byte_width c.args.data_type) values None)) c.in_ok-values.ensures
    ∙ none_sound c.args.data_type c.requires
