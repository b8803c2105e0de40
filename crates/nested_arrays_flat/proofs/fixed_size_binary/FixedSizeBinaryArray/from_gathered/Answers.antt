use Rattle.std.proofs.Common.{◌≡◌, ◌∙◌, ap, sym, true}
use Rattle.std.specs.List.{list_all}
use Rattle.flat_arrays_core.specs.columnar_memory.declared.DataType.TheVariants as types
use Rattle.nested_arrays_columns.specs.SoundColumns.{is_byte, is_sound}
use Rattle.nested_arrays_flat.proofs.FixedItems.{plainest_width}
use Rattle.nested_arrays_flat.proofs.FixedWidths.{fixed_sound}
use Rattle.nested_arrays_flat.specs.FlatColumns.{fixed_column}
use Rattle.nested_arrays_flat.proofs.fixed_size_binary.FixedSizeBinaryArray.from_gathered.Goals as goal

pub new-requires : goal.new-requires
new-requires c =
    let t = types.FixedSizeBinary c.args.size in
    let width = plainest_width c.args.size in
    let same : c.in_ok-values.values ≡ c.args.values.items = c.in_ok-values.ensures in
    let each : list_all is_byte c.args.values.items ≡ true =
    ap (list_all is_byte) (sym (c.as_slice.ensures ∙ same)) ∙ c.read_bytes.ensures in
    (λ j. is_sound (fixed_column t (width j) (same j) c.args.validity))
    ∙ fixed_sound t c.args.size c.args.values.items c.args.validity width c.requires.some c.requires.whole each c.requires.masked

pub returns : goal.returns
returns c =
    let width = plainest_width c.args.size in
    let same : c.in_ok-values.values ≡ c.args.values.items = c.in_ok-values.ensures in
    c.new.ensures ∙ (λ j. fixed_column (types.FixedSizeBinary c.args.size) (width j) (same j) c.args.validity)
