use Rattle.std.proofs.Common.{◌≡◌, ◌∙◌, ap, map, sym, true}
use Rattle.nested_arrays_nulls.specs.arrays.Lengths.{struct_len}
use Rattle.nested_arrays_nulls.specs.columns.SoundColumns.{has_field_types, have_len, mask_fits}
use Rattle.nested_arrays_nulls.specs.columns.StoredColumns.{type_layer}
use Rattle.nested_arrays_cells.specs.parts.Open.{column_of}
use Rattle.nested_arrays_generic_builders.specs.StructBuilders.{field_columns}
use Rattle.nested_arrays_generic_builders.proofs.StructMakes.{conditions_meet}
use Rattle.nested_arrays_generic_builders.proofs.structs.checked_len.Goals as goal

pub returns : goal.returns
returns c =
    let os = c.args.values.now in
    let n = struct_len (map column_of os) in
    let count = c.first_len-length.ensures.value in
    let typed : has_field_types (type_layer c.args.data_type.now) (field_columns os) ≡ true =
    sym c.are_fields_of.ensures ∙ c.if-not-are_fields_of.false in
    let long : have_len (field_columns os) n ≡ true =
    ap (have_len (field_columns os)) (sym count) ∙ sym c.have_len.ensures ∙ c.if-not-have_len.false in
    let masked : mask_fits c.args.validity.now n ≡ true =
    ap (mask_fits c.args.validity.now) (sym count) ∙ sym c.has_length.ensures ∙ c.if-not-has_length.false in
    (count, c.first_len-length.ensures.within, conditions_meet c.args.data_type.now c.args.validity.now n os c.are_whole.ensures typed long masked)
