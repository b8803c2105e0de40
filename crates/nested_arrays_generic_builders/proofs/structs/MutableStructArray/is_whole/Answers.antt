use Rattle.std.proofs.Common.{◌≡◌, ◌∙◌, List, Bool, ap, length, sym, true}
use Rattle.std.specs.Prelude.{◌&&◌}
use Rattle.std.specs.List.{list_all}
use Rattle.nested_arrays_nulls.specs.columns.SoundColumns.{has_field_types, have_len}
use Rattle.nested_arrays_nulls.specs.columns.StoredColumns.{type_layer}
use Rattle.nested_arrays_cells.specs.parts.Open.{Open}
use Rattle.nested_arrays_generic_builders.specs.StructBuilders.{field_columns, is_stored}
use Rattle.nested_arrays_generic_builders.proofs.StructMakes.{whole_is}
use Rattle.nested_arrays_generic_builders.proofs.structs.MutableStructArray.is_whole.Goals as goal

pub returns-then-are_fields_of : goal.returns-then-are_fields_of
returns-then-are_fields_of c =
    let own = c.self.inside in
    let same = c.as_slice-values.ensures in
    let stored : list_all is_stored own.values ≡ true = ap (list_all is_stored) (sym same) ∙ c.are_whole.ensures in
    let typed : has_field_types (type_layer own.data_type) (field_columns own.values) ≡ true =
    ap (λ (cs : List Open). has_field_types (type_layer own.data_type) (field_columns cs)) (sym same)
    ∙ sym c.are_fields_of.ensures ∙ c.if-are_fields_of.true in
    let long : c.have_len.result ≡ have_len (field_columns own.values) (length own.marks) =
    c.have_len.ensures ∙ ap (λ (cs : List Open). have_len (field_columns cs) c.len.result) same
    ∙ ap (have_len (field_columns own.values)) c.len.ensures.value in
    rw (← c.self.view_is) (long ∙ sym (whole_is own.data_type own.marks own.values stored
    ∙ ap (λ (b : Bool). b && have_len (field_columns own.values) (length own.marks)) typed))
