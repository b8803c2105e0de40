use Rattle.std.proofs.Common.{◌∙◌, ap, sym}
use Rattle.std.specs.List.{list_all}
use Rattle.nested_arrays_generic_builders.specs.StructBuilders.{is_stored, struct_parts}
use Rattle.nested_arrays_generic_builders.proofs.OpenStructs.{pushed_null}
use Rattle.nested_arrays_generic_builders.proofs.StructMakes.{nulls_added}
use Rattle.nested_arrays_generic_builders.proofs.structs.MutableStructArray.push_null.Goals as goal

pub returns-clause-record : goal.returns-clause-record
returns-clause-record c =
    let own = c.self.inside in
    rw (← c.self.view_is)
    (nulls_added own.data_type own.marks own.values c.push_nulls.new.marks c.push_nulls.new.values c.push_nulls.result c.push_nulls.ensures)

pub returns-clause-column : goal.returns-clause-column
returns-clause-column c =
    let own = c.self.inside in
    rw (← c.self.view_is)
    (pushed_null (struct_parts own.data_type own.marks own.values)
    (struct_parts own.data_type c.push_nulls.new.marks c.push_nulls.new.values) c.push_nulls.result
    (ap (list_all is_stored) (sym c.as_slice.ensures) ∙ c.are_whole.ensures)
    (nulls_added own.data_type own.marks own.values c.push_nulls.new.marks c.push_nulls.new.values c.push_nulls.result c.push_nulls.ensures))
