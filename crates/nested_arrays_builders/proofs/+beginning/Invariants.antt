use Rattle.std.proofs.Common.{◌≡◌, ◌+◌, ◌*◌, take, true}
use Rattle.nested_arrays_builder_values.specs.parts.arrays.columns.FreshLaws.{are_buildable}
use Rattle.nested_arrays_builders.specs.Begun.{fields_size, opened_none}
use Rattle.nested_arrays_builders.specs.BuiltTypes.{have_builders}
use Rattle.nested_arrays_builders.specs.Parts.{type_size}
use Rattle.nested_arrays_builders.proofs.+beginning.Given as goal

-- the builders of the first fields
abbrev pub invariant-new::new_each-loop-field : goal.invariant-new::new_each-loop-field
invariant-new::new_each-loop-field l = record {
  made : l.builders.items ≡ opened_none (take l.field-index l.fields);
  built : have_builders (take l.field-index l.fields) ≡ true;
  can : are_buildable (take l.field-index l.fields) ≡ true;
}

abbrev pub decreases-any::AnyMutableArray::new : goal.decreases-any::AnyMutableArray::new
decreases-any::AnyMutableArray::new l = 4 * type_size l.data_type.now

abbrev pub decreases-new::new_list : goal.decreases-new::new_list
decreases-new::new_list l = 4 * type_size l.item.now.data_type + 1

abbrev pub decreases-new::new_large_list : goal.decreases-new::new_large_list
decreases-new::new_large_list l = 4 * type_size l.item.now.data_type + 1

abbrev pub decreases-new::new_sized : goal.decreases-new::new_sized
decreases-new::new_sized l = 4 * type_size l.item.now.data_type + 1

abbrev pub decreases-new::new_struct : goal.decreases-new::new_struct
decreases-new::new_struct l = 4 * fields_size l.fields.now + 2

abbrev pub decreases-new::new_each : goal.decreases-new::new_each
decreases-new::new_each l = 4 * fields_size l.fields.now + 1

abbrev pub decreases-new::new_dictionary : goal.decreases-new::new_dictionary
decreases-new::new_dictionary l = 4 * type_size l.value.now + 1
