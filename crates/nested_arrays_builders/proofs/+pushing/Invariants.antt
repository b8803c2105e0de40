use Rattle.std.proofs.Common.{◌≡◌, ℕ, ◌<◌, ◌+◌, ◌*◌, take, length, get_or, true}
use Rattle.nested_arrays_builder_values.specs.parts.arrays.columns.Children.{fixed_items_of}
use Rattle.nested_arrays_builder_values.specs.parts.columns.OpenParts.{fields_of_slot}
use Rattle.nested_arrays_builder_values.specs.parts.Open.{Open}
use Rattle.nested_arrays_builder_values.specs.parts.Scalars.{scalar_slot}
use Rattle.nested_arrays_builders.specs.Nodes.{parts_of}
use Rattle.nested_arrays_builders.specs.Parts.{is_fitting, parts_size, type_size, types_size, with_each, with_slots}
use Rattle.nested_arrays_builders.proofs.+pushing.Given as goal

-- the first items stand behind the others
abbrev pub invariant-lists::push_some-loop-place : goal.invariant-lists::push_some-loop-place
invariant-lists::push_some-loop-place l =
    l.values ≡ with_slots l.fn.values (take l.place (fixed_items_of l.count (scalar_slot l.cell)))

-- the first fields stand behind the others, and fit there
abbrev pub invariant-records::push_first-loop-place : goal.invariant-records::push_first-loop-place
invariant-records::push_first-loop-place l = record {
  grown : l.children.items ≡ with_each l.fn.children.items (take l.place (fields_of_slot (length l.fn.children.items) (scalar_slot l.cell)));
  fitting : (k : ℕ) (d : Open) → k < l.place
      → is_fitting (get_or (with_each l.fn.children.items (fields_of_slot (length l.fn.children.items) (scalar_slot l.cell))) k d) ≡ true;
}

abbrev pub decreases-any::AnyMutableArray::push : goal.decreases-any::AnyMutableArray::push
decreases-any::AnyMutableArray::push l = 6 * type_size l.self.now.data_type

abbrev pub decreases-children::push_nested : goal.decreases-children::push_nested
decreases-children::push_nested l = 6 * parts_size (parts_of l.children.now) + 4

abbrev pub decreases-lists::push_some : goal.decreases-lists::push_some
decreases-lists::push_some l = 6 * type_size l.values.now.data_type + 1

abbrev pub decreases-lists::push_all : goal.decreases-lists::push_all
decreases-lists::push_all l = 6 * type_size l.values.now.data_type + 2

abbrev pub decreases-lists::push_list : goal.decreases-lists::push_list
decreases-lists::push_list l = 6 * type_size l.values.now.data_type + 3

abbrev pub decreases-lists::push_sized : goal.decreases-lists::push_sized
decreases-lists::push_sized l = 6 * type_size l.values.now.data_type + 3

abbrev pub decreases-keyed::learn_slot : goal.decreases-keyed::learn_slot
decreases-keyed::learn_slot l = 6 * type_size l.values.now.data_type + 1

abbrev pub decreases-keyed::push_new : goal.decreases-keyed::push_new
decreases-keyed::push_new l = 6 * type_size l.values.now.data_type + 2

abbrev pub decreases-keyed::push_keyed : goal.decreases-keyed::push_keyed
decreases-keyed::push_keyed l = 6 * type_size l.values.now.data_type + 3

abbrev pub decreases-records::push_first : goal.decreases-records::push_first
decreases-records::push_first l = 6 * types_size l.children.now.items + 1

abbrev pub decreases-records::push_each : goal.decreases-records::push_each
decreases-records::push_each l = 6 * types_size l.children.now.items + 2

abbrev pub decreases-records::push_record : goal.decreases-records::push_record
decreases-records::push_record l = 6 * types_size l.children.now.items + 3
