use Rattle.std.proofs.Common.{rules, ◌≡◌, ◌∙◌, ◌<◌, ◌≤◌, length, true, false, ap, sym, arith}
use Rattle.std.proofs.lemmas.Bool.{eqb-true}
use Rattle.nested_arrays_builder_values.specs.parts.arrays.columnar_memory.declared.Field.{Field}
use Rattle.nested_arrays_builder_values.specs.parts.arrays.columns.FreshLaws.{is_buildable}
use Rattle.nested_arrays_builders.specs.Begun.{fields_size, AreNoBuilders, IsNoBuilder}
use Rattle.nested_arrays_builders.specs.BuiltTypes.{has_floats, is_invalid}
use Rattle.nested_arrays_builders.specs.Parts.{type_size}
use Rattle.nested_arrays_builders.specs.TypeSizes.{dictionary_size, list_size, large_list_size, fixed_list_size, struct_is_larger}
use Rattle.nested_arrays_builders.proofs.BegunNodes.{begun_keyed, begun_list, begun_large_list, begun_sized, begun_struct, stored_type}
use Rattle.nested_arrays_builders.proofs.BegunNodes.{one_field, one_more_begun, one_more_built, one_more_can, one_refused, some_of}
use Rattle.nested_arrays_builders.proofs.BuiltTypes.{at_dictionary, at_list, at_large_list, at_fixed_list, at_struct, no_map, no_union}
use Rattle.nested_arrays_builders.proofs.BuiltTypes.{built_as, dictionary_as, fixed_list_as, large_list_as, list_as, no_half, no_single, no_double}
use Rattle.nested_arrays_builders.proofs.BuiltTypes.{empty_struct_invalid, keyed_invalid, ordered_invalid, others_are_plain, refused_as}
use Rattle.nested_arrays_builders.proofs.BuiltTypes.{struct_built, struct_refused, unsized_invalid}
use Rattle.nested_arrays_builders.proofs.+beginning.Goals as goal

-- ---- a type of any layout

pub any::AnyMutableArray::new-new_list-requires : goal.any::AnyMutableArray::new-new_list-requires
any::AnyMutableArray::new-new_list-requires t c =
    let d = c.args.data_type.now in
    let is = at_list d c.to_logical_type.result.now c.to_logical_type.ensures.value c.in-List.item c.get.result.now c.in-List.is c.get.ensures in
    let size = list_size d c.get.result.now is in
    (search (rules, size), is)

pub any::AnyMutableArray::new-new_large_list-requires : goal.any::AnyMutableArray::new-new_large_list-requires
any::AnyMutableArray::new-new_large_list-requires t c =
    let d = c.args.data_type.now in
    let is = at_large_list d c.to_logical_type.result.now c.to_logical_type.ensures.value c.in-LargeList.item c.get-in-LargeList.result.now
    c.in-LargeList.is c.get-in-LargeList.ensures in
    let size = large_list_size d c.get-in-LargeList.result.now is in
    (search (rules, size), is)

pub any::AnyMutableArray::new-new_sized-requires : goal.any::AnyMutableArray::new-new_sized-requires
any::AnyMutableArray::new-new_sized-requires t c =
    let d = c.args.data_type.now in
    let is = at_fixed_list d c.to_logical_type.result.now c.to_logical_type.ensures.value c.in-FixedSizeList.item c.in-FixedSizeList.size
    c.get-in-FixedSizeList.result.now c.in-FixedSizeList.is c.get-in-FixedSizeList.ensures in
    let size = fixed_list_size d c.get-in-FixedSizeList.result.now c.in-FixedSizeList.size is in
    (search (rules, size), is)

pub any::AnyMutableArray::new-new_struct-requires : goal.any::AnyMutableArray::new-new_struct-requires
any::AnyMutableArray::new-new_struct-requires t c =
    let d = c.args.data_type.now in
    let is = at_struct d c.to_logical_type.result.now c.to_logical_type.ensures.value c.in-Struct.fields c.as_slice.result.now c.in-Struct.is
    c.as_slice.ensures in
    let size = struct_is_larger d c.as_slice.result.now is in
    (search (rules, size), is)

pub any::AnyMutableArray::new-new_flat-requires : goal.any::AnyMutableArray::new-new_flat-requires
any::AnyMutableArray::new-new_flat-requires t c =
    others_are_plain c.args.data_type.now c.to_logical_type.result.now c.to_logical_type.ensures.value (record {
      not-List = c.in_default.not-List;
      not-LargeList = c.in_default.not-LargeList;
      not-FixedSizeList = c.in_default.not-FixedSizeList;
      not-Struct = c.in_default.not-Struct;
      not-Map = c.in_default.not-Map;
      not-Union = c.in_default.not-Union;
      not-Dictionary = c.in_default.not-Dictionary;
      not-Float16 = c.in_default.not-Float16;
      not-Float32 = c.in_default.not-Float32;
      not-Float64 = c.in_default.not-Float64;
      not-FixedSizeBinary = c.in_default.not-FixedSizeBinary;
    })

pub any::AnyMutableArray::new-returns-in-Map : goal.any::AnyMutableArray::new-returns-in-Map
any::AnyMutableArray::new-returns-in-Map t c =
    let none : is_invalid c.args.data_type.now ≡ true =
    no_map c.args.data_type.now c.to_logical_type.result.now c.to_logical_type.ensures.value _ _ c.in-Map.is in
    search (rules, none)

pub any::AnyMutableArray::new-returns-in-Union : goal.any::AnyMutableArray::new-returns-in-Union
any::AnyMutableArray::new-returns-in-Union t c =
    let none : is_invalid c.args.data_type.now ≡ true =
    no_union c.args.data_type.now c.to_logical_type.result.now c.to_logical_type.ensures.value _ _ _ c.in-Union.is in
    search (rules, none)

pub any::AnyMutableArray::new-new_dictionary-requires : goal.any::AnyMutableArray::new-new_dictionary-requires
any::AnyMutableArray::new-new_dictionary-requires t c =
    let d = c.args.data_type.now in
    let is = at_dictionary d c.to_logical_type.result.now c.to_logical_type.ensures.value c.in-Dictionary.key c.in-Dictionary.value
    c.in-Dictionary.is_ordered c.get-in-Dictionary.result.now c.in-Dictionary.is c.get-in-Dictionary.ensures in
    let size = dictionary_size d c.in-Dictionary.key c.get-in-Dictionary.result.now c.in-Dictionary.is_ordered is in
    (search (rules, size), is)

pub any::AnyMutableArray::new-returns-in-Float16 : goal.any::AnyMutableArray::new-returns-in-Float16
any::AnyMutableArray::new-returns-in-Float16 t c =
    let none : has_floats c.args.data_type.now ≡ true =
    no_half c.args.data_type.now c.to_logical_type.result.now c.to_logical_type.ensures.value c.in-Float16.is in
    search (rules, none)

pub any::AnyMutableArray::new-returns-in-Float32 : goal.any::AnyMutableArray::new-returns-in-Float32
any::AnyMutableArray::new-returns-in-Float32 t c =
    let none : has_floats c.args.data_type.now ≡ true =
    no_single c.args.data_type.now c.to_logical_type.result.now c.to_logical_type.ensures.value c.in-Float32.is in
    search (rules, none)

pub any::AnyMutableArray::new-returns-in-Float64 : goal.any::AnyMutableArray::new-returns-in-Float64
any::AnyMutableArray::new-returns-in-Float64 t c =
    let none : has_floats c.args.data_type.now ≡ true =
    no_double c.args.data_type.now c.to_logical_type.result.now c.to_logical_type.ensures.value c.in-Float64.is in
    search (rules, none)

-- ---- lists

pub new::new_list-returns-in_err-values : goal.new::new_list-returns-in_err-values
new::new_list-returns-in_err-values t c =
    let none : IsNoBuilder c.args.data_type.now c.in_err-values.field-0.0 =
    refused_as c.args.data_type.now c.args.item.now.data_type _ (list_as c.args.data_type.now c.args.item.now c.requires) c.in_err-values.ensures in
    search (rules, none)

pub new::new_list-of_children-requires : goal.new::new_list-of_children-requires
new::new_list-of_children-requires t c = record {
  built = built_as c.args.data_type.now c.args.item.now.data_type (list_as c.args.data_type.now c.args.item.now c.requires)
      c.in_ok-values.ensures.1;
  kept = begun_list c.args.data_type.now c.args.item.now c.in_ok-values-2.values.value (c.in_ok-values-2.ensures.ok ∙ c.in_ok-values.ensures.0)
      (stored_type c.in_ok-values.values c.args.item.now.data_type c.in_ok-values.ensures.0 c.whole.ensures.stored)
      c.in_ok-new.field-0 c.requires c.in_ok-new.ensures;
}

pub new::new_large_list-returns-in_err-values : goal.new::new_large_list-returns-in_err-values
new::new_large_list-returns-in_err-values t c =
    let none : IsNoBuilder c.args.data_type.now c.in_err-values.field-0.0 =
    refused_as c.args.data_type.now c.args.item.now.data_type _ (large_list_as c.args.data_type.now c.args.item.now c.requires)
    c.in_err-values.ensures in
    search (rules, none)

pub new::new_large_list-of_children-requires : goal.new::new_large_list-of_children-requires
new::new_large_list-of_children-requires t c = record {
  built = built_as c.args.data_type.now c.args.item.now.data_type (large_list_as c.args.data_type.now c.args.item.now c.requires)
      c.in_ok-values.ensures.1;
  kept = begun_large_list c.args.data_type.now c.args.item.now c.in_ok-values-2.values.value
      (c.in_ok-values-2.ensures.ok ∙ c.in_ok-values.ensures.0)
      (stored_type c.in_ok-values.values c.args.item.now.data_type c.in_ok-values.ensures.0 c.whole.ensures.stored)
      c.in_ok-new.field-0 c.requires c.in_ok-new.ensures;
}

pub new::new_sized-returns-then-size-eq0 : goal.new::new_sized-returns-then-size-eq0
new::new_sized-returns-then-size-eq0 t c =
    let none : is_invalid c.args.data_type.now ≡ true =
    unsized_invalid c.args.data_type.now c.args.item.now c.args.size c.requires c.if-size-eq0.true in
    search (rules, none)

pub new::new_sized-returns-in_err-values : goal.new::new_sized-returns-in_err-values
new::new_sized-returns-in_err-values t c =
    let some : 0 < c.args.size = omega (arith, c.if-size-eq0.false) in
    let none : IsNoBuilder c.args.data_type.now c.in_err-values.field-0.0 =
    refused_as c.args.data_type.now c.args.item.now.data_type _
    (fixed_list_as c.args.data_type.now c.args.item.now c.args.size c.requires some) c.in_err-values.ensures in
    search (rules, none)

pub new::new_sized-of_children-requires : goal.new::new_sized-of_children-requires
new::new_sized-of_children-requires t c =
    let some : 0 < c.args.size = omega (arith, c.if-size-eq0.false) in
    record {
      built = built_as c.args.data_type.now c.args.item.now.data_type
          (fixed_list_as c.args.data_type.now c.args.item.now c.args.size c.requires some) c.in_ok-values.ensures.1;
      kept = begun_sized c.args.data_type.now c.args.item.now c.in_ok-values-2.values.value
          (c.in_ok-values-2.ensures.ok ∙ c.in_ok-values.ensures.0)
          (stored_type c.in_ok-values.values c.args.item.now.data_type c.in_ok-values.ensures.0 c.whole.ensures.stored)
          c.args.size c.requires some;
    }

-- ---- dictionaries

pub new::new_dictionary-returns-then-is_ordered : goal.new::new_dictionary-returns-then-is_ordered
new::new_dictionary-returns-then-is_ordered t c =
    let none : is_invalid c.args.data_type.now ≡ true =
    ordered_invalid c.args.data_type.now c.args.key c.args.value.now c.args.is_ordered c.requires c.if-is_ordered.true in
    search (rules, none)

pub new::new_dictionary-returns-then-is_keyed : goal.new::new_dictionary-returns-then-is_keyed
new::new_dictionary-returns-then-is_keyed t c =
    let none : is_invalid c.args.data_type.now ≡ true =
    keyed_invalid c.args.data_type.now c.args.key c.args.value.now c.args.is_ordered c.requires (sym c.is_keyed.ensures ∙ c.if-is_keyed.true) in
    search (rules, none)

pub new::new_dictionary-returns-in_err-values : goal.new::new_dictionary-returns-in_err-values
new::new_dictionary-returns-in_err-values t c =
    let none : IsNoBuilder c.args.data_type.now c.in_err-values.field-0.0 =
    refused_as c.args.data_type.now c.args.value.now _
    (dictionary_as c.args.data_type.now c.args.key c.args.value.now c.args.is_ordered c.requires c.if-is_ordered.false
    (sym c.is_keyed.ensures ∙ c.if-is_keyed.false)) c.in_err-values.ensures in
    search (rules, none)

pub new::new_dictionary-of_children-requires : goal.new::new_dictionary-of_children-requires
new::new_dictionary-of_children-requires t c = record {
  built = built_as c.args.data_type.now c.args.value.now
      (dictionary_as c.args.data_type.now c.args.key c.args.value.now c.args.is_ordered c.requires c.if-is_ordered.false
      (sym c.is_keyed.ensures ∙ c.if-is_keyed.false)) c.in_ok-values.ensures.1;
  kept = begun_keyed c.args.data_type.now c.args.key c.args.value.now c.args.is_ordered c.new-uses.result c.new-known.result
      c.in_ok-values-2.values.value c.requires c.new-uses.ensures c.new-known.ensures
      (c.in_ok-values-2.ensures.ok ∙ c.in_ok-values.ensures.0)
      (stored_type c.in_ok-values.values c.args.value.now c.in_ok-values.ensures.0 c.whole.ensures.stored);
}

-- ---- structs

pub new::new_struct-returns-then-is_empty : goal.new::new_struct-returns-then-is_empty
new::new_struct-returns-then-is_empty t c =
    let none : is_invalid c.args.data_type.now ≡ true =
    empty_struct_invalid c.args.data_type.now c.args.fields.now c.requires
    (eqb-true (length c.args.fields.now) 0 (sym c.is_empty.ensures ∙ c.if-is_empty.true)) in
    search (rules, none)

pub new::new_struct-returns-in_err-children : goal.new::new_struct-returns-in_err-children
new::new_struct-returns-in_err-children t c =
    let none : IsNoBuilder c.args.data_type.now c.in_err-children.field-0.0 =
    struct_refused c.args.data_type.now c.args.fields.now c.requires _ c.in_err-children.ensures in
    search (rules, none)

pub new::new_struct-of_children-requires : goal.new::new_struct-of_children-requires
new::new_struct-of_children-requires t c =
    let some : 0 < length c.args.fields.now = some_of (length c.args.fields.now) (sym c.is_empty.ensures ∙ c.if-is_empty.false) in
    record {
      built = struct_built c.args.data_type.now c.args.fields.now c.requires c.in_ok-children.ensures.1 some;
      kept = begun_struct c.args.data_type.now c.args.fields.now c.in_ok-children.children.items c.in_ok-children.ensures.0
          c.in_ok-children.ensures.2 c.requires some;
    }

pub new::new_each-new-requires : goal.new::new_each-new-requires
new::new_each-new-requires t c =
    let size : type_size c.field-item.result.data_type ≤ fields_size c.args.fields.now =
    omega (
      arith,
      one_field c.args.fields.now c.loop-field.field-index c.field-item.result c.loop-field-test.true,
      ap (λ (field : Field). type_size field.data_type) c.field-item.is,
    ) in
    (search (rules, size), tt)

pub new::new_each-returns-in_err-builder : goal.new::new_each-returns-in_err-builder
new::new_each-returns-in_err-builder t c =
    let none : AreNoBuilders c.args.fields.now c.in_err-builder.field-0.0 =
    one_refused c.args.fields.now c.loop-field.field-index c.field-item.result c.loop-field-test.true c.field-item.is _ c.in_err-builder.ensures in
    search (rules, none)

pub new::new_each-loop-field-preserved : goal.new::new_each-loop-field-preserved
new::new_each-loop-field-preserved t c = record {
  made = c.in_ok-push.ensures.items
      ∙ one_more_begun c.args.fields.now c.loop-field.field-index c.field-item.result c.loop-field-test.true c.field-item.is
      c.loop-field.builders.items c.in_ok-builder.builder c.loop-field.invariant.made c.in_ok-builder.ensures.0;
  built = one_more_built c.args.fields.now c.loop-field.field-index c.field-item.result c.loop-field-test.true c.field-item.is
      c.loop-field.invariant.built c.in_ok-builder.ensures.1;
  can = one_more_can c.args.fields.now c.loop-field.field-index c.field-item.result c.loop-field-test.true c.field-item.is
      c.loop-field.invariant.can
      (stored_type c.in_ok-builder.builder c.field-item.result.data_type c.in_ok-builder.ensures.0 c.whole.ensures.stored);
}
