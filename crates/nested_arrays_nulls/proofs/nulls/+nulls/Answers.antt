use Rattle.std.proofs.Common.{◌≡◌, ◌∙◌, sym, refl, rules, subst, get_or, arith, All}
use Rattle.std.specs.Prelude.{min}
use Rattle.nested_arrays_iterators.specs.columns.StoredColumns.{Column, column_len}
use Rattle.nested_arrays_nulls.proofs.Arms as arm
use Rattle.nested_arrays_nulls.proofs.Arms.{AreUnmade, IsUnmade}
use Rattle.nested_arrays_nulls.proofs.Made.{field_refused}
use Rattle.nested_arrays_nulls.proofs.NullLayers.{IsChildless, childless_nulls}
use Rattle.nested_arrays_nulls.proofs.NullLengths.{lens_of_nulls}
use Rattle.nested_arrays_nulls.proofs.StoredTypes as stored
use Rattle.nested_arrays_nulls.specs.NullColumns.{first_id, null_column, nulls_as}
use Rattle.nested_arrays_nulls.proofs.nulls.+nulls.Goals as goal

pub nulls_as-returns-in_err-field_nulls-in-List : goal.nulls_as-returns-in_err-field_nulls-in-List
nulls_as-returns-in_err-field_nulls-in-List t c =
    let d = c.args.data_type.now in
    let unmade : IsUnmade (nulls_as d c.args.whole.now c.args.length) c.in_err-field_nulls-in-List.field-0.0 =
    arm.items_unmade d c.args.whole.now c.args.length c.get.result.now c.in_err-field_nulls-in-List.field-0.0
    (arm.at_list d c.args.whole.now c.in-List.item c.get.result.now c.args.length c.in-List.is c.get.ensures) c.in_err-field_nulls-in-List.ensures in
    search (rules, unmade)

pub nulls_as-lists-requires : goal.nulls_as-lists-requires
nulls_as-lists-requires t c = stored.stored_as_lists c.args.whole.now c.args.data_type.now c.in-List.item c.requires c.in-List.is

pub nulls_as-returns-in_ok-field_nulls-in-List : goal.nulls_as-returns-in_ok-field_nulls-in-List
nulls_as-returns-in_ok-field_nulls-in-List t c =
    let d = c.args.data_type.now in
    arm.items_made d c.args.whole.now c.args.length c.get.result.now c.in_ok-field_nulls-in-List.field-0 c.lists.result
    (arm.at_list d c.args.whole.now c.in-List.item c.get.result.now c.args.length c.in-List.is c.get.ensures) c.in_ok-field_nulls-in-List.ensures.0
    c.lists.ensures

pub nulls_as-returns-in_err-field_nulls-in-LargeList : goal.nulls_as-returns-in_err-field_nulls-in-LargeList
nulls_as-returns-in_err-field_nulls-in-LargeList t c =
    let d = c.args.data_type.now in
    let unmade : IsUnmade (nulls_as d c.args.whole.now c.args.length) c.in_err-field_nulls-in-LargeList.field-0.0 =
    arm.items_unmade d c.args.whole.now c.args.length c.get-in-LargeList.result.now c.in_err-field_nulls-in-LargeList.field-0.0
    (arm.at_large_list d c.args.whole.now c.in-LargeList.item c.get-in-LargeList.result.now c.args.length
    c.in-LargeList.is c.get-in-LargeList.ensures)
    c.in_err-field_nulls-in-LargeList.ensures in
    search (rules, unmade)

pub nulls_as-large_lists-requires : goal.nulls_as-large_lists-requires
nulls_as-large_lists-requires t c =
    stored.stored_as_large_lists c.args.whole.now c.args.data_type.now c.in-LargeList.item c.requires c.in-LargeList.is

pub nulls_as-returns-in_ok-field_nulls-in-LargeList : goal.nulls_as-returns-in_ok-field_nulls-in-LargeList
nulls_as-returns-in_ok-field_nulls-in-LargeList t c =
    let d = c.args.data_type.now in
    arm.items_made d c.args.whole.now c.args.length c.get-in-LargeList.result.now c.in_ok-field_nulls-in-LargeList.field-0 c.large_lists.result
    (arm.at_large_list d c.args.whole.now c.in-LargeList.item c.get-in-LargeList.result.now c.args.length
    c.in-LargeList.is c.get-in-LargeList.ensures)
    c.in_ok-field_nulls-in-LargeList.ensures.0
    c.large_lists.ensures

pub nulls_as-returns-in_err-field_nulls-in-Map : goal.nulls_as-returns-in_err-field_nulls-in-Map
nulls_as-returns-in_err-field_nulls-in-Map t c =
    let d = c.args.data_type.now in
    let unmade : IsUnmade (nulls_as d c.args.whole.now c.args.length) c.in_err-field_nulls-in-Map.field-0.0 =
    arm.items_unmade d c.args.whole.now c.args.length c.get-in-Map.result.now c.in_err-field_nulls-in-Map.field-0.0
    (arm.at_map d c.args.whole.now c.in-Map.entry c.in-Map.field-1 c.get-in-Map.result.now c.args.length c.in-Map.is c.get-in-Map.ensures)
    c.in_err-field_nulls-in-Map.ensures in
    search (rules, unmade)

pub nulls_as-maps-requires : goal.nulls_as-maps-requires
nulls_as-maps-requires t c = stored.stored_as_maps c.args.whole.now c.args.data_type.now c.in-Map.entry c.in-Map.field-1 c.requires c.in-Map.is

pub nulls_as-returns-in_ok-field_nulls-in-Map : goal.nulls_as-returns-in_ok-field_nulls-in-Map
nulls_as-returns-in_ok-field_nulls-in-Map t c =
    let d = c.args.data_type.now in
    arm.items_made d c.args.whole.now c.args.length c.get-in-Map.result.now c.in_ok-field_nulls-in-Map.field-0 c.maps.result
    (arm.at_map d c.args.whole.now c.in-Map.entry c.in-Map.field-1 c.get-in-Map.result.now c.args.length c.in-Map.is c.get-in-Map.ensures)
    c.in_ok-field_nulls-in-Map.ensures.0
    c.maps.ensures

-- ---- lists of one size

pub nulls_as-returns-in_err-field_nulls-in-Some : goal.nulls_as-returns-in_err-field_nulls-in-Some
nulls_as-returns-in_err-field_nulls-in-Some t c =
    let d = c.args.data_type.now in
    let whole = c.args.whole.now in
    let n = c.args.length in
    let size = c.in-FixedSizeList.size in
    let u = c.get-in-Some.result.now in
    let unmade : IsUnmade (nulls_as d whole n) c.in_err-field_nulls-in-Some.field-0.0 =
    arm.fixed_items_unmade d whole n size c.in-Some.count u c.in_err-field_nulls-in-Some.field-0.0
    (arm.at_fixed_list d whole c.in-FixedSizeList.item size u n c.in-FixedSizeList.is c.get-in-Some.ensures) c.in-Some.ensures.1
    c.in_err-field_nulls-in-Some.ensures in
    search (rules, unmade)

pub nulls_as-returns-in_ok-field_nulls-in-Some : goal.nulls_as-returns-in_ok-field_nulls-in-Some
nulls_as-returns-in_ok-field_nulls-in-Some t c =
    let d = c.args.data_type.now in
    let whole = c.args.whole.now in
    let n = c.args.length in
    let item = c.in-FixedSizeList.item in
    let size = c.in-FixedSizeList.size in
    let u = c.get-in-Some.result.now in
    arm.fixed_items_made d whole n size c.in-Some.count _ u c.in_ok-field_nulls-in-Some.field-0 c.fixed_lists.result
    (arm.at_fixed_list d whole item size u n c.in-FixedSizeList.is c.get-in-Some.ensures) c.in-Some.ensures.1
    (stored.stored_with_size whole d item size c.requires c.in-FixedSizeList.is) c.in_ok-field_nulls-in-Some.ensures.0 c.fixed_lists.ensures

pub nulls_as-returns-in-None : goal.nulls_as-returns-in-None
nulls_as-returns-in-None t c =
    let d = c.args.data_type.now in
    let whole = c.args.whole.now in
    let item = c.in-FixedSizeList.item in
    let size = c.in-FixedSizeList.size in
    arm.too_many_items d whole c.args.length size item
    (arm.at_fixed_list d whole item size item c.args.length c.in-FixedSizeList.is refl) c.in-None.ensures

-- ---- structs and unions

pub nulls_as-returns-in_err-nulls_of-in-Struct : goal.nulls_as-returns-in_err-nulls_of-in-Struct
nulls_as-returns-in_err-nulls_of-in-Struct t c =
    let d = c.args.data_type.now in
    let whole = c.args.whole.now in
    let n = c.args.length in
    let own = c.as_slice.result.now in
    let unmade : IsUnmade (nulls_as d whole n) c.in_err-nulls_of-in-Struct.field-0.0 =
    arm.values_unmade d whole n own c.in_err-nulls_of-in-Struct.field-0.0
    (arm.at_struct d whole c.in-Struct.fields own n c.in-Struct.is c.as_slice.ensures) c.in_err-nulls_of-in-Struct.ensures in
    search (rules, unmade)

pub nulls_as-structs-requires : goal.nulls_as-structs-requires
nulls_as-structs-requires t c =
    let lens = lens_of_nulls c.as_slice.result.now c.args.length c.in_ok-nulls_of-in-Struct.ensures.1 in
    subst (λ columns. All (λ (column : Column). column_len column ≡ c.args.length) columns) (sym c.in_ok-nulls_of-in-Struct.ensures.0) lens

pub nulls_as-returns-in_ok-nulls_of-in-Struct : goal.nulls_as-returns-in_ok-nulls_of-in-Struct
nulls_as-returns-in_ok-nulls_of-in-Struct t c =
    let d = c.args.data_type.now in
    let whole = c.args.whole.now in
    let n = c.args.length in
    let own = c.as_slice.result.now in
    arm.values_made d whole n own c.in_ok-nulls_of-in-Struct.field-0.items c.structs.result
    (arm.at_struct d whole c.in-Struct.fields own n c.in-Struct.is c.as_slice.ensures) c.in_ok-nulls_of-in-Struct.ensures.0 c.structs.ensures

pub nulls_as-returns-in_err-nulls_of-in-Union : goal.nulls_as-returns-in_err-nulls_of-in-Union
nulls_as-returns-in_err-nulls_of-in-Union t c =
    let d = c.args.data_type.now in
    let whole = c.args.whole.now in
    let n = c.args.length in
    let own = c.as_slice-in-Union.result.now in
    let unmade : IsUnmade (nulls_as d whole n) c.in_err-nulls_of-in-Union.field-0.0 =
    arm.children_unmade d whole n (first_id c.in-Union.ids) c.in-Union.mode own c.in_err-nulls_of-in-Union.field-0.0
    (arm.at_union d whole c.in-Union.fields own c.in-Union.ids (first_id c.in-Union.ids) c.in-Union.mode n c.in-Union.is c.as_slice-in-Union.ensures
    refl)
    c.in_err-nulls_of-in-Union.ensures in
    search (rules, unmade)

pub nulls_as-returns-in_ok-nulls_of-in-Union : goal.nulls_as-returns-in_ok-nulls_of-in-Union
nulls_as-returns-in_ok-nulls_of-in-Union t c =
    let d = c.args.data_type.now in
    let whole = c.args.whole.now in
    let n = c.args.length in
    let own = c.as_slice-in-Union.result.now in
    arm.children_made d whole n (first_id c.in-Union.ids) c.in-Union.mode own c.in_ok-nulls_of-in-Union.field-0.items c.unions.result
    (arm.at_union d whole c.in-Union.fields own c.in-Union.ids (first_id c.in-Union.ids) c.in-Union.mode n c.in-Union.is c.as_slice-in-Union.ensures
    refl)
    c.in_ok-nulls_of-in-Union.ensures.0 c.unions.ensures

-- ---- dictionaries

pub nulls_as-returns-in_err-values-in-Dictionary : goal.nulls_as-returns-in_err-values-in-Dictionary
nulls_as-returns-in_err-values-in-Dictionary t c =
    let d = c.args.data_type.now in
    let whole = c.args.whole.now in
    let n = c.args.length in
    let value = c.in-Dictionary.value in
    let own = c.get-in-Dictionary.result.now in
    let other = c.get-in-Dictionary-2.result.now in
    let counted : c.min.result ≡ min n 1 = search rules in
    let same = arm.same_nulls own other value c.min.result (min n 1) c.get-in-Dictionary.ensures c.get-in-Dictionary-2.ensures counted in
    let at = arm.at_dictionary d whole c.in-Dictionary.key value value c.in-Dictionary.field-2 n (min n 1) c.in-Dictionary.is refl refl in
    let unmade : IsUnmade (nulls_as d whole n) c.in_err-values-in-Dictionary.field-0.0 =
    arm.named_unmade d whole n value (min n 1) c.in_err-values-in-Dictionary.field-0.0 at
    (arm.same_unmade (nulls_as own other c.min.result) (null_column value (min n 1)) c.in_err-values-in-Dictionary.field-0.0 same
    c.in_err-values-in-Dictionary.ensures) in
    search (rules, unmade)

pub nulls_as-dictionaries-requires : goal.nulls_as-dictionaries-requires
nulls_as-dictionaries-requires t c =
    stored.stored_as_dictionaries c.args.whole.now c.args.data_type.now c.in-Dictionary.key c.in-Dictionary.value c.in-Dictionary.field-2
    c.requires c.in-Dictionary.is

pub nulls_as-returns-in_ok-values-in-Dictionary : goal.nulls_as-returns-in_ok-values-in-Dictionary
nulls_as-returns-in_ok-values-in-Dictionary t c =
    let d = c.args.data_type.now in
    let whole = c.args.whole.now in
    let n = c.args.length in
    let value = c.in-Dictionary.value in
    let own = c.get-in-Dictionary.result.now in
    let other = c.get-in-Dictionary-2.result.now in
    let counted : c.min.result ≡ min n 1 = search rules in
    let same = arm.same_nulls own other value c.min.result (min n 1) c.get-in-Dictionary.ensures c.get-in-Dictionary-2.ensures counted in
    let at = arm.at_dictionary d whole c.in-Dictionary.key value value c.in-Dictionary.field-2 n (min n 1) c.in-Dictionary.is refl refl in
    arm.named_made d whole n value (min n 1) c.in_ok-values-in-Dictionary.values c.dictionaries.result at
    (c.in_ok-values-in-Dictionary.ensures.0 ∙ same) c.dictionaries.ensures

-- ---- other types

pub nulls_as-returns-in-Extension : goal.nulls_as-returns-in-Extension
nulls_as-returns-in-Extension t c =
    let own = c.get-in-Extension-2.result.now in
    arm.same_made (nulls_as own c.args.whole.now c.args.length) (nulls_as c.args.data_type.now c.args.whole.now c.args.length)
    c.nulls_as-in-Extension.result (arm.at_extension c.args.data_type.now c.args.whole.now c.in-Extension.name c.in-Extension.inner own
    c.in-Extension.more c.args.length c.in-Extension.is c.get-in-Extension-2.ensures) c.nulls_as-in-Extension.ensures

pub nulls_as-returns-in_default : goal.nulls_as-returns-in_default
nulls_as-returns-in_default t c =
    let childless : IsChildless c.args.data_type.now = record {
      not-List = c.in_default.not-List;
      not-LargeList = c.in_default.not-LargeList;
      not-FixedSizeList = c.in_default.not-FixedSizeList;
      not-Map = c.in_default.not-Map;
      not-Struct = c.in_default.not-Struct;
      not-Union = c.in_default.not-Union;
      not-Dictionary = c.in_default.not-Dictionary;
      not-Extension = c.in_default.not-Extension;
    } in
    arm.same_made _ (nulls_as c.args.data_type.now c.args.whole.now c.args.length) c.flats.result
    (sym (childless_nulls c.args.data_type.now childless c.args.whole.now c.args.length)) c.flats.ensures

-- ---- one field after another

pub nulls_of-returns-in_err-field_nulls : goal.nulls_of-returns-in_err-field_nulls
nulls_of-returns-in_err-field_nulls t c =
    let fields = c.args.fields.now in
    let field = c.field-item.result in
    let there : get_or fields c.loop-field.field-index field ≡ field = cc (c.field-item.is) in
    let unmade : AreUnmade fields c.args.length c.in_err-field_nulls.field-0.0 =
    field_refused fields c.loop-field.field-index c.args.length field c.in_err-field_nulls.field-0.0 (omega arith) there
    c.in_err-field_nulls.ensures in
    search (rules, unmade)

pub nulls_of-loop-field-preserved : goal.nulls_of-loop-field-preserved
nulls_of-loop-field-preserved t c =
    let fields = c.args.fields.now in
    let i = c.loop-field.field-index in
    let field = c.field-item.result in
    let there : get_or fields i field ≡ field = cc (c.field-item.is) in
    record {
      made = arm.more_made fields i c.args.length field c.in_ok-field_nulls.field-0 c.loop-field.arrays.items c.push.new.self.items (omega arith)
          there c.loop-field.invariant.made c.in_ok-field_nulls.ensures.0 c.in_ok-push.ensures.items;
      sound = arm.more_sound fields i c.args.length field (omega arith) there c.loop-field.invariant.sound c.in_ok-field_nulls.ensures.1;
    }
