use Rattle.std.proofs.Common.{◌≡◌, ◌∙◌, ap, sym, refl, List, rules}
use denote.Hole.Carrier
use Rattle.ipc_format_values.specs.columnar_memory.declared.DataType.{DataType}
use Rattle.ipc_format_values.specs.columnar_memory.declared.DataType.TheOpen as layer
use Rattle.ipc_format_values.specs.columnar_memory.declared.DataType.TheViews.{roll-DataType}
use Rattle.ipc_format_values.specs.columnar_memory.declared.Field.{Field}
use Rattle.ipc_format_values.specs.grammar.Columns.{first_ids}
use Rattle.ipc_format_values.specs.grammar.Dictionaries.{values_in, values_of}
use Rattle.ipc_format_values.specs.metadata.Views.{ids_views}
use Rattle.std.specs.Option.{option_map}
use Rattle.ipc_format_values.specs.grammar.Schemas.{ids}
use Rattle.ipc_format_streams.specs.Values.{ids_beside, values_or_within, values_view}
use Rattle.ipc_format_streams.proofs.Finding.{in_dictionary, in_extension, in_list, in_large_list, in_fixed_list, in_map}
use Rattle.ipc_format_streams.proofs.Finding.{in_struct, in_union, no_values, either}
use Rattle.ipc_format_streams.proofs.values.+finding.Goals as goal

pub values_in_type-returns-in-Dictionary : goal.values_in_type-returns-in-Dictionary
values_in_type-returns-in-Dictionary t c =
    let id = c.args.id in
    let own = c.args.own in
    let below = ids_views c.args.below.now in
    let said : option_map values_view c.values_in_values.result ≡ values_or_within c.get.result.now own id below = search rules in
    said ∙ ap (λ (value : DataType). values_or_within value own id below) c.get.ensures
    ∙ sym (in_dictionary c.in-Dictionary.field-0 c.in-Dictionary.value c.in-Dictionary.field-2 id own below)
    ∙ ap (λ (of : DataType). values_in of id (ids_beside own c.args.below.now)) (sym c.in-Dictionary.is)

pub values_in_type-returns-in-List : goal.values_in_type-returns-in-List
values_in_type-returns-in-List t c =
    let id = c.args.id in
    let own = c.args.own in
    let below = ids_views c.args.below.now in
    let said : option_map values_view c.values_in_field.result ≡ values_in c.get-in-List.result.now.data_type id (first_ids below) =
    search rules in
    said ∙ ap (λ (item : Field). values_in item.data_type id (first_ids below)) c.get-in-List.ensures
    ∙ sym (in_list c.in-List.item id own below)
    ∙ ap (λ (of : DataType). values_in of id (ids_beside own c.args.below.now)) (sym c.in-List.is)

pub values_in_type-returns-in-LargeList : goal.values_in_type-returns-in-LargeList
values_in_type-returns-in-LargeList t c =
    let id = c.args.id in
    let own = c.args.own in
    let below = ids_views c.args.below.now in
    let said : option_map values_view c.values_in_field-in-LargeList.result ≡ values_in c.get-in-LargeList.result.now.data_type id (first_ids below) =
    search rules in
    said
    ∙ ap (λ (item : Field). values_in item.data_type id (first_ids below)) c.get-in-LargeList.ensures
    ∙ sym (in_large_list c.in-LargeList.item id own below)
    ∙ ap (λ (of : DataType). values_in of id (ids_beside own c.args.below.now)) (sym c.in-LargeList.is)

pub values_in_type-returns-in-FixedSizeList : goal.values_in_type-returns-in-FixedSizeList
values_in_type-returns-in-FixedSizeList t c =
    let id = c.args.id in
    let own = c.args.own in
    let below = ids_views c.args.below.now in
    let said : option_map values_view c.values_in_field-in-FixedSizeList.result
    ≡ values_in c.get-in-FixedSizeList.result.now.data_type id (first_ids below) =
    search rules in
    said
    ∙ ap (λ (item : Field). values_in item.data_type id (first_ids below)) c.get-in-FixedSizeList.ensures
    ∙ sym (in_fixed_list c.in-FixedSizeList.item c.in-FixedSizeList.field-1 id own below)
    ∙ ap (λ (of : DataType). values_in of id (ids_beside own c.args.below.now)) (sym c.in-FixedSizeList.is)

pub values_in_type-returns-in-Map : goal.values_in_type-returns-in-Map
values_in_type-returns-in-Map t c =
    let id = c.args.id in
    let own = c.args.own in
    let below = ids_views c.args.below.now in
    let said : option_map values_view c.values_in_field-in-Map.result ≡ values_in c.get-in-Map.result.now.data_type id (first_ids below) =
    search rules in
    said
    ∙ ap (λ (item : Field). values_in item.data_type id (first_ids below)) c.get-in-Map.ensures
    ∙ sym (in_map c.in-Map.entry c.in-Map.field-1 id own below)
    ∙ ap (λ (of : DataType). values_in of id (ids_beside own c.args.below.now)) (sym c.in-Map.is)

pub values_in_type-returns-in-Struct : goal.values_in_type-returns-in-Struct
values_in_type-returns-in-Struct t c =
    let id = c.args.id in
    let own = c.args.own in
    let below = ids_views c.args.below.now in
    let said : option_map values_view c.values_in_fields.result ≡ values_of c.as_slice.result.now id below = search rules in
    said ∙ ap (λ (fields : List Field). values_of fields id below) c.as_slice.ensures
    ∙ sym (in_struct c.in-Struct.fields id own below)
    ∙ ap (λ (of : DataType). values_in of id (ids_beside own c.args.below.now)) (sym c.in-Struct.is)

pub values_in_type-returns-in-Union : goal.values_in_type-returns-in-Union
values_in_type-returns-in-Union t c =
    let id = c.args.id in
    let own = c.args.own in
    let below = ids_views c.args.below.now in
    let said : option_map values_view c.values_in_fields-in-Union.result ≡ values_of c.as_slice-in-Union.result.now id below = search rules in
    said ∙ ap (λ (fields : List Field). values_of fields id below) c.as_slice-in-Union.ensures
    ∙ sym (in_union c.in-Union.fields c.in-Union.field-1 c.in-Union.field-2 id own below)
    ∙ ap (λ (of : DataType). values_in of id (ids_beside own c.args.below.now)) (sym c.in-Union.is)

pub values_in_type-returns-in-Extension : goal.values_in_type-returns-in-Extension
values_in_type-returns-in-Extension t c =
    let id = c.args.id in
    let own = c.args.own in
    let below = ids_views c.args.below.now in
    let said : option_map values_view c.values_in_type.result ≡ values_in c.get-in-Extension.result.now id (ids own below) =
    search rules in
    said ∙ ap (λ (inner : DataType). values_in inner id (ids own below)) c.get-in-Extension.ensures
    ∙ sym (in_extension c.in-Extension.field-0 c.in-Extension.inner c.in-Extension.field-2 id own below)
    ∙ ap (λ (of : DataType). values_in of id (ids_beside own c.args.below.now)) (sym c.in-Extension.is)

-- a type without fields below has no values
pub values_in_type-returns-in-Null : goal.values_in_type-returns-in-Null
unfolding roll-DataType denote.Hole.Carrier.roll
values_in_type-returns-in-Null _ c =
    let t = c.args.data_type.now in
    let id = c.args.id in
    let here = ids_beside c.args.own c.args.below.now in
    either c.in-Null.is (λ e. no_values t layer.Null e refl id here) (λ h.
    either h (λ e. no_values t layer.Boolean e refl id here) (λ h.
    either h (λ e. no_values t layer.Int8 e refl id here) (λ h.
    either h (λ e. no_values t layer.Int16 e refl id here) (λ h.
    either h (λ e. no_values t layer.Int32 e refl id here) (λ h.
    either h (λ e. no_values t layer.Int64 e refl id here) (λ h.
    either h (λ e. no_values t layer.UInt8 e refl id here) (λ h.
    either h (λ e. no_values t layer.UInt16 e refl id here) (λ h.
    either h (λ e. no_values t layer.UInt32 e refl id here) (λ h.
    either h (λ e. no_values t layer.UInt64 e refl id here) (λ h.
    either h (λ e. no_values t layer.Float16 e refl id here) (λ h.
    either h (λ e. no_values t layer.Float32 e refl id here) (λ h.
    either h (λ e. no_values t layer.Float64 e refl id here) (λ h.
    either h (λ e. no_values t (layer.Timestamp e.0 e.1) e.2 refl id here) (λ h.
    either h (λ e. no_values t layer.Date32 e refl id here) (λ h.
    either h (λ e. no_values t layer.Date64 e refl id here) (λ h.
    either h (λ e. no_values t (layer.Time32 e.0) e.1 refl id here) (λ h.
    either h (λ e. no_values t (layer.Time64 e.0) e.1 refl id here) (λ h.
    either h (λ e. no_values t (layer.Duration e.0) e.1 refl id here) (λ h.
    either h (λ e. no_values t (layer.Interval e.0) e.1 refl id here) (λ h.
    either h (λ e. no_values t (layer.Decimal e.0 e.1) e.2 refl id here) (λ h.
    either h (λ e. no_values t (layer.Decimal256 e.0 e.1) e.2 refl id here) (λ h.
    either h (λ e. no_values t layer.Binary e refl id here) (λ h.
    either h (λ e. no_values t layer.LargeBinary e refl id here) (λ h.
    either h (λ e. no_values t layer.Utf8 e refl id here) (λ h.
    either h (λ e. no_values t layer.LargeUtf8 e refl id here)
    (λ e. no_values t (layer.FixedSizeBinary e.0) e.1 refl id here))))))))))))))))))))))))))
