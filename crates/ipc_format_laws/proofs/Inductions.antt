-- Each type and each field reads back.
use Rattle.std.proofs.Common.{Bool, true, false, not, map, refl, subst, arith}
use denote.Hole.Carrier
use Rattle.ipc_format_grammar.specs.columnar_memory.declared.DataType.{DataType, map-DataType}
use Rattle.ipc_format_grammar.specs.columnar_memory.declared.DataType.TheOpen as layer
use Rattle.ipc_format_grammar.specs.columnar_memory.declared.DataType.TheVariants as types
use Rattle.ipc_format_grammar.specs.columnar_memory.declared.DataType.TheViews.{roll-DataType, roll-Field}
use Rattle.ipc_format_grammar.specs.columnar_memory.declared.DataType.TheFolds.{ind-Field, fold-DataType, fold-Field, fold-roll-DataType, fold-roll-Field}
use Rattle.ipc_format_grammar.specs.columnar_memory.declared.Field.{Field, map-Field}
use Rattle.ipc_format_grammar.specs.columnar_memory.declared.IntegerType.TheVariants as integers
use Rattle.ipc_format_grammar.specs.flatbuffers.Objects.{Object, table}
use Rattle.ipc_format_grammar.specs.Schemas.{Ids, IdsList, type_in}
use Rattle.ipc_format_grammar.specs.Types as kind
use Rattle.ipc_format_grammar.specs.SchemaObjects.{Told, told_of, told_step, told_field_step, short_table, long_table, unit_number, interval_number}
use Rattle.ipc_format_grammar.specs.Writable.{Report, report_of, report_step, field_step, normalised_type, normalised_step, is_short, is_size}
use Rattle.ipc_format_grammar.proofs.NormalReports.{normal_field, report_field}
use Rattle.ipc_format_grammar.proofs.Claims.{TypeWith, FieldWith, LayerWith, FieldLayerWith, bare_layer}
use Rattle.ipc_format_laws.specs.Schemas.{is_text_or_none, IdsTold, ids_step, ids_field_step, ids_of_field, texts_step}
use Rattle.ipc_format_laws.specs.Schemas.{texts_field_step, has_texts}
use Rattle.ipc_format_laws.proofs.TypeTables.{timestamp_fields}
use Rattle.ipc_format_laws.proofs.TypeSteps.{timestamps_read, intervals_read, durations_read, fixed_binaries_read}
use Rattle.ipc_format_laws.proofs.SchemaSteps as leaves
use Rattle.ipc_format_laws.proofs.SchemaSteps.{TypeClaim, FieldClaim, LayerClaim, empty_claim, integer_claim}
use Rattle.ipc_format_laws.proofs.NestedSteps.{items_claim, fixed_list_claim, map_claim, struct_claim, union_claim}
use Rattle.ipc_format_laws.proofs.NestedSteps.{dictionary_claim, extension_claim}
use Rattle.ipc_format_laws.proofs.FieldClaims.{field_claim}

abbrev pub told_field : Field → Ids → Object
told_field = fold-Field (IdsList → Told) (Ids → Object) told_step told_field_step

abbrev ids_in_type : DataType → IdsTold
ids_in_type = fold-DataType IdsTold (Ids → Ids) ids_step ids_field_step

abbrev texts_in_type : DataType → Bool
texts_in_type = fold-DataType Bool Bool texts_step texts_field_step

-- what is shown of each type
abbrev TypeHolds : DataType → Type 0
TypeHolds d = TypeClaim (told_of d) (normalised_type d) (report_of d) (ids_in_type d) (texts_in_type d)

-- what is shown of each field
abbrev pub FieldHolds : Field → Type 0
FieldHolds f = FieldClaim (told_field f) (normal_field f) (report_field f) (ids_of_field f) (has_texts f)

-- a layer's claim is its type's
at_roll : (x : layer.DataType-F DataType Field)
    → LayerClaim (map-DataType DataType Field (IdsList → Told) (Ids → Object) told_of told_field x)
    (map-DataType DataType Field DataType Field normalised_type normal_field x)
    (map-DataType DataType Field Report Report report_of report_field x)
    (map-DataType DataType Field IdsTold (Ids → Ids) ids_in_type ids_of_field x)
    (map-DataType DataType Field Bool Bool texts_in_type has_texts x)
    → TypeHolds (roll-DataType x)
at_roll x h = rw (
  fold-roll-DataType (IdsList → Told) (Ids → Object) told_step told_field_step x,
  fold-roll-DataType DataType Field roll-DataType normalised_step x,
  fold-roll-DataType Report Report report_step field_step x,
  fold-roll-DataType IdsTold (Ids → Ids) ids_step ids_field_step x,
  fold-roll-DataType Bool Bool texts_step texts_field_step x,
) h

at_roll_field : (x : layer.Field-F DataType Field)
    → FieldClaim (told_field_step (map-Field DataType Field (IdsList → Told) (Ids → Object) told_of told_field x))
    (normalised_step (map-Field DataType Field DataType Field normalised_type normal_field x))
    (field_step (map-Field DataType Field Report Report report_of report_field x))
    (ids_field_step (map-Field DataType Field IdsTold (Ids → Ids) ids_in_type ids_of_field x))
    (texts_field_step (map-Field DataType Field Bool Bool texts_in_type has_texts x))
    → FieldHolds (roll-Field x)
at_roll_field x h = rw (
  fold-roll-Field (IdsList → Told) (Ids → Object) told_step told_field_step x,
  fold-roll-Field DataType Field roll-DataType normalised_step x,
  fold-roll-Field Report Report report_step field_step x,
  fold-roll-Field IdsTold (Ids → Ids) ids_step ids_field_step x,
  fold-roll-Field Bool Bool texts_step texts_field_step x,
) h

abbrev field_at : FieldWith FieldHolds → Field
field_at e = e.0

type_step : (y : LayerWith TypeHolds FieldHolds) → TypeHolds (roll-DataType (bare_layer TypeHolds FieldHolds y))
unfolding type_in roll-DataType denote.Hole.Carrier.roll
type_step layer.Null = at_roll layer.Null (empty_claim 1 kind.null layer.Null (omega arith) refl (λ ws. refl, λ ws. refl)
    (λ bytes read field found total. refl))
type_step layer.Boolean = at_roll layer.Boolean (empty_claim 6 kind.bool layer.Boolean (omega arith) refl (λ ws. refl, λ ws. refl)
    (λ bytes read field found total. refl))
type_step layer.Int8 = at_roll layer.Int8 (integer_claim 8 true integers.Int8 layer.Int8 (omega arith) refl refl (λ ws. refl, λ ws. refl))
type_step layer.Int16 = at_roll layer.Int16 (integer_claim 16 true integers.Int16 layer.Int16 (omega arith) refl refl (λ ws. refl, λ ws. refl))
type_step layer.Int32 = at_roll layer.Int32 (integer_claim 32 true integers.Int32 layer.Int32 (omega arith) refl refl (λ ws. refl, λ ws. refl))
type_step layer.Int64 = at_roll layer.Int64 (integer_claim 64 true integers.Int64 layer.Int64 (omega arith) refl refl (λ ws. refl, λ ws. refl))
type_step layer.UInt8 = at_roll layer.UInt8 (integer_claim 8 false integers.UInt8 layer.UInt8 (omega arith) refl refl (λ ws. refl, λ ws. refl))
type_step layer.UInt16 = at_roll layer.UInt16 (integer_claim 16 false integers.UInt16 layer.UInt16 (omega arith) refl refl (λ ws. refl, λ ws. refl))
type_step layer.UInt32 = at_roll layer.UInt32 (integer_claim 32 false integers.UInt32 layer.UInt32 (omega arith) refl refl (λ ws. refl, λ ws. refl))
type_step layer.UInt64 = at_roll layer.UInt64 (integer_claim 64 false integers.UInt64 layer.UInt64 (omega arith) refl refl (λ ws. refl, λ ws. refl))
type_step layer.Float16 = at_roll layer.Float16 (leaves.unwritten_claim _ _ _ _)
type_step layer.Float32 = at_roll layer.Float32 (leaves.unwritten_claim _ _ _ _)
type_step layer.Float64 = at_roll layer.Float64 (leaves.unwritten_claim _ _ _ _)
type_step (layer.Timestamp unit zone) = at_roll (layer.Timestamp unit zone)
    (leaves.leaf_claim 10 (table (timestamp_fields unit zone)) (layer.Timestamp unit zone) true (is_text_or_none zone) (omega arith)
    (λ ws. refl, λ ws. refl) (λ allowed texts. (leaves.timestamp_fits unit zone texts, timestamps_read unit zone)))
type_step layer.Date32 = at_roll layer.Date32 (leaves.date_claim 0 layer.Date32 (omega arith) refl (λ ws. refl, λ ws. refl))
type_step layer.Date64 = at_roll layer.Date64 (leaves.date_claim 1 layer.Date64 (omega arith) refl (λ ws. refl, λ ws. refl))
type_step (layer.Time32 unit) = at_roll (layer.Time32 unit)
    (leaves.time_claim unit 32 (layer.Time32 unit) (is_short unit) (omega arith) (leaves.short_time unit) (λ ws. refl, λ ws. refl))
type_step (layer.Time64 unit) = at_roll (layer.Time64 unit)
    (leaves.time_claim unit 64 (layer.Time64 unit) (not (is_short unit)) (omega arith) (leaves.long_time unit) (λ ws. refl, λ ws. refl))
type_step (layer.Duration unit) = at_roll (layer.Duration unit)
    (leaves.leaf_claim 18 (short_table (unit_number unit)) (layer.Duration unit) true true (omega arith) (λ ws. refl, λ ws. refl)
    (λ allowed texts. (leaves.short_fits (unit_number unit) (leaves.unit_fits unit), durations_read unit)))
type_step (layer.Interval unit) = at_roll (layer.Interval unit)
    (leaves.leaf_claim 11 (short_table (interval_number unit)) (layer.Interval unit) true true (omega arith) (λ ws. refl, λ ws. refl)
    (λ allowed texts. (leaves.short_fits (interval_number unit) (leaves.interval_fits unit), intervals_read unit)))
type_step layer.Binary = at_roll layer.Binary (empty_claim 4 kind.binary layer.Binary (omega arith) refl (λ ws. refl, λ ws. refl)
    (λ bytes read field found total. refl))
type_step (layer.FixedSizeBinary size) = at_roll (layer.FixedSizeBinary size)
    (leaves.leaf_claim 15 (long_table size) (layer.FixedSizeBinary size) (is_size size) true (omega arith) (λ ws. refl, λ ws. refl)
    (λ allowed texts. let small = leaves.size_fits size allowed in
    (leaves.long_fits size small.1, λ (below : IdsList). fixed_binaries_read size below small.0 small.1)))
type_step layer.LargeBinary =
    at_roll layer.LargeBinary (empty_claim 19 kind.large_binary layer.LargeBinary (omega arith) refl (λ ws. refl, λ ws. refl)
    (λ bytes read field found total. refl))
type_step layer.Utf8 = at_roll layer.Utf8 (empty_claim 5 kind.utf8 layer.Utf8 (omega arith) refl (λ ws. refl, λ ws. refl)
    (λ bytes read field found total. refl))
type_step layer.LargeUtf8 = at_roll layer.LargeUtf8 (empty_claim 20 kind.large_utf8 layer.LargeUtf8 (omega arith) refl (λ ws. refl, λ ws. refl)
    (λ bytes read field found total. refl))
type_step (layer.Decimal precision scale) = at_roll (layer.Decimal precision scale)
    (leaves.decimal_claim precision scale 128 (layer.Decimal precision scale) (omega arith) refl (λ ws. refl, λ ws. refl))
type_step (layer.Decimal256 precision scale) = at_roll (layer.Decimal256 precision scale)
    (leaves.decimal_claim precision scale 256 (layer.Decimal256 precision scale) (omega arith) refl (λ ws. refl, λ ws. refl))
type_step (layer.List item) = at_roll (layer.List item.0)
    (items_claim 12 kind.list types.List (layer.List (normal_field item.0)) (told_field item.0) (normal_field item.0) (report_field item.0)
    (ids_of_field item.0) (has_texts item.0) (omega arith) refl refl (λ ws. refl, λ ws. refl)
    (λ bytes read field found total left result e. rw e refl) item.1)
type_step (layer.LargeList item) = at_roll (layer.LargeList item.0)
    (items_claim 21 kind.large_list types.LargeList (layer.LargeList (normal_field item.0)) (told_field item.0) (normal_field item.0)
    (report_field item.0)
    (ids_of_field item.0) (has_texts item.0) (omega arith) refl refl (λ ws. refl, λ ws. refl)
    (λ bytes read field found total left result e. rw e refl) item.1)
type_step (layer.FixedSizeList item size) = at_roll (layer.FixedSizeList item.0 size)
    (fixed_list_claim size (told_field item.0) (normal_field item.0) (report_field item.0) (ids_of_field item.0) (has_texts item.0) item.1)
type_step (layer.Map entry is_sorted) = at_roll (layer.Map entry.0 is_sorted)
    (map_claim is_sorted (told_field entry.0) (normal_field entry.0) (report_field entry.0) (ids_of_field entry.0) (has_texts entry.0) entry.1)
type_step (layer.Struct fields) = at_roll (layer.Struct (map field_at fields))
    (struct_claim field_at told_field normal_field report_field ids_of_field has_texts (λ (e : FieldWith FieldHolds). e.1) fields)
type_step (layer.Union fields numbers mode) = at_roll (layer.Union (map field_at fields) numbers mode)
    (union_claim field_at told_field normal_field report_field ids_of_field has_texts (λ (e : FieldWith FieldHolds). e.1) fields numbers mode)
type_step (layer.Dictionary key value is_ordered) = at_roll (layer.Dictionary key value.0 is_ordered)
    (dictionary_claim key is_ordered (told_of value.0) (normalised_type value.0) (report_of value.0) (ids_in_type value.0)
    (texts_in_type value.0) value.1)
type_step (layer.Extension name inner metadata) = at_roll (layer.Extension name inner.0 metadata)
    (extension_claim name metadata (told_of inner.0) (normalised_type inner.0) (report_of inner.0) (ids_in_type inner.0)
    (texts_in_type inner.0) inner.1)

field_step_holds : (y : FieldLayerWith TypeHolds FieldHolds)
    → FieldHolds (roll-Field (map-Field (TypeWith TypeHolds) (FieldWith FieldHolds) DataType Field (λ e. e.0) (λ e. e.0) y))
field_step_holds y = at_roll_field (record { name = y.name; data_type = y.data_type.0; is_nullable = y.is_nullable; metadata = y.metadata })
    (field_claim y.name y.is_nullable y.metadata (told_of y.data_type.0) (normalised_type y.data_type.0) (report_of y.data_type.0)
    (ids_in_type y.data_type.0) (texts_in_type y.data_type.0) y.data_type.1)

-- each field reads back
pub field_holds : (f : Field) → FieldHolds f
field_holds = ind-Field TypeHolds FieldHolds (λ x y is. subst (λ z. TypeHolds (roll-DataType z)) is (type_step y))
    (λ x y is. subst (λ z. FieldHolds (roll-Field z)) is (field_step_holds y))
