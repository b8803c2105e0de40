-- Stored columns without children read back, of every type (Arrow columnar format, "Physical Memory Layout").
use Rattle.std.proofs.Common.{◌≡◌, ◌∙◌, ◌-◌, ◌<◌, ◌^◌, List, Bool, true, false, refl, sym, ap, subst}
use Rattle.std.specs.Prelude.{Option}
use Rattle.std.specs.Int.{w32, w64}
use mir.Val.{hbits}
use Rattle.std.proofs.lemmas.Bool.{eqb-true, ltb-true, false≢true}
use Rattle.ipc_format_laws.specs.columnar_memory.declared.DataType.{DataType}
use Rattle.ipc_format_laws.specs.columnar_memory.declared.DataType.TheOpen as layer
use Rattle.ipc_format_laws.specs.columnar_memory.declared.IntervalUnit.TheVariants as intervals
use Rattle.ipc_format_laws.specs.columnar_memory.declared.PhysicalType.TheVariants as physical
use Rattle.ipc_format_laws.specs.columnar_memory.declared.PrimitiveType.TheVariants as kinds
use Rattle.ipc_format_laws.specs.columnar_memory.Layouts.{physical_type}
use Rattle.ipc_format_laws.specs.columns.Slots.{window}
use Rattle.ipc_format_laws.specs.columns.StoredColumns.{Stored, bits, texts, byte_strings, fixed_bytes, flat, stored_len, type_layer, slot_at}
use Rattle.ipc_format_laws.specs.columns.SoundColumns.{mask_fits, is_stored_as, has_size, is_sound}
use Rattle.ipc_format_laws.proofs.columns_lemmas.Conditions.{parts_of_3}
use Rattle.ipc_format_laws.proofs.columns_lemmas.TypeLayers.{Layer, is_extension, layer_layout, layout_is}
use Rattle.ipc_format_laws.specs.grammar.Columns.{fixed_bytes_slots}
use Rattle.ipc_format_laws.specs.grammar.StoredEncoding.{offset_width}
use Rattle.ipc_format_reading_laws.specs.StoredColumns.{RangeReadsBack}
use Rattle.ipc_format_reading_laws.proofs.StoredLayers.{read_layer, layer_plain}
use Rattle.ipc_format_reading_laws.proofs.StoredRanges.{by_layer}
use Rattle.ipc_format_reading_laws.proofs.StoredFlat.{Mask, StoredReadBack, numbers_back, truths_back, fixed_bytes_back}
use Rattle.ipc_format_reading_laws.proofs.StoredFlatStrings.{byte_strings_back, texts_back}

small_below : 2 ^ 31 - 1 < 2 ^ hbits w32
small_below = ltb-true (2 ^ 31 - 1) (2 ^ hbits w32) refl

large_below : 2 ^ 63 - 1 < 2 ^ hbits w64
large_below = ltb-true (2 ^ 63 - 1) (2 ^ hbits w64) refl

-- a layer reads what is written of values that are stored as its arrays lie in memory
layer_back : (x : Layer) (mask : Mask) (stored : Stored) → is_stored_as (layer_layout x) stored ≡ true → has_size x stored ≡ true
    → mask_fits mask (stored_len stored) ≡ true → is_extension x ≡ false → StoredReadBack (offset_width x) (read_layer x) mask stored
layer_back layer.Boolean mask (bits values) sound size fits plain = truths_back w32 mask values fits
layer_back layer.Int8 mask stored sound size fits plain = numbers_back w32 kinds.Int8 mask stored sound fits
layer_back layer.Int16 mask stored sound size fits plain = numbers_back w32 kinds.Int16 mask stored sound fits
layer_back layer.Int32 mask stored sound size fits plain = numbers_back w32 kinds.Int32 mask stored sound fits
layer_back layer.Int64 mask stored sound size fits plain = numbers_back w32 kinds.Int64 mask stored sound fits
layer_back layer.UInt8 mask stored sound size fits plain = numbers_back w32 kinds.UInt8 mask stored sound fits
layer_back layer.UInt16 mask stored sound size fits plain = numbers_back w32 kinds.UInt16 mask stored sound fits
layer_back layer.UInt32 mask stored sound size fits plain = numbers_back w32 kinds.UInt32 mask stored sound fits
layer_back layer.UInt64 mask stored sound size fits plain = numbers_back w32 kinds.UInt64 mask stored sound fits
layer_back layer.Float16 mask stored sound size fits plain = numbers_back w32 kinds.Float16 mask stored sound fits
layer_back layer.Float32 mask stored sound size fits plain = numbers_back w32 kinds.Float32 mask stored sound fits
layer_back layer.Float64 mask stored sound size fits plain = numbers_back w32 kinds.Float64 mask stored sound fits
layer_back (layer.Timestamp unit timezone) mask stored sound size fits plain = numbers_back w32 kinds.Int64 mask stored sound fits
layer_back layer.Date32 mask stored sound size fits plain = numbers_back w32 kinds.Int32 mask stored sound fits
layer_back layer.Date64 mask stored sound size fits plain = numbers_back w32 kinds.Int64 mask stored sound fits
layer_back (layer.Time32 unit) mask stored sound size fits plain = numbers_back w32 kinds.Int32 mask stored sound fits
layer_back (layer.Time64 unit) mask stored sound size fits plain = numbers_back w32 kinds.Int64 mask stored sound fits
layer_back (layer.Duration unit) mask stored sound size fits plain = numbers_back w32 kinds.Int64 mask stored sound fits
layer_back (layer.Interval intervals.YearMonth) mask stored sound size fits plain = numbers_back w32 kinds.Int32 mask stored sound fits
layer_back (layer.Interval intervals.DayTime) mask stored sound size fits plain = numbers_back w32 kinds.DaysMs mask stored sound fits
layer_back (layer.Interval intervals.MonthDayNano) mask stored sound size fits plain = numbers_back w32 kinds.MonthDayNano mask stored sound fits
layer_back (layer.Decimal precision scale) mask stored sound size fits plain = numbers_back w32 kinds.Int128 mask stored sound fits
layer_back (layer.Decimal256 precision scale) mask stored sound size fits plain = numbers_back w32 kinds.Int256 mask stored sound fits
layer_back layer.Binary mask (byte_strings offsets content) sound size fits plain =
    byte_strings_back w32 physical.Binary mask offsets content small_below sound fits
layer_back layer.LargeBinary mask (byte_strings offsets content) sound size fits plain =
    byte_strings_back w64 physical.LargeBinary mask offsets content large_below sound fits
layer_back layer.Utf8 mask (texts offsets content) sound size fits plain = texts_back w32 physical.Utf8 mask offsets content small_below sound fits
layer_back layer.LargeUtf8 mask (texts offsets content) sound size fits plain =
    texts_back w64 physical.LargeUtf8 mask offsets content large_below sound fits
layer_back (layer.FixedSizeBinary size) mask (fixed_bytes stored content) sound same fits plain =
    subst (λ k. StoredReadBack w32 (fixed_bytes_slots k) mask (fixed_bytes stored content)) (sym (eqb-true size stored same))
    (fixed_bytes_back w32 stored mask content fits)
layer_back (layer.Extension name inner metadata) mask stored sound size fits plain = absurd cc
layer_back _ mask stored sound size fits plain = absurd (false≢true sound)

-- Every sound column without children reads back: numbers of every kind, truth values, texts, bytes, and extensions over them.
pub flat_reads_back : (data_type : DataType) (mask : Option (List Bool)) (stored : Stored) → is_sound (flat data_type mask stored) ≡ true
    → RangeReadsBack (flat data_type mask stored)
flat_reads_back data_type mask stored sound o n at all within version holds stands whole standing =
    let parts = parts_of_3 (is_stored_as (physical_type data_type) stored) (has_size (type_layer data_type) stored)
    (mask_fits mask (stored_len stored)) sound in
    let lies : is_stored_as (layer_layout (type_layer data_type)) stored ≡ true =
    ap (λ layout. is_stored_as layout stored) (sym (layout_is data_type)) ∙ parts.0 in
    by_layer data_type at (window (slot_at (flat data_type mask stored)) o n)
    (layer_back (type_layer data_type) mask stored lies parts.1 parts.2 (layer_plain data_type) o n at all within holds stands whole)
