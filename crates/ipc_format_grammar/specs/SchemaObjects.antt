-- The objects of schemas and messages that are written (Schema.fbs, Message.fbs): which slots are present, and with which numbers.
use Rattle.std.specs.Prelude.{ℕ, ℤ, Bool, true, false, List, [], ◌∷◌, ◌++◌, length, map, Option, Some, None}
use Rattle.std.specs.List.{flat_map}
use Rattle.std.specs.Int.{w8, w16, w32, w64, to_le_bytes, cast_unsigned}
use Rattle.ipc_format_flatbuffers.specs.Objects.{Object, Fields, Objects, table, references, elements, text, no_field, absent_then}
use Rattle.ipc_format_flatbuffers.specs.Objects.{number_then, refers_then, no_object, object_then}
use Rattle.nested_arrays_columns.specs.columnar_memory.declared.DataType.{DataType}
use Rattle.nested_arrays_columns.specs.columnar_memory.declared.DataType.TheOpen as layer
use Rattle.nested_arrays_columns.specs.columnar_memory.declared.DataType.TheFolds.{fold-DataType}
use Rattle.nested_arrays_columns.specs.columnar_memory.declared.Field.{Field}
use Rattle.nested_arrays_columns.specs.columnar_memory.declared.Schema.{Schema}
use Rattle.nested_arrays_columns.specs.columnar_memory.declared.TimeUnit.{TimeUnit}
use Rattle.nested_arrays_columns.specs.columnar_memory.declared.TimeUnit.TheVariants as units
use Rattle.nested_arrays_columns.specs.columnar_memory.declared.IntervalUnit.{IntervalUnit}
use Rattle.nested_arrays_columns.specs.columnar_memory.declared.IntervalUnit.TheVariants as intervals
use Rattle.nested_arrays_columns.specs.columnar_memory.declared.IntegerType.{IntegerType}
use Rattle.nested_arrays_columns.specs.columnar_memory.declared.IntegerType.TheVariants as integers
use Rattle.nested_arrays_columns.specs.columnar_memory.declared.UnionMode.{UnionMode}
use Rattle.nested_arrays_columns.specs.columnar_memory.declared.UnionMode.TheVariants as modes
use Rattle.ipc_format_grammar.specs.Schemas.{Ids, IdsList, ids, no_ids, ids_then, extension_name_key, extension_metadata_key}
use Rattle.ipc_format_grammar.specs.Writable.{without_key}
use Rattle.ipc_format_grammar.specs.TagNumbers as tags

-- a truth value as a byte
abbrev pub truth : Bool → ℕ
truth true = 1
truth false = 0

-- a reference that is absent where there is nothing to refer to
abbrev pub refers_if : Option Object → Fields → Fields
refers_if None fields = absent_then fields
refers_if (Some object) fields = refers_then object fields

-- ---- types

abbrev pub unit_number : TimeUnit → ℕ
unit_number units.Second = tags.second
unit_number units.Millisecond = tags.millisecond
unit_number units.Microsecond = tags.microsecond
unit_number units.Nanosecond = tags.nanosecond

abbrev pub interval_number : IntervalUnit → ℕ
interval_number intervals.YearMonth = tags.year_month
interval_number intervals.DayTime = tags.day_time
interval_number intervals.MonthDayNano = tags.month_day_nano

abbrev pub mode_number : UnionMode → ℕ
mode_number modes.Sparse = tags.sparse
mode_number modes.Dense = tags.dense

-- an Int table: how many bits, and whether signed
abbrev pub int_object : ℕ → Bool → Object
int_object bits is_signed = table (number_then w32 bits (number_then w8 (truth is_signed) no_field))

abbrev pub integer_object : IntegerType → Object
integer_object integers.Int8 = int_object 8 true
integer_object integers.Int16 = int_object 16 true
integer_object integers.Int32 = int_object 32 true
integer_object integers.Int64 = int_object 64 true
integer_object integers.UInt8 = int_object 8 false
integer_object integers.UInt16 = int_object 16 false
integer_object integers.UInt32 = int_object 32 false
integer_object integers.UInt64 = int_object 64 false

-- tables of one number, of two bytes or of four
abbrev pub short_table : ℕ → Object
short_table n = table (number_then w16 n no_field)

abbrev pub long_table : ℕ → Object
long_table n = table (number_then w32 n no_field)

abbrev pub empty_table : Object
empty_table = table no_field

abbrev pub decimal_object : ℕ → ℕ → ℕ → Object
decimal_object precision scale bits = table (number_then w32 precision (number_then w32 scale (number_then w32 bits no_field)))

abbrev pub time_object : ℕ → ℕ → Object
time_object unit bits = table (number_then w16 unit (number_then w32 bits no_field))

abbrev pub text_if : Option (List ℕ) → Option Object
text_if None = None
text_if (Some bytes) = Some (text bytes)

-- a vector of signed numbers of four bytes
abbrev pub numbers_if : Option (List ℤ) → Option Object
numbers_if None = None
numbers_if (Some numbers) = Some (elements (length numbers) (flat_map (λ n. to_le_bytes w32 (cast_unsigned w32 n)) numbers))

-- how a type is told: the tag of its table, its table, the fields below it, and what its field says beside it
pub record Told : Type 0 where
  pub tag : ℕ
  pub type_table : Object
  pub children : Objects
  pub dictionary : Option (IntegerType × Bool)
  pub extension : Option (List ℕ × Option (List ℕ))

abbrev pub flat : ℕ → Object → IdsList → Told
flat tag type_table below = record { tag = tag; type_table = type_table; children = no_object; dictionary = None; extension = None }

-- the fields below a type, each with the dictionary ids beside it; a field without ids beside it has none
abbrev pub objects_of : List (Ids → Object) → IdsList → Objects
objects_of [] below = no_object
objects_of (field ∷ fields) no_ids = object_then (field (ids None no_ids)) (objects_of fields no_ids)
objects_of (field ∷ fields) (ids_then first others) = object_then (field first) (objects_of fields others)

abbrev pub nested : ℕ → Object → List (Ids → Object) → IdsList → Told
nested tag type_table fields below =
    record { tag = tag; type_table = type_table; children = objects_of fields below; dictionary = None; extension = None }

-- One layer of a type, where each type below stands as what tells it by the ids below it. Floats are not written; they are told as they
-- would be.
abbrev pub told_step : layer.DataType-F (IdsList → Told) (Ids → Object) → IdsList → Told
told_step layer.Null = flat tags.null empty_table
told_step layer.Int8 = flat tags.int (int_object 8 true)
told_step layer.Int16 = flat tags.int (int_object 16 true)
told_step layer.Int32 = flat tags.int (int_object 32 true)
told_step layer.Int64 = flat tags.int (int_object 64 true)
told_step layer.UInt8 = flat tags.int (int_object 8 false)
told_step layer.UInt16 = flat tags.int (int_object 16 false)
told_step layer.UInt32 = flat tags.int (int_object 32 false)
told_step layer.UInt64 = flat tags.int (int_object 64 false)
told_step layer.Float16 = flat tags.floating_point (short_table tags.half)
told_step layer.Float32 = flat tags.floating_point (short_table tags.single)
told_step layer.Float64 = flat tags.floating_point (short_table tags.double)
told_step layer.Binary = flat tags.binary empty_table
told_step layer.Utf8 = flat tags.utf8 empty_table
told_step layer.Boolean = flat tags.bool empty_table
told_step (layer.Decimal precision scale) = flat tags.decimal (decimal_object precision scale 128)
told_step (layer.Decimal256 precision scale) = flat tags.decimal (decimal_object precision scale 256)
told_step layer.Date32 = flat tags.date (short_table tags.date_day)
told_step layer.Date64 = flat tags.date (short_table tags.date_millisecond)
told_step (layer.Time32 unit) = flat tags.time (time_object (unit_number unit) 32)
told_step (layer.Time64 unit) = flat tags.time (time_object (unit_number unit) 64)
told_step (layer.Timestamp unit timezone) = flat tags.timestamp (table (number_then w16 (unit_number unit) (refers_if (text_if timezone) no_field)))
told_step (layer.Interval unit) = flat tags.interval (short_table (interval_number unit))
told_step (layer.List item) = nested tags.list empty_table (item ∷ [])
told_step (layer.Struct fields) = nested tags.struct empty_table fields
told_step (layer.Union fields numbers mode) =
    nested tags.union (table (number_then w16 (mode_number mode) (refers_if (numbers_if numbers) no_field))) fields
told_step (layer.FixedSizeBinary size) = flat tags.fixed_size_binary (long_table size)
told_step (layer.FixedSizeList item size) = nested tags.fixed_size_list (long_table size) (item ∷ [])
told_step (layer.Map entry is_sorted) = nested tags.map (table (number_then w8 (truth is_sorted) no_field)) (entry ∷ [])
told_step (layer.Duration unit) = flat tags.duration (short_table (unit_number unit))
told_step layer.LargeBinary = flat tags.large_binary empty_table
told_step layer.LargeUtf8 = flat tags.large_utf8 empty_table
told_step (layer.LargeList item) = nested tags.large_list empty_table (item ∷ [])
told_step (layer.Dictionary key value is_ordered) = λ below. record (value below) { dictionary = Some (key, is_ordered) }
told_step (layer.Extension name inner metadata) = λ below. record (inner below) { extension = Some (name, metadata) }

-- ---- custom metadata

abbrev pub pair_object : List ℕ × List ℕ → Object
pair_object pair = table (refers_then (text pair.0) (refers_then (text pair.1) no_field))

abbrev pub pair_objects : List (List ℕ × List ℕ) → Objects
pair_objects [] = no_object
pair_objects (pair ∷ pairs) = object_then (pair_object pair) (pair_objects pairs)

-- a vector of pairs, absent where there is none
abbrev pub metadata_object : List (List ℕ × List ℕ) → Option Object
metadata_object [] = None
metadata_object (pair ∷ pairs) = Some (references (pair_objects (pair ∷ pairs)))

-- the pairs of an extension: its metadata, if it has any, and then its name
abbrev pub extension_pairs : Option (List ℕ × Option (List ℕ)) → List (List ℕ × List ℕ)
extension_pairs None = []
extension_pairs (Some (name, None)) = (extension_name_key, name) ∷ []
extension_pairs (Some (name, Some metadata)) = (extension_metadata_key, metadata) ∷ (extension_name_key, name) ∷ []

-- a field's pairs as they are written: those of its type's extension first, then the others in the order of their keys
abbrev pub written_pairs : Option (List ℕ × Option (List ℕ)) → List (List ℕ × List ℕ) → List (List ℕ × List ℕ)
written_pairs extension pairs = extension_pairs extension ++ without_key extension_metadata_key (without_key extension_name_key pairs)

-- ---- fields and schemas

-- a DictionaryEncoding, absent where the type has no dictionary; without an id beside it the id is 0
abbrev pub id_number : Option ℤ → ℕ
id_number None = 0
id_number (Some id) = cast_unsigned w64 id

abbrev pub encoding_object : Option (IntegerType × Bool) → Option ℤ → Option Object
encoding_object None id = None
encoding_object (Some (key, is_ordered)) id =
    Some (table (number_then w64 (id_number id) (refers_then (integer_object key)
    (number_then w8 (truth is_ordered) (number_then w16 tags.dense_array no_field)))))

abbrev pub field_table : List ℕ → Bool → List (List ℕ × List ℕ) → Told → Option ℤ → Object
field_table name is_nullable pairs told id =
    table (refers_then (text name) (number_then w8 (truth is_nullable) (number_then w8 told.tag (refers_then told.type_table
    (refers_if (encoding_object told.dictionary id)
    (refers_then (references told.children) (refers_if (metadata_object (written_pairs told.extension pairs)) no_field)))))))

abbrev pub told_field_step : layer.Field-F (IdsList → Told) (Ids → Object) → Ids → Object
told_field_step field (ids id below) = field_table field.name field.is_nullable field.metadata (field.data_type below) id

abbrev pub told_of : DataType → IdsList → Told
told_of = fold-DataType (IdsList → Told) (Ids → Object) told_step told_field_step

-- a field, with the dictionary ids beside it
abbrev pub field_object : Field → Ids → Object
field_object field (ids id below) = field_table field.name field.is_nullable field.metadata (told_of field.data_type below) id

-- a schema, little-endian
unfoldable pub schema_object : Schema → IdsList → Object
schema_object schema below =
    table (number_then w16 tags.little (refers_then (references (objects_of (map field_object schema.fields) below))
    (refers_if (metadata_object schema.metadata) (absent_then no_field))))

-- ---- messages, in version V5

-- a message of a header's tag and object, and the length of its body
abbrev pub message_object : ℕ → Object → ℕ → Object
message_object header_type header body_length =
    table (number_then w16 tags.version_5 (number_then w8 header_type (refers_then header (number_then w64 body_length (absent_then no_field)))))

abbrev pub schema_message : Schema → IdsList → Object
schema_message schema below = message_object tags.schema_tag (schema_object schema below) 0

-- structs of two numbers of eight bytes
abbrev pub structs_object : List (ℕ × ℕ) → Object
structs_object structs = elements (length structs) (flat_map (λ (s : ℕ × ℕ). to_le_bytes w64 s.0 ++ to_le_bytes w64 s.1) structs)

-- a record batch: how many rows, its nodes (slots, nulls), and its buffers (offset, length)
abbrev pub record_batch_object : ℕ → List (ℕ × ℕ) → List (ℕ × ℕ) → Object
record_batch_object rows nodes buffers =
    table (number_then w64 rows (refers_then (structs_object nodes) (refers_then (structs_object buffers) (absent_then no_field))))

-- a dictionary batch: its id, and its values as a record batch
abbrev pub dictionary_batch_object : ℤ → Object → Object
dictionary_batch_object id values = table (number_then w64 (cast_unsigned w64 id) (refers_then values (number_then w8 (truth false) no_field)))
