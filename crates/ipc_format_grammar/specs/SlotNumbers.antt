-- The slots of the tables of Arrow's metadata, each by its number in the table's vtable (Message.fbs, Schema.fbs, File.fbs), and how many
-- bytes the elements of their vectors have.
use Rattle.std.specs.Prelude.{ℕ}

-- ---- messages

abbrev pub message_version : ℕ
message_version = 0

abbrev pub message_header_type : ℕ
message_header_type = 1

abbrev pub message_header : ℕ
message_header = 2

abbrev pub message_body_length : ℕ
message_body_length = 3

abbrev pub record_batch_length : ℕ
record_batch_length = 0

abbrev pub record_batch_nodes : ℕ
record_batch_nodes = 1

abbrev pub record_batch_buffers : ℕ
record_batch_buffers = 2

abbrev pub record_batch_compression : ℕ
record_batch_compression = 3

abbrev pub dictionary_batch_id : ℕ
dictionary_batch_id = 0

abbrev pub dictionary_batch_data : ℕ
dictionary_batch_data = 1

abbrev pub dictionary_batch_is_delta : ℕ
dictionary_batch_is_delta = 2

-- ---- schemas

abbrev pub schema_endianness : ℕ
schema_endianness = 0

abbrev pub schema_fields : ℕ
schema_fields = 1

abbrev pub schema_custom_metadata : ℕ
schema_custom_metadata = 2

abbrev pub field_name : ℕ
field_name = 0

abbrev pub field_nullable : ℕ
field_nullable = 1

abbrev pub field_type_type : ℕ
field_type_type = 2

abbrev pub field_type : ℕ
field_type = 3

abbrev pub field_dictionary : ℕ
field_dictionary = 4

abbrev pub field_children : ℕ
field_children = 5

abbrev pub field_custom_metadata : ℕ
field_custom_metadata = 6

abbrev pub key_value_key : ℕ
key_value_key = 0

abbrev pub key_value_value : ℕ
key_value_value = 1

abbrev pub dictionary_encoding_id : ℕ
dictionary_encoding_id = 0

abbrev pub dictionary_encoding_index_type : ℕ
dictionary_encoding_index_type = 1

abbrev pub dictionary_encoding_is_ordered : ℕ
dictionary_encoding_is_ordered = 2

-- ---- types

abbrev pub int_bit_width : ℕ
int_bit_width = 0

abbrev pub int_is_signed : ℕ
int_is_signed = 1

abbrev pub decimal_precision : ℕ
decimal_precision = 0

abbrev pub decimal_scale : ℕ
decimal_scale = 1

abbrev pub decimal_bit_width : ℕ
decimal_bit_width = 2

abbrev pub date_unit : ℕ
date_unit = 0

abbrev pub time_unit : ℕ
time_unit = 0

abbrev pub time_bit_width : ℕ
time_bit_width = 1

abbrev pub timestamp_unit : ℕ
timestamp_unit = 0

abbrev pub timestamp_timezone : ℕ
timestamp_timezone = 1

abbrev pub interval_unit : ℕ
interval_unit = 0

abbrev pub duration_unit : ℕ
duration_unit = 0

abbrev pub union_mode : ℕ
union_mode = 0

abbrev pub union_type_ids : ℕ
union_type_ids = 1

abbrev pub fixed_size_binary_byte_width : ℕ
fixed_size_binary_byte_width = 0

abbrev pub fixed_size_list_list_size : ℕ
fixed_size_list_list_size = 0

abbrev pub map_keys_sorted : ℕ
map_keys_sorted = 0

-- ---- files

abbrev pub footer_version : ℕ
footer_version = 0

abbrev pub footer_schema : ℕ
footer_schema = 1

abbrev pub footer_dictionaries : ℕ
footer_dictionaries = 2

abbrev pub footer_record_batches : ℕ
footer_record_batches = 3

-- ---- elements of vectors

-- a reference to a table
abbrev pub reference_size : ℕ
reference_size = 4

-- a number of a union's ids
abbrev pub id_size : ℕ
id_size = 4

-- the structs FieldNode and Buffer
abbrev pub pair_size : ℕ
pair_size = 16

-- the struct Block, of which four bytes are padding
abbrev pub block_size : ℕ
block_size = 24
