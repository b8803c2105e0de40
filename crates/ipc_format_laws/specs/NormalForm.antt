-- Valid schemas, and what their normal form keeps.
use Rattle.std.specs.Prelude.{◌≡◌, ℕ, Bool, true, ◌&&◌, List, [], ◌∷◌}
use Rattle.std.specs.List.{list_all}
use Rattle.std.specs.Ordering.{is_lt, nat_cmp}
use Rattle.std.specs.Cmp.Lexicographic.{slice_cmp}
use Rattle.ipc_format_grammar.specs.columnar_memory.declared.DataType.{DataType}
use Rattle.ipc_format_grammar.specs.columnar_memory.declared.DataType.TheOpen as layer
use Rattle.ipc_format_grammar.specs.columnar_memory.declared.DataType.TheFolds.{fold-DataType}
use Rattle.ipc_format_grammar.specs.columnar_memory.declared.Field.{Field}
use Rattle.ipc_format_grammar.specs.columnar_memory.declared.Schema.{Schema}
use Rattle.ipc_format_grammar.specs.Writable.{normalised, is_writable}

-- pairs in the order of their keys, byte by byte: each key stands before all later ones, so that none stands twice
abbrev pub are_sorted : List (List ℕ × List ℕ) → Bool
are_sorted [] = true
are_sorted (pair ∷ pairs) = list_all (λ (other : List ℕ × List ℕ). is_lt (slice_cmp nat_cmp pair.0 other.0)) pairs && are_sorted pairs

abbrev pub all_of : List Bool → Bool
all_of answers = list_all (λ b. b) answers

-- one layer of a type, where each type and field below stands as whether it is valid
abbrev pub valid_step : layer.DataType-F Bool Bool → Bool
valid_step (layer.List item) = item
valid_step (layer.LargeList item) = item
valid_step (layer.FixedSizeList item size) = item
valid_step (layer.Map entry is_sorted) = entry
valid_step (layer.Struct children) = all_of children
valid_step (layer.Union children ids mode) = all_of children
valid_step (layer.Dictionary key value is_ordered) = value
valid_step (layer.Extension name inner metadata) = inner
valid_step _ = true

abbrev pub valid_field_step : layer.Field-F Bool Bool → Bool
valid_field_step field = field.data_type && are_sorted field.metadata

-- a type whose fields have custom metadata in order, at each depth
abbrev pub is_valid_type : DataType → Bool
is_valid_type = fold-DataType Bool Bool valid_step valid_field_step

abbrev pub is_valid_field : Field → Bool
is_valid_field field = is_valid_type field.data_type && are_sorted field.metadata

-- a schema whose custom metadata, and that of each field at any depth, is in the order of its keys
abbrev pub is_valid_schema : Schema → Bool
is_valid_schema schema = list_all is_valid_field schema.fields && are_sorted schema.metadata

-- ---- the laws

-- the normal form of a valid schema is its own normal form
abbrev pub KeepsNormal : Type 0
KeepsNormal = (schema : Schema) → is_valid_schema schema ≡ true → normalised (normalised schema) ≡ normalised schema

-- the normal form of a valid schema is valid
abbrev pub KeepsValid : Type 0
KeepsValid = (schema : Schema) → is_valid_schema schema ≡ true → is_valid_schema (normalised schema) ≡ true

-- a schema is written exactly where its normal form is
abbrev pub KeepsWritable : Type 0
KeepsWritable = (schema : Schema) → is_writable (normalised schema) ≡ is_writable schema
