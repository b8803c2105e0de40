-- Which names, keys and values of types, fields and schemas are texts, and which pairs ascend by their keys.
use Rattle.std.specs.Prelude.{◌≡◌, ℕ, Bool, true, ◌&&◌, List, [], ◌∷◌, map, Option, Some, None}
use Rattle.std.specs.Str.{is_utf8}
use Rattle.std.specs.Ordering.{is_lt, nat_cmp}
use Rattle.std.specs.Cmp.Lexicographic.{slice_cmp}
use Rattle.columnar_memory_types.specs.declared.data_type.DataType.{DataType}
use Rattle.columnar_memory_types.specs.declared.data_type.Field.{Field}
use Rattle.columnar_memory_types.specs.declared.data_type.DataType.TheOpen as layer
use Rattle.columnar_memory_types.specs.declared.data_type.DataType.TheFolds.{fold-DataType, fold-Field}
use Rattle.columnar_memory_types.specs.declared.schema.Schema.{Schema}

-- a text that may be absent is UTF-8 where there is one
abbrev pub is_text_or_none : Option (List ℕ) → Bool
is_text_or_none None = true
is_text_or_none (Some text) = is_utf8 text

-- each key and each value is UTF-8
abbrev pub are_texts : List (List ℕ × List ℕ) → Bool
are_texts [] = true
are_texts (pair ∷ pairs) = is_utf8 pair.0 && is_utf8 pair.1 && are_texts pairs

-- a key stands before those of these pairs
abbrev pub is_below : List ℕ → List (List ℕ × List ℕ) → Bool
is_below key [] = true
is_below key (pair ∷ pairs) = is_lt (slice_cmp nat_cmp key pair.0) && is_below key pairs

-- each key stands before those behind it, in the order of their bytes
abbrev pub is_ascending : List (List ℕ × List ℕ) → Bool
is_ascending [] = true
is_ascending (pair ∷ pairs) = is_below pair.0 pairs && is_ascending pairs

-- each of some tests holds
abbrev pub are_true : List Bool → Bool
are_true [] = true
are_true (b ∷ bs) = b && are_true bs

-- one layer of a type, where each field below stands as whether it has texts: whether this one has
abbrev pub texts_step : layer.DataType-F Bool Bool → Bool
texts_step (layer.Timestamp unit timezone) = is_text_or_none timezone
texts_step (layer.Extension name inner metadata) = is_utf8 name && is_text_or_none metadata && inner
texts_step (layer.Dictionary key value is_ordered) = value
texts_step (layer.List item) = item
texts_step (layer.LargeList item) = item
texts_step (layer.FixedSizeList item size) = item
texts_step (layer.Map entry is_sorted) = entry
texts_step (layer.Struct children) = are_true children
texts_step (layer.Union children numbers mode) = are_true children
texts_step _ = true

-- one layer of a field: its name and its metadata are texts, under keys that ascend
abbrev pub texts_field_step : layer.Field-F Bool Bool → Bool
texts_field_step field = is_utf8 field.name && are_texts field.metadata && is_ascending field.metadata && field.data_type

-- the names, keys and values of a field and of all below it are texts, under keys that ascend
abbrev pub has_texts : Field → Bool
has_texts = fold-Field Bool Bool texts_step texts_field_step

-- the same of a type
abbrev pub type_has_texts : DataType → Bool
type_has_texts = fold-DataType Bool Bool texts_step texts_field_step

-- the names, keys and values of a schema are texts, under keys that ascend
pub record HasTexts (schema : Schema) : Type 0 where
  pub fields : are_true (map has_texts schema.fields) ≡ true
  pub texts : are_texts schema.metadata ≡ true
  pub ascending : is_ascending schema.metadata ≡ true
