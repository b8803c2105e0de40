-- When a schema's message reads back, and which dictionary ids are read beside its fields.
use Rattle.std.specs.Prelude.{◌≡◌, ℕ, ◌<◌, ◌^◌, ℤ, pos, Bool, true, false, List, [], ◌∷◌, length, map, Option, Some, None, FitsSigned}
use Rattle.std.specs.Int.{w64}
use Rattle.ipc_format_grammar.specs.columnar_memory.declared.DataType.TheOpen as layer
use Rattle.ipc_format_grammar.specs.columnar_memory.declared.DataType.TheFolds.{fold-Field}
use Rattle.ipc_format_grammar.specs.columnar_memory.declared.Field.{Field}
use Rattle.ipc_format_grammar.specs.columnar_memory.declared.Schema.{Schema}
pub use Rattle.ipc_format_grammar.specs.columnar_memory.Texts.{is_text_or_none, are_texts, is_below, is_ascending}
pub use Rattle.ipc_format_grammar.specs.columnar_memory.Texts.{are_true, texts_step, texts_field_step, has_texts}
pub use Rattle.ipc_format_grammar.specs.columnar_memory.Texts.{HasTexts}
use Rattle.ipc_format_grammar.specs.flatbuffers.FlatBuffers.{TablePlace}
use Rattle.ipc_format_grammar.specs.flatbuffers.Objects.{laid}
use Rattle.ipc_format_grammar.specs.Messages as grammar
use Rattle.ipc_format_grammar.specs.Schemas.{Ids, IdsList, ids, no_ids, ids_then}
use Rattle.ipc_format_grammar.specs.SchemaGrammar.{schema_in}
use Rattle.ipc_format_grammar.specs.SchemaObjects.{schema_message}
use Rattle.ipc_format_grammar.specs.Writable.{is_writable, normalised}
use Rattle.ipc_format_laws.specs.BatchMessages.{IsMessage}

-- ---- the ids that are read: those beside fields with dictionaries, 0 where none stands there

-- whether a type has a dictionary, and the ids below it
pub record IdsTold : Type 0 where
  pub is_encoded : Bool
  pub below : IdsList → IdsList

abbrev pub each_ids : List (Ids → Ids) → IdsList → IdsList
each_ids [] below = no_ids
each_ids (field ∷ fields) no_ids = ids_then (field (ids None no_ids)) (each_ids fields no_ids)
each_ids (field ∷ fields) (ids_then first others) = ids_then (field first) (each_ids fields others)

abbrev pub over_ids : List (Ids → Ids) → IdsTold
over_ids fields = record { is_encoded = false; below = each_ids fields }

abbrev pub ids_step : layer.DataType-F IdsTold (Ids → Ids) → IdsTold
ids_step (layer.Extension name inner metadata) = inner
ids_step (layer.Dictionary key value is_ordered) = record value { is_encoded = true }
ids_step (layer.List item) = over_ids (item ∷ [])
ids_step (layer.LargeList item) = over_ids (item ∷ [])
ids_step (layer.FixedSizeList item size) = over_ids (item ∷ [])
ids_step (layer.Map entry is_sorted) = over_ids (entry ∷ [])
ids_step (layer.Struct children) = over_ids children
ids_step (layer.Union children numbers mode) = over_ids children
ids_step _ = record { is_encoded = false; below = λ below. no_ids }

abbrev pub id_if : Bool → Option ℤ → Option ℤ
id_if false id = None
id_if true None = Some (pos 0)
id_if true (Some id) = Some id

abbrev pub ids_field_step : layer.Field-F IdsTold (Ids → Ids) → Ids → Ids
ids_field_step field (ids id below) = ids (id_if field.data_type.is_encoded id) (field.data_type.below below)

abbrev pub ids_of_field : Field → Ids → Ids
ids_of_field = fold-Field IdsTold (Ids → Ids) ids_step ids_field_step

-- ids are signed numbers of eight bytes
abbrev pub FitsId : Option ℤ → Type 0
FitsId None = Unit {0}
FitsId (Some id) = FitsSigned w64 id

abbrev mutual
  pub FitIds : Ids → Type 0
  FitIds (ids id below) = FitsId id × FitIdsList below

  pub FitIdsList : IdsList → Type 0
  FitIdsList no_ids = Unit {0}
  FitIdsList (ids_then first others) = FitIds first × FitIdsList others

-- ---- the theorems

-- a table is this schema, little-endian, with these ids beside its fields
abbrev pub IsSchema : List ℕ → Schema → IdsList → TablePlace → Type 0
IsSchema bytes schema below found = schema_in bytes found ≡ Some (record { schema = schema; ids = below; is_little_endian = true })

-- the ids that are read beside a schema's fields
abbrev pub ids_read : Schema → IdsList → IdsList
ids_read schema below = each_ids (map ids_of_field schema.fields) below

-- the message of a schema reads back in its one form
abbrev pub SchemasReadBack : Type 0
SchemasReadBack = (schema : Schema) (below : IdsList) → is_writable schema ≡ true → HasTexts schema
    → FitIdsList below → length (laid (schema_message schema below)) < 2 ^ 32
    → IsMessage (laid (schema_message schema below)) grammar.schema 0
    (IsSchema (laid (schema_message schema below)) (normalised schema) (ids_read schema below))

-- the message of a schema that has its one form reads back as it is
abbrev pub TablesSchemasReadBack : Type 0
TablesSchemasReadBack = (schema : Schema) (below : IdsList) → is_writable schema ≡ true → normalised schema ≡ schema → HasTexts schema
    → FitIdsList below → length (laid (schema_message schema below)) < 2 ^ 32
    → IsMessage (laid (schema_message schema below)) grammar.schema 0 (IsSchema (laid (schema_message schema below)) schema (ids_read schema below))
