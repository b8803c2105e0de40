-- The bars of a schema are those of its one form.
use Rattle.std.proofs.Common.{◌≡◌, ◌∙◌, List, [], ◌∷◌, map, true, refl, sym, ap, subst}
use Rattle.std.specs.Prelude.{Option, None, Some, is_none}
use Rattle.std.specs.Option.{option_map}
use Rattle.columnar_memory_types.specs.Texts.{HasTexts}
use Rattle.columnar_memory_types.specs.declared.schema.Schema.{Schema}
use Rattle.tables_rows.specs.Bars.{bar_of, name_of}
use Rattle.tables_chunks.specs.TableSchemas.{IsTableSchema}
use Rattle.tables_chunks.specs.ipc_format.columnar_memory.declared.DataType.{DataType, map-DataType}
use Rattle.tables_chunks.specs.ipc_format.columnar_memory.declared.DataType.TheOpen as layer
use Rattle.tables_chunks.specs.ipc_format.columnar_memory.declared.DataType.TheViews.{roll-DataType, roll-Field}
use Rattle.tables_chunks.specs.ipc_format.columnar_memory.declared.DataType.TheFolds.{fold-Field, ind-DataType}
use Rattle.tables_chunks.specs.ipc_format.columnar_memory.declared.DataType.TheFolds.{fold-roll-DataType, fold-roll-Field}
use Rattle.tables_chunks.specs.ipc_format.columnar_memory.declared.Field.{Field}
use Rattle.tables_chunks.specs.ipc_format.columns.Sealing.{Bar, Bars, any_bars, bars_of, bars_step, first_bar, schema_bars, seal_bar}
use Rattle.tables_chunks.specs.ipc_format.Seals.{is_sealable}
use Rattle.tables_chunks.specs.ipc_format.Writable.{is_writable, normalised, normalised_field, normalised_pairs, normalised_step}
use Rattle.tables_chunks.specs.ipc_format.Writable.{normalised_type}
use Rattle.tables_chunks.proofs.ipc_format_lemmas.NormalForms.{keeps_writable}
use Rattle.tables_chunks.proofs.ipc_format_lemmas.SealedTypes.{storable}
use Rattle.tables_chunks.proofs.ipc_format_lemmas.StoredTablesNormal.{normal_again}

abbrev normal_field : Field → Field
normal_field = fold-Field DataType Field roll-DataType normalised_step

abbrev bars_field : Field → Bars
bars_field = fold-Field Bars Bars bars_step (λ field. field.data_type)

-- a type, and a field, whose one form has the same bars
abbrev SameType : DataType → Type 0
SameType t = bars_of (normalised_type t) ≡ bars_of t

abbrev SameField : Field → Type 0
SameField u = bars_field (normal_field u) ≡ bars_field u

abbrev ASameType : Type 0
ASameType = (t : DataType) × SameType t

abbrev ASameField : Type 0
ASameField = (u : Field) × SameField u

abbrev field_at : ASameField → Field
field_at e = e.0

abbrev barred : layer.DataType-F DataType Field → layer.DataType-F Bars Bars
barred x = map-DataType DataType Field Bars Bars bars_of bars_field x

abbrev normal_layer : layer.DataType-F DataType Field → layer.DataType-F DataType Field
normal_layer x = map-DataType DataType Field DataType Field normalised_type normal_field x

at_roll : (x : layer.DataType-F DataType Field) → bars_step (barred (normal_layer x)) ≡ bars_step (barred x) → SameType (roll-DataType x)
at_roll x e =
    ap bars_of (fold-roll-DataType DataType Field roll-DataType normalised_step x)
    ∙ fold-roll-DataType Bars Bars bars_step (λ field. field.data_type) (normal_layer x) ∙ e
    ∙ sym (fold-roll-DataType Bars Bars bars_step (λ field. field.data_type) x)

same_all : (items : List ASameField) → map bars_field (map normal_field (map field_at items)) ≡ map bars_field (map field_at items)
same_all [] = refl
same_all (e ∷ items) = λ i. e.1 i ∷ same_all items i

abbrev layer_of : layer.DataType-F ASameType ASameField → layer.DataType-F DataType Field
layer_of y = map-DataType ASameType ASameField DataType Field (λ e. e.0) (λ e. e.0) y

type_step : (y : layer.DataType-F ASameType ASameField) → SameType (roll-DataType (layer_of y))
type_step (layer.List item) = at_roll (layer.List item.0) item.1
type_step (layer.LargeList item) = at_roll (layer.LargeList item.0) item.1
type_step (layer.FixedSizeList item size) = at_roll (layer.FixedSizeList item.0 size) item.1
type_step (layer.Map entry is_sorted) = at_roll (layer.Map entry.0 is_sorted) (ap (λ (b : Bars). bars_step (layer.Map b is_sorted)) entry.1)
type_step (layer.Struct fields) =
    at_roll (layer.Struct (map field_at fields)) (ap (λ (bs : List Bars). bars_step (layer.Struct bs)) (same_all fields))
type_step (layer.Union fields numbers mode) =
    at_roll (layer.Union (map field_at fields) numbers mode) (ap (λ (bs : List Bars). bars_step (layer.Union bs numbers mode)) (same_all fields))
type_step (layer.Dictionary key value is_ordered) =
    at_roll (layer.Dictionary key value.0 is_ordered) (ap (λ (b : Bars). bars_step (layer.Dictionary key b is_ordered)) value.1)
type_step (layer.Extension name inner metadata) = at_roll (layer.Extension name inner.0 metadata) inner.1
type_step y = at_roll (layer_of y) refl

-- a field without its claim
abbrev bare : layer.Field-F ASameType ASameField → layer.Field-F DataType Field
bare y = record { name = y.name; data_type = y.data_type.0; is_nullable = y.is_nullable; metadata = y.metadata }

-- its one form
abbrev normal_bare : layer.Field-F ASameType ASameField → layer.Field-F DataType Field
normal_bare y = record {
  name = y.name;
  data_type = normalised_type y.data_type.0;
  is_nullable = y.is_nullable;
  metadata = normalised_pairs (normalised_type y.data_type.0) y.metadata;
}

field_step_same : (y : layer.Field-F ASameType ASameField) → SameField (roll-Field (bare y))
field_step_same y =
    ap bars_field (fold-roll-Field DataType Field roll-DataType normalised_step (bare y))
    ∙ fold-roll-Field Bars Bars bars_step (λ field. field.data_type) (normal_bare y) ∙ y.data_type.1
    ∙ sym (fold-roll-Field Bars Bars bars_step (λ field. field.data_type) (bare y))

same_type : (t : DataType) → SameType t
same_type = ind-DataType SameType SameField (λ x y is. subst (λ z. SameType (roll-DataType z)) is (type_step y))
    (λ x y is. subst (λ z. SameField (roll-Field z)) is (field_step_same y))

-- ---- schemas

same_bars : (fields : List Field) → schema_bars (map normalised_field fields) ≡ schema_bars fields
same_bars [] = refl
same_bars (field ∷ fields) = λ j. any_bars (same_type field.data_type j ∷ same_bars fields j ∷ [])

same_bar : (schema : Schema) → seal_bar (normalised schema) (is_writable (normalised schema)) ≡ seal_bar schema (is_writable schema)
unfolding normalised
same_bar schema = λ j. first_bar (same_bars schema.fields j) (keeps_writable schema j)

none_named : (bar : Option Bar) → option_map name_of bar ≡ None → is_none bar ≡ true
none_named None free = refl
none_named (Some bar) free = absurd cc

-- the one form of a schema without a bar has none
pub normal_sealable : (schema normal : Schema) → bar_of schema ≡ None → normal ≡ normalised schema → is_sealable normal ≡ true
normal_sealable schema normal free is =
    ap is_sealable is ∙ ap (λ (bar : Option Bar). is_none bar) (same_bar schema) ∙ none_named (seal_bar schema (is_writable schema)) free

-- and is a table's
pub normal_form : (schema normal : Schema) → bar_of schema ≡ None → normal ≡ normalised schema → normalised normal ≡ normal
    → IsTableSchema normal
normal_form schema normal free is again =
    record { writable = (storable normal (normal_sealable schema normal free is)).written; normal = again }

pub one_form : (schema normal : Schema) → HasTexts schema → normal ≡ normalised schema → normalised normal ≡ normal
one_form schema normal texts is = ap normalised is ∙ normal_again schema texts ∙ sym is
