-- The one form of a schema of texts is its own one form.
use Rattle.std.proofs.Common.{◌≡◌, ◌∙◌, ℕ, List, [], ◌∷◌, map, refl, sym, ap, ap₂, subst, Bool, true}
use Rattle.std.specs.Prelude.{◌&&◌}
use Rattle.std.specs.List.{list_all}
use Rattle.std.specs.Ordering.{is_lt, nat_cmp}
use Rattle.std.specs.Cmp.Lexicographic.{slice_cmp}
use Rattle.std.specs.Str.{is_utf8}
use Rattle.std.proofs.lemmas.Bool.{and_parts, and_from}
use Rattle.ipc_format_laws.specs.columnar_memory.declared.DataType.{DataType, map-DataType}
use Rattle.ipc_format_laws.specs.columnar_memory.declared.DataType.TheOpen as layer
use Rattle.ipc_format_laws.specs.columnar_memory.declared.DataType.TheViews.{roll-DataType, roll-Field, out-Field, roll-out-Field}
use Rattle.ipc_format_laws.specs.columnar_memory.declared.DataType.TheFolds.{fold-DataType, fold-Field, fold-roll-DataType, fold-roll-Field, ind-DataType}
use Rattle.ipc_format_laws.specs.columnar_memory.declared.Field.{Field}
use Rattle.ipc_format_laws.specs.columnar_memory.declared.Schema.{Schema}
use Rattle.ipc_format_laws.proofs.columns_lemmas.Claims.{FieldWith, LayerWith, bare_layer}
use Rattle.ipc_format_laws.specs.grammar.Writable.{normalised}
use Rattle.ipc_format_laws.specs.NormalForm.{are_sorted, all_of, valid_step, valid_field_step, is_valid_type, is_valid_field}
use Rattle.ipc_format_laws.specs.Schemas.{is_text_or_none, are_texts, is_below, is_ascending, are_true, texts_step, texts_field_step, has_texts}
use Rattle.ipc_format_laws.specs.Schemas.{HasTexts}
use Rattle.ipc_format_laws.proofs.NormalForms.{keeps_normal}
use Rattle.ipc_format_reading_laws.proofs.NormalColumnsLayers.{Layer}

abbrev Pairs : Type 0
Pairs = List (List ℕ × List ℕ)

-- ---- keys that ascend are sorted

below_same : (key : List ℕ) (pairs : Pairs)
    → list_all (λ (other : List ℕ × List ℕ). is_lt (slice_cmp nat_cmp key other.0)) pairs ≡ is_below key pairs
below_same key [] = refl
below_same key (pair ∷ pairs) = ap (λ b. is_lt (slice_cmp nat_cmp key pair.0) && b) (below_same key pairs)

ascending_same : (pairs : Pairs) → are_sorted pairs ≡ is_ascending pairs
ascending_same [] = refl
ascending_same (pair ∷ pairs) = ap₂ (λ a b. a && b) (below_same pair.0 pairs) (ascending_same pairs)

-- ---- a type of texts is valid

abbrev texts_in : DataType → Bool
texts_in = fold-DataType Bool Bool texts_step texts_field_step

abbrev valid_field : Field → Bool
valid_field = fold-Field Bool Bool valid_step valid_field_step

abbrev TypeValid : DataType → Type 0
TypeValid t = texts_in t ≡ true → is_valid_type t ≡ true

abbrev FieldValid : Field → Type 0
FieldValid u = has_texts u ≡ true → valid_field u ≡ true

at_roll : (x : Layer)
    → (texts_step (map-DataType DataType Field Bool Bool texts_in has_texts x) ≡ true
    → valid_step (map-DataType DataType Field Bool Bool is_valid_type valid_field x) ≡ true) → TypeValid (roll-DataType x)
at_roll x h = rw (
  fold-roll-DataType Bool Bool texts_step texts_field_step x,
  fold-roll-DataType Bool Bool valid_step valid_field_step x,
) h

all_valid : (ys : List (FieldWith FieldValid)) → are_true (map has_texts (map (λ (e : FieldWith FieldValid). e.0) ys)) ≡ true
    → all_of (map valid_field (map (λ (e : FieldWith FieldValid). e.0) ys)) ≡ true
all_valid [] h = refl
all_valid (y ∷ ys) h =
    let parts = and_parts (has_texts y.0) (are_true (map has_texts (map (λ (e : FieldWith FieldValid). e.0) ys))) h in
    and_from (valid_field y.0) (all_of (map valid_field (map (λ (e : FieldWith FieldValid). e.0) ys))) (y.1 parts.0) (all_valid ys parts.1)

roll_valid : (y : LayerWith TypeValid FieldValid) → TypeValid (roll-DataType (bare_layer TypeValid FieldValid y))
roll_valid (layer.List item) = at_roll (layer.List item.0) item.1
roll_valid (layer.LargeList item) = at_roll (layer.LargeList item.0) item.1
roll_valid (layer.FixedSizeList item size) = at_roll (layer.FixedSizeList item.0 size) item.1
roll_valid (layer.Map entry is_sorted) = at_roll (layer.Map entry.0 is_sorted) entry.1
roll_valid (layer.Struct children) = at_roll (layer.Struct (map (λ (e : FieldWith FieldValid). e.0) children)) (all_valid children)
roll_valid (layer.Union children numbers mode) =
    at_roll (layer.Union (map (λ (e : FieldWith FieldValid). e.0) children) numbers mode) (all_valid children)
roll_valid (layer.Dictionary key value is_ordered) = at_roll (layer.Dictionary key value.0 is_ordered) value.1
roll_valid (layer.Extension name inner metadata) = at_roll (layer.Extension name inner.0 metadata)
    (λ h. inner.1 (and_parts (is_utf8 name && is_text_or_none metadata) (texts_in inner.0) h).1)
roll_valid y = at_roll (bare_layer TypeValid FieldValid y) (λ h. refl)

-- a field's own metadata, and its type
parts_valid : (x : layer.Field-F DataType Field) → TypeValid x.data_type → has_texts (roll-Field x) ≡ true
    → (is_valid_type x.data_type ≡ true) × (are_sorted x.metadata ≡ true)
parts_valid x below h =
    let parts = and_parts (is_utf8 x.name && are_texts x.metadata && is_ascending x.metadata) (texts_in x.data_type)
    (sym (fold-roll-Field Bool Bool texts_step texts_field_step x) ∙ h) in
    let own = and_parts (is_utf8 x.name && are_texts x.metadata) (is_ascending x.metadata) parts.0 in
    (below parts.1, ascending_same x.metadata ∙ own.1)

field_valid : (x : layer.Field-F DataType Field) → TypeValid x.data_type → FieldValid (roll-Field x)
field_valid x below h =
    let parts = parts_valid x below h in
    fold-roll-Field Bool Bool valid_step valid_field_step x ∙ and_from (is_valid_type x.data_type) (are_sorted x.metadata) parts.0 parts.1

type_valid : (t : DataType) → TypeValid t
type_valid = ind-DataType TypeValid FieldValid (λ x y is. subst (λ (x : Layer). TypeValid (roll-DataType x)) is (roll_valid y))
    (λ x y is. field_valid x (subst TypeValid (ap (λ (x : layer.Field-F DataType Field). x.data_type) is) y.data_type.1))

-- ---- schemas

valid_of : (u : Field) → has_texts u ≡ true → is_valid_field u ≡ true
valid_of u h = subst (λ (v : Field). has_texts v ≡ true → is_valid_field v ≡ true) (roll-out-Field u)
    (λ k. let parts = parts_valid (out-Field u) (type_valid (out-Field u).data_type) k in
    and_from (is_valid_type (out-Field u).data_type) (are_sorted (out-Field u).metadata) parts.0 parts.1) h

fields_valid : (us : List Field) → are_true (map has_texts us) ≡ true → list_all is_valid_field us ≡ true
fields_valid [] h = refl
fields_valid (u ∷ us) h =
    let parts = and_parts (has_texts u) (are_true (map has_texts us)) h in
    and_from (is_valid_field u) (list_all is_valid_field us) (valid_of u parts.0) (fields_valid us parts.1)

pub normal_again : (schema : Schema) → HasTexts schema → normalised (normalised schema) ≡ normalised schema
normal_again schema texts = keeps_normal schema (and_from (list_all is_valid_field schema.fields) (are_sorted schema.metadata)
    (fields_valid schema.fields texts.fields) (ascending_same schema.metadata ∙ texts.ascending))
