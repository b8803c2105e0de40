-- The normal form of a schema.
use Rattle.std.proofs.Common.{◌≡◌, ℕ, List, [], ◌∷◌, map, refl, sym, ap, ◌∙◌, subst, Bool, true}
use Rattle.std.specs.Prelude.{◌&&◌}
use Rattle.std.specs.List.{list_all}
use Rattle.std.proofs.lemmas.Bool.{and_parts, and_from}
use Rattle.ipc_format_grammar.specs.columnar_memory.declared.DataType.{DataType, map-DataType}
use Rattle.ipc_format_grammar.specs.columnar_memory.declared.DataType.TheOpen as layer
use Rattle.ipc_format_grammar.specs.columnar_memory.declared.DataType.TheFolds.{fold-Field, fold-roll-DataType, fold-roll-Field, ind-DataType}
use Rattle.ipc_format_grammar.specs.columnar_memory.declared.DataType.TheViews.{roll-DataType, roll-Field}
use Rattle.ipc_format_grammar.specs.columnar_memory.declared.Field.{Field, map-Field}
use Rattle.ipc_format_grammar.specs.Writable.{normalised_step, normalised_type, normalised_pairs, normalised_field, normalised}
use Rattle.ipc_format_grammar.proofs.NormalReports.{normal_field, writable_normal}
use Rattle.ipc_format_laws.specs.NormalForm.{KeepsNormal, KeepsValid, KeepsWritable, valid_step, valid_field_step, is_valid_type}
use Rattle.ipc_format_laws.specs.NormalForm.{is_valid_field, are_sorted}
use Rattle.ipc_format_laws.proofs.Layers.{ValidType, ValidField, two_maps, valid_layers}
use Rattle.ipc_format_laws.proofs.NormalPairs.{pairs_normal, pairs_sorted}

abbrev normal : DataType → DataType
normal = normalised_type

abbrev valid_field : Field → Bool
valid_field = fold-Field Bool Bool valid_step valid_field_step

abbrev Layer : Type 0
Layer = layer.DataType-F DataType Field

abbrev FieldLayer : Type 0
FieldLayer = layer.Field-F DataType Field

-- ---- one layer

normal_roll : (x : Layer) → normal (roll-DataType x) ≡ roll-DataType (map-DataType DataType Field DataType Field normal normal_field x)
normal_roll x = fold-roll-DataType DataType Field roll-DataType normalised_step x

normal_roll_field : (x : FieldLayer) → normal_field (roll-Field x) ≡ normalised_step (map-Field DataType Field DataType Field normal normal_field x)
normal_roll_field x = fold-roll-Field DataType Field roll-DataType normalised_step x

valid_roll : (x : Layer) → is_valid_type (roll-DataType x) ≡ valid_step (map-DataType DataType Field Bool Bool is_valid_type valid_field x)
valid_roll x = fold-roll-DataType Bool Bool valid_step valid_field_step x

valid_roll_field : (x : FieldLayer) → valid_field (roll-Field x) ≡ (is_valid_type x.data_type && are_sorted x.metadata)
valid_roll_field x = fold-roll-Field Bool Bool valid_step valid_field_step x

-- a field's normal form
abbrev normal_layer : FieldLayer → FieldLayer
normal_layer x = record x { data_type = normal x.data_type; metadata = normalised_pairs (normal x.data_type) x.metadata }

normal_field_is : (x : FieldLayer) → normal_field (roll-Field x) ≡ roll-Field (normal_layer x)
normal_field_is x = normal_roll_field x

pub keeps_writable : KeepsWritable
keeps_writable schema = writable_normal schema

-- ---- the normal form of what is valid is its own

abbrev pub field_with : Field → DataType → List (List ℕ × List ℕ) → Field
field_with field t pairs = record { name = field.name; data_type = t; is_nullable = field.is_nullable; metadata = pairs }

abbrev layer_with : FieldLayer → DataType → List (List ℕ × List ℕ) → FieldLayer
layer_with x t pairs = record x { data_type = t; metadata = pairs }

-- two functions agree on a valid layer where they agree on each valid type and field below it
below_valid : {A B : Type 0} (f g : DataType → A) (f_field g_field : Field → B) (x : Layer)
    (y : layer.DataType-F (ValidType is_valid_type valid_field f g f_field g_field) (ValidField is_valid_type valid_field f g f_field g_field))
    → map-DataType (ValidType is_valid_type valid_field f g f_field g_field) (ValidField is_valid_type valid_field f g f_field g_field) DataType Field
    (λ e. e.0) (λ e. e.0) y ≡ x
    → valid_step (map-DataType DataType Field Bool Bool is_valid_type valid_field x) ≡ true
    → map-DataType DataType Field A B f f_field x ≡ map-DataType DataType Field A B g g_field x
below_valid {A} {B} f g f_field g_field x y is =
    subst (λ (x : Layer). valid_step (map-DataType DataType Field Bool Bool is_valid_type valid_field x) ≡ true
    → map-DataType DataType Field A B f f_field x ≡ map-DataType DataType Field A B g g_field x) is
    (valid_layers is_valid_type valid_field f g f_field g_field y)

-- what a function says of the normal form of a valid type is what it says of the type; the same of a field
abbrev Keeps : {A : Type 0} → (DataType → A) → DataType → Type 0
Keeps f t = is_valid_type t ≡ true → f (normal t) ≡ f t

abbrev KeepsField : {B : Type 0} → (Field → B) → Field → Type 0
KeepsField f u = valid_field u ≡ true → f (normal_field u) ≡ f u

keeps_layer : {A B : Type 0} (step : layer.DataType-F A B → A) (f : DataType → A) (f_field : Field → B)
    → ((x : Layer) → f (roll-DataType x) ≡ step (map-DataType DataType Field A B f f_field x))
    → (x : Layer) (y : layer.DataType-F ((t : DataType) × Keeps f t) ((u : Field) × KeepsField f_field u))
    → map-DataType ((t : DataType) × Keeps f t) ((u : Field) × KeepsField f_field u) DataType Field (λ e. e.0) (λ e. e.0) y ≡ x
    → Keeps f (roll-DataType x)
keeps_layer step f f_field f_roll x y is h =
    let below = below_valid (λ t. f (normal t)) f (λ u. f_field (normal_field u)) f_field x y is in
    ap f (normal_roll x) ∙ f_roll (map-DataType DataType Field DataType Field normal normal_field x)
    ∙ ap step (two_maps normal normal_field f f_field x ∙ below (sym (valid_roll x) ∙ h))
    ∙ sym (f_roll x)

-- it is kept at each depth, where a field keeps it whose type does
keeps : {A B : Type 0} (step : layer.DataType-F A B → A) (f : DataType → A) (f_field : Field → B)
    → ((x : Layer) → f (roll-DataType x) ≡ step (map-DataType DataType Field A B f f_field x))
    → ((x : FieldLayer) → Keeps f x.data_type → KeepsField f_field (roll-Field x)) → (t : DataType) → Keeps f t
keeps step f f_field f_roll field =
    ind-DataType (Keeps f) (KeepsField f_field) (λ x y is. keeps_layer step f f_field f_roll x y is)
    (λ x y is. field x (subst (Keeps f) (ap (λ (x : FieldLayer). x.data_type) is) y.data_type.1))

normal_field_again : (x : FieldLayer) → Keeps normal x.data_type → KeepsField normal_field (roll-Field x)
normal_field_again x below h =
    let parts = and_parts (is_valid_type x.data_type) (are_sorted x.metadata) (sym (valid_roll_field x) ∙ h) in
    let t = normal x.data_type in
    let pairs = normalised_pairs t x.metadata in
    ap normal_field (normal_field_is x) ∙ normal_field_is (normal_layer x)
    ∙ ap (λ (again : DataType). roll-Field (layer_with x again (normalised_pairs again pairs))) (below parts.0)
    ∙ ap (λ (pairs : List (List ℕ × List ℕ)). roll-Field (layer_with x t pairs)) (pairs_normal t x.metadata parts.1)
    ∙ sym (normal_field_is x)

type_again : (t : DataType) → Keeps normal t
type_again = keeps roll-DataType normal normal_field normal_roll normal_field_again

field_again : (field : Field) → is_valid_field field ≡ true → normalised_field (normalised_field field) ≡ normalised_field field
field_again field h =
    let parts = and_parts (is_valid_type field.data_type) (are_sorted field.metadata) h in
    let t = normal field.data_type in
    let pairs = normalised_pairs t field.metadata in
    ap (λ (again : DataType). field_with field again (normalised_pairs again pairs)) (type_again field.data_type parts.0)
    ∙ ap (field_with field t) (pairs_normal t field.metadata parts.1)

fields_again : (fields : List Field) → list_all is_valid_field fields ≡ true → map normalised_field (map normalised_field fields)
    ≡ map normalised_field fields
fields_again [] h = refl
fields_again (field ∷ fields) h =
    let parts = and_parts (is_valid_field field)
    (list_all is_valid_field fields) h in λ j. field_again field parts.0 j ∷ fields_again fields parts.1 j

pub keeps_normal : KeepsNormal
unfolding normalised
keeps_normal schema h =
    let parts = and_parts (list_all is_valid_field schema.fields) (are_sorted schema.metadata) h in
    ap (λ (fields : List Field). record schema { fields = fields }) (fields_again schema.fields parts.0)

-- ---- the normal form of what is valid is valid

valid_field_layer : (x : FieldLayer) → Keeps is_valid_type x.data_type → KeepsField valid_field (roll-Field x)
valid_field_layer x below h =
    let parts = and_parts (is_valid_type x.data_type) (are_sorted x.metadata) (sym (valid_roll_field x) ∙ h) in
    let t = normal x.data_type in
    ap valid_field (normal_field_is x) ∙ valid_roll_field (normal_layer x)
    ∙ and_from (is_valid_type t) (are_sorted (normalised_pairs t x.metadata)) (below parts.0 ∙ parts.0) (pairs_sorted t x.metadata parts.1)
    ∙ sym h

type_valid : (t : DataType) → Keeps is_valid_type t
type_valid = keeps valid_step is_valid_type valid_field valid_roll valid_field_layer

fields_valid : (fields : List Field) → list_all is_valid_field fields ≡ true → list_all is_valid_field (map normalised_field fields) ≡ true
fields_valid [] h = refl
fields_valid (field ∷ fields) h =
    let parts = and_parts (is_valid_field field) (list_all is_valid_field fields) h in
    let here = and_parts (is_valid_type field.data_type) (are_sorted field.metadata) parts.0 in
    let t = normal field.data_type in
    and_from (is_valid_field (normalised_field field)) (list_all is_valid_field (map normalised_field fields))
    (and_from (is_valid_type t) (are_sorted (normalised_pairs t field.metadata)) (type_valid field.data_type here.0
    ∙ here.0) (pairs_sorted t field.metadata here.1))
    (fields_valid fields parts.1)

pub keeps_valid : KeepsValid
unfolding normalised
keeps_valid schema h =
    let parts = and_parts (list_all is_valid_field schema.fields) (are_sorted schema.metadata) h in
    and_from (list_all is_valid_field (map normalised_field schema.fields)) (are_sorted schema.metadata) (fields_valid schema.fields parts.0) parts.1
