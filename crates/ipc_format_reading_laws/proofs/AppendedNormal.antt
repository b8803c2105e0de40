-- Dictionaries that are read under fields in their one form have normalised types and slots.
use Rattle.std.proofs.Common.{◌≡◌, ◌∙◌, List, [], ◌∷◌, map, refl, sym, ap, ap₂, subst, Bool, true, false}
use Rattle.std.specs.Prelude.{not, ℤ, Option, Some, None, if◌then◌else◌}
use Rattle.std.specs.Ordering.{int_eq}
use Rattle.ipc_format_laws.specs.flatbuffers.Reading.{guard}
use Rattle.ipc_format_laws.specs.flatbuffers.FlatBuffers as flat
use Rattle.ipc_format_laws.specs.columnar_memory.declared.DataType.{DataType, map-DataType}
use Rattle.ipc_format_laws.specs.columnar_memory.declared.DataType.TheOpen as layer
use Rattle.ipc_format_laws.specs.columnar_memory.declared.DataType.TheViews.{roll-DataType, roll-Field}
use Rattle.ipc_format_laws.specs.columnar_memory.declared.DataType.TheFolds.{para-Field, fold-roll-DataType, fold-roll-Field, para-roll-DataType, para-roll-Field}
use Rattle.ipc_format_laws.specs.columnar_memory.declared.DataType.TheFolds.{ind-DataType}
use Rattle.ipc_format_laws.specs.columnar_memory.declared.Field.{Field, map-Field}
use Rattle.ipc_format_laws.specs.columnar_memory.declared.IntegerType.{IntegerType}
use Rattle.ipc_format_laws.specs.columns.Slots.{Slot}
use Rattle.ipc_format_laws.specs.grammar.Messages as message
use Rattle.ipc_format_laws.specs.grammar.Messages.{DictionaryBatch, dictionary_batch_in}
use Rattle.ipc_format_laws.specs.grammar.Schemas.{Ids, IdsList, ids}
use Rattle.ipc_format_laws.specs.grammar.Writable.{normalised_type, normalised_step, normalised_pairs, normalised_field}
use Rattle.ipc_format_laws.specs.grammar.Columns.{Source, Dictionary, Place, slots_in, first_ids, other_ids, ids_below}
use Rattle.ipc_format_laws.specs.grammar.Dictionaries.{Entry, Layout, Values, Finder, or_else, first_found, values_if, find_step, find_field_step}
use Rattle.ipc_format_laws.specs.grammar.Dictionaries.{values_in, values_of, source_in, dictionary_in}
use Rattle.ipc_format_laws.specs.grammar.AppendedFiles.{as_told, standing_with, standing_behind}
use Rattle.ipc_format_laws.proofs.grammar_lemmas.Claims.{TypeWith, FieldWith, LayerWith, bare_layer}
use Rattle.ipc_format_laws.proofs.grammar_lemmas.NormalReports.{normal_field}
use Rattle.ipc_format_laws.proofs.Firsts.{came_of, same_value}
use Rattle.ipc_format_reading_laws.specs.NormalSlots.{normal_slot, normal_dictionary}
use Rattle.ipc_format_reading_laws.proofs.NormalTypes.{normal_types_read}
use Rattle.ipc_format_reading_laws.proofs.StoredGivenStanding.{as_read}

-- ---- the values that an id names, under normalised types

abbrev normal_values : Values → Values
normal_values values = record values { data_type = normalised_type values.data_type }

abbrev normal_found : Option Values → Option Values
normal_found None = None
normal_found (Some values) = Some (normal_values values)

either_normal : (a b : Option Values) → or_else (normal_found a) (normal_found b) ≡ normal_found (or_else a b)
either_normal None b = refl
either_normal (Some values) b = refl

own_normal : (own : Option ℤ) (k : ℤ) (values : Values) → values_if own k (normal_values values) ≡ normal_found (values_if own k values)
own_normal None k values = refl
own_normal (Some id) k values = by_if (int_eq k id)
  where
    by_if : (test : Bool) → (if test then Some (normal_values values) else None) ≡ normal_found (if test then Some values else None)
    by_if true = refl
    by_if false = refl

abbrev Layer : Type 0
Layer = layer.DataType-F DataType Field

abbrev FieldLayer : Type 0
FieldLayer = layer.Field-F DataType Field

abbrev find_field : Field → Finder
find_field = para-Field Finder Finder find_step find_field_step

abbrev with_finder : Field → Field × Finder
with_finder u = (u, find_field u)

abbrev layer_finds : Layer → Finder
layer_finds x = find_step (map-DataType DataType Field (DataType × Finder) (Field × Finder) (λ t. (t, values_in t)) with_finder x)

abbrev normal_layer : Layer → Layer
normal_layer x = map-DataType DataType Field DataType Field normalised_type normal_field x

abbrev TypeFinds : DataType → Type 0
TypeFinds t = (k : ℤ) (here : Ids) → values_in (normalised_type t) k here ≡ normal_found (values_in t k here)

abbrev FieldFinds : Field → Type 0
FieldFinds u = (k : ℤ) (here : Ids) → find_field (normal_field u) k here ≡ normal_found (find_field u k here)

at_roll : (x : Layer) → ((k : ℤ) (here : Ids) → layer_finds (normal_layer x) k here ≡ normal_found (layer_finds x k here))
    → TypeFinds (roll-DataType x)
at_roll x h k here =
    let finder : values_in (roll-DataType x) ≡ layer_finds x = para-roll-DataType Finder Finder find_step find_field_step x in
    let normal : values_in (normalised_type (roll-DataType x)) ≡ layer_finds (normal_layer x) =
    ap values_in (fold-roll-DataType DataType Field roll-DataType normalised_step x)
    ∙ para-roll-DataType Finder Finder find_step find_field_step (normal_layer x) in
    ap (λ (finds : Finder). finds k here) normal ∙ h k here ∙ ap (λ (finds : Finder). normal_found (finds k here)) (sym finder)

abbrev bare : List (FieldWith FieldFinds) → List Field
bare ys = map (λ (e : FieldWith FieldFinds). e.0) ys

first_normal : (ys : List (FieldWith FieldFinds)) (k : ℤ) (below : IdsList)
    → first_found (map with_finder (map normal_field (bare ys))) k below ≡ normal_found (first_found (map with_finder (bare ys)) k below)
first_normal [] k below = refl
first_normal (y ∷ ys) k below =
    ap₂ (λ (a b : Option Values). or_else a b) (y.1 k (first_ids below)) (first_normal ys k (other_ids below))
    ∙ either_normal (find_field y.0 k (first_ids below)) (first_found (map with_finder (bare ys)) k (other_ids below))

dictionary_finds : (key : IntegerType) (t : DataType) (is_ordered : Bool) → TypeFinds t → (k : ℤ) (here : Ids)
    → layer_finds (normal_layer (layer.Dictionary key t is_ordered)) k here ≡ normal_found (layer_finds (layer.Dictionary key t is_ordered) k here)
dictionary_finds key t is_ordered h k (ids own below) =
    let values : Values = record { data_type = t; below = below } in
    ap₂ (λ (a b : Option Values). or_else a b) (own_normal own k values) (h k (ids None below))
    ∙ either_normal (values_if own k values) (values_in t k (ids None below))

type_step : (y : LayerWith TypeFinds FieldFinds) → TypeFinds (roll-DataType (bare_layer TypeFinds FieldFinds y))
type_step (layer.List item) = at_roll (layer.List item.0) (λ k here. first_normal (item ∷ []) k (ids_below here))
type_step (layer.LargeList item) = at_roll (layer.LargeList item.0) (λ k here. first_normal (item ∷ []) k (ids_below here))
type_step (layer.FixedSizeList item size) = at_roll (layer.FixedSizeList item.0 size) (λ k here. first_normal (item ∷ []) k (ids_below here))
type_step (layer.Map entry is_sorted) = at_roll (layer.Map entry.0 is_sorted) (λ k here. first_normal (entry ∷ []) k (ids_below here))
type_step (layer.Struct children) = at_roll (layer.Struct (bare children)) (λ k here. first_normal children k (ids_below here))
type_step (layer.Union children numbers mode) = at_roll (layer.Union (bare children) numbers mode)
    (λ k here. first_normal children k (ids_below here))
type_step (layer.Dictionary key value is_ordered) = at_roll (layer.Dictionary key value.0 is_ordered)
    (dictionary_finds key value.0 is_ordered value.1)
type_step (layer.Extension name inner metadata) = at_roll (layer.Extension name inner.0 metadata) inner.1
type_step y = at_roll (bare_layer TypeFinds FieldFinds y) (λ k here. refl)

normal_is : (x : FieldLayer) → normal_field (roll-Field x)
    ≡ roll-Field (record x { data_type = normalised_type x.data_type; metadata = normalised_pairs (normalised_type x.data_type) x.metadata })
normal_is x = fold-roll-Field DataType Field roll-DataType normalised_step x

finder_is : (x : FieldLayer) → find_field (roll-Field x) ≡ values_in x.data_type
finder_is x = para-roll-Field Finder Finder find_step find_field_step x

field_step : (x : FieldLayer) → TypeFinds x.data_type → FieldFinds (roll-Field x)
field_step x h k here =
    let t = normalised_type x.data_type in
    ap (λ (finds : Finder). finds k here)
    (ap find_field (normal_is x) ∙ finder_is (record x { data_type = t; metadata = normalised_pairs t x.metadata }))
    ∙ h k here ∙ ap (λ (finds : Finder). normal_found (finds k here)) (sym (finder_is x))

type_finds : (t : DataType) → TypeFinds t
type_finds = ind-DataType TypeFinds FieldFinds (λ x y is. subst (λ (x : Layer). TypeFinds (roll-DataType x)) is (type_step y))
    (λ x y is. subst (λ (x : FieldLayer). FieldFinds (roll-Field x)) is
    (field_step (map-Field (TypeWith TypeFinds) (FieldWith FieldFinds) DataType Field (λ e. e.0) (λ e. e.0) y) y.data_type.1))

values_normal : (fields : List Field) (k : ℤ) (below : IdsList)
    → values_of (map normalised_field fields) k below ≡ normal_found (values_of fields k below)
values_normal [] k below = refl
values_normal (u ∷ us) k below =
    ap₂ (λ (a b : Option Values). or_else a b) (type_finds u.data_type k (first_ids below)) (values_normal us k (other_ids below))
    ∙ either_normal (values_in u.data_type k (first_ids below)) (values_of us k (other_ids below))

-- fields in their one form
abbrev pub AreNormal : List Field → Type 0
AreNormal fields = map normalised_field fields ≡ fields

-- the type of the values that an id names among them
type_normal : (fields : List Field) (k : ℤ) (below : IdsList) (values : Values) → AreNormal fields → values_of fields k below ≡ Some values
    → normalised_type values.data_type ≡ values.data_type
type_normal fields k below values normal e =
    let again : Some (normal_values values) ≡ Some values =
    ap normal_found (sym e) ∙ sym (values_normal fields k below) ∙ ap (λ (us : List Field). values_of us k below) normal ∙ e in
    ap (λ (v : Values). v.data_type) (same_value (normal_values values) values again)

-- ---- dictionaries

-- dictionaries with normalised types and slots
abbrev pub AreRead : List Dictionary → Type 0
AreRead standing = map normal_dictionary standing ≡ standing

dictionary_normal : (layout : Layout) (standing : List Dictionary) (entry : Entry) (table : flat.TablePlace) (dictionary : Dictionary)
    → AreNormal layout.fields → AreRead standing → dictionary_in layout standing entry table ≡ Some dictionary
    → normal_dictionary dictionary ≡ dictionary
unfolding dictionary_in
dictionary_normal layout standing entry table dictionary fields normal e =
    let batch = came_of {A = DictionaryBatch} (dictionary_batch_in entry.metadata table) _ dictionary e in
    let test = came_of {A = Bool} (guard (not batch.0.is_delta)) _ dictionary batch.2 in
    let source = came_of {A = Source} (source_in layout.is_little_endian entry batch.0.values) _ dictionary test.2 in
    let values = came_of {A = Values} (values_of layout.fields batch.0.id layout.below) _ dictionary source.2 in
    let at : Place =
    record { source = source.0; standing = standing; limit = None; node = 0; buffer = 0; ids = ids None values.0.below } in
    let slots = came_of {A = List Slot} (slots_in values.0.data_type at) _ dictionary values.2 in
    let typed = type_normal layout.fields batch.0.id layout.below values.0 fields values.1 in
    let again : slots_in values.0.data_type at ≡ Some (map normal_slot slots.0) =
    ap (λ (t : DataType). slots_in t at) (sym typed)
    ∙ ap (λ (them : List Dictionary). slots_in (normalised_type values.0.data_type) (record at { standing = them })) (sym normal)
    ∙ normal_types_read values.0.data_type at slots.0 slots.1 in
    let same : map normal_slot slots.0 ≡ slots.0 = same_value (map normal_slot slots.0) slots.0 (sym again ∙ slots.1) in
    let found : Dictionary = record { id = batch.0.id; data_type = values.0.data_type; slots = slots.0 } in
    subst (λ (d : Dictionary). normal_dictionary d ≡ d) (same_value found dictionary slots.2)
    (λ j. record { id = batch.0.id; data_type = typed j; slots = same j })

standing_by : (layout : Layout) (standing : List Dictionary) (entry : Entry) (entries : List Entry) (now : List Dictionary)
    (header : message.Header) → AreNormal layout.fields → AreRead standing
    → ((d : List Dictionary) → AreRead d → standing_behind layout d entries ≡ Some now → AreRead now)
    → standing_with layout standing entry (λ d. standing_behind layout d entries) header ≡ Some now → AreRead now
standing_by layout standing entry entries now (message.dictionary_batch table) fields normal rest e =
    let dictionary = came_of {A = Dictionary} (dictionary_in layout standing entry table) _ now e in
    let its = dictionary_normal layout standing entry table dictionary.0 fields normal dictionary.1 in
    rest (dictionary.0 ∷ standing) (ap₂ (λ (d : Dictionary) (them : List Dictionary). d ∷ them) its normal) dictionary.2
standing_by layout standing entry entries now (message.schema table) fields normal rest e = absurd cc
standing_by layout standing entry entries now (message.record_batch table) fields normal rest e = absurd cc

-- the dictionaries that stand behind messages
pub standing_normal : (layout : Layout) (standing : List Dictionary) (entries : List Entry) (now : List Dictionary)
    → AreNormal layout.fields → AreRead standing → standing_behind layout standing entries ≡ Some now → AreRead now
standing_normal layout standing [] now fields normal e = subst AreRead (same_value standing now e) normal
standing_normal layout standing (entry ∷ entries) now fields normal e =
    standing_by layout standing entry entries now entry.header fields normal
    (λ (d : List Dictionary) its found. standing_normal layout d entries now fields its found) e

told_as_read : (standing : List Dictionary) → map as_read (map as_told standing) ≡ map normal_dictionary standing
told_as_read [] = refl
told_as_read (dictionary ∷ standing) = ap (λ (them : List Dictionary). normal_dictionary dictionary ∷ them) (told_as_read standing)

-- they are read as they were told
pub told_are_read : (standing : List Dictionary) → AreRead standing → map as_read (map as_told standing) ≡ standing
told_are_read standing normal = told_as_read standing ∙ normal
