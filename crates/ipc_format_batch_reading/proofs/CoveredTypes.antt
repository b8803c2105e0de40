-- Types with dictionary ids beside each field at every depth, also below dictionaries; the one form of a type has them where the type does.
use Rattle.std.proofs.Common.{◌≡◌, ◌∙◌, Bool, true, false, ◌&&◌, List, [], ◌∷◌, map, refl, sym, ap, subst}
use Rattle.std.specs.Prelude.{Option, None}
use Rattle.ipc_format_reading.specs.array_reading.ArrayReads.{Test, fields_below}
use Rattle.ipc_format_reading.specs.columnar_memory.declared.DataType.{DataType, map-DataType}
use Rattle.ipc_format_reading.specs.columnar_memory.declared.DataType.TheOpen as layer
use Rattle.ipc_format_reading.specs.columnar_memory.declared.DataType.TheViews.{roll-DataType}
use Rattle.ipc_format_reading.specs.columnar_memory.declared.DataType.TheViews.{roll-Field}
use Rattle.ipc_format_reading.specs.columnar_memory.declared.DataType.TheViews.{out-Field}
use Rattle.ipc_format_reading.specs.columnar_memory.declared.DataType.TheViews.{roll-out-Field}
use Rattle.ipc_format_reading.specs.columnar_memory.declared.DataType.TheFolds.{fold-DataType}
use Rattle.ipc_format_reading.specs.columnar_memory.declared.DataType.TheFolds.{fold-Field}
use Rattle.ipc_format_reading.specs.columnar_memory.declared.DataType.TheFolds.{fold-roll-DataType}
use Rattle.ipc_format_reading.specs.columnar_memory.declared.DataType.TheFolds.{fold-roll-Field}
use Rattle.ipc_format_reading.specs.columnar_memory.declared.DataType.TheFolds.{ind-DataType}
use Rattle.ipc_format_reading.specs.columnar_memory.declared.Field.{Field}
use Rattle.ipc_format_reading.specs.grammar.Columns.{ids_below}
use Rattle.ipc_format_reading.specs.grammar.Schemas.{Ids, IdsList, ids, no_ids, ids_then}
use Rattle.ipc_format_reading.specs.grammar.Writable.{normalised_field, normalised_pairs}
use Rattle.ipc_format_reading.specs.grammar.Writable.{normalised_step}
use Rattle.ipc_format_reading.specs.grammar.Writable.{normalised_type}

abbrev pub Layer : Type 0
Layer = layer.DataType-F DataType Field

-- ids beside each field, and each test of a field passes
abbrev pub cover_each : List Test → IdsList → Bool
cover_each [] below = true
cover_each (test ∷ tests) no_ids = false
cover_each (test ∷ tests) (ids_then first others) = test first && cover_each tests others

-- of a dictionary the ids below it are those beside the fields of its values
abbrev pub cover_step : layer.DataType-F Test Test → Test
cover_step (layer.Dictionary key value is_ordered) here = value (ids None (ids_below here))
cover_step (layer.Extension name inner metadata) here = inner here
cover_step type_layer here = cover_each (fields_below type_layer) (ids_below here)

-- whether ids stand beside each field below a type, at every depth
abbrev pub covers : DataType → Test
covers = fold-DataType Test Test cover_step (λ field. field.data_type)

abbrev pub cover_field : Field → Test
cover_field = fold-Field Test Test cover_step (λ field. field.data_type)

abbrev pub covered_layer : Layer → layer.DataType-F Test Test
covered_layer x = map-DataType DataType Field Test Test covers cover_field x

pub at_layer : (x : Layer) → covers (roll-DataType x) ≡ cover_step (covered_layer x)
at_layer x = fold-roll-DataType Test Test cover_step (λ field. field.data_type) x

-- a field is covered as its type is
pub by_type : (u : Field) → cover_field u ≡ covers u.data_type
by_type u = subst (λ (v : Field). cover_field v ≡ covers v.data_type) (roll-out-Field u)
    (fold-roll-Field Test Test cover_step (λ field. field.data_type) (out-Field u))

-- ---- the one form of a type

abbrev normal_field : Field → Field
normal_field = fold-Field DataType Field roll-DataType normalised_step

abbrev SameType : DataType → Type 0
SameType d = covers (normalised_type d) ≡ covers d

abbrev SameField : Field → Type 0
SameField f = cover_field (normal_field f) ≡ cover_field f

abbrev ASameType : Type 0
ASameType = (d : DataType) × SameType d

abbrev ASameField : Type 0
ASameField = (f : Field) × SameField f

abbrev field_at : ASameField → Field
field_at e = e.0

abbrev normal_layer : Layer → Layer
normal_layer x = map-DataType DataType Field DataType Field normalised_type normal_field x

at_roll : (x : Layer) → cover_step (covered_layer (normal_layer x)) ≡ cover_step (covered_layer x) → SameType (roll-DataType x)
at_roll x e =
    ap covers (fold-roll-DataType DataType Field roll-DataType normalised_step x) ∙ at_layer (normal_layer x) ∙ e ∙ sym (at_layer x)

same_all : (items : List ASameField) → map cover_field (map normal_field (map field_at items)) ≡ map cover_field (map field_at items)
same_all [] = refl
same_all (e ∷ items) = λ i. e.1 i ∷ same_all items i

abbrev layer_of : layer.DataType-F ASameType ASameField → Layer
layer_of y = map-DataType ASameType ASameField DataType Field (λ e. e.0) (λ e. e.0) y

type_step : (y : layer.DataType-F ASameType ASameField) → SameType (roll-DataType (layer_of y))
type_step (layer.List item) = at_roll (layer.List item.0) (ap (λ (test : Test). cover_step (layer.List test)) item.1)
type_step (layer.LargeList item) = at_roll (layer.LargeList item.0) (ap (λ (test : Test). cover_step (layer.LargeList test)) item.1)
type_step (layer.FixedSizeList item size) =
    at_roll (layer.FixedSizeList item.0 size) (ap (λ (test : Test). cover_step (layer.FixedSizeList test size)) item.1)
type_step (layer.Map entry is_sorted) =
    at_roll (layer.Map entry.0 is_sorted) (ap (λ (test : Test). cover_step (layer.Map test is_sorted)) entry.1)
type_step (layer.Struct fields) =
    at_roll (layer.Struct (map field_at fields)) (ap (λ (tests : List Test). cover_step (layer.Struct tests)) (same_all fields))
type_step (layer.Union fields numbers mode) = at_roll (layer.Union (map field_at fields) numbers mode)
    (ap (λ (tests : List Test). cover_step (layer.Union tests numbers mode)) (same_all fields))
type_step (layer.Dictionary key value is_ordered) = at_roll (layer.Dictionary key value.0 is_ordered)
    (ap (λ (test : Test). cover_step (layer.Dictionary key test is_ordered)) value.1)
type_step (layer.Extension name inner metadata) = at_roll (layer.Extension name inner.0 metadata)
    (ap (λ (test : Test). cover_step (layer.Extension name test metadata)) inner.1)
type_step y = at_roll (layer_of y) refl

-- a field without its claim
abbrev bare : layer.Field-F ASameType ASameField → layer.Field-F DataType Field
bare y = record { name = y.name; data_type = y.data_type.0; is_nullable = y.is_nullable; metadata = y.metadata }

-- its one form
abbrev normal_bare : layer.Field-F ASameType ASameField → layer.Field-F DataType Field
normal_bare y = record {
  name = y.name;
  data_type = normalised_type y.data_type.0;
  is_nullable = y.is_nullable;
  metadata = normalised_pairs (normalised_type y.data_type.0) y.metadata;
}

field_step : (y : layer.Field-F ASameType ASameField) → SameField (roll-Field (bare y))
field_step y =
    ap cover_field (fold-roll-Field DataType Field roll-DataType normalised_step (bare y))
    ∙ fold-roll-Field Test Test cover_step (λ field. field.data_type) (normal_bare y) ∙ y.data_type.1
    ∙ sym (fold-roll-Field Test Test cover_step (λ field. field.data_type) (bare y))

pub normal_covers : (d : DataType) → covers (normalised_type d) ≡ covers d
normal_covers = ind-DataType SameType SameField (λ x y is. subst (λ z. SameType (roll-DataType z)) is (type_step y))
    (λ x y is. subst (λ z. SameField (roll-Field z)) is (field_step y))

-- of some fields
pub normal_fields_cover : (fields : List Field) → map (λ (u : Field). covers u.data_type) (map normalised_field fields)
    ≡ map (λ (u : Field). covers u.data_type) fields
normal_fields_cover [] = refl
normal_fields_cover (field ∷ fields) = λ i. normal_covers field.data_type i ∷ normal_fields_cover fields i
