-- A schema that may be sealed is written, and slots of its fields' types are stored as they come.
use Rattle.std.proofs.Common.{◌≡◌, ◌∙◌, sym, Bool, true, false, List, [], ◌∷◌, map, refl, subst}
use Rattle.std.specs.Prelude.{◌&&◌, ◌||◌, is_none, nat_le}
use Rattle.std.specs.List.{list_all, list_any}
use Rattle.std.proofs.lemmas.Bool.{and_parts, and_from, or_parts, false≢true}
use Rattle.ipc_format_laws.specs.columnar_memory.declared.DataType.{DataType, map-DataType}
use Rattle.ipc_format_laws.specs.columnar_memory.declared.DataType.TheOpen as layer
use Rattle.ipc_format_laws.specs.columnar_memory.declared.DataType.TheViews.{roll-DataType, roll-Field}
use Rattle.ipc_format_laws.specs.columnar_memory.declared.DataType.TheFolds.{fold-Field, fold-roll-DataType, fold-roll-Field, ind-DataType}
use Rattle.ipc_format_laws.specs.columnar_memory.declared.Field.{Field, map-Field}
use Rattle.ipc_format_laws.specs.columnar_memory.declared.Schema.{Schema}
use Rattle.ipc_format_laws.specs.columns.FreshLaws.{is_buildable, are_buildable}
use Rattle.ipc_format_laws.specs.columns.Sealing.{Bars, bars_step, bars_of, schema_bars, first_bar}
use Rattle.ipc_format_laws.proofs.columns_lemmas.Claims.{TypeWith, FieldWith, LayerWith, bare_layer}
use Rattle.ipc_format_laws.specs.grammar.Encoding.{any_of, union_step, has_union}
use Rattle.ipc_format_laws.specs.grammar.Seals.{is_sealable}
use Rattle.ipc_format_laws.specs.grammar.Writable.{Report, plain, over_all, report_of, reports_of, is_writable}
use Rattle.ipc_format_laws.proofs.BuildableTypes.{writable_is_buildable}

-- ---- the bar of unions stands where a union does

abbrev Layer : Type 0
Layer = layer.DataType-F DataType Field

abbrev bars_field : Field → Bars
bars_field = fold-Field Bars Bars bars_step (λ field. field.data_type)

abbrev union_field : Field → Bool
union_field = fold-Field Bool Bool union_step (λ field. field.data_type)

abbrev TypeBars : DataType → Type 0
TypeBars t = (bars_of t).has_union ≡ has_union t

abbrev FieldBars : Field → Type 0
FieldBars u = (bars_field u).has_union ≡ union_field u

at_roll : (x : Layer) → (bars_step (map-DataType DataType Field Bars Bars bars_of bars_field x)).has_union
    ≡ union_step (map-DataType DataType Field Bool Bool has_union union_field x) → TypeBars (roll-DataType x)
at_roll x h =
    rw (fold-roll-DataType Bars Bars bars_step (λ field. field.data_type) x, fold-roll-DataType Bool Bool union_step (λ field. field.data_type) x) h

abbrev Children : Type 0
Children = List (FieldWith FieldBars)

abbrev fields_of : Children → List Field
fields_of ys = map (λ e. e.0) ys

children_bars : (ys : Children)
    → list_any (λ (bars : Bars). bars.has_union) (map bars_field (fields_of ys)) ≡ any_of (map union_field (fields_of ys))
children_bars [] = refl
children_bars (y ∷ ys) = λ j. y.1 j || children_bars ys j

roll_bars : (y : LayerWith TypeBars FieldBars) → TypeBars (roll-DataType (bare_layer TypeBars FieldBars y))
roll_bars (layer.List item) = at_roll (layer.List item.0) item.1
roll_bars (layer.LargeList item) = at_roll (layer.LargeList item.0) item.1
roll_bars (layer.FixedSizeList item size) = at_roll (layer.FixedSizeList item.0 size) item.1
roll_bars (layer.Map entry is_sorted) = at_roll (layer.Map entry.0 is_sorted) entry.1
roll_bars (layer.Struct []) = at_roll (layer.Struct []) refl
roll_bars (layer.Struct (child ∷ children)) = at_roll (layer.Struct (fields_of (child ∷ children))) (children_bars (child ∷ children))
roll_bars (layer.Union children ids mode) = at_roll (layer.Union (fields_of children) ids mode) refl
roll_bars (layer.Dictionary key value is_ordered) = at_roll (layer.Dictionary key value.0 is_ordered) value.1
roll_bars (layer.Extension name inner metadata) = at_roll (layer.Extension name inner.0 metadata) inner.1
roll_bars y = at_roll (bare_layer TypeBars FieldBars y) refl

field_bars : (x : layer.Field-F DataType Field) → TypeBars x.data_type → FieldBars (roll-Field x)
field_bars x h =
    rw (fold-roll-Field Bars Bars bars_step (λ field. field.data_type) x, fold-roll-Field Bool Bool union_step (λ field. field.data_type) x) h

type_bars : (t : DataType) → TypeBars t
type_bars = ind-DataType TypeBars FieldBars (λ x y is. subst (λ (x : Layer). TypeBars (roll-DataType x)) is (roll_bars y))
    (λ x y is. subst (λ (x : layer.Field-F DataType Field). FieldBars (roll-Field x)) is
    (field_bars (map-Field (TypeWith TypeBars) (FieldWith FieldBars) DataType Field (λ e. e.0) (λ e. e.0) y) y.data_type.1))

-- ---- schemas

-- without a bar no union stands in the schema, and it is written
no_bar : (has_map has_union has_ordered has_empty written : Bool)
    → is_none (first_bar (record { has_map = has_map; has_union = has_union; has_ordered = has_ordered; has_empty = has_empty }) written) ≡ true
    → (has_union ≡ false) × (written ≡ true)
no_bar true union ordered empty written h = absurd (false≢true h)
no_bar false true ordered empty written h = absurd (false≢true h)
no_bar false false true empty written h = absurd (false≢true h)
no_bar false false false true written h = absurd (false≢true h)
no_bar false false false false true h = (refl, refl)
no_bar false false false false false h = absurd (false≢true h)

all_build : (us : List Field) → list_all (λ (child : Report). child.is_allowed) (reports_of us) ≡ true → (schema_bars us).has_union ≡ false
    → are_buildable us ≡ true
all_build [] allowed none = refl
all_build (u ∷ us) allowed none =
    let allows = and_parts (report_of u.data_type).is_allowed (list_all (λ (child : Report). child.is_allowed) (reports_of us)) allowed in
    let nones = or_parts (bars_of u.data_type).has_union ((schema_bars us).has_union || false) none in
    let others = or_parts (schema_bars us).has_union false nones.1 in
    and_from (is_buildable u.data_type) (are_buildable us)
    (writable_is_buildable u.data_type allows.0 (sym (type_bars u.data_type) ∙ nones.0)) (all_build us allows.1 others.0)

types_allowed : (schema : Schema) → is_writable schema ≡ true → list_all (λ (child : Report). child.is_allowed) (reports_of schema.fields) ≡ true
unfolding is_writable
types_allowed schema h =
    let all = over_all true plain (reports_of schema.fields) in
    let first = and_parts (all.is_allowed && nat_le all.levels 64) (nat_le all.dictionaries 65536) h in
    let second = and_parts all.is_allowed (nat_le all.levels 64) first.0 in
    (and_parts true (list_all (λ (child : Report). child.is_allowed) (reports_of schema.fields)) second.0).1

pub record IsStorable (schema : Schema) : Type 0 where
  pub written : is_writable schema ≡ true
  pub builds : are_buildable schema.fields ≡ true

pub storable : (schema : Schema) → is_sealable schema ≡ true → IsStorable schema
storable schema h =
    let bars = schema_bars schema.fields in
    let free = no_bar bars.has_map bars.has_union bars.has_ordered bars.has_empty (is_writable schema) h in
    record { written = free.1; builds = all_build schema.fields (types_allowed schema free.1) free.0 }
