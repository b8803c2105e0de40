-- No float stands in a schema that may be written.
use Rattle.std.proofs.Common.{◌≡◌, ◌∙◌, ◌&&◌, ◌||◌, List, [], ◌∷◌, map, refl, ap₂, subst, Bool, true, false}
use Rattle.std.specs.Prelude.{not, nat_le}
use Rattle.std.specs.List.{list_all, list_any}
use Rattle.std.proofs.lemmas.Bool.{and_parts, false≢true}
use Rattle.ipc_format_readers.specs.chunk_writing.columnar_memory.declared.DataType.{DataType, map-DataType}
use Rattle.ipc_format_readers.specs.chunk_writing.columnar_memory.declared.DataType.TheOpen as layer
use Rattle.ipc_format_readers.specs.chunk_writing.columnar_memory.declared.DataType.TheFolds.{fold-Field, fold-roll-DataType}
use Rattle.ipc_format_readers.specs.chunk_writing.columnar_memory.declared.DataType.TheFolds.{fold-roll-Field, ind-DataType}
use Rattle.ipc_format_readers.specs.chunk_writing.columnar_memory.declared.DataType.TheViews.{out-Field, roll-DataType, roll-Field}
use Rattle.ipc_format_readers.specs.chunk_writing.columnar_memory.declared.DataType.TheViews.{roll-out-Field}
use Rattle.ipc_format_readers.specs.chunk_writing.columnar_memory.declared.Field.{Field, map-Field}
use Rattle.ipc_format_readers.specs.chunk_writing.columnar_memory.declared.Schema.{Schema}
use Rattle.ipc_format_readers.proofs.chunk_lemmas.Claims.{FieldWith, LayerWith, TypeWith, bare_layer}
use Rattle.ipc_format_readers.specs.chunk_writing.grammar.Limits.{most_dictionaries, most_levels}
use Rattle.ipc_format_readers.specs.chunk_writing.grammar.Writable.{Report, field_step, is_dictionary, is_plain, is_size}
use Rattle.ipc_format_readers.specs.chunk_writing.grammar.Writable.{is_struct_of_two, is_writable}
use Rattle.ipc_format_readers.specs.chunk_writing.grammar.Writable.{over_all, plain, report_of, report_step, reports_of}
use Rattle.ipc_format_readers.specs.streams.owned.writing.Floats.{float_step, has_float, in_field, in_type}

abbrev Layer : Type 0
Layer = layer.DataType-F DataType Field

abbrev report_field : Field → Report
report_field = fold-Field Report Report report_step field_step

abbrev TypeNone : DataType → Type 0
TypeNone t = (report_of t).is_allowed ≡ true → in_type t ≡ false

abbrev FieldNone : Field → Type 0
FieldNone u = (report_field u).is_allowed ≡ true → in_field u ≡ false

at_roll : (x : Layer)
    → ((report_step (map-DataType DataType Field Report Report report_of report_field x)).is_allowed ≡ true
    → float_step (map-DataType DataType Field Bool Bool in_type in_field x) ≡ false) → TypeNone (roll-DataType x)
at_roll x h =
    rw (fold-roll-DataType Report Report report_step field_step x, fold-roll-DataType Bool Bool float_step (λ field. field.data_type) x) h

abbrev fields_of : List (FieldWith FieldNone) → List Field
fields_of ys = map (λ (e : FieldWith FieldNone). e.0) ys

abbrev all_allowed : List Report → Bool
all_allowed reports = list_all (λ (child : Report). child.is_allowed) reports

abbrev any_float : List Bool → Bool
any_float answers = list_any (λ here. here) answers

each_none : (ys : List (FieldWith FieldNone)) → all_allowed (map report_field (fields_of ys)) ≡ true
    → any_float (map in_field (fields_of ys)) ≡ false
each_none [] h = refl
each_none (y ∷ ys) h =
    let parts = and_parts (report_field y.0).is_allowed (all_allowed (map report_field (fields_of ys))) h in
    ap₂ (λ (a b : Bool). a || b) (y.1 parts.0) (each_none ys parts.1)

roll_none : (y : LayerWith TypeNone FieldNone) → TypeNone (roll-DataType (bare_layer TypeNone FieldNone y))
roll_none layer.Float16 = at_roll layer.Float16 (λ h. absurd (false≢true h))
roll_none layer.Float32 = at_roll layer.Float32 (λ h. absurd (false≢true h))
roll_none layer.Float64 = at_roll layer.Float64 (λ h. absurd (false≢true h))
roll_none (layer.List item) = at_roll (layer.List item.0) (λ h. item.1 (and_parts true (report_field item.0).is_allowed h).1)
roll_none (layer.LargeList item) = at_roll (layer.LargeList item.0) (λ h. item.1 (and_parts true (report_field item.0).is_allowed h).1)
roll_none (layer.FixedSizeList item size) =
    at_roll (layer.FixedSizeList item.0 size) (λ h. item.1 (and_parts (is_size size) (report_field item.0).is_allowed h).1)
roll_none (layer.Map entry is_sorted) = at_roll (layer.Map entry.0 is_sorted)
    (λ h. entry.1 (and_parts (is_struct_of_two (report_field entry.0).shape) (report_field entry.0).is_allowed h).1)
roll_none (layer.Struct children) = at_roll (layer.Struct (fields_of children))
    (λ h. each_none children (and_parts _ (all_allowed (map report_field (fields_of children))) h).1)
roll_none (layer.Union children ids mode) = at_roll (layer.Union (fields_of children) ids mode)
    (λ h. each_none children (and_parts _ (all_allowed (map report_field (fields_of children))) h).1)
roll_none (layer.Dictionary key value is_ordered) = at_roll (layer.Dictionary key value.0 is_ordered)
    (λ h. value.1 (and_parts (report_of value.0).is_allowed (not (is_dictionary (report_of value.0).shape)) h).0)
roll_none (layer.Extension name inner metadata) = at_roll (layer.Extension name inner.0 metadata)
    (λ h. inner.1 (and_parts (report_of inner.0).is_allowed (is_plain (report_of inner.0).shape) h).0)
roll_none y = at_roll (bare_layer TypeNone FieldNone y) (λ h. refl)

field_none : (x : layer.Field-F DataType Field) → TypeNone x.data_type → FieldNone (roll-Field x)
field_none x h =
    rw (fold-roll-Field Report Report report_step field_step x, fold-roll-Field Bool Bool float_step (λ field. field.data_type) x) h

type_none : (t : DataType) → TypeNone t
type_none = ind-DataType TypeNone FieldNone (λ x y is. subst (λ (x : Layer). TypeNone (roll-DataType x)) is (roll_none y))
    (λ x y is. subst (λ (x : layer.Field-F DataType Field). FieldNone (roll-Field x)) is
    (field_none (map-Field (TypeWith TypeNone) (FieldWith FieldNone) DataType Field (λ e. e.0) (λ e. e.0) y) y.data_type.1))

-- a float is in a field where it is in its type
in_field_is : (u : Field) → in_field u ≡ in_type u.data_type
in_field_is u = subst (λ (v : Field). in_field v ≡ in_type v.data_type) (roll-out-Field u)
    (fold-roll-Field Bool Bool float_step (λ field. field.data_type) (out-Field u))

fields_none : (us : List Field) → all_allowed (reports_of us) ≡ true → any_float (map in_field us) ≡ false
fields_none [] h = refl
fields_none (u ∷ us) h =
    let parts = and_parts (report_of u.data_type).is_allowed (all_allowed (reports_of us)) h in
    ap₂ (λ (a b : Bool). a || b) (in_field_is u ∙ type_none u.data_type parts.0) (fields_none us parts.1)

pub no_float : (schema : Schema) → is_writable schema ≡ true → has_float schema ≡ false
unfolding is_writable
no_float schema h =
    let all = over_all true plain (reports_of schema.fields) in
    let first = and_parts (all.is_allowed && nat_le all.levels most_levels) (nat_le all.dictionaries most_dictionaries) h in
    let second = and_parts all.is_allowed (nat_le all.levels most_levels) first.0 in
    fields_none schema.fields (and_parts true (all_allowed (reports_of schema.fields)) second.0).1
