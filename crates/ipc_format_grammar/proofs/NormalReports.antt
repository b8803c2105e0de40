-- What is asked of a schema is asked of its one form.
use Rattle.std.proofs.Common.{◌≡◌, ◌&&◌, List, [], ◌∷◌, map, refl, sym, ap, subst, ◌∙◌}
use Rattle.std.specs.Prelude.{nat_le, true}
use Rattle.nested_arrays_columns.specs.columnar_memory.declared.DataType.{DataType, map-DataType}
use Rattle.nested_arrays_columns.specs.columnar_memory.declared.DataType.TheOpen as layer
use Rattle.nested_arrays_columns.specs.columnar_memory.declared.DataType.TheViews.{roll-DataType, roll-Field}
use Rattle.nested_arrays_columns.specs.columnar_memory.declared.DataType.TheFolds.{fold-Field, ind-DataType, fold-roll-DataType, fold-roll-Field}
use Rattle.nested_arrays_columns.specs.columnar_memory.declared.Field.{Field}
use Rattle.nested_arrays_columns.specs.columnar_memory.declared.Schema.{Schema}
use Rattle.ipc_format_grammar.specs.Writable.{Report, plain, over_all, report_of, report_step, field_step, reports_of, is_writable}
use Rattle.ipc_format_grammar.specs.Writable.{normalised, normalised_type, normalised_step, normalised_pairs, normalised_field}

abbrev pub normal_field : Field → Field
normal_field = fold-Field DataType Field roll-DataType normalised_step

abbrev pub report_field : Field → Report
report_field = fold-Field Report Report report_step field_step

-- a type, and a field, of whose one form the same is asked
abbrev SameType : DataType → Type 0
SameType d = report_of (normalised_type d) ≡ report_of d

abbrev SameField : Field → Type 0
SameField f = report_field (normal_field f) ≡ report_field f

abbrev ASameType : Type 0
ASameType = (d : DataType) × SameType d

abbrev ASameField : Type 0
ASameField = (f : Field) × SameField f

abbrev field_at : ASameField → Field
field_at e = e.0

abbrev reported : layer.DataType-F DataType Field → layer.DataType-F Report Report
reported x = map-DataType DataType Field Report Report report_of report_field x

abbrev normal_layer : layer.DataType-F DataType Field → layer.DataType-F DataType Field
normal_layer x = map-DataType DataType Field DataType Field normalised_type normal_field x

at_roll : (x : layer.DataType-F DataType Field) → report_step (reported (normal_layer x)) ≡ report_step (reported x) → SameType (roll-DataType x)
at_roll x e =
    ap report_of (fold-roll-DataType DataType Field roll-DataType normalised_step x) ∙ fold-roll-DataType Report Report report_step field_step
    (normal_layer x) ∙ e
    ∙ sym (fold-roll-DataType Report Report report_step field_step x)

same_all : (items : List ASameField) → map report_field (map normal_field (map field_at items)) ≡ map report_field (map field_at items)
same_all [] = refl
same_all (e ∷ items) = λ i. e.1 i ∷ same_all items i

abbrev layer_of : layer.DataType-F ASameType ASameField → layer.DataType-F DataType Field
layer_of y = map-DataType ASameType ASameField DataType Field (λ e. e.0) (λ e. e.0) y

type_step : (y : layer.DataType-F ASameType ASameField) → SameType (roll-DataType (layer_of y))
type_step (layer.List item) = at_roll (layer.List item.0) (ap (λ (r : Report). report_step (layer.List r)) item.1)
type_step (layer.LargeList item) = at_roll (layer.LargeList item.0) (ap (λ (r : Report). report_step (layer.LargeList r)) item.1)
type_step (layer.FixedSizeList item size) = at_roll (layer.FixedSizeList item.0 size)
    (ap (λ (r : Report). report_step (layer.FixedSizeList r size)) item.1)
type_step (layer.Map entry is_sorted) = at_roll (layer.Map entry.0 is_sorted) (ap (λ (r : Report). report_step (layer.Map r is_sorted)) entry.1)
type_step (layer.Struct fields) = at_roll (layer.Struct (map field_at fields))
    (ap (λ (rs : List Report). report_step (layer.Struct rs)) (same_all fields))
type_step (layer.Union fields numbers mode) =
    at_roll (layer.Union (map field_at fields) numbers mode) (ap (λ (rs : List Report). report_step (layer.Union rs numbers mode))
    (same_all fields))
type_step (layer.Dictionary key value is_ordered) =
    at_roll (layer.Dictionary key value.0 is_ordered) (ap (λ (r : Report). report_step (layer.Dictionary key r is_ordered)) value.1)
type_step (layer.Extension name inner metadata) =
    at_roll (layer.Extension name inner.0 metadata) (ap (λ (r : Report). report_step (layer.Extension name r metadata)) inner.1)
type_step y = at_roll (layer_of y) refl

-- a field without its claim
abbrev bare : layer.Field-F ASameType ASameField → layer.Field-F DataType Field
bare y = record { name = y.name; data_type = y.data_type.0; is_nullable = y.is_nullable; metadata = y.metadata }

-- its one form
abbrev normal_bare : layer.Field-F ASameType ASameField → layer.Field-F DataType Field
normal_bare y = record {
  name = y.name;
  data_type = normalised_type y.data_type.0;
  is_nullable = y.is_nullable;
  metadata = normalised_pairs (normalised_type y.data_type.0) y.metadata;
}

field_step_same : (y : layer.Field-F ASameType ASameField) → SameField (roll-Field (bare y))
field_step_same y =
    ap report_field (fold-roll-Field DataType Field roll-DataType normalised_step (bare y)) ∙ fold-roll-Field Report Report report_step field_step
    (normal_bare y) ∙ y.data_type.1
    ∙ sym (fold-roll-Field Report Report report_step field_step (bare y))

same_type : (d : DataType) → SameType d
same_type = ind-DataType SameType SameField (λ x y is. subst (λ z. SameType (roll-DataType z)) is (type_step y))
    (λ x y is. subst (λ z. SameField (roll-Field z)) is (field_step_same y))

same_reports : (fields : List Field) → reports_of (map normalised_field fields) ≡ reports_of fields
same_reports [] = refl
same_reports (f ∷ fields) = λ i. same_type f.data_type i ∷ same_reports fields i

-- the one form of a schema that is written is written
pub writable_normal : (schema : Schema) → is_writable (normalised schema) ≡ is_writable schema
unfolding is_writable normalised
writable_normal schema = ap (λ (reports : List Report). let all = over_all true plain reports in
    all.is_allowed && nat_le all.levels 64 && nat_le all.dictionaries 65536) (same_reports schema.fields)
