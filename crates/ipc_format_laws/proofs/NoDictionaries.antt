-- Columns of types without dictionaries bring none.
use Rattle.std.proofs.Common.{◌≡◌, ℕ, suc, ◌+◌, List, [], ◌∷◌, map, refl, subst, arith}
use Rattle.std.specs.Prelude.{sum_by}
use Rattle.std.proofs.lemmas.List.Sums.{sum_by-cons}
use Rattle.ipc_format_grammar.specs.columnar_memory.declared.DataType.{DataType, map-DataType}
use Rattle.ipc_format_grammar.specs.columnar_memory.declared.DataType.TheOpen as layer
use Rattle.ipc_format_grammar.specs.columnar_memory.declared.DataType.TheViews.{roll-DataType, roll-Field}
use Rattle.ipc_format_grammar.specs.columnar_memory.declared.DataType.TheFolds.{para-Field, ind-DataType, fold-roll-DataType, fold-roll-Field}
use Rattle.ipc_format_grammar.specs.columnar_memory.declared.DataType.TheFolds.{para-roll-DataType, para-roll-Field}
use Rattle.ipc_format_grammar.specs.columnar_memory.declared.Field.{Field}
use Rattle.ipc_format_grammar.specs.columns.Slots.{Slot}
use Rattle.ipc_format_grammar.specs.columns.Children.{joined_items, joined_fixed_items, field_slots}
use Rattle.ipc_format_grammar.specs.Schemas.{Ids, IdsList}
use Rattle.ipc_format_grammar.specs.Writable.{Report, report_of, report_step, field_step, reports_of}
use Rattle.ipc_format_grammar.proofs.NormalReports.{report_field}
use Rattle.ipc_format_grammar.specs.Columns.{first_ids, other_ids, ids_below}
use Rattle.ipc_format_grammar.specs.GivenDictionaries.{Giver, given_by, given_fields, givers, give_step, give_field_step}
use Rattle.ipc_format_grammar.specs.WrittenStreams.{given_of_slots}

abbrev Layer : Type 0
Layer = layer.DataType-F DataType Field

abbrev pub dictionaries_of : List Report → ℕ
dictionaries_of reports = sum_by (λ (report : Report). report.dictionaries) reports

one_more : (report : Report) (reports : List Report) → dictionaries_of (report ∷ reports) ≡ 0
    → (report.dictionaries ≡ 0) × (dictionaries_of reports ≡ 0)
one_more report reports none =
    let counted = sum_by-cons (λ (report : Report). report.dictionaries) report reports in
    (omega (arith, counted, none), omega (arith, counted, none))

-- ---- what gives the dictionaries of a type that has none gives none

abbrev NoneOf : Report → Giver → Type 0
NoneOf report giver = report.dictionaries ≡ 0 → (here : Ids) (slots : List Slot) → giver here slots ≡ []

abbrev give_field : Field → Giver
give_field = para-Field Giver Giver give_step give_field_step

abbrev TypeGivesNone : DataType → Type 0
TypeGivesNone t = NoneOf (report_of t) (given_by t)

abbrev FieldGivesNone : Field → Type 0
FieldGivesNone u = NoneOf (report_field u) (give_field u)

abbrev D : Type 0
D = (t : DataType) × TypeGivesNone t

abbrev F : Type 0
F = (u : Field) × FieldGivesNone u

abbrev field_in : F → Field
field_in e = e.0

abbrev with_giver : Field → Field × Giver
with_giver u = (u, give_field u)

-- a layer's claim is its type's
at_roll : (x : Layer)
    → NoneOf (report_step (map-DataType DataType Field Report Report report_of report_field x))
    (give_step (map-DataType DataType Field (DataType × Giver) (Field × Giver) (λ t. (t, given_by t)) with_giver x)) → TypeGivesNone (roll-DataType x)
at_roll x h = rw (fold-roll-DataType Report Report report_step field_step x, para-roll-DataType Giver Giver give_step give_field_step x) h

each_none : (ys : List F) (below : IdsList) (slots : List Slot) (k : ℕ) → dictionaries_of (map report_field (map field_in ys)) ≡ 0
    → given_fields (givers (map with_giver (map field_in ys))) below slots k ≡ []
each_none [] below slots k none = refl
each_none (y ∷ ys) below slots k none =
    let parts = one_more (report_field y.0) (map report_field (map field_in ys)) none in
    rw (y.1 parts.0 (first_ids below) (field_slots slots k)) (each_none ys (other_ids below) slots (suc k) parts.1)

abbrev layer_of : layer.DataType-F D F → Layer
layer_of y = map-DataType D F DataType Field (λ e. e.0) field_in y

never : (n : ℕ) → n + 1 ≡ 0 → ⊥
never n e = absurd (omega arith)

layer_gives_none : (y : layer.DataType-F D F) → TypeGivesNone (roll-DataType (layer_of y))
layer_gives_none (layer.List item) = at_roll (layer.List item.0)
    (λ none here slots. item.1 none (first_ids (ids_below here)) (joined_items slots))
layer_gives_none (layer.LargeList item) = at_roll (layer.LargeList item.0)
    (λ none here slots. item.1 none (first_ids (ids_below here)) (joined_items slots))
layer_gives_none (layer.FixedSizeList item size) = at_roll (layer.FixedSizeList item.0 size)
    (λ none here slots. item.1 none (first_ids (ids_below here)) (joined_fixed_items size slots))
layer_gives_none (layer.Map entry is_sorted) = at_roll (layer.Map entry.0 is_sorted)
    (λ none here slots. entry.1 none (first_ids (ids_below here)) (joined_items slots))
layer_gives_none (layer.Struct children) = at_roll (layer.Struct (map field_in children))
    (λ none here slots. each_none children (ids_below here) slots 0 none)
layer_gives_none (layer.Dictionary key value is_ordered) = at_roll (layer.Dictionary key value.0 is_ordered)
    (λ none here slots. absurd (never (report_of value.0).dictionaries none))
layer_gives_none (layer.Extension name inner metadata) = at_roll (layer.Extension name inner.0 metadata)
    (λ none here slots. inner.1 none here slots)
layer_gives_none y = at_roll (layer_of y) (λ none here slots. refl)

-- a field without its claim
abbrev bare : layer.Field-F D F → layer.Field-F DataType Field
bare y = record { name = y.name; data_type = y.data_type.0; is_nullable = y.is_nullable; metadata = y.metadata }

field_gives_none : (y : layer.Field-F D F) → FieldGivesNone (roll-Field (bare y))
field_gives_none y =
    rw (fold-roll-Field Report Report report_step field_step (bare y), para-roll-Field Giver Giver give_step give_field_step (bare y)) y.data_type.1

type_gives_none : (t : DataType) → TypeGivesNone t
type_gives_none = ind-DataType TypeGivesNone FieldGivesNone (λ x y is. subst (λ (x : Layer). TypeGivesNone (roll-DataType x)) is (layer_gives_none y))
    (λ x y is. subst (λ x. FieldGivesNone (roll-Field x)) is (field_gives_none y))

-- columns under fields without dictionaries bring none
pub none_given : (fields : List Field) (below : IdsList) (columns : List (List Slot)) → dictionaries_of (reports_of fields) ≡ 0
    → given_of_slots fields below columns ≡ []
none_given [] below columns none = refl
none_given (field ∷ fields) below [] none = refl
none_given (field ∷ fields) below (column ∷ columns) none =
    let parts = one_more (report_of field.data_type) (reports_of fields) none in
    rw (type_gives_none field.data_type parts.0 (first_ids below) column) (none_given fields (other_ids below) columns parts.1)
