-- The column that stores some slots brings the dictionaries that the slots bring: an induction over its type.
use Rattle.std.proofs.Common.{◌≡◌, ◌∙◌, ℕ, suc, Bool, true, List, [], ◌∷◌, ◌++◌, length, map, refl, sym, ap, subst}
use Rattle.std.specs.Prelude.{nat_le, None}
use Rattle.std.specs.List.{list_all}
use Rattle.std.proofs.lemmas.Bool.{and_parts}
use Rattle.ipc_format_grammar.specs.columnar_memory.declared.DataType.{DataType, map-DataType}
use Rattle.ipc_format_grammar.specs.columnar_memory.declared.DataType.TheOpen as layer
use Rattle.ipc_format_grammar.specs.columnar_memory.declared.DataType.TheFolds.{para-Field, fold-roll-DataType, para-roll-DataType, fold-roll-Field}
use Rattle.ipc_format_grammar.specs.columnar_memory.declared.DataType.TheFolds.{para-roll-Field, ind-DataType}
use Rattle.ipc_format_grammar.specs.columnar_memory.declared.DataType.TheViews.{roll-DataType, roll-Field, out-DataType}
use Rattle.ipc_format_grammar.specs.columnar_memory.declared.Field.{Field, map-Field}
use Rattle.ipc_format_grammar.specs.columnar_memory.declared.IntervalUnit.TheVariants as intervals
use Rattle.ipc_format_grammar.specs.columns.Cells.{fits_step, fits_cell}
use Rattle.ipc_format_grammar.specs.columns.Children.{joined_items, joined_fixed_items, field_slots, dictionary_values}
use Rattle.ipc_format_grammar.specs.columns.FreshColumns.{Maker, MakerUnder, fresh_fields, fresh_step, fresh_field_step, fresh_under, fresh}
use Rattle.ipc_format_grammar.specs.columns.FreshLaws.{buildable_step, is_buildable}
use Rattle.ipc_format_grammar.specs.columns.OpenBatch.{is_within}
use Rattle.ipc_format_grammar.specs.columns.Slots.{Slot, null}
use Rattle.ipc_format_grammar.specs.columns.SoundColumns.{is_entry}
use Rattle.ipc_format_grammar.specs.columns.StoredColumns.{column_type, slots}
use Rattle.ipc_format_grammar.proofs.columns_lemmas.Claims.{TypeWith, FieldWith, LayerWith, bare_layer}
use Rattle.ipc_format_grammar.proofs.columns_lemmas.Fitting.{null_fits}
use Rattle.ipc_format_grammar.proofs.columns_lemmas.FreshBelow.{items_fit, no_items, fixed_items_fit, values_fit, TakeNull, fields_pass, fields_fit}
use Rattle.ipc_format_grammar.proofs.columns_lemmas.FreshLengths.{makers_of, answers, can_all}
use Rattle.ipc_format_grammar.proofs.columns_lemmas.FreshLengths.{Layer, buildable_field, fresh_field, cell_field, buildable_layer, fresh_layer, cell_layer}
use Rattle.ipc_format_grammar.proofs.columns_lemmas.FreshLengths.{unlike}
use Rattle.ipc_format_grammar.proofs.columns_lemmas.FreshSlots.{fresh_keeps}
use Rattle.ipc_format_grammar.proofs.columns_lemmas.FreshTypes.{fresh_type}
use Rattle.ipc_format_grammar.specs.Columns.{first_ids, other_ids, ids_below, own_id}
use Rattle.ipc_format_grammar.specs.StoredEncoding.{encode_stored}
use Rattle.ipc_format_grammar.specs.GivenDictionaries.{id_or_0, Giver, given_fields, given_values, givers, give_step, give_field_step}
use Rattle.ipc_format_grammar.specs.GivenDictionaries.{given_by}
use Rattle.ipc_format_grammar.specs.GivenDictionaries.{given_stored, given_each}
use Rattle.ipc_format_grammar.specs.Schemas.{Ids, IdsList, ids}
use Rattle.ipc_format_laws.specs.FreshEncodings.{FreshGives}
use Rattle.ipc_format_laws.proofs.FreshEncodings.{encoding_of}

abbrev giver_field : Field → Giver
giver_field = para-Field Giver Giver give_step give_field_step

abbrev giver_layer : Layer → Giver
giver_layer x = give_step (map-DataType DataType Field (DataType × Giver) (Field × Giver) (λ t. (t, given_by t)) (λ u. (u, giver_field u)) x)

-- ---- the claim

abbrev Gives : Maker → Giver → (Slot → Bool) → Type 0
Gives make giver cell = (here : Ids) (xs : List Slot) → list_all cell xs ≡ true → given_stored here (make xs) ≡ giver here xs

abbrev TypeGives : DataType → Type 0
TypeGives t = is_buildable t ≡ true → (whole : DataType) → Gives (fresh_under t whole) (given_by t) (fits_cell t)

record GivesField (make : Maker) (giver : Giver) (cell : Slot → Bool) : Type 0 where
  takes_null : cell null ≡ true
  gives : Gives make giver cell

abbrev FieldGives : Field → Type 0
FieldGives u = buildable_field u ≡ true → GivesField (fresh_field u) (giver_field u) (cell_field u)

at_roll : (x : Layer) → (buildable_layer x ≡ true → (whole : DataType) → Gives (fresh_layer x whole) (giver_layer x) (cell_layer x))
    → TypeGives (roll-DataType x)
at_roll x h = rw (
  para-roll-DataType Bool Bool buildable_step (λ field. field.data_type.1) x,
  para-roll-DataType MakerUnder Maker fresh_step fresh_field_step x,
  para-roll-DataType Giver Giver give_step give_field_step x,
  fold-roll-DataType (Slot → Bool) (Slot → Bool) fits_step (λ field. field.data_type) x,
) h

-- ---- structs

abbrev Children : Type 0
Children = List (FieldWith FieldGives)

abbrev fields_of : Children → List Field
fields_of ys = map (λ e. e.0) ys

abbrev givers_of : List Field → List Giver
givers_of us = givers (map (λ u. (u, giver_field u)) us)

take_nulls : (ys : Children) → can_all (fields_of ys) ≡ true → TakeNull (map cell_field (fields_of ys))
take_nulls [] can = tt
take_nulls (y ∷ ys) can =
    let parts = and_parts (buildable_field y.0) (can_all (fields_of ys)) can in ((y.1 parts.0).takes_null, take_nulls ys parts.1)

children_give : (ys : Children) → can_all (fields_of ys) ≡ true → (below : IdsList) (xs : List Slot) (k : ℕ)
    → fields_pass (map cell_field (fields_of ys)) xs k
    → given_each below (fresh_fields (makers_of (fields_of ys)) xs k) ≡ given_fields (givers_of (fields_of ys)) below xs k
children_give [] can below xs k fit = refl
children_give (y ∷ ys) can below xs k fit =
    let parts = and_parts (buildable_field y.0) (can_all (fields_of ys)) can in
    let here = (y.1 parts.0).gives (first_ids below) (field_slots xs k) fit.0 in
    let rest = children_give ys parts.1 (other_ids below) xs (suc k) fit.1 in
    λ j. here j ++ rest j

-- ---- dictionaries

values_give : (value : DataType) → is_buildable value ≡ true → Gives (fresh value) (given_by value) (fits_cell value) → (here : Ids) (xs : List Slot)
    → list_all (fits_cell value) xs ≡ true
    → (given_stored (ids None (ids_below here)) (fresh value xs)
    ++ record {
      id = id_or_0 (own_id here);
      data_type = column_type (fresh value xs);
      slots = slots (fresh value xs);
      column = encode_stored true (fresh value xs);
    } ∷ []) ≡ given_values value (given_by value) here xs
values_give value can below here xs fits =
    let inner = below (ids None (ids_below here)) xs fits in
    let typed = fresh_type value value xs in
    let kept = fresh_keeps value can value xs fits in
    let encoded = encoding_of value can xs fits in
    λ j. inner j ++ record { id = id_or_0 (own_id here); data_type = typed j; slots = kept j; column = encoded j } ∷ []

-- ---- the induction

gives_step : (y : LayerWith TypeGives FieldGives) → TypeGives (roll-DataType (bare_layer TypeGives FieldGives y))
gives_step (layer.List item) = at_roll (layer.List item.0) (λ can whole here xs fits.
    (item.1 can).gives (first_ids (ids_below here)) (joined_items xs) (items_fit (cell_field item.0) xs fits))
gives_step (layer.LargeList item) = at_roll (layer.LargeList item.0) (λ can whole here xs fits.
    (item.1 can).gives (first_ids (ids_below here)) (joined_items xs) (items_fit (cell_field item.0) xs fits))
gives_step (layer.Map entry is_sorted) = at_roll (layer.Map entry.0 is_sorted) (λ can whole here xs fits.
    (entry.1 (and_parts (is_entry (out-DataType entry.0.data_type)) (buildable_field entry.0) can).1).gives (first_ids (ids_below here))
    (joined_items xs) (ap (list_all (cell_field entry.0)) (no_items xs fits)))
gives_step (layer.FixedSizeList item size) = at_roll (layer.FixedSizeList item.0 size) (λ can whole here xs fits.
    let below = item.1 (and_parts (nat_le 1 size) (buildable_field item.0) can).1 in
    below.gives (first_ids (ids_below here)) (joined_fixed_items size xs) (fixed_items_fit size (cell_field item.0) below.takes_null xs fits))
gives_step (layer.Struct children) = at_roll (layer.Struct (fields_of children)) (λ can whole here xs fits.
    let each = (and_parts (nat_le 1 (length (answers (fields_of children)))) (can_all (fields_of children)) can).1 in
    children_give children each (ids_below here) xs 0 (fields_fit (map cell_field (fields_of children)) xs (take_nulls children each) fits))
gives_step (layer.Union children type_ids mode) = at_roll (layer.Union (fields_of children) type_ids mode) (λ can whole. absurd (unlike can))
gives_step (layer.Dictionary key value is_ordered) = at_roll (layer.Dictionary key value.0 is_ordered) (λ can whole here xs fits.
    values_give value.0 can (value.1 can value.0) here (dictionary_values xs) (values_fit (fits_cell value.0) xs fits))
gives_step (layer.Extension name inner metadata) = at_roll (layer.Extension name inner.0 metadata) (λ can whole. inner.1 can whole)
gives_step (layer.Interval intervals.YearMonth) = at_roll (layer.Interval intervals.YearMonth) (λ can whole here xs fits. refl)
gives_step (layer.Interval intervals.DayTime) = at_roll (layer.Interval intervals.DayTime) (λ can whole here xs fits. refl)
gives_step (layer.Interval intervals.MonthDayNano) = at_roll (layer.Interval intervals.MonthDayNano) (λ can whole here xs fits. refl)
gives_step y = at_roll (bare_layer TypeGives FieldGives y) (λ can whole here xs fits. refl)

field_gives : (x : layer.Field-F DataType Field) → TypeGives x.data_type → FieldGives (roll-Field x)
field_gives x h can =
    let ok = sym (para-roll-Field Bool Bool buildable_step (λ field. field.data_type.1) x) ∙ can in
    let here : GivesField (fresh_under x.data_type x.data_type) (given_by x.data_type) (fits_cell x.data_type) =
    record { takes_null = null_fits x.data_type; gives = h ok x.data_type } in
    rw (
      para-roll-Field MakerUnder Maker fresh_step fresh_field_step x,
      para-roll-Field Giver Giver give_step give_field_step x,
      fold-roll-Field (Slot → Bool) (Slot → Bool) fits_step (λ field. field.data_type) x,
    ) here

gives_all : (t : DataType) → TypeGives t
gives_all = ind-DataType TypeGives FieldGives (λ x y is. subst (λ (x : Layer). TypeGives (roll-DataType x)) is (gives_step y))
    (λ x y is. subst (λ (x : layer.Field-F DataType Field). FieldGives (roll-Field x)) is
    (field_gives (map-Field (TypeWith TypeGives) (FieldWith FieldGives) DataType Field (λ e. e.0) (λ e. e.0) y) y.data_type.1))

pub fresh_gives : FreshGives
fresh_gives t here xs can fit = gives_all t can t here xs (and_parts (list_all (fits_cell t) xs) (is_within t xs) fit).0
