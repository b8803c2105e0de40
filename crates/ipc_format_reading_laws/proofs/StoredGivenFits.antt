-- Ids that fit a type fit the types of a column's children, and the values of the dictionaries that it brings; and the ids that are read
-- beside fields are those that were written, where they fit.
use Rattle.std.proofs.Common.{◌≡◌, ◌∙◌, ℕ, List, [], ◌∷◌, map, refl, sym, ap, subst, Bool, true}
use Rattle.std.specs.Prelude.{◌&&◌, ◌==◌, ℤ, Option, Some, None}
use Rattle.std.specs.List.{All, list_all}
use Rattle.std.proofs.lemmas.Bool.{and_parts, false≢true}
use Rattle.std.proofs.lemmas.List.Elements.{All-nil, All-cons, All-append}
use Rattle.columnar_memory_types.specs.Equality.{same_type, same_type-Decides}
use Rattle.ipc_format_laws.specs.columnar_memory.declared.DataType.{DataType, map-DataType}
use Rattle.ipc_format_laws.specs.columnar_memory.declared.DataType.TheOpen as layer
use Rattle.ipc_format_laws.specs.columnar_memory.declared.DataType.TheViews.{roll-DataType, roll-Field, out-DataType, out-Field, roll-out-Field}
use Rattle.ipc_format_laws.specs.columnar_memory.declared.DataType.TheFolds.{fold-DataType, fold-roll-DataType, fold-roll-Field, ind-DataType}
use Rattle.ipc_format_laws.specs.columnar_memory.declared.Field.{Field}
use Rattle.ipc_format_laws.specs.columns.Kinds.{is_key}
use Rattle.ipc_format_laws.specs.columns.StoredColumns.{Column, Columns, nulls, flat, lists, fixed_lists, records, unions, dictionary, no_column}
use Rattle.ipc_format_laws.specs.columns.StoredColumns.{column_then, column_type, type_layer}
use Rattle.ipc_format_laws.specs.columns.SoundColumns.{is_entry, has_item_type, has_fixed_item_type, has_value_type, have_types, is_sound, are_sound}
use Rattle.ipc_format_laws.proofs.columns_lemmas.Claims.{FieldWith, LayerWith, bare_layer}
use Rattle.ipc_format_laws.specs.grammar.Schemas.{Ids, IdsList, ids, no_ids, ids_then}
use Rattle.ipc_format_laws.specs.grammar.Columns.{first_ids, other_ids, ids_below, own_id}
use Rattle.ipc_format_laws.specs.grammar.Ids.{Fitting, fit_each, has_no_own, fit_value, fit_step, ids_fit, ids_fit_fields}
use Rattle.ipc_format_laws.specs.grammar.GivenDictionaries.{id_or_0}
use Rattle.ipc_format_laws.specs.Schemas.{IdsTold, each_ids, ids_step, id_if, ids_field_step, ids_of_field}
use Rattle.ipc_format_reading_laws.proofs.NormalColumnsLayers.{Layer}
use Rattle.ipc_format_reading_laws.proofs.StoredGivenFolds.{foldf, at_layer, fold_field, fold_at_layer, fold_roll}
use Rattle.ipc_format_reading_laws.proofs.StoredGivenBrought.{Brought, brought, brought_each, sound_item, sound_fixed_item, sound_fields}
use Rattle.ipc_format_reading_laws.proofs.StoredGivenBrought.{sound_children, sound_values, struct_of, union_of}

-- ---- the layer of a type whose ids fit

abbrev layer_fits : Layer → Ids → Bool
layer_fits x = at_layer fit_step x

fits_at : (t : DataType) (here : Ids) → ids_fit t here ≡ layer_fits (type_layer t) here
fits_at t here = ap (λ (fits : Fitting). fits here)
    (fold_at_layer fit_step (λ (fits : Fitting). fits) (λ (name : List ℕ) (inner : Fitting) (metadata : Option (List ℕ)). refl) t)

field_fits : (u : Field) (t : DataType) (here : Ids) → same_type u.data_type t ≡ true → foldf fit_step u here ≡ true → ids_fit t here ≡ true
field_fits u t here same h =
    ap (λ (fits : Fitting). fits here) (sym (fold_field fit_step u ∙ ap ids_fit ((same_type-Decides u.data_type t).0 same))) ∙ h

one_fits : (test : Fitting) (below : IdsList) → fit_each (test ∷ []) below ≡ true → test (first_ids below) ≡ true
one_fits test no_ids h = absurd (false≢true h)
one_fits test (ids_then first others) h = (and_parts (test first) (fit_each [] others) h).0

item_fits : (u : Field) (t : DataType) (here : Ids) → same_type u.data_type t ≡ true
    → (has_no_own here && fit_each (foldf fit_step u ∷ []) (ids_below here)) ≡ true → ids_fit t (first_ids (ids_below here)) ≡ true
item_fits u t here same h = field_fits u t (first_ids (ids_below here)) same (one_fits (foldf fit_step u) (ids_below here)
    (and_parts (has_no_own here) (fit_each (foldf fit_step u ∷ []) (ids_below here)) h).1)

items_fit : (x : Layer) (child : DataType) (here : Ids) → has_item_type x child ≡ true → layer_fits x here ≡ true
    → ids_fit child (first_ids (ids_below here)) ≡ true
items_fit (layer.List item) child here typed h = item_fits item child here typed h
items_fit (layer.LargeList item) child here typed h = item_fits item child here typed h
items_fit (layer.Map entry is_sorted) child here typed h =
    item_fits entry child here (and_parts (same_type entry.data_type child) (is_entry (out-DataType child)) typed).0 h
items_fit _ child here typed h = absurd (false≢true typed)

fixed_items_fit : (x : Layer) (size : ℕ) (child : DataType) (here : Ids) → has_fixed_item_type x size child ≡ true → layer_fits x here ≡ true
    → ids_fit child (first_ids (ids_below here)) ≡ true
fixed_items_fit (layer.FixedSizeList item own) size child here typed h =
    item_fits item child here (and_parts (own == size) (same_type item.data_type child) typed).1 h
fixed_items_fit _ size child here typed h = absurd (false≢true typed)

-- ids that fit a dictionary: its own, and those of its values
pub record FitsValues (values : DataType) (here : Ids) : Type 0 where
  pub id : ℤ
  pub own : own_id here ≡ Some id
  pub below : ids_fit values (ids None (ids_below here)) ≡ true

value_fits : (value values : DataType) (here : Ids) → value ≡ values → fit_value (ids_fit value) here ≡ true → FitsValues values here
value_fits value values (ids None below) same h = absurd (false≢true h)
value_fits value values (ids (Some id) below) same h = record {
  id = id;
  own = refl;
  below = subst (λ (t : DataType). ids_fit t (ids None below) ≡ true) same h;
}

values_fit : (x : Layer) (keys : List ℤ) (values : DataType) (here : Ids) → has_value_type x keys values ≡ true → layer_fits x here ≡ true
    → FitsValues values here
values_fit (layer.Dictionary key value is_ordered) keys values here typed h =
    value_fits value values here ((same_type-Decides value values).0 (and_parts (same_type value values) (list_all (is_key key) keys) typed).0) h
values_fit _ keys values here typed h = absurd (false≢true typed)

-- ---- the parts of a column whose ids fit

abbrev pub FitsColumn : Ids → Column → Type 0
FitsColumn here c = ids_fit (column_type c) here ≡ true

-- the ids below fit some columns
abbrev pub FitColumns : IdsList → Columns → Type 0
FitColumns below no_column = Unit {0}
FitColumns below (column_then c cs) = FitsColumn (first_ids below) c × FitColumns (other_ids below) cs

each_fits : (us : List Field) (cs : Columns) (below : IdsList) → have_types us cs ≡ true → fit_each (map (foldf fit_step) us) below ≡ true
    → FitColumns below cs
each_fits [] no_column below typed h = tt
each_fits [] (column_then c cs) below typed h = absurd (false≢true typed)
each_fits (u ∷ us) no_column below typed h = tt
each_fits (u ∷ us) (column_then c cs) no_ids typed h = absurd (false≢true h)
each_fits (u ∷ us) (column_then c cs) (ids_then first others) typed h =
    let types = and_parts (same_type u.data_type (column_type c)) (have_types us cs) typed in
    let fits = and_parts (foldf fit_step u first) (fit_each (map (foldf fit_step) us) others) h in
    (field_fits u (column_type c) first types.0 fits.0, each_fits us cs others types.1 fits.1)

below_fits : (us : List Field) (cs : Columns) (here : Ids) → have_types us cs ≡ true
    → (has_no_own here && fit_each (map (foldf fit_step) us) (ids_below here)) ≡ true → FitColumns (ids_below here) cs
below_fits us cs here typed h =
    each_fits us cs (ids_below here) typed (and_parts (has_no_own here) (fit_each (map (foldf fit_step) us) (ids_below here)) h).1

pub fits_item : (here : Ids) (t : DataType) (mask : Option (List Bool)) (offsets : List ℕ) (child : Column)
    → is_sound (lists t mask offsets child) ≡ true → ids_fit t here ≡ true → FitsColumn (first_ids (ids_below here)) child
fits_item here t mask offsets child h fit =
    items_fit (type_layer t) (column_type child) here (sound_item t mask offsets child h).0 (sym (fits_at t here) ∙ fit)

pub fits_fixed_item : (here : Ids) (t : DataType) (mask : Option (List Bool)) (size : ℕ) (child : Column)
    → is_sound (fixed_lists t mask size child) ≡ true → ids_fit t here ≡ true → FitsColumn (first_ids (ids_below here)) child
fits_fixed_item here t mask size child h fit =
    fixed_items_fit (type_layer t) size (column_type child) here (sound_fixed_item t mask size child h).0 (sym (fits_at t here) ∙ fit)

pub fits_fields : (here : Ids) (t : DataType) (mask : Option (List Bool)) (n : ℕ) (cs : Columns) → is_sound (records t mask n cs) ≡ true
    → ids_fit t here ≡ true → FitColumns (ids_below here) cs
fits_fields here t mask n cs h fit =
    let struct = struct_of (type_layer t) cs (sound_fields t mask n cs h).0 in
    below_fits struct.fields cs here struct.typed (ap (λ (x : Layer). layer_fits x here) (sym struct.is) ∙ sym (fits_at t here) ∙ fit)

pub fits_children : (here : Ids) (t : DataType) (own : List ℤ) (offsets : Option (List ℤ)) (cs : Columns)
    → is_sound (unions t own offsets cs) ≡ true → ids_fit t here ≡ true → FitColumns (ids_below here) cs
fits_children here t own offsets cs h fit =
    let union = union_of (type_layer t) offsets cs (sound_children t own offsets cs h).0 in
    below_fits union.fields cs here union.typed (ap (λ (x : Layer). layer_fits x here) (sym union.is) ∙ sym (fits_at t here) ∙ fit)

pub fits_values : (here : Ids) (t : DataType) (mask : Option (List Bool)) (keys : List ℤ) (values : Column)
    → is_sound (dictionary t mask keys values) ≡ true → ids_fit t here ≡ true → FitsValues (column_type values) here
fits_values here t mask keys values h fit =
    values_fit (type_layer t) keys (column_type values) here (sound_values t mask keys values h).0 (sym (fits_at t here) ∙ fit)

-- ---- each dictionary that is brought

-- its values are sound, and the ids below it fit them
pub record IsGood (b : Brought) : Type 0 where
  pub sound : is_sound b.values ≡ true
  pub fit : FitsColumn (ids None b.below) b.values

mutual
  pub brought_good : (here : Ids) (c : Column) → is_sound c ≡ true → FitsColumn here c → All IsGood (brought here c)
  brought_good here (nulls t n) h fit = All-nil IsGood
  brought_good here (flat t mask stored) h fit = All-nil IsGood
  brought_good here (lists t mask offsets child) h fit =
      brought_good (first_ids (ids_below here)) child (sound_item t mask offsets child h).1 (fits_item here t mask offsets child h fit)
  brought_good here (fixed_lists t mask size child) h fit =
      brought_good (first_ids (ids_below here)) child (sound_fixed_item t mask size child h).1 (fits_fixed_item here t mask size child h fit)
  brought_good here (records t mask n children) h fit =
      brought_each_good (ids_below here) children (sound_fields t mask n children h).1 (fits_fields here t mask n children h fit)
  brought_good here (unions t own offsets children) h fit =
      brought_each_good (ids_below here) children (sound_children t own offsets children h).1 (fits_children here t own offsets children h fit)
  brought_good here (dictionary t mask keys values) h fit =
      let sound = (sound_values t mask keys values h).1 in
      let below = (fits_values here t mask keys values h fit).below in
      let this : Brought = record { id = id_or_0 (own_id here); below = ids_below here; values = values } in
      All-append IsGood (brought (ids None (ids_below here)) values) (this ∷ []) (brought_good (ids None (ids_below here)) values sound below)
      (All-cons IsGood this [] (record { sound = sound; fit = below }) (All-nil IsGood))

  pub brought_each_good : (below : IdsList) (cs : Columns) → are_sound cs ≡ true → FitColumns below cs → All IsGood (brought_each below cs)
  brought_each_good below no_column h fit = All-nil IsGood
  brought_each_good below (column_then c cs) h fit =
      let sounds = and_parts (is_sound c) (are_sound cs) h in
      All-append IsGood (brought (first_ids below) c) (brought_each (other_ids below) cs) (brought_good (first_ids below) c sounds.0 fit.0)
      (brought_each_good (other_ids below) cs sounds.1 fit.1)

-- ---- the ids that are read

abbrev told : DataType → IdsTold
told = fold-DataType IdsTold (Ids → Ids) ids_step ids_field_step

-- the ids that are read beside a field, by what its type tells
abbrev read_by : IdsTold → Ids → Ids
read_by its here = ids (id_if its.is_encoded (own_id here)) (its.below (ids_below here))

abbrev ReadsType : DataType → Type 0
ReadsType t = (here : Ids) → ids_fit t here ≡ true → read_by (told t) here ≡ here

abbrev ReadsField : Field → Type 0
ReadsField u = (here : Ids) → foldf fit_step u here ≡ true → ids_of_field u here ≡ here

at_roll : (x : Layer)
    → ((here : Ids) → layer_fits x here ≡ true
    → read_by (ids_step (map-DataType DataType Field IdsTold (Ids → Ids) told ids_of_field x)) here ≡ here) → ReadsType (roll-DataType x)
at_roll x h = rw (fold-roll-DataType IdsTold (Ids → Ids) ids_step ids_field_step x, fold_roll fit_step x) h

each_read : (ys : List (FieldWith ReadsField)) (below : IdsList)
    → fit_each (map (foldf fit_step) (map (λ (e : FieldWith ReadsField). e.0) ys)) below ≡ true
    → each_ids (map ids_of_field (map (λ (e : FieldWith ReadsField). e.0) ys)) below ≡ below
each_read [] no_ids h = refl
each_read [] (ids_then first others) h = absurd (false≢true h)
each_read (y ∷ ys) no_ids h = absurd (false≢true h)
each_read (y ∷ ys) (ids_then first others) h =
    let fits = and_parts (foldf fit_step y.0 first) (fit_each (map (foldf fit_step) (map (λ (e : FieldWith ReadsField). e.0) ys)) others) h in
    λ j. ids_then (y.1 first fits.0 j) (each_read ys others fits.1 j)

-- a type without a dictionary of its own
fields_read : (ys : List (FieldWith ReadsField)) (here : Ids)
    → (has_no_own here && fit_each (map (foldf fit_step) (map (λ (e : FieldWith ReadsField). e.0) ys)) (ids_below here)) ≡ true
    → ids None (each_ids (map ids_of_field (map (λ (e : FieldWith ReadsField). e.0) ys)) (ids_below here)) ≡ here
fields_read ys (ids None below) h = ap (ids None) (each_read ys below h)
fields_read ys (ids (Some id) below) h = absurd (false≢true h)

no_fields : (here : Ids) → (has_no_own here && fit_each [] (ids_below here)) ≡ true → ids None no_ids ≡ here
no_fields (ids None no_ids) h = refl
no_fields (ids None (ids_then first others)) h = absurd (false≢true h)
no_fields (ids (Some id) below) h = absurd (false≢true h)

value_read : (value : DataType) → ReadsType value → (here : Ids) → fit_value (ids_fit value) here ≡ true
    → ids (id_if true (own_id here)) ((told value).below (ids_below here)) ≡ here
value_read value h (ids None below) fit = absurd (false≢true fit)
value_read value h (ids (Some id) below) fit = ap (λ (read : Ids). ids (Some id) (ids_below read)) (h (ids None below) fit)

roll_read : (y : LayerWith ReadsType ReadsField) → ReadsType (roll-DataType (bare_layer ReadsType ReadsField y))
roll_read (layer.List item) = at_roll (layer.List item.0) (λ (here : Ids) h. fields_read (item ∷ []) here h)
roll_read (layer.LargeList item) = at_roll (layer.LargeList item.0) (λ (here : Ids) h. fields_read (item ∷ []) here h)
roll_read (layer.FixedSizeList item size) = at_roll (layer.FixedSizeList item.0 size) (λ (here : Ids) h. fields_read (item ∷ []) here h)
roll_read (layer.Map entry is_sorted) = at_roll (layer.Map entry.0 is_sorted) (λ (here : Ids) h. fields_read (entry ∷ []) here h)
roll_read (layer.Struct children) =
    at_roll (layer.Struct (map (λ (e : FieldWith ReadsField). e.0) children)) (λ (here : Ids) h. fields_read children here h)
roll_read (layer.Union children numbers mode) =
    at_roll (layer.Union (map (λ (e : FieldWith ReadsField). e.0) children) numbers mode) (λ (here : Ids) h. fields_read children here h)
roll_read (layer.Dictionary key value is_ordered) =
    at_roll (layer.Dictionary key value.0 is_ordered) (λ (here : Ids) h. value_read value.0 value.1 here h)
roll_read (layer.Extension name inner metadata) = at_roll (layer.Extension name inner.0 metadata) (λ (here : Ids) h. inner.1 here h)
roll_read y = at_roll (bare_layer ReadsType ReadsField y) (λ (here : Ids) h. no_fields here h)

field_read : (x : layer.Field-F DataType Field) → ReadsType x.data_type → ReadsField (roll-Field x)
field_read x h (ids own below) fit =
    ap (λ (read : Ids → Ids). read (ids own below)) (fold-roll-Field IdsTold (Ids → Ids) ids_step ids_field_step x)
    ∙ h (ids own below) (ap (λ (fits : Fitting). fits (ids own below)) (sym (fold_field fit_step (roll-Field x))) ∙ fit)

type_read : (t : DataType) → ReadsType t
type_read = ind-DataType ReadsType ReadsField (λ x y is. subst (λ (x : Layer). ReadsType (roll-DataType x)) is (roll_read y))
    (λ x y is. field_read x (subst ReadsType (ap (λ (x : layer.Field-F DataType Field). x.data_type) is) y.data_type.1))

-- the ids that are read beside some fields
pub ids_are_read : (us : List Field) (below : IdsList) → ids_fit_fields us below ≡ true → each_ids (map ids_of_field us) below ≡ below
ids_are_read [] no_ids h = refl
ids_are_read [] (ids_then first others) h = absurd (false≢true h)
ids_are_read (u ∷ us) no_ids h = absurd (false≢true h)
ids_are_read (u ∷ us) (ids_then first others) h =
    let fits = and_parts (ids_fit u.data_type first) (ids_fit_fields us others) h in
    let here = field_of u first fits.0 in
    λ j. ids_then (here j) (ids_are_read us others fits.1 j)
  where
    field_of : (u : Field) (here : Ids) → ids_fit u.data_type here ≡ true → ids_of_field u here ≡ here
    field_of u here fit = subst (λ (v : Field). ids_fit v.data_type here ≡ true → ids_of_field v here ≡ here) (roll-out-Field u)
        (λ h. field_read (out-Field u) (type_read (out-Field u).data_type) here
        (ap (λ (fits : Fitting). fits here) (fold_field fit_step (roll-Field (out-Field u))) ∙ h)) fit
