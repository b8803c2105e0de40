-- The dictionaries that a column brings, each with the ids at the fields below its values: how many they are, that their values are sound,
-- and that their ids fit.
use Rattle.std.proofs.Common.{◌≡◌, ◌∙◌, ℕ, ◌+◌, ◌<◌, ◌≤◌, List, [], ◌∷◌, ◌++◌, length, map, refl, sym, ap, ap₂, Bool, true, false, arith}
use Rattle.std.proofs.Common.{length-append}
use Rattle.std.specs.Prelude.{◌==◌, ◌/◌, ◌-◌, min, ℤ, Option, Some, None, sum_by}
use Rattle.std.specs.List.{All, list_all}
use Rattle.std.proofs.lemmas.Bool.{and_parts, false≢true}
use Rattle.std.proofs.lemmas.List.{map-append}
use Rattle.std.proofs.lemmas.List.Elements.{All-nil, All-cons, All-append}
use Rattle.std.proofs.lemmas.List.Sums.{sum_by-cons}
use Rattle.columnar_memory_types.specs.Equality.{same_type, same_type-Decides}
use Rattle.ipc_format_laws.specs.columnar_memory.declared.DataType.{DataType}
use Rattle.ipc_format_laws.specs.columnar_memory.declared.DataType.TheOpen as layer
use Rattle.ipc_format_laws.specs.columnar_memory.declared.DataType.TheViews.{out-DataType}
use Rattle.ipc_format_laws.specs.columnar_memory.declared.Field.{Field}
use Rattle.ipc_format_laws.specs.columnar_memory.declared.UnionMode.{UnionMode}
use Rattle.ipc_format_laws.specs.columnar_memory.declared.UnionMode.TheVariants as modes
use Rattle.ipc_format_laws.specs.columnar_memory.Layouts.{physical_type}
use Rattle.ipc_format_laws.specs.columns.Kinds.{is_signed, is_key, most_offset}
use Rattle.ipc_format_laws.specs.columns.StoredColumns.{Stored, Column, Columns, nulls, flat, lists, fixed_lists, records, unions, dictionary}
use Rattle.ipc_format_laws.specs.columns.StoredColumns.{no_column, column_then, column_type, column_len, stored_len, type_layer, slots}
use Rattle.ipc_format_laws.specs.columns.SoundColumns.{holds_below, mask_fits, are_offsets, are_pieces, is_stored_as, has_size, is_null_type}
use Rattle.ipc_format_laws.specs.columns.SoundColumns.{is_entry, has_item_type, has_fixed_item_type, has_value_type, have_types, has_field_types}
use Rattle.ipc_format_laws.specs.columns.SoundColumns.{has_an_id_each, has_child_types, have_len, has_value_at, has_child_at, has_places}
use Rattle.ipc_format_laws.specs.columns.SoundColumns.{is_sound, are_sound}
use Rattle.ipc_format_laws.proofs.columns_lemmas.Conditions.{parts_of_3, parts_of_4, parts_of_5}
use Rattle.ipc_format_laws.proofs.columns_lemmas.TypeLayers.{is_extension, layer_layout, layout_is}
use Rattle.ipc_format_laws.specs.grammar.Schemas.{Ids, IdsList, ids}
use Rattle.ipc_format_laws.specs.grammar.Columns.{first_ids, other_ids, ids_below, own_id}
use Rattle.ipc_format_laws.specs.grammar.StoredEncoding.{encode_stored}
use Rattle.ipc_format_laws.specs.grammar.GivenDictionaries.{Given, id_or_0, given_stored, given_each}
use Rattle.ipc_format_laws.specs.grammar.Writable.{Report, report_step, report_of}
use Rattle.ipc_format_reading_laws.specs.NormalColumns.{normal_column, normal_columns}
use Rattle.ipc_format_reading_laws.proofs.NormalColumnsLayers.{Layer}
use Rattle.ipc_format_reading_laws.proofs.StoredGivenFolds.{foldf, at_layer, fold_field, fold_at_layer, none_left}

-- ---- what is brought

-- a dictionary that a column brings: its id, the ids at the fields below its values, and the column of its values
pub record Brought : Type 0 where
  pub id : ℤ
  pub below : IdsList
  pub values : Column

abbrev pub given_of : Brought → Given
given_of b = record { id = b.id; data_type = column_type b.values; slots = slots b.values; column = encode_stored true b.values }

abbrev mutual
  pub brought : Ids → Column → List Brought
  brought here (nulls data_type n) = []
  brought here (flat data_type mask stored) = []
  brought here (lists data_type mask offsets child) = brought (first_ids (ids_below here)) child
  brought here (fixed_lists data_type mask size child) = brought (first_ids (ids_below here)) child
  brought here (records data_type mask n children) = brought_each (ids_below here) children
  brought here (unions data_type type_ids offsets children) = brought_each (ids_below here) children
  brought here (dictionary data_type mask keys values) =
      brought (ids None (ids_below here)) values ++ record { id = id_or_0 (own_id here); below = ids_below here; values = values } ∷ []

  pub brought_each : IdsList → Columns → List Brought
  brought_each below no_column = []
  brought_each below (column_then column columns) = brought (first_ids below) column ++ brought_each (other_ids below) columns

mutual
  pub given_brought : (here : Ids) (c : Column) → map given_of (brought here c) ≡ given_stored here c
  given_brought here (nulls data_type n) = refl
  given_brought here (flat data_type mask stored) = refl
  given_brought here (lists data_type mask offsets child) = given_brought (first_ids (ids_below here)) child
  given_brought here (fixed_lists data_type mask size child) = given_brought (first_ids (ids_below here)) child
  given_brought here (records data_type mask n children) = given_brought_each (ids_below here) children
  given_brought here (unions data_type type_ids offsets children) = given_brought_each (ids_below here) children
  given_brought here (dictionary data_type mask keys values) =
      let this : Brought = record { id = id_or_0 (own_id here); below = ids_below here; values = values } in
      map-append given_of (brought (ids None (ids_below here)) values) (this ∷ [])
      ∙ ap (λ (inner : List Given). inner ++ given_of this ∷ []) (given_brought (ids None (ids_below here)) values)

  pub given_brought_each : (below : IdsList) (cs : Columns) → map given_of (brought_each below cs) ≡ given_each below cs
  given_brought_each below no_column = refl
  given_brought_each below (column_then c cs) =
      map-append given_of (brought (first_ids below) c) (brought_each (other_ids below) cs)
      ∙ ap₂ (λ (a b : List Given). a ++ b) (given_brought (first_ids below) c) (given_brought_each (other_ids below) cs)

-- the same under normalised types
abbrev pub normal_brought : Brought → Brought
normal_brought b = record { id = b.id; below = b.below; values = normal_column b.values }

mutual
  pub brought_normal : (here : Ids) (c : Column) → brought here (normal_column c) ≡ map normal_brought (brought here c)
  brought_normal here (nulls data_type n) = refl
  brought_normal here (flat data_type mask stored) = refl
  brought_normal here (lists data_type mask offsets child) = brought_normal (first_ids (ids_below here)) child
  brought_normal here (fixed_lists data_type mask size child) = brought_normal (first_ids (ids_below here)) child
  brought_normal here (records data_type mask n children) = brought_each_normal (ids_below here) children
  brought_normal here (unions data_type type_ids offsets children) = brought_each_normal (ids_below here) children
  brought_normal here (dictionary data_type mask keys values) =
      let this : Brought = record { id = id_or_0 (own_id here); below = ids_below here; values = values } in
      ap (λ (inner : List Brought). inner ++ normal_brought this ∷ []) (brought_normal (ids None (ids_below here)) values)
      ∙ sym (map-append normal_brought (brought (ids None (ids_below here)) values) (this ∷ []))

  pub brought_each_normal : (below : IdsList) (cs : Columns) → brought_each below (normal_columns cs) ≡ map normal_brought (brought_each below cs)
  brought_each_normal below no_column = refl
  brought_each_normal below (column_then c cs) =
      ap₂ (λ (a b : List Brought). a ++ b) (brought_normal (first_ids below) c) (brought_each_normal (other_ids below) cs)
      ∙ sym (map-append normal_brought (brought (first_ids below) c) (brought_each (other_ids below) cs))

-- ---- the parts of a sound column

pub sound_item : (t : DataType) (mask : Option (List Bool)) (offsets : List ℕ) (child : Column) → is_sound (lists t mask offsets child) ≡ true
    → (has_item_type (type_layer t) (column_type child) ≡ true) × (is_sound child ≡ true)
sound_item t mask offsets child h =
    let parts = parts_of_4 (has_item_type (type_layer t) (column_type child))
    (are_offsets offsets (min (most_offset (physical_type t)) (column_len child))) (mask_fits mask (length offsets - 1)) (is_sound child) h in
    (parts.0, parts.3)

pub sound_fixed_item : (t : DataType) (mask : Option (List Bool)) (size : ℕ) (child : Column) → is_sound (fixed_lists t mask size child) ≡ true
    → (has_fixed_item_type (type_layer t) size (column_type child) ≡ true) × (is_sound child ≡ true)
sound_fixed_item t mask size child h =
    let parts = parts_of_4 (has_fixed_item_type (type_layer t) size (column_type child)) (are_pieces size (column_len child))
    (mask_fits mask (column_len child / size)) (is_sound child) h in
    (parts.0, parts.3)

pub sound_fields : (t : DataType) (mask : Option (List Bool)) (n : ℕ) (cs : Columns) → is_sound (records t mask n cs) ≡ true
    → (has_field_types (type_layer t) cs ≡ true) × (are_sound cs ≡ true)
sound_fields t mask n cs h =
    let parts = parts_of_4 (has_field_types (type_layer t) cs) (have_len cs n) (mask_fits mask n) (are_sound cs) h in
    (parts.0, parts.3)

pub sound_children : (t : DataType) (own : List ℤ) (offsets : Option (List ℤ)) (cs : Columns) → is_sound (unions t own offsets cs) ≡ true
    → (has_child_types (type_layer t) offsets cs ≡ true) × (are_sound cs ≡ true)
sound_children t own offsets cs h =
    let parts = parts_of_5 (has_child_types (type_layer t) offsets cs) (list_all (is_signed 8) own) (has_places own offsets cs)
    (holds_below (length own) (has_child_at (type_layer t) own offsets cs)) (are_sound cs) h in
    (parts.0, parts.4)

pub sound_values : (t : DataType) (mask : Option (List Bool)) (keys : List ℤ) (values : Column)
    → is_sound (dictionary t mask keys values) ≡ true
    → (has_value_type (type_layer t) keys (column_type values) ≡ true) × (is_sound values ≡ true)
sound_values t mask keys values h =
    let parts = parts_of_4 (has_value_type (type_layer t) keys (column_type values)) (mask_fits mask (length keys))
    (holds_below (length keys) (has_value_at mask keys (column_len values))) (is_sound values) h in
    (parts.0, parts.3)

-- the layer of a column without children
pub sound_flat : (t : DataType) (mask : Option (List Bool)) (stored : Stored) → is_sound (flat t mask stored) ≡ true
    → is_stored_as (layer_layout (type_layer t)) stored ≡ true
sound_flat t mask stored h =
    let parts = parts_of_3 (is_stored_as (physical_type t) stored) (has_size (type_layer t) stored) (mask_fits mask (stored_len stored)) h in
    ap (λ p. is_stored_as p stored) (sym (layout_is t)) ∙ parts.0

-- ---- how many they are

abbrev pub dictionaries_in : DataType → ℕ
dictionaries_in t = (report_of t).dictionaries

abbrev layer_count : Layer → ℕ
layer_count x = (at_layer report_step x).dictionaries

abbrev count_of : List Field → ℕ
count_of us = sum_by (λ (report : Report). report.dictionaries) (map (foldf report_step) us)

count_at : (t : DataType) → dictionaries_in t ≡ layer_count (type_layer t)
count_at t = fold_at_layer report_step (λ (report : Report). report.dictionaries)
    (λ (name : List ℕ) (inner : Report) (metadata : Option (List ℕ)). refl) t

field_count : (u : Field) (t : DataType) → same_type u.data_type t ≡ true → (foldf report_step u).dictionaries ≡ dictionaries_in t
field_count u t h = ap (λ (report : Report). report.dictionaries) (fold_field report_step u ∙ ap report_of ((same_type-Decides u.data_type t).0 h))

no_count : (x : Layer) → is_null_type x ≡ true → layer_count x ≡ 0
no_count layer.Null h = refl
no_count _ h = absurd (false≢true h)

true≢false : true ≡ false → ⊥
true≢false e = absurd cc

flat_count : (x : Layer) (stored : Stored) → is_extension x ≡ false → is_stored_as (layer_layout x) stored ≡ true → layer_count x ≡ 0
flat_count (layer.List item) stored plain h = absurd (false≢true h)
flat_count (layer.LargeList item) stored plain h = absurd (false≢true h)
flat_count (layer.FixedSizeList item size) stored plain h = absurd (false≢true h)
flat_count (layer.Map entry is_sorted) stored plain h = absurd (false≢true h)
flat_count (layer.Struct children) stored plain h = absurd (false≢true h)
flat_count (layer.Union children numbers mode) stored plain h = absurd (false≢true h)
flat_count (layer.Dictionary key value is_ordered) stored plain h = absurd (false≢true h)
flat_count (layer.Extension name inner metadata) stored plain h = absurd (true≢false plain)
flat_count _ stored plain h = refl

items_count : (x : Layer) (child : DataType) → has_item_type x child ≡ true → layer_count x ≡ dictionaries_in child
items_count (layer.List item) child h = field_count item child h
items_count (layer.LargeList item) child h = field_count item child h
items_count (layer.Map entry is_sorted) child h =
    field_count entry child (and_parts (same_type entry.data_type child) (is_entry (out-DataType child)) h).0
items_count _ child h = absurd (false≢true h)

fixed_items_count : (x : Layer) (size : ℕ) (child : DataType) → has_fixed_item_type x size child ≡ true → layer_count x ≡ dictionaries_in child
fixed_items_count (layer.FixedSizeList item own) size child h =
    field_count item child (and_parts (own == size) (same_type item.data_type child) h).1
fixed_items_count _ size child h = absurd (false≢true h)

values_count : (x : Layer) (keys : List ℤ) (values : DataType) → has_value_type x keys values ≡ true
    → layer_count x ≡ dictionaries_in values + 1
values_count (layer.Dictionary key value is_ordered) keys values h =
    ap (λ (t : DataType). dictionaries_in t + 1)
    ((same_type-Decides value values).0 (and_parts (same_type value values) (list_all (is_key key) keys) h).0)
values_count _ keys values h = absurd (false≢true h)

-- the fields of a struct, whose types its children have
pub record StructOf (x : Layer) (cs : Columns) : Type 0 where
  pub fields : List Field
  pub is : x ≡ layer.Struct fields
  pub typed : have_types fields cs ≡ true

pub struct_of : (x : Layer) (cs : Columns) → has_field_types x cs ≡ true → StructOf x cs
struct_of (layer.Struct []) cs h = absurd (false≢true h)
struct_of (layer.Struct (u ∷ us)) cs h = record { fields = u ∷ us; is = refl; typed = h }
struct_of _ cs h = absurd (false≢true h)

-- the fields of a union
pub record UnionOf (x : Layer) (offsets : Option (List ℤ)) (cs : Columns) : Type 0 where
  pub fields : List Field
  pub numbers : Option (List ℤ)
  pub mode : UnionMode
  pub is : x ≡ layer.Union fields numbers mode
  pub typed : have_types fields cs ≡ true

pub union_of : (x : Layer) (offsets : Option (List ℤ)) (cs : Columns) → has_child_types x offsets cs ≡ true → UnionOf x offsets cs
union_of (layer.Union us numbers modes.Sparse) None cs h = record {
  fields = us;
  numbers = numbers;
  mode = modes.Sparse;
  is = refl;
  typed = (and_parts (has_an_id_each numbers (length us)) (have_types us cs) h).1;
}
union_of (layer.Union us numbers modes.Dense) (Some offsets) cs h = record {
  fields = us;
  numbers = numbers;
  mode = modes.Dense;
  is = refl;
  typed = (and_parts (has_an_id_each numbers (length us)) (have_types us cs) h).1;
}
union_of _ offsets cs h = absurd (false≢true h)

mutual
  -- a sound column brings as many dictionaries as its type has
  pub brought_count : (here : Ids) (c : Column) → is_sound c ≡ true → length (brought here c) ≡ dictionaries_in (column_type c)
  brought_count here (nulls t n) h = sym (count_at t ∙ no_count (type_layer t) h)
  brought_count here (flat t mask stored) h =
      sym (count_at t ∙ flat_count (type_layer t) stored (none_left t) (sound_flat t mask stored h))
  brought_count here (lists t mask offsets child) h =
      let parts = sound_item t mask offsets child h in
      brought_count (first_ids (ids_below here)) child parts.1 ∙ sym (count_at t ∙ items_count (type_layer t) (column_type child) parts.0)
  brought_count here (fixed_lists t mask size child) h =
      let parts = sound_fixed_item t mask size child h in
      brought_count (first_ids (ids_below here)) child parts.1
      ∙ sym (count_at t ∙ fixed_items_count (type_layer t) size (column_type child) parts.0)
  brought_count here (records t mask n children) h =
      let parts = sound_fields t mask n children h in
      let struct = struct_of (type_layer t) children parts.0 in
      brought_each_count (ids_below here) struct.fields children struct.typed parts.1 ∙ sym (count_at t ∙ ap layer_count struct.is)
  brought_count here (unions t own offsets children) h =
      let parts = sound_children t own offsets children h in
      let union = union_of (type_layer t) offsets children parts.0 in
      brought_each_count (ids_below here) union.fields children union.typed parts.1 ∙ sym (count_at t ∙ ap layer_count union.is)
  brought_count here (dictionary t mask keys values) h =
      let parts = sound_values t mask keys values h in
      let inner = brought (ids None (ids_below here)) values in
      let this : Brought = record { id = id_or_0 (own_id here); below = ids_below here; values = values } in
      let total : length (inner ++ this ∷ []) ≡ length inner + 1 = length-append inner (this ∷ []) in
      let counted = count_at t ∙ values_count (type_layer t) keys (column_type values) parts.0 in
      omega (arith, total, counted, brought_count (ids None (ids_below here)) values parts.1)

  pub brought_each_count : (below : IdsList) (us : List Field) (cs : Columns) → have_types us cs ≡ true → are_sound cs ≡ true
      → length (brought_each below cs) ≡ count_of us
  brought_each_count below [] no_column typed h = refl
  brought_each_count below [] (column_then c cs) typed h = absurd (false≢true typed)
  brought_each_count below (u ∷ us) no_column typed h = absurd (false≢true typed)
  brought_each_count below (u ∷ us) (column_then c cs) typed h =
      let types = and_parts (same_type u.data_type (column_type c)) (have_types us cs) typed in
      let sounds = and_parts (is_sound c) (are_sound cs) h in
      let here = brought_count (first_ids below) c sounds.0 ∙ sym (field_count u (column_type c) types.0) in
      let others = brought_each_count (other_ids below) us cs types.1 sounds.1 in
      let total = length-append (brought (first_ids below) c) (brought_each (other_ids below) cs) in
      let sum = sum_by-cons (λ (report : Report). report.dictionaries) (foldf report_step u) (map (foldf report_step) us) in
      omega (arith, here, others, total, sum)

-- ---- each has fewer dictionaries within it than the column

abbrev pub FewerThan : ℕ → List Brought → Type 0
FewerThan n bs = All (λ (b : Brought). dictionaries_in (column_type b.values) < n) bs

fewer_still : (m n : ℕ) (bs : List Brought) → m ≤ n → FewerThan m bs → FewerThan n bs
fewer_still m n bs le fewer = λ (k : ℕ) (d : Brought) (inside : k < length bs). omega (arith, fewer k d inside)

mutual
  pub fewer_within : (here : Ids) (c : Column) → is_sound c ≡ true → FewerThan (dictionaries_in (column_type c)) (brought here c)
  fewer_within here (nulls t n) h = All-nil (λ (b : Brought). dictionaries_in (column_type b.values) < dictionaries_in t)
  fewer_within here (flat t mask stored) h = All-nil (λ (b : Brought). dictionaries_in (column_type b.values) < dictionaries_in t)
  fewer_within here (lists t mask offsets child) h =
      let parts = sound_item t mask offsets child h in
      let counted = count_at t ∙ items_count (type_layer t) (column_type child) parts.0 in
      fewer_still (dictionaries_in (column_type child)) (dictionaries_in t) (brought (first_ids (ids_below here)) child) (omega (arith, counted))
      (fewer_within (first_ids (ids_below here)) child parts.1)
  fewer_within here (fixed_lists t mask size child) h =
      let parts = sound_fixed_item t mask size child h in
      let counted = count_at t ∙ fixed_items_count (type_layer t) size (column_type child) parts.0 in
      fewer_still (dictionaries_in (column_type child)) (dictionaries_in t) (brought (first_ids (ids_below here)) child) (omega (arith, counted))
      (fewer_within (first_ids (ids_below here)) child parts.1)
  fewer_within here (records t mask n children) h =
      let parts = sound_fields t mask n children h in
      let struct = struct_of (type_layer t) children parts.0 in
      let counted = count_at t ∙ ap layer_count struct.is in
      fewer_still (count_of struct.fields) (dictionaries_in t) (brought_each (ids_below here) children) (omega (arith, counted))
      (fewer_within_each (ids_below here) struct.fields children struct.typed parts.1)
  fewer_within here (unions t own offsets children) h =
      let parts = sound_children t own offsets children h in
      let union = union_of (type_layer t) offsets children parts.0 in
      let counted = count_at t ∙ ap layer_count union.is in
      fewer_still (count_of union.fields) (dictionaries_in t) (brought_each (ids_below here) children) (omega (arith, counted))
      (fewer_within_each (ids_below here) union.fields children union.typed parts.1)
  fewer_within here (dictionary t mask keys values) h =
      let parts = sound_values t mask keys values h in
      let inner = brought (ids None (ids_below here)) values in
      let this : Brought = record { id = id_or_0 (own_id here); below = ids_below here; values = values } in
      let counted = count_at t ∙ values_count (type_layer t) keys (column_type values) parts.0 in
      let Few : Brought → Type 0 = λ (b : Brought). dictionaries_in (column_type b.values) < dictionaries_in t in
      All-append Few inner (this ∷ [])
      (fewer_still (dictionaries_in (column_type values)) (dictionaries_in t) inner (omega (arith, counted))
      (fewer_within (ids None (ids_below here)) values parts.1))
      (All-cons Few this [] (omega (arith, counted)) (All-nil Few))

  pub fewer_within_each : (below : IdsList) (us : List Field) (cs : Columns) → have_types us cs ≡ true → are_sound cs ≡ true
      → FewerThan (count_of us) (brought_each below cs)
  fewer_within_each below [] no_column typed h = All-nil (λ (b : Brought). dictionaries_in (column_type b.values) < count_of [])
  fewer_within_each below [] (column_then c cs) typed h = absurd (false≢true typed)
  fewer_within_each below (u ∷ us) no_column typed h = absurd (false≢true typed)
  fewer_within_each below (u ∷ us) (column_then c cs) typed h =
      let types = and_parts (same_type u.data_type (column_type c)) (have_types us cs) typed in
      let sounds = and_parts (is_sound c) (are_sound cs) h in
      let counted = field_count u (column_type c) types.0 in
      let sum = sum_by-cons (λ (report : Report). report.dictionaries) (foldf report_step u) (map (foldf report_step) us) in
      let first = brought (first_ids below) c in
      let others = brought_each (other_ids below) cs in
      All-append (λ (b : Brought). dictionaries_in (column_type b.values) < count_of (u ∷ us)) first others
      (fewer_still (dictionaries_in (column_type c)) (count_of (u ∷ us)) first (omega (arith, counted, sum))
      (fewer_within (first_ids below) c sounds.0))
      (fewer_still (count_of us) (count_of (u ∷ us)) others (omega (arith, sum)) (fewer_within_each (other_ids below) us cs types.1 sounds.1))
