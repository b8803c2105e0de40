-- By which values a dictionary of an id is read: those of the first one with the id that some columns bring, where those of one id have as
-- many dictionaries within them.
use Rattle.std.proofs.Common.{◌≡◌, ◌∙◌, ℕ, ◌<◌, List, [], ◌∷◌, ◌++◌, map, refl, sym, ap, subst, Bool, true, false, arith}
use Rattle.std.specs.Prelude.{◌==◌, ℤ, Option, Some, None, if◌then◌else◌}
use Rattle.std.specs.List.{list_all}
use Rattle.std.specs.Ordering.{int_eq}
use Rattle.std.specs.Cmp.{signed_Decides}
use Rattle.std.proofs.lemmas.Bool.{and_parts, false≢true, true≢false}
use Rattle.columnar_memory_types.specs.Equality.{same_type, same_type-Decides}
use Rattle.ipc_format_laws.specs.columnar_memory.declared.DataType.{DataType, map-DataType}
use Rattle.ipc_format_laws.specs.columnar_memory.declared.DataType.TheOpen as layer
use Rattle.ipc_format_laws.specs.columnar_memory.declared.DataType.TheViews.{roll-DataType, out-DataType, out-Field, roll-out-Field}
use Rattle.ipc_format_laws.specs.columnar_memory.declared.DataType.TheFolds.{para-Field, para-roll-DataType, para-roll-Field, ind-DataType}
use Rattle.ipc_format_laws.specs.columnar_memory.declared.Field.{Field}
use Rattle.ipc_format_laws.specs.columnar_memory.declared.IntegerType.{IntegerType}
use Rattle.ipc_format_laws.specs.columns.Kinds.{is_key}
use Rattle.ipc_format_laws.specs.columns.StoredColumns.{Stored, Column, Columns, nulls, flat, lists, fixed_lists, records, unions, dictionary}
use Rattle.ipc_format_laws.specs.columns.StoredColumns.{no_column, column_then, column_type, type_layer}
use Rattle.ipc_format_laws.specs.columns.SoundColumns.{is_null_type, is_entry, is_stored_as, has_item_type, has_fixed_item_type, has_value_type}
use Rattle.ipc_format_laws.specs.columns.SoundColumns.{have_types, is_sound, are_sound}
use Rattle.ipc_format_laws.proofs.columns_lemmas.Claims.{LayerWith, NoClaim, bare_layer}
use Rattle.ipc_format_laws.proofs.columns_lemmas.TypeLayers.{is_extension, layer_itself, layer_within, layer_layout}
use Rattle.ipc_format_laws.specs.grammar.Schemas.{Ids, IdsList, ids}
use Rattle.ipc_format_laws.specs.grammar.Columns.{first_ids, other_ids, ids_below, own_id}
use Rattle.ipc_format_laws.specs.grammar.Dictionaries.{Values, Finder, or_else, first_found, values_if, find_step, find_field_step, values_in}
use Rattle.ipc_format_laws.specs.grammar.GivenDictionaries.{id_or_0}
use Rattle.ipc_format_reading_laws.proofs.NormalColumnsLayers.{Layer}
use Rattle.ipc_format_reading_laws.proofs.StoredGivenFolds.{none_left}
use Rattle.ipc_format_reading_laws.proofs.StoredGivenLists.{Each, all_each, each_front, each_back, not_true}
use Rattle.ipc_format_reading_laws.proofs.StoredGivenBrought.{Brought, brought, brought_each, sound_item, sound_fixed_item, sound_fields}
use Rattle.ipc_format_reading_laws.proofs.StoredGivenBrought.{sound_children, sound_values, sound_flat, struct_of, union_of, dictionaries_in}
use Rattle.ipc_format_reading_laws.proofs.StoredGivenBrought.{fewer_within}
use Rattle.ipc_format_reading_laws.proofs.StoredGivenFits.{FitsColumn, FitColumns, fits_item, fits_fixed_item, fits_fields, fits_children}
use Rattle.ipc_format_reading_laws.proofs.StoredGivenFits.{fits_values}

-- ---- what finds values, by the layer of a type

abbrev find_field : Field → Finder
find_field = para-Field Finder Finder find_step find_field_step

abbrev layer_finds : Layer → Finder
layer_finds x = find_step (map-DataType DataType Field (DataType × Finder) (Field × Finder) (λ t. (t, values_in t)) (λ u. (u, find_field u)) x)

abbrev FindsAt : DataType → Type 0
FindsAt t = (k : ℤ) (here : Ids) → values_in t k here ≡ layer_finds (type_layer t) k here

plain_finds : (x : Layer) → is_extension x ≡ false → FindsAt (roll-DataType x)
plain_finds x plain k here =
    ap (λ (finds : Finder). finds k here) (para-roll-DataType Finder Finder find_step find_field_step x)
    ∙ ap (λ (x : Layer). layer_finds x k here) (sym (layer_itself x plain))

roll_finds : (y : LayerWith FindsAt NoClaim) → FindsAt (roll-DataType (bare_layer FindsAt NoClaim y))
roll_finds (layer.Extension name inner metadata) = λ (k : ℤ) (here : Ids).
    ap (λ (finds : Finder). finds k here) (para-roll-DataType Finder Finder find_step find_field_step (layer.Extension name inner.0 metadata))
    ∙ inner.1 k here ∙ ap (λ (x : Layer). layer_finds x k here) (sym (layer_within name inner.0 metadata))
roll_finds y = plain_finds (bare_layer FindsAt NoClaim y) refl

finds_at : (t : DataType) → FindsAt t
finds_at = ind-DataType FindsAt NoClaim (λ x y is. subst (λ (x : Layer). FindsAt (roll-DataType x)) is (roll_finds y)) (λ x y is. tt)

field_finds : (u : Field) (t : DataType) (k : ℤ) (here : Ids) → same_type u.data_type t ≡ true → find_field u k here ≡ values_in t k here
field_finds u t k here same =
    subst (λ (v : Field). find_field v k here ≡ values_in v.data_type k here) (roll-out-Field u)
    (ap (λ (finds : Finder). finds k here) (para-roll-Field Finder Finder find_step find_field_step (out-Field u)))
    ∙ ap (λ (s : DataType). values_in s k here) ((same_type-Decides u.data_type t).0 same)

-- ---- the first of some dictionaries with an id

abbrev pub first_with : ℤ → List Brought → Option Brought
first_with k [] = None
first_with k (b ∷ bs) = if int_eq k b.id then Some b else first_with k bs

abbrev pub found_in : Option Brought → Option Values
found_in None = None
found_in (Some b) = Some (record { data_type = column_type b.values; below = b.below })

abbrev pub first_values : ℤ → List Brought → Option Values
first_values k bs = found_in (first_with k bs)

or_none : {A : Type 0} (x : Option A) → or_else x None ≡ x
or_none None = refl
or_none (Some x) = refl

first_if : (test : Bool) (b : Brought) (r s : Option Brought) (y : Option Values) → found_in r ≡ or_else (found_in s) y
    → found_in (if test then Some b else r) ≡ or_else (found_in (if test then Some b else s)) y
first_if true b r s y e = refl
first_if false b r s y e = e

pub first_more : (k : ℤ) (xs ys : List Brought) → first_values k (xs ++ ys) ≡ or_else (first_values k xs) (first_values k ys)
first_more k [] ys = refl
first_more k (x ∷ xs) ys =
    first_if (int_eq k x.id) x (first_with k (xs ++ ys)) (first_with k xs) (first_values k ys) (first_more k xs ys)

-- ---- dictionaries of one id have as many dictionaries within them

abbrev pub IsAlike : Brought → Brought → Type 0
IsAlike a b = a.id ≡ b.id → dictionaries_in (column_type a.values) ≡ dictionaries_in (column_type b.values)

abbrev pub Alike : List Brought → Type 0
Alike [] = Unit {0}
Alike (b ∷ bs) = Each (IsAlike b) bs × Alike bs

pub alike_front : (xs ys : List Brought) → Alike (xs ++ ys) → Alike xs
alike_front [] ys h = tt
alike_front (x ∷ xs) ys h = (each_front (IsAlike x) xs ys h.0, alike_front xs ys h.1)

pub alike_back : (xs ys : List Brought) → Alike (xs ++ ys) → Alike ys
alike_back [] ys h = h
alike_back (x ∷ xs) ys h = alike_back xs ys h.1

-- those before a last one
alike_last : (xs : List Brought) (y : Brought) → Alike (xs ++ y ∷ []) → Each (λ (x : Brought). IsAlike x y) xs
alike_last [] y h = tt
alike_last (x ∷ xs) y h = ((each_back (IsAlike x) xs (y ∷ []) h.0).0, alike_last xs y h.1)

less_is_not : (m n : ℕ) → m ≡ n → m < n → ⊥
less_is_not m n e lt = omega arith

-- none of those with fewer dictionaries within them has the id
none_with : (k : ℤ) (y : Brought) (xs : List Brought) → int_eq k y.id ≡ true → Each (λ (x : Brought). IsAlike x y) xs
    → Each (λ (x : Brought). dictionaries_in (column_type x.values) < dictionaries_in (column_type y.values)) xs → first_values k xs ≡ None
none_with k y [] is alike fewer = refl
none_with k y (x ∷ xs) is alike fewer =
    let other : int_eq k x.id ≡ false = not_true (int_eq k x.id) (λ same.
    less_is_not (dictionaries_in (column_type x.values)) (dictionaries_in (column_type y.values))
    (alike.0 (sym ((signed_Decides k x.id).0 same) ∙ (signed_Decides k y.id).0 is)) fewer.0) in
    ap (λ (test : Bool). found_in (if test then Some x else first_with k xs)) other ∙ none_with k y xs is alike.1 fewer.1

-- ---- one layer

no_values : (x : Layer) (k : ℤ) (here : Ids) → is_null_type x ≡ true → layer_finds x k here ≡ None
no_values layer.Null k here h = refl
no_values _ k here h = absurd (false≢true h)

flat_values : (x : Layer) (stored : Stored) (k : ℤ) (here : Ids) → is_extension x ≡ false → is_stored_as (layer_layout x) stored ≡ true
    → layer_finds x k here ≡ None
flat_values (layer.List item) stored k here plain h = absurd (false≢true h)
flat_values (layer.LargeList item) stored k here plain h = absurd (false≢true h)
flat_values (layer.FixedSizeList item size) stored k here plain h = absurd (false≢true h)
flat_values (layer.Map entry is_sorted) stored k here plain h = absurd (false≢true h)
flat_values (layer.Struct children) stored k here plain h = absurd (false≢true h)
flat_values (layer.Union children numbers mode) stored k here plain h = absurd (false≢true h)
flat_values (layer.Dictionary key value is_ordered) stored k here plain h = absurd (false≢true h)
flat_values (layer.Extension name inner metadata) stored k here plain h = absurd (true≢false plain)
flat_values _ stored k here plain h = refl

item_values : (u : Field) (t : DataType) (k : ℤ) (below : IdsList) → same_type u.data_type t ≡ true
    → first_found ((u, find_field u) ∷ []) k below ≡ values_in t k (first_ids below)
item_values u t k below same = or_none (find_field u k (first_ids below)) ∙ field_finds u t k (first_ids below) same

items_values : (x : Layer) (child : DataType) (k : ℤ) (here : Ids) → has_item_type x child ≡ true
    → layer_finds x k here ≡ values_in child k (first_ids (ids_below here))
items_values (layer.List item) child k here h = item_values item child k (ids_below here) h
items_values (layer.LargeList item) child k here h = item_values item child k (ids_below here) h
items_values (layer.Map entry is_sorted) child k here h =
    item_values entry child k (ids_below here) (and_parts (same_type entry.data_type child) (is_entry (out-DataType child)) h).0
items_values _ child k here h = absurd (false≢true h)

fixed_items_values : (x : Layer) (size : ℕ) (child : DataType) (k : ℤ) (here : Ids) → has_fixed_item_type x size child ≡ true
    → layer_finds x k here ≡ values_in child k (first_ids (ids_below here))
fixed_items_values (layer.FixedSizeList item own) size child k here h =
    item_values item child k (ids_below here) (and_parts (own == size) (same_type item.data_type child) h).1
fixed_items_values _ size child k here h = absurd (false≢true h)

-- the values of a dictionary, or those within them
abbrev own_or_within : ℤ → DataType → IdsList → ℤ → Option Values
own_or_within id values below k =
    or_else (values_if (Some id) k (record { data_type = values; below = below })) (values_in values k (ids None below))

value_values : (key : IntegerType) (is_ordered : Bool) (value values : DataType) (k : ℤ) (here : Ids) (id : ℤ) → value ≡ values
    → own_id here ≡ Some id → layer_finds (layer.Dictionary key value is_ordered) k here ≡ own_or_within id values (ids_below here) k
value_values key is_ordered value values k (ids own below) id same is =
    λ j. or_else (values_if (is j) k (record { data_type = same j; below = below })) (values_in (same j) k (ids None below))

values_values : (x : Layer) (keys : List ℤ) (values : DataType) (k : ℤ) (here : Ids) (id : ℤ) → has_value_type x keys values ≡ true
    → own_id here ≡ Some id → layer_finds x k here ≡ own_or_within id values (ids_below here) k
values_values (layer.Dictionary key value is_ordered) keys values k here id h is = value_values key is_ordered value values k here id
    ((same_type-Decides value values).0 (and_parts (same_type value values) (list_all (is_key key) keys) h).0) is
values_values _ keys values k here id h is = absurd (false≢true h)

-- where none within has the id, it is the same in which order they are asked
either_order : (test : Bool) (b : Brought) (within : Option Values) → (test ≡ true → within ≡ None)
    → or_else (if test then Some (record { data_type = column_type b.values; below = b.below }) else None) within
    ≡ or_else within (found_in (if test then Some b else None))
either_order true b within none =
    ap (λ (w : Option Values). or_else w (Some (record { data_type = column_type b.values; below = b.below }))) (sym (none refl))
either_order false b within none = sym (or_none within)

-- ---- columns

mutual
  pub found_first : (here : Ids) (c : Column) (k : ℤ) → is_sound c ≡ true → FitsColumn here c → Alike (brought here c)
      → values_in (column_type c) k here ≡ first_values k (brought here c)
  found_first here (nulls t n) k h fit alike = finds_at t k here ∙ no_values (type_layer t) k here h
  found_first here (flat t mask stored) k h fit alike =
      finds_at t k here ∙ flat_values (type_layer t) stored k here (none_left t) (sound_flat t mask stored h)
  found_first here (lists t mask offsets child) k h fit alike =
      let parts = sound_item t mask offsets child h in
      finds_at t k here ∙ items_values (type_layer t) (column_type child) k here parts.0
      ∙ found_first (first_ids (ids_below here)) child k parts.1 (fits_item here t mask offsets child h fit) alike
  found_first here (fixed_lists t mask size child) k h fit alike =
      let parts = sound_fixed_item t mask size child h in
      finds_at t k here ∙ fixed_items_values (type_layer t) size (column_type child) k here parts.0
      ∙ found_first (first_ids (ids_below here)) child k parts.1 (fits_fixed_item here t mask size child h fit) alike
  found_first here (records t mask n children) k h fit alike =
      let parts = sound_fields t mask n children h in
      let struct = struct_of (type_layer t) children parts.0 in
      finds_at t k here ∙ ap (λ (x : Layer). layer_finds x k here) struct.is
      ∙ found_each (ids_below here) struct.fields children k struct.typed parts.1 (fits_fields here t mask n children h fit) alike
  found_first here (unions t own offsets children) k h fit alike =
      let parts = sound_children t own offsets children h in
      let union = union_of (type_layer t) offsets children parts.0 in
      finds_at t k here ∙ ap (λ (x : Layer). layer_finds x k here) union.is
      ∙ found_each (ids_below here) union.fields children k union.typed parts.1 (fits_children here t own offsets children h fit) alike
  found_first here (dictionary t mask keys values) k h fit alike =
      let parts = sound_values t mask keys values h in
      let fits = fits_values here t mask keys values h fit in
      let inner = brought (ids None (ids_below here)) values in
      let this : Brought = record { id = id_or_0 (own_id here); below = ids_below here; values = values } in
      let id_is : fits.id ≡ this.id = ap id_or_0 (sym fits.own) in
      let within = found_first (ids None (ids_below here)) values k parts.1 fits.below (alike_front inner (this ∷ []) alike) in
      let fewer = all_each (λ (b : Brought). dictionaries_in (column_type b.values) < dictionaries_in (column_type values)) inner
      (fewer_within (ids None (ids_below here)) values parts.1) in
      finds_at t k here ∙ values_values (type_layer t) keys (column_type values) k here fits.id parts.0 fits.own
      ∙ ap (λ (id : ℤ). own_or_within id (column_type values) (ids_below here) k) id_is
      ∙ either_order (int_eq k this.id) this (values_in (column_type values) k (ids None (ids_below here)))
      (λ is. within ∙ none_with k this inner is (alike_last inner this alike) fewer)
      ∙ ap (λ (w : Option Values). or_else w (found_in (if int_eq k this.id then Some this else None))) within
      ∙ sym (first_more k inner (this ∷ []))

  pub found_each : (below : IdsList) (us : List Field) (cs : Columns) (k : ℤ) → have_types us cs ≡ true → are_sound cs ≡ true
      → FitColumns below cs → Alike (brought_each below cs)
      → first_found (map (λ (u : Field). (u, find_field u)) us) k below ≡ first_values k (brought_each below cs)
  found_each below [] no_column k typed h fit alike = refl
  found_each below [] (column_then c cs) k typed h fit alike = absurd (false≢true typed)
  found_each below (u ∷ us) no_column k typed h fit alike = absurd (false≢true typed)
  found_each below (u ∷ us) (column_then c cs) k typed h fit alike =
      let types = and_parts (same_type u.data_type (column_type c)) (have_types us cs) typed in
      let sounds = and_parts (is_sound c) (are_sound cs) h in
      let first = brought (first_ids below) c in
      let others = brought_each (other_ids below) cs in
      let here = field_finds u (column_type c) k (first_ids below) types.0
      ∙ found_first (first_ids below) c k sounds.0 fit.0 (alike_front first others alike) in
      let rest = found_each (other_ids below) us cs k types.1 sounds.1 fit.1 (alike_back first others alike) in
      (λ j. or_else (here j) (rest j)) ∙ sym (first_more k first others)
