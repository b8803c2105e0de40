-- What calls make of a builder of dictionaries, as its parts and as its column.
use Rattle.std.proofs.Common.{◌≡◌, ◌∙◌, ◌<◌, ◌≤◌, ◌+◌, ℕ, zero, suc, List, [], ◌∷◌, ◌++◌, length, map, take, Bool, true, false, refl, sym, ap, subst}
use Rattle.std.proofs.Common.{arith}
use Rattle.std.specs.Prelude.{ℤ, max, not, ◌⊎◌, ◌≢◌, slice_get, Option, Some, Result, Ok, Err}
use Rattle.std.proofs.lemmas.Bool.{false_from_ne_true}
use Rattle.std.proofs.lemmas.List.{length-append, length-map, map-append, take-map}
use mathlib.Core.Logic.{inl, inr}
use denote.Hole.Carrier
use Rattle.nested_arrays_sized_builders.specs.values.Keyed.{AddsUse}
use Rattle.nested_arrays_sized_builders.specs.values.Uses.{greatest, keys_from}
use Rattle.nested_arrays_sized_builders.proofs.values_lemmas.Needs.{greatest_first}
use Rattle.nested_arrays_sized_builders.specs.nulls.access.Nulls.{is_null_at}
use Rattle.nested_arrays_sized_builders.specs.nulls.arrays.Answers.{IsCheckedAs}
use Rattle.nested_arrays_sized_builders.specs.nulls.columnar_memory.declared.DataType.{DataType}
use Rattle.nested_arrays_sized_builders.specs.nulls.columnar_memory.declared.DataType.TheOpen as layer
use Rattle.nested_arrays_sized_builders.specs.nulls.columnar_memory.declared.DataType.TheVariants as types
use Rattle.nested_arrays_sized_builders.specs.nulls.columnar_memory.declared.DataType.TheViews.{roll-DataType}
use Rattle.nested_arrays_sized_builders.specs.nulls.columnar_memory.declared.Error.{Error}
use Rattle.nested_arrays_sized_builders.specs.nulls.columnar_memory.declared.IntegerType.{IntegerType}
use Rattle.nested_arrays_sized_builders.specs.nulls.columnar_memory.declared.PhysicalType.TheVariants as physical
use Rattle.nested_arrays_sized_builders.specs.nulls.columnar_memory.Error.{IsInvalidArgument, IsOutOfMemory, IsOutOfSpec, IsOverflow}
use Rattle.nested_arrays_sized_builders.specs.nulls.columnar_memory.Equality.{same_type-Decides}
use Rattle.nested_arrays_sized_builders.specs.nulls.columnar_memory.Layouts.{physical_type}
use Rattle.nested_arrays_sized_builders.specs.nulls.columnar_memory.Results.{OrOutOfMemory}
use Rattle.nested_arrays_sized_builders.specs.nulls.columns.Cells.{fits_cell, is_null}
use Rattle.nested_arrays_sized_builders.specs.nulls.columns.Kinds.{most_slots, most_values}
use Rattle.nested_arrays_sized_builders.specs.nulls.columns.OpenBatch.{fits}
use Rattle.nested_arrays_sized_builders.specs.nulls.columns.Slots.{Slot, null, window}
use Rattle.nested_arrays_sized_builders.specs.nulls.columns.SoundColumns.{is_sound}
use Rattle.nested_arrays_sized_builders.specs.nulls.columns.StoredColumns.{Column, column_len, column_type, dictionary, is_valid_at, slot_at, slots}
use Rattle.nested_arrays_sized_builders.specs.nulls.columns.StoredColumns.{type_layer}
use Rattle.nested_arrays_sized_builders.specs.flat_arrays.Flat.{Flat}
use Rattle.nested_arrays_sized_builders.specs.nulls.generic.Dictionaries.{is_value_type, keyed_by}
use Rattle.nested_arrays_sized_builders.specs.cells.parts.Marks.{mask_of_marks}
use Rattle.nested_arrays_sized_builders.specs.cells.taken.OpenColumns.{Becomes, IsEmptied, IsFresh, IsFrozen, KeepsFirst, TakesColumn, slots_and}
use Rattle.nested_arrays_sized_builders.specs.MarkedSlots.{AddsSlot}
use Rattle.nested_arrays_dictionary_builders.proofs.OpenParts.{mark_says}
use Rattle.nested_arrays_sized_builders.proofs.nulls_lemmas.arrays_lemmas.columns_lemmas.ColumnSizes.{slots_lengths}
use Rattle.nested_arrays_sized_builders.proofs.nulls_lemmas.arrays_lemmas.columns_lemmas.FreshLengths.{Layer}
use Rattle.nested_arrays_sized_builders.proofs.nulls_lemmas.arrays_lemmas.columns_lemmas.TypeLayers.{layer_itself}
use Rattle.nested_arrays_dictionary_builders.specs.DictionaryBuilders.{AddsItem, AddsValue, AreKeyed, FreezesKeys, IsCrowded, IsUnfit}
use Rattle.nested_arrays_dictionary_builders.specs.DictionaryBuilders.{is_used, keyed_over}
use Rattle.nested_arrays_dictionary_builders.specs.SlotHashes.{slot_hash}
use Rattle.nested_arrays_dictionary_builders.proofs.KeyedSlots.{greatest_more}
use Rattle.nested_arrays_dictionary_builders.proofs.OpenKeys.{first_left, known_added, left_long, new_added, no_more_keys, no_more_values}
use Rattle.nested_arrays_dictionary_builders.proofs.OpenKeys.{none_left, null_added, too_many, unlike_values, unsound_below}

-- the type of dictionaries of a value type
pub dictionary_valued : (key : IntegerType) (value child : DataType) → value ≡ child
    → is_value_type (type_layer (types.Dictionary key value false)) child ≡ true
unfolding roll-DataType denote.Hole.Carrier.roll
dictionary_valued key value child same =
    ap (λ (x : Layer). is_value_type x child) (layer_itself (layer.Dictionary key value false) refl) ∙ (same_type-Decides value child).1 same

-- what is tested of parts is whether their column is sound
pub keys_frozen : (key : IntegerType) (t : DataType) (mask : Option (List Bool)) (keys : List ℤ) (child parts : Column) (r : Result Column Error)
    → physical_type t ≡ physical.Dictionary key → parts ≡ dictionary t mask keys child → IsCheckedAs (physical.Dictionary key) parts r
    → IsFrozen (λ (array : Column). array) (dictionary t mask keys child) r
keys_frozen key t mask keys child parts (Ok array) lies same is = (is.0 ∙ same, ap is_sound (sym same) ∙ is.1.0)
keys_frozen key t mask keys child parts (Err e) lies same is =
    inr (
      is.0,
      false_from_ne_true (is_sound (dictionary t mask keys child)) (λ sound. is.1 (
        ap is_sound same ∙ sound,
        ap (λ (c : Column). physical_type (column_type c)) same ∙ lies,
      )),
    )

-- a column without slots
none_in : (c : Column) → column_len c ≡ 0 → slots c ≡ []
none_in c none = ap (window (slot_at c) 0) none

take_none : {A : Type 0} (n : ℕ) (xs : List A) → xs ≡ [] → take n xs ≡ xs
take_none zero xs none = sym none
take_none (suc n) [] none = refl
take_none (suc n) (x ∷ xs) none = absurd cc

-- parts of which there are none yet
pub none_keyed : (key : IntegerType) (t : DataType) (ms : List Bool) (uses hashes : List ℕ) (child : Column)
    → physical_type t ≡ physical.Dictionary key → is_value_type (type_layer t) (column_type child) ≡ true → column_len child ≡ 0
    → ms ≡ [] → uses ≡ [] → hashes ≡ [] → AreKeyed key t ms uses hashes child
none_keyed key t ms uses hashes child lies valued none marked used hashed = record {
  lies = lies;
  valued = valued;
  marked = marked ∙ ap (map is_used) (sym used);
  named = ap greatest used ∙ sym none;
  few = omega (arith, ap greatest used);
  hashed = hashed ∙ sym (ap (map slot_hash) (none_in child none));
  whole = λ some. absurd (omega (arith, some, none));
}

module _ {key : IntegerType} {t : DataType} {ms : List Bool} {uses hashes : List ℕ} {child : Column} (are : AreKeyed key t ms uses hashes child) where
  abbrev old : Column
  old = keyed_over t uses child

  pub marks_many : length ms ≡ length uses
  marks_many = ap length are.marked ∙ length-map uses is_used

  pub hashes_many : length hashes ≡ column_len child
  hashes_many = ap length are.hashed ∙ length-map (slots child) slot_hash ∙ slots_lengths child

  -- a mark says whether a slot is null
  pub marked_says : (i : ℕ) (b : Bool) → i < length ms → slice_get ms i ≡ Some b → b ≡ not (is_null_at old i)
  marked_says i b lt found =
      mark_says ms i b lt found ∙ ap (λ (bits : List Bool). not (not (is_valid_at (mask_of_marks bits) i))) are.marked

  pub same_keyed : (bits : List Bool) (us hs : List ℕ) (next : Column) → bits ≡ ms → us ≡ uses → hs ≡ hashes → next ≡ child
      → AreKeyed key t bits us hs next
  same_keyed bits us hs next a b c d =
      subst (λ (x : Column). AreKeyed key t bits us hs x) (sym d)
      (subst (λ (x : List ℕ). AreKeyed key t bits us x child) (sym c)
      (subst (λ (x : List ℕ). AreKeyed key t bits x hashes child) (sym b)
      (subst (λ (x : List Bool). AreKeyed key t x uses hashes child) (sym a) are)))

  more_keyed : (u : ℕ) (bits : List Bool) (us hs : List ℕ) (grown : Column) → bits ≡ ms ++ is_used u ∷ [] → us ≡ uses ++ u ∷ []
      → column_type grown ≡ column_type child → max (column_len child) u ≡ column_len grown → u ≤ most_values key
      → hs ≡ map slot_hash (slots grown) → (0 < column_len grown → is_sound grown ≡ true) → AreKeyed key t bits us hs grown
  more_keyed u bits us hs grown marked used typed long most hashed whole = record {
    lies = are.lies;
    valued = ap (is_value_type (type_layer t)) typed ∙ are.valued;
    marked = marked ∙ ap (λ (m : List Bool). m ++ is_used u ∷ []) are.marked ∙ sym (map-append is_used uses (u ∷ []))
        ∙ ap (map is_used) (sym used);
    named = ap greatest used ∙ greatest_more uses u ∙ ap (λ (n : ℕ). max n u) are.named ∙ long;
    few = omega (arith, ap greatest used, greatest_more uses u, are.few, most);
    hashed = hashed;
    whole = whole;
  }

  used_is : (u k : ℕ) → u ≡ k + 1 → is_used u ≡ true
  used_is u k next = let one : k + 1 ≡ suc k = omega arith in ap is_used (next ∙ one)

  room : length ms < most_slots → length uses < most_slots
  room few = omega (arith, few, marks_many)

  crowded : (s : Slot) → length ms ≡ most_slots → fits t (slots_and old s) ≡ false
  crowded s full = too_many key t uses child are.lies are.valued are.named are.few s (sym marks_many ∙ full)

  -- ---- a null

  pub null_keyed : {U : Type 0} (bits : List Bool) (us : List ℕ) (r : Result U Error) → AddsUse ms uses false 0 bits us r
      → AreKeyed key t bits us hashes child
  null_keyed bits us (Ok u) h =
      more_keyed 0 bits us hashes child h.0 h.1 refl (omega arith) (omega arith) are.hashed are.whole
  null_keyed bits us (Err e) h = same_keyed bits us hashes child h.0 h.1 refl refl

  pub null_pushed : {U : Type 0} (bits : List Bool) (us : List ℕ) (r : Result U Error) → AddsUse ms uses false 0 bits us r
      → AddsSlot old null (keyed_over t us child) r
  null_pushed bits us (Ok u) h =
      subst (λ (x : List ℕ). Becomes old (slots_and old null) (keyed_over t x child)) (sym h.1)
      (null_added key t uses child are.lies are.valued are.named are.few (room h.2))
  null_pushed bits us (Err e) h = (ap (λ (x : List ℕ). keyed_over t x child) h.1, why h.2)
    where
      why : IsOutOfMemory e ⊎ (IsOverflow e × (length ms ≡ most_slots))
          → IsOutOfMemory e ⊎ (IsInvalidArgument e × (fits_cell t null ≡ false))
          ⊎ (IsOverflow e × (IsFresh old → fits t (slots_and old null) ≡ false))
      why (inl memory) = inl memory
      why (inr over) = inr (inr (over.0, λ _. crowded null over.1))

  -- ---- one of the values

  module _ (k : ℕ) (lt : k < column_len child) where
    pub known_keyed : {U : Type 0} (u : ℕ) → u ≡ k + 1 → (bits : List Bool) (us : List ℕ) (r : Result U Error) → AddsUse ms uses true u bits us r
        → AreKeyed key t bits us hashes child
    known_keyed u next bits us (Ok done) h =
        more_keyed u bits us hashes child (h.0 ∙ ap (λ (b : Bool). ms ++ b ∷ []) (sym (used_is u k next))) h.1 refl (omega (arith, next, lt))
        (omega (arith, next, lt, are.named, are.few)) are.hashed are.whole
    known_keyed u next bits us (Err e) h = same_keyed bits us hashes child h.0 h.1 refl refl

    pub known_pushed : {U : Type 0} (s : Slot) → is_null s ≡ false → slot_at child k ≡ s → (u : ℕ) → u ≡ k + 1 → (bits : List Bool) (us : List ℕ)
        (r : Result U Error) → AddsUse ms uses true u bits us r → AddsSlot old s (keyed_over t us child) r
    known_pushed s some is u next bits us (Ok done) h =
        subst (λ (x : List ℕ). Becomes old (slots_and old s) (keyed_over t x child)) (sym h.1)
        (known_added key t uses child are.lies are.valued are.named are.few s k some lt is u next (room h.2))
    known_pushed s some is u next bits us (Err e) h = (ap (λ (x : List ℕ). keyed_over t x child) h.1, why h.2)
      where
        why : IsOutOfMemory e ⊎ (IsOverflow e × (length ms ≡ most_slots))
            → IsOutOfMemory e ⊎ (IsInvalidArgument e × (fits_cell t s ≡ false))
            ⊎ (IsOverflow e × (IsFresh old → fits t (slots_and old s) ≡ false))
        why (inl memory) = inl memory
        why (inr over) = inr (inr (over.0, λ _. crowded s over.1))

  -- ---- one more value

  pub value_keyed : {U : Type 0} (most : ℕ) → most ≡ most_values key → (s : Slot) → is_sound child ≡ true → (bits : List Bool) (us hs : List ℕ)
      (grown : Column) (r : Result U Error) → AddsValue most s ms uses hashes child bits us hs grown r → AreKeyed key t bits us hs grown
  value_keyed most is s sound bits us hs grown (Ok done) h =
      let on = h.3.sound sound in
      let next : length hashes + 1 ≡ column_len child + 1 = omega (arith, hashes_many) in
      let long : column_len grown ≡ column_len child + 1 =
      sym (slots_lengths grown) ∙ ap length on.1 ∙ length-append (slots child) (s ∷ []) ∙ ap (λ (n : ℕ). n + 1) (slots_lengths child) in
      more_keyed (length hashes + 1) bits us hs grown
      (h.0 ∙ ap (λ (b : Bool). ms ++ b ∷ []) (sym (used_is (length hashes + 1) (length hashes) refl))) h.1 h.3.typed
      (omega (arith, long, hashes_many)) (omega (arith, h.4, is))
      (h.2 ∙ ap (λ (x : List ℕ). x ++ slot_hash s ∷ []) are.hashed ∙ sym (map-append slot_hash (slots child) (s ∷ []))
      ∙ ap (map slot_hash) (sym on.1))
      (λ _. on.0)
  value_keyed most is s sound bits us hs grown (Err e) h = same_keyed bits us hs grown h.0 h.1 h.2 h.3

  pub value_pushed : {U : Type 0} (most : ℕ) → most ≡ most_values key → (s : Slot) → is_null s ≡ false
      → ((k : ℕ) → k < column_len child → slot_at child k ≢ s) → (bits : List Bool) (us hs : List ℕ) (grown : Column) (r : Result U Error)
      → AddsValue most s ms uses hashes child bits us hs grown r → AddsSlot old s (keyed_over t us grown) r
  value_pushed most is s some absent bits us hs grown (Ok done) h =
      subst (λ (x : List ℕ). Becomes old (slots_and old s) (keyed_over t x grown)) (sym h.1)
      (new_added key t uses child are.lies are.valued are.named are.few s some absent (length hashes + 1) grown h.3
      (ap (λ (n : ℕ). n + 1) hashes_many) (omega (arith, h.4, is, hashes_many)) (room h.5))
  value_pushed most is s some absent bits us hs grown (Err e) h = ((λ j. keyed_over t (h.1 j) (h.3 j)), why h.4)
    where
      why : IsCrowded most ms hashes e ⊎ IsUnfit child s e
          → IsOutOfMemory e ⊎ (IsInvalidArgument e × (fits_cell t s ≡ false))
          ⊎ (IsOverflow e × (IsFresh old → fits t (slots_and old s) ≡ false))
      why (inl (inl memory)) = inl memory
      why (inl (inr (over, inl full))) = inr (inr (over, λ _. crowded s full))
      why (inl (inr (over, inr told))) =
          inr (inr (over, no_more_keys key t uses child are.lies are.valued are.named are.few s some absent (omega (arith, told, is, hashes_many))))
      why (inr (inl memory)) = inl memory
      why (inr (inr (inl other))) = inr (inl (other.0, unlike_values key t uses child are.lies are.valued are.named are.few s other.1))
      why (inr (inr (inr over))) =
          inr (inr (over.0, no_more_values key t uses child are.lies are.valued are.named are.few s some absent over.1))

  -- ---- an item

  pub item_keyed : {U : Type 0} (most : ℕ) → most ≡ most_values key → (s : Slot) → is_sound child ≡ true → (bits : List Bool) (us hs : List ℕ)
      (grown : Column) (r : Result U Error) → AddsItem most s ms uses hashes child bits us hs grown r → AreKeyed key t bits us hs grown
  item_keyed most is s sound bits us hs grown r (inl h) =
      subst (λ (x : Column). AreKeyed key t bits us hs x) (sym h.4)
      (subst (λ (x : List ℕ). AreKeyed key t bits us x child) (sym h.3) (known_keyed h.0 h.1 (h.0 + 1) refl bits us r h.5))
  item_keyed most is s sound bits us hs grown r (inr h) = value_keyed most is s sound bits us hs grown r h.1

  pub item_pushed : {U : Type 0} (most : ℕ) → most ≡ most_values key → (s : Slot) → is_null s ≡ false → (bits : List Bool) (us hs : List ℕ)
      (grown : Column) (r : Result U Error) → AddsItem most s ms uses hashes child bits us hs grown r
      → AddsSlot old s (keyed_over t us grown) r
  item_pushed most is s some bits us hs grown r (inl h) =
      subst (λ (x : Column). AddsSlot old s (keyed_over t us x) r) (sym h.4)
      (known_pushed h.0 h.1 s some h.2 (h.0 + 1) refl bits us r h.5)
  item_pushed most is s some bits us hs grown r (inr h) = value_pushed most is s some h.0 bits us hs grown r h.1

  -- ---- the first slots

  module _ (n m : ℕ) (le : n ≤ length uses) (named : m ≡ greatest (take n uses)) (left : Column) (keeps : KeepsFirst child m left) where
    own : KeepsFirst child (greatest (take n uses)) left
    own = subst (λ (k : ℕ). KeepsFirst child k left) named keeps

    long : column_len left ≡ greatest (take n uses)
    long = left_long key t uses child are.lies are.valued are.named are.few n le left own

    fewer : column_len left ≤ column_len child
    fewer = omega (arith, long, greatest_first n uses, are.named)

    hashes_first : (k : ℕ) → k ≡ column_len child → take m hashes ≡ map slot_hash (slots left)
    hashes_first zero none =
        let nothing : hashes ≡ [] = are.hashed ∙ ap (map slot_hash) (none_in child (sym none)) in
        take_none m hashes nothing ∙ nothing ∙ sym (ap (map slot_hash) (none_in left (omega (arith, fewer, none))))
    hashes_first (suc k) some =
        let sound = are.whole (omega (arith, some)) in
        ap (take m) are.hashed ∙ take-map slot_hash m (slots child) ∙ ap (map slot_hash) (sym (keeps.sound sound).1)

    pub first_keyed : (bits : List Bool) (us hs : List ℕ) → bits ≡ take n ms → us ≡ take n uses → hs ≡ take m hashes
        → AreKeyed key t bits us hs left
    first_keyed bits us hs marked used hashed = record {
      lies = are.lies;
      valued = ap (is_value_type (type_layer t)) keeps.typed ∙ are.valued;
      marked = marked ∙ ap (take n) are.marked ∙ take-map is_used n uses ∙ ap (map is_used) (sym used);
      named = ap greatest used ∙ sym long;
      few = omega (arith, ap greatest used, greatest_first n uses, are.few);
      hashed = hashed ∙ hashes_first (column_len child) refl;
      whole = λ some. (keeps.sound (are.whole (omega (arith, some, fewer)))).0;
    }

    pub first_kept : (us : List ℕ) → us ≡ take n uses → KeepsFirst old n (keyed_over t us left)
    first_kept us used =
        subst (λ (x : List ℕ). KeepsFirst old n (keyed_over t x left)) (sym used)
        (first_left key t uses child are.lies are.valued are.named are.few n le left own)

  -- the keys as an array of their own
  pub keys_copied : {K : Type 0} (value : K → ℤ) (r : Result (Flat K) Error)
      → OrOutOfMemory r (λ (keys : Flat K). (keys.validity ≡ mask_of_marks ms) × (map value keys.values ≡ keys_from uses))
      → OrOutOfMemory r (λ (keys : Flat K). keyed_by value t keys child ≡ old)
  keys_copied value (Ok keys) h = λ j. dictionary t ((h.0 ∙ ap mask_of_marks are.marked) j) (h.1 j) child
  keys_copied value (Err e) h = h

  -- ---- none left

  pub emptied_keyed : (bits : List Bool) (us hs : List ℕ) (left : Column) → bits ≡ [] → us ≡ [] → hs ≡ [] → IsEmptied child left
      → AreKeyed key t bits us hs left
  emptied_keyed bits us hs left marked used hashed h =
      none_keyed key t bits us hs left are.lies (ap (is_value_type (type_layer t)) h.typed ∙ are.valued) h.long marked used hashed

  pub emptied : (us : List ℕ) (left : Column) → us ≡ [] → IsEmptied child left → IsEmptied old (keyed_over t us left)
  emptied us left used h =
      subst (λ (x : List ℕ). IsEmptied old (keyed_over t x left)) (sym used)
      (none_left key t uses child are.lies are.valued are.named are.few left h)

  -- what is taken out
  pub taken_keys : (us : List ℕ) (left : Column) (bits : List Bool) (held : List ℕ) (items r : Result Column Error) → us ≡ [] → bits ≡ ms
      → held ≡ uses → TakesColumn child left (λ (array : Column). array) items → FreezesKeys t bits held items r
      → TakesColumn old (keyed_over t us left) (λ (array : Column). array) r
  taken_keys us left bits held (Err e) r used marked same taken is =
      subst (TakesColumn old (keyed_over t us left) (λ (array : Column). array)) (sym is) (emptied us left used taken.0, why taken.1)
    where
      why : IsOutOfMemory e ⊎ (IsOutOfSpec e × (is_sound child ≡ false)) → IsOutOfMemory e ⊎ (IsOutOfSpec e × (is_sound old ≡ false))
      why (inl memory) = inl memory
      why (inr other) = inr (other.0, unsound_below key t uses child are.lies are.valued are.named are.few other.1)
  taken_keys us left bits held (Ok items) r used marked same taken frozen =
      let whole : dictionary t (mask_of_marks bits) (keys_from held) items ≡ old =
      λ j. dictionary t (mask_of_marks ((marked ∙ are.marked) j)) (keys_from (same j)) (taken.1.0 j) in
      (emptied us left used taken.0, subst (λ (c : Column). IsFrozen (λ (array : Column). array) c r) whole frozen)
