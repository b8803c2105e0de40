-- The values of dictionaries as items of one kind.
use Rattle.std.proofs.Common.{◌≡◌, ◌∙◌, ℕ, zero, suc, ◌<◌, List, [], ◌∷◌, length, get_or, true, false, refl, sym, ap, subst, arith}
use Rattle.std.specs.Prelude.{ℤ, Bool, cond, not, Option, Some, None, Result, Ok, Err, slice_get}
use Rattle.std.specs.Borrow.{Bor}
use Rattle.std.proofs.lemmas.Bool.{eqb-true}
use Rattle.std.proofs.lemmas.List.Sums.{sum_by-cons}
use Rattle.nested_arrays_core.specs.columnar_memory.Bits.{unset_count}
use Rattle.nested_arrays_core.specs.columnar_memory.declared.DataType.{DataType}
use Rattle.nested_arrays_core.specs.columnar_memory.declared.Error.{Error}
use Rattle.nested_arrays_core.specs.columnar_memory.declared.PhysicalType.{PhysicalType}
use Rattle.nested_arrays_core.specs.flat_arrays.ByteStrings as strings
use Rattle.nested_arrays_core.specs.flat_arrays.ByteStrings.{ByteStrings, len_of}
use Rattle.nested_arrays_core.specs.columns.Slots.{Slot, text}
use Rattle.nested_arrays_core.specs.columns.SoundColumns.{is_sound, mask_fits}
use Rattle.nested_arrays_core.specs.columns.StoredColumns.{Column, dictionary, column_len, is_valid_at, place_of, slot_at}
use Rattle.nested_arrays_core.proofs.flat_lemmas.ColumnParts.{sound_mask}
use Rattle.nested_arrays_core.proofs.flat_lemmas.SoundStrings.{texts_len}
use Rattle.nested_arrays_core.specs.flat.ColumnMasks.{column_mask, unset_in}
use Rattle.nested_arrays_core.specs.flat.FlatColumns.{text_column}
use Rattle.nested_arrays_core.proofs.parts_lemmas.SameForms.{null_slot, valid_slot}
use Rattle.nested_arrays_core.proofs.parts_lemmas.StoredForms.{text_there}
use Rattle.nested_arrays_core.specs.parts.FlatLayouts.{layout_in}
use Rattle.nested_arrays_core.specs.access.Nulls.{null_count_of}
use Rattle.nested_arrays_core.specs.Dictionaries.{key_at, raw_key, values_of}
use Rattle.nested_arrays_iterators.proofs.NamedSlots.{key_shows, key_within, place_or_none}
use Rattle.nested_arrays_iterators.specs.NamedValues.{AreNamed}
use Rattle.nested_arrays_iterators.specs.TextItems.{AreThere}
use Rattle.nested_arrays_iterators.specs.TypedValues.{IsDowncast, IsKeyed, ShowsRead, ShowsSlots, ShowsValue, ShowsValues}

-- ---- texts

abbrev unset : Bool → ℕ
unset mark = cond (not mark) 1 0

-- where no mark is unset, each is set
all_set : (marks : List Bool) (i : ℕ) → unset_count marks ≡ 0 → i < length marks → get_or marks i false ≡ true
all_set [] i none h = absurd (omega arith)
all_set (true ∷ marks) zero none h = refl
all_set (true ∷ marks) (suc i) none h = all_set marks i (omega (arith, none, sum_by-cons unset true marks)) (omega arith)
all_set (false ∷ marks) i none h = absurd (omega (arith, none, sum_by-cons unset false marks))

mask_set : (mask : Option (List Bool)) (n i : ℕ) → mask_fits mask n ≡ true → unset_in mask ≡ 0 → i < n → is_valid_at mask i ≡ true
mask_set None n i fits none h = refl
mask_set (Some marks) n i fits none h = all_set marks i none (omega (arith, h, eqb-true (length marks) n fits))

-- a text at a place is the slot there, where no slot is null
text_shown : (a : ByteStrings) (i : ℕ) (value : List ℕ) → is_sound (text_column a) ≡ true → null_count_of (text_column a) ≡ 0
    → i < column_len (text_column a) → slice_get (strings.values_of a) i ≡ Some value → slot_at (text_column a) i ≡ text value
text_shown a i value sound none h is =
    valid_slot (text_column a) i (mask_set a.validity (column_len (text_column a)) i (sound_mask (text_column a) sound) none h)
    ∙ text_there a i value h is

abbrev texts_count : Bor ByteStrings → ℕ
texts_count texts = len_of texts.now

abbrev is_text : Bor ByteStrings → ℕ → Bor (List ℕ) → Type 0
is_text texts i item = slice_get (strings.values_of texts.now) i ≡ Some item.now

abbrev text_slot : Bor (List ℕ) → Slot
text_slot item = text item.now

-- the items of an array of texts
pub texts_downcast : (layout : PhysicalType) (a : ByteStrings) (c : Column) (r : Result (Bor ByteStrings) Error) → text_column a ≡ c
    → layout_in c ≡ layout → is_sound c ≡ true → AreThere a r → IsDowncast is_text text_slot texts_count layout c r
texts_downcast layout a c (Ok whole) is lies sound there =
    let own : text_column whole.now ≡ c = ap text_column there.0 ∙ is in
    let none : null_count_of c ≡ 0 = ap null_count_of (sym is) ∙ there.1 in (
      (lies, none),
      sym (texts_len whole.now) ∙ ap column_len own,
      λ i item h read. ap (λ d. slot_at d i) (sym own)
          ∙ text_shown whole.now i item.now (ap is_sound own ∙ sound) (ap null_count_of own ∙ none)
          (subst (λ (n : ℕ). i < n) (ap column_len (sym own)) h) read,
    )
texts_downcast layout a c (Err e) is lies sound there = (there.0, λ has. there.1 (ap null_count_of is ∙ has.1))

-- ---- keys

-- the item at the place that a key names
pub keyed_item : {A X : Type 0} (is_item : A → ℕ → X → Type 0) (c : Column) (items : A) (i place : ℕ) (item : X)
    → place_of (raw_key c i) ≡ place → is_item items place item → IsKeyed is_item c items i item
keyed_item is_item c items i place item is given = subst (λ (k : ℕ). is_item items k item) (sym is) given

-- the key of a slot that is not null names the place of a value
pub key_place : (c : Column) (t : DataType) (mask : Option (List Bool)) (keys : List ℤ) (values : Column) (i place : ℕ)
    → dictionary t mask keys values ≡ c → is_sound c ≡ true → i < column_len c → Some place ≡ key_at c i
    → (is_valid_at (column_mask c) i ≡ true) × (place_of (raw_key c i) ≡ place) × (place < column_len values)
key_place c t mask keys values i place is sound h found =
    let seen = place_or_none (is_valid_at (column_mask c) i) (place_of (raw_key c i)) (Some place) found in (
      seen.0,
      sym seen.1,
      subst (λ (k : ℕ). k < column_len values) (sym seen.1) (key_within c t mask keys values i is sound h seen.0),
    )

module _ {A X : Type 0} (is_item : A → ℕ → X → Type 0) (slot : X → Slot) where
  -- what an item shows at a place within the values is the value of a slot whose key names it
  item_shown : (c : Column) (t : DataType) (mask : Option (List Bool)) (keys : List ℤ) (values own : Column) (items out : A) (i : ℕ) (item : X)
      → dictionary t mask keys values ≡ c → own ≡ values → out ≡ items → ShowsSlots is_item slot own items
      → place_of (raw_key c i) < column_len values → IsKeyed is_item c out i item → ShowsValue slot c i item
  item_shown c t mask keys values own items out i item is same moved shows within given =
      let place = place_of (raw_key c i) in
      sym (key_shows c t mask keys values i is) ∙ ap (λ d. slot_at d place) (sym same)
      ∙ shows place item (subst (λ (d : Column). place < column_len d) (sym same) within)
      (subst (λ (x : A). is_item x place item) moved given)

  -- where each key names a value, the items by keys show what they name
  pub values_shown : (c : Column) (t : DataType) (mask : Option (List Bool)) (keys : List ℤ) (values own : Column) (items out : A)
      → dictionary t mask keys values ≡ c → own ≡ values → out ≡ items → AreNamed c → ShowsSlots is_item slot own items
      → ShowsValues is_item slot c out
  values_shown c t mask keys values own items out is same moved named shows i item h given =
      item_shown c t mask keys values own items out i item is same moved shows
      (subst (λ (d : Column). place_of (raw_key c i) < column_len d) (sym (ap values_of is)) (named i h).1) given

  -- and slot by slot whatever the keys of nulls name
  pub slots_shown : (c : Column) (t : DataType) (mask : Option (List Bool)) (keys : List ℤ) (values own : Column) (items out : A)
      → dictionary t mask keys values ≡ c → own ≡ values → out ≡ items → is_sound c ≡ true → ShowsSlots is_item slot own items
      → ShowsRead is_item slot c out
  slots_shown c t mask keys values own items out is same moved sound shows i None h given = (given, null_slot c i given)
  slots_shown c t mask keys values own items out is same moved sound shows i (Some item) h given = (
    given.0,
    valid_slot c i given.0,
    item_shown c t mask keys values own items out i item is same moved shows (key_within c t mask keys values i is sound h given.0) given.1,
  )
