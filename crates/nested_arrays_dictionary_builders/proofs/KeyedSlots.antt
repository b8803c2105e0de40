-- The slots of dictionaries by what each needs of the values: one more, and the first ones; and which dictionaries are sound.
use Rattle.std.proofs.Common.{◌≡◌, ◌∙◌, ◌<◌, ◌≤◌, ◌+◌, ℕ, zero, suc, List, [], ◌∷◌, ◌++◌, length, map, take, get_or, Bool, true, not, refl, sym}
use Rattle.std.proofs.Common.{ap, arith}
use Rattle.std.specs.Prelude.{pos, max, ◌&&◌, ◌||◌, ◌^◌, if◌then◌else◌, int_le, nat_lt}
use Rattle.std.specs.List.{list_all}
use Rattle.std.proofs.Math.ListN.{get_or-map}
use Rattle.std.proofs.lemmas.Bool.{and_from, le-leb, lt-ltb}
use Rattle.std.proofs.lemmas.List.{get_or_append_left, get_or-take, length-append, length-map, length-take-le, map-append, take-map}
use Rattle.nested_arrays_sized_builders.specs.values.Uses.{greatest, key_of, keys_from}
use Rattle.nested_arrays_sized_builders.proofs.values_lemmas.Needs.{greatest_first}
use Rattle.nested_arrays_sized_builders.specs.nulls.columnar_memory.declared.DataType.{DataType}
use Rattle.nested_arrays_sized_builders.specs.nulls.columnar_memory.declared.DataType.TheOpen as layer
use Rattle.nested_arrays_sized_builders.specs.nulls.columnar_memory.declared.IntegerType.{IntegerType}
use Rattle.nested_arrays_sized_builders.specs.nulls.columnar_memory.declared.IntegerType.TheVariants as integers
use Rattle.nested_arrays_sized_builders.specs.nulls.columnar_memory.Equality.{same_type, same_type-Decides}
use Rattle.nested_arrays_sized_builders.specs.nulls.columns.Kinds.{is_key, most_values}
use Rattle.nested_arrays_sized_builders.specs.nulls.columns.Slots.{Slot, null}
use Rattle.nested_arrays_sized_builders.specs.nulls.columns.SoundColumns.{has_value_at, has_value_type, holds_below, is_sound, mask_fits}
use Rattle.nested_arrays_sized_builders.specs.nulls.columns.StoredColumns.{Column, column_len, column_type, is_valid_at, place_of, slot_at, slots}
use Rattle.nested_arrays_sized_builders.specs.nulls.columns.StoredColumns.{type_layer}
use Rattle.nested_arrays_sized_builders.specs.cells.parts.Marks.{mask_of_marks}
use Rattle.nested_arrays_sized_builders.proofs.MarkedSlots.{valid_mark}
use Rattle.nested_arrays_dictionary_builders.proofs.OpenParts.{marks_fit}
use Rattle.nested_arrays_sized_builders.proofs.nulls_lemmas.arrays_lemmas.columns_lemmas.ColumnSizes.{slots_lengths}
use Rattle.nested_arrays_sized_builders.proofs.nulls_lemmas.arrays_lemmas.columns_lemmas.Conditions.{holds_from, parts_of_4}
use Rattle.nested_arrays_sized_builders.proofs.nulls_lemmas.arrays_lemmas.columns_lemmas.FreshLengths.{Layer}
use Rattle.nested_arrays_sized_builders.proofs.nulls_lemmas.arrays_lemmas.columns_lemmas.FreshPlaces.{at_window, by_place}
use Rattle.nested_arrays_dictionary_builders.specs.DictionaryBuilders.{is_used, keyed_over}

-- ---- what slots need

pub greatest_more : (uses : List ℕ) (u : ℕ) → greatest (uses ++ u ∷ []) ≡ max (greatest uses) u
greatest_more [] u = omega arith
greatest_more (n ∷ ns) u = omega (arith, greatest_more ns u)

use_within : (uses : List ℕ) (i d : ℕ) → i < length uses → get_or uses i d ≤ greatest uses
use_within [] i d lt = absurd (omega arith)
use_within (n ∷ ns) zero d lt = omega arith
use_within (n ∷ ns) (suc i) d lt = omega (arith, use_within ns i d (omega (arith, lt)))

-- the slot that needs so many of some values
abbrev pub slot_of_use : List Slot → ℕ → Slot
slot_of_use values zero = null
slot_of_use values (suc key) = get_or values key null

-- slots that need no more than n are the same where two functions are up to n
same_uses : (f g : ℕ → Slot) (n : ℕ) (uses : List ℕ) → greatest uses ≤ n → ((u : ℕ) → u ≤ n → f u ≡ g u) → map f uses ≡ map g uses
same_uses f g n [] few same = refl
same_uses f g n (u ∷ uses) few same =
    let here = same u (omega (arith, few)) in
    let rest = same_uses f g n uses (omega (arith, few)) same in
    λ j. here j ∷ rest j

-- ---- slots

module _ (t : DataType) (child : Column) where
  by_use : (u : ℕ) → u ≤ column_len child → (if is_used u then slot_at child (key_of u) else null) ≡ slot_of_use (slots child) u
  by_use zero le = refl
  by_use (suc k) le = at_window (slot_at child) (column_len child) (slots child) k null refl (omega (arith, le))

  use_mark : (uses : List ℕ) (i : ℕ) → i < length uses → is_valid_at (mask_of_marks (map is_used uses)) i ≡ is_used (get_or uses i 0)
  use_mark uses i lt =
      valid_mark (map is_used uses) i (omega (arith, lt, length-map uses is_used)) ∙ get_or-map is_used uses i 0

  use_key : (uses : List ℕ) (i : ℕ) → get_or (keys_from uses) i (pos 0) ≡ pos (key_of (get_or uses i 0))
  use_key uses i = get_or-map (λ n. pos (key_of n)) uses i 0

  slot_is : (uses : List ℕ) (i : ℕ) → i < length uses → greatest uses ≤ column_len child
      → slot_at (keyed_over t uses child) i ≡ slot_of_use (slots child) (get_or uses i 0)
  slot_is uses i lt few =
      let mark = use_mark uses i lt in
      let key = use_key uses i in
      (λ j. if mark j then slot_at child (place_of (key j)) else null)
      ∙ by_use (get_or uses i 0) (omega (arith, few, use_within uses i 0 lt))

  -- the slots of a dictionary, layered over those of its values
  pub keyed_slots : (uses : List ℕ) → greatest uses ≤ column_len child → slots (keyed_over t uses child) ≡ map (slot_of_use (slots child)) uses
  keyed_slots uses few =
      let xs = map (slot_of_use (slots child)) uses in
      let long : length xs ≡ length uses = length-map uses (slot_of_use (slots child)) in
      by_place (slot_at (keyed_over t uses child)) (length (keys_from uses)) xs null (length-map uses (λ n. pos (key_of n)) ∙ sym long)
      (λ i lt. slot_is uses i (omega (arith, lt, long)) few ∙ sym (get_or-map (slot_of_use (slots child)) uses i 0))

-- one slot more, over values the first ones of which are those before
pub one_use_more : (t : DataType) (child grown : Column) (rest : List Slot) (uses : List ℕ) (u : ℕ) → greatest uses ≤ column_len child
    → slots grown ≡ slots child ++ rest → u ≤ column_len grown
    → slots (keyed_over t (uses ++ u ∷ []) grown) ≡ slots (keyed_over t uses child) ++ slot_of_use (slots grown) u ∷ []
one_use_more t child grown rest uses u few more le =
    let before = slots_lengths child in
    let long : column_len grown ≡ length (slots child) + length rest =
    sym (slots_lengths grown) ∙ ap length more ∙ length-append (slots child) rest in
    let all : greatest (uses ++ u ∷ []) ≤ column_len grown = omega (arith, greatest_more uses u, few, le, long, before) in
    keyed_slots t grown (uses ++ u ∷ []) all
    ∙ map-append (slot_of_use (slots grown)) uses (u ∷ [])
    ∙ ap (λ (xs : List Slot). xs ++ slot_of_use (slots grown) u ∷ [])
    (same_uses (slot_of_use (slots grown)) (slot_of_use (slots child)) (column_len child) uses few same ∙ sym (keyed_slots t child uses few))
  where
    same : (u : ℕ) → u ≤ column_len child → slot_of_use (slots grown) u ≡ slot_of_use (slots child) u
    same zero le = refl
    same (suc k) le =
        ap (λ (xs : List Slot). get_or xs k null) more
        ∙ get_or_append_left (slots child) rest null k (omega (arith, le, slots_lengths child))

-- the first slots, over the values that they need
pub first_uses : (t : DataType) (child kept : Column) (uses : List ℕ) (n : ℕ) → greatest uses ≤ column_len child
    → slots kept ≡ take (greatest (take n uses)) (slots child)
    → slots (keyed_over t (take n uses) kept) ≡ take n (slots (keyed_over t uses child))
first_uses t child kept uses n few cut =
    let own = greatest (take n uses) in
    let within : own ≤ length (slots child) = omega (arith, greatest_first n uses, few, slots_lengths child) in
    let long : column_len kept ≡ own = sym (slots_lengths kept) ∙ ap length cut ∙ length-take-le own (slots child) within in
    keyed_slots t kept (take n uses) (omega (arith, long))
    ∙ same_uses (slot_of_use (slots kept)) (slot_of_use (slots child)) own (take n uses) (omega arith) same
    ∙ sym (take-map (slot_of_use (slots child)) n uses)
    ∙ ap (take n) (sym (keyed_slots t child uses few))
  where
    same : (u : ℕ) → u ≤ greatest (take n uses) → slot_of_use (slots kept) u ≡ slot_of_use (slots child) u
    same zero le = refl
    same (suc k) le =
        ap (λ (xs : List Slot). get_or xs k null) cut
        ∙ get_or-take (greatest (take n uses)) (slots child) k null (omega (arith, le))

-- ---- soundness

key_fits : (key : IntegerType) (k : ℕ) → suc k ≤ most_values key → is_key key (pos k) ≡ true
key_fits integers.Int8 k h = lt-ltb k (2 ^ 7) (omega (arith, h))
key_fits integers.Int16 k h = lt-ltb k (2 ^ 15) (omega (arith, h))
key_fits integers.Int32 k h = lt-ltb k (2 ^ 31) (omega (arith, h))
key_fits integers.Int64 k h = lt-ltb k (2 ^ 63) (omega (arith, h))
key_fits integers.UInt8 k h = lt-ltb k (2 ^ 8) (omega (arith, h))
key_fits integers.UInt16 k h = lt-ltb k (2 ^ 16) (omega (arith, h))
key_fits integers.UInt32 k h = lt-ltb k (2 ^ 32) (omega (arith, h))
key_fits integers.UInt64 k h = lt-ltb k (2 ^ 64) (omega (arith, h))

zero_fits : (key : IntegerType) → is_key key (pos 0) ≡ true
zero_fits integers.Int8 = refl
zero_fits integers.Int16 = refl
zero_fits integers.Int32 = refl
zero_fits integers.Int64 = refl
zero_fits integers.UInt8 = refl
zero_fits integers.UInt16 = refl
zero_fits integers.UInt32 = refl
zero_fits integers.UInt64 = refl

use_fits : (key : IntegerType) (u : ℕ) → u ≤ most_values key → is_key key (pos (key_of u)) ≡ true
use_fits key zero h = zero_fits key
use_fits key (suc k) h = key_fits key k h

uses_fit : (key : IntegerType) (uses : List ℕ) → greatest uses ≤ most_values key → list_all (is_key key) (keys_from uses) ≡ true
uses_fit key [] few = refl
uses_fit key (u ∷ uses) few =
    and_from (is_key key (pos (key_of u))) (list_all (is_key key) (keys_from uses))
    (use_fits key u (omega (arith, few))) (uses_fit key uses (omega (arith, few)))

module _ (t : DataType) (uses : List ℕ) (child : Column) where
  abbrev mask : Bool
  mask = mask_fits (mask_of_marks (map is_used uses)) (length (keys_from uses))

  abbrev placed : Bool
  placed = holds_below (length (keys_from uses)) (has_value_at (mask_of_marks (map is_used uses)) (keys_from uses) (column_len child))

  named : (u : ℕ) → u ≤ column_len child
      → (not (is_used u) || (int_le (pos 0) (pos (key_of u)) && nat_lt (key_of u) (column_len child))) ≡ true
  named zero le = refl
  named (suc k) le =
      and_from (int_le (pos 0) (pos k)) (nat_lt k (column_len child)) (le-leb 0 k (omega arith)) (lt-ltb k (column_len child) (omega (arith, le)))

  placed_at : greatest uses ≤ column_len child → (i : ℕ) → i < length uses
      → has_value_at (mask_of_marks (map is_used uses)) (keys_from uses) (column_len child) i ≡ true
  placed_at few i lt =
      let mark = use_mark t child uses i lt in
      let key = use_key t child uses i in
      (λ j. not (mark j) || (int_le (pos 0) (key j) && nat_lt (place_of (key j)) (column_len child)))
      ∙ named (get_or uses i 0) (omega (arith, few, use_within uses i 0 lt))

  -- a dictionary over sound values of its type, none of which is wanting
  pub sound_over : (key : IntegerType) (value : DataType) (is_ordered : Bool) → type_layer t ≡ layer.Dictionary key value is_ordered
      → value ≡ column_type child → greatest uses ≤ column_len child → greatest uses ≤ most_values key → is_sound child ≡ true
      → is_sound (keyed_over t uses child) ≡ true
  sound_over key value is_ordered is own within few below =
      let count : length (keys_from uses) ≡ length uses = length-map uses (λ n. pos (key_of n)) in
      let typed : has_value_type (type_layer t) (keys_from uses) (column_type child) ≡ true =
      ap (λ (x : Layer). has_value_type x (keys_from uses) (column_type child)) is
      ∙ and_from (same_type value (column_type child)) (list_all (is_key key) (keys_from uses)) ((same_type-Decides value (column_type child)).1 own)
      (uses_fit key uses few) in
      let masked : mask ≡ true = marks_fit (map is_used uses) (length (keys_from uses)) (length-map uses is_used ∙ sym count) in
      let all : placed ≡ true = holds_from (length (keys_from uses))
      (has_value_at (mask_of_marks (map is_used uses)) (keys_from uses) (column_len child))
      (λ i lt. placed_at within i (omega (arith, lt, count))) in
      let typed_all = has_value_type (type_layer t) (keys_from uses) (column_type child) in
      and_from (typed_all && mask && placed) (is_sound child)
      (and_from (typed_all && mask) placed (and_from typed_all mask typed masked) all) below

  -- the values of a sound one are
  pub sound_below : is_sound (keyed_over t uses child) ≡ true → is_sound child ≡ true
  sound_below h = (parts_of_4 (has_value_type (type_layer t) (keys_from uses) (column_type child)) mask placed (is_sound child) h).3
