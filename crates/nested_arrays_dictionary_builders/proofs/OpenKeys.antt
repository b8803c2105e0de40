-- What pushes, cuts and taking out make of the column of a dictionary.
use Rattle.std.proofs.Common.{◌≡◌, ◌∙◌, ◌<◌, ◌≤◌, ◌+◌, ℕ, suc, List, [], ◌∷◌, ◌++◌, length, take, get_or, Bool, true, false, not, refl, sym}
use Rattle.std.proofs.Common.{ap, subst, arith}
use Rattle.std.specs.Prelude.{pos, ◌&&◌, ◌||◌, ◌≢◌, if◌then◌else◌, nat_le}
use Rattle.std.proofs.lemmas.Bool.{and_from, cases_Bool, false≢true, false_from_ne_true, le-leb, or_from}
use Rattle.std.proofs.lemmas.List.{append-nil, get_or_at, length-append, length-map, length-take-le}
use mathlib.Core.Logic.{inl, inr}
use Rattle.nested_arrays_sized_builders.specs.values.Uses.{greatest, key_of, use_among, uses_among}
use Rattle.nested_arrays_sized_builders.proofs.values_lemmas.Needs.{greatest_first, value_needs}
use Rattle.nested_arrays_sized_builders.proofs.values_lemmas.UsedValues.{uses_first, uses_one_more, values_first_used}
use Rattle.nested_arrays_sized_builders.specs.nulls.columnar_memory.declared.DataType.{DataType}
use Rattle.nested_arrays_sized_builders.specs.nulls.columnar_memory.declared.DataType.TheOpen as layer
use Rattle.nested_arrays_sized_builders.specs.nulls.columnar_memory.declared.IntegerType.{IntegerType}
use Rattle.nested_arrays_sized_builders.specs.nulls.columnar_memory.declared.PhysicalType.TheVariants as physical
use Rattle.nested_arrays_sized_builders.specs.nulls.columnar_memory.Equality.{same_type-Decides}
use Rattle.nested_arrays_sized_builders.specs.nulls.columnar_memory.Layouts.{physical_type}
use Rattle.nested_arrays_sized_builders.specs.nulls.columns.Cells.{fits_cell, is_null}
use Rattle.nested_arrays_sized_builders.specs.nulls.columns.Children.{dictionary_values}
use Rattle.nested_arrays_sized_builders.specs.nulls.columns.FreshColumns.{fresh, key_among}
use Rattle.nested_arrays_sized_builders.specs.nulls.columns.FreshLaws.{is_buildable}
use Rattle.nested_arrays_sized_builders.specs.nulls.columns.Kinds.{most_slots, most_values}
use Rattle.nested_arrays_sized_builders.specs.nulls.columns.OpenBatch.{fits}
use Rattle.nested_arrays_sized_builders.specs.nulls.columns.SameSlots.{is_among, same_slot}
use Rattle.nested_arrays_sized_builders.specs.nulls.columns.Slots.{Slot, null}
use Rattle.nested_arrays_sized_builders.specs.nulls.columns.SoundColumns.{is_sound}
use Rattle.nested_arrays_sized_builders.specs.nulls.columns.StoredColumns.{Column, column_len, column_type, slot_at, slots, type_layer}
use Rattle.nested_arrays_sized_builders.specs.nulls.generic.Dictionaries.{is_value_type}
use Rattle.nested_arrays_sized_builders.specs.cells.taken.OpenColumns.{Becomes, IsEmptied, IsFresh, KeepsFirst, slots_and}
use Rattle.nested_arrays_sized_builders.specs.cells.taken.builders.columns.OpenParts.{grown_values, used_by}
use Rattle.nested_arrays_sized_builders.proofs.nulls_lemmas.arrays_lemmas.columns_lemmas.FreshSlots.{fresh_slots}
use Rattle.nested_arrays_sized_builders.proofs.nulls_lemmas.arrays_lemmas.columns_lemmas.FreshSound.{fresh_is_sound}
use Rattle.nested_arrays_sized_builders.proofs.nulls_lemmas.arrays_lemmas.columns_lemmas.ColumnSizes.{slots_lengths}
use Rattle.nested_arrays_sized_builders.proofs.nulls_lemmas.arrays_lemmas.columns_lemmas.FreshLengths.{Layer}
use Rattle.nested_arrays_sized_builders.proofs.nulls_lemmas.arrays_lemmas.columns_lemmas.FreshPlaces.{at_window}
use Rattle.nested_arrays_sized_builders.proofs.nulls_lemmas.arrays_lemmas.columns_lemmas.SameSlotsDecide.{same_slot-implies, same_slot-itself}
use Rattle.nested_arrays_sized_builders.proofs.columns_lemmas.Below.{buildable_dictionary, values_fit_below}
use Rattle.nested_arrays_sized_builders.proofs.columns_lemmas.Laws.{one_more_key}
use Rattle.nested_arrays_sized_builders.proofs.columns_lemmas.LayersLaid.{layouts_tell}
use Rattle.nested_arrays_sized_builders.proofs.columns_lemmas.Limits.{first_ones_fit, fits_length}
use Rattle.nested_arrays_sized_builders.proofs.columns_lemmas.OneMore.{dictionary_takes_null}
use Rattle.nested_arrays_sized_builders.proofs.columns_lemmas.TypeSteps.{cell_by_layer}
use Rattle.nested_arrays_sized_builders.proofs.columns_lemmas.Values.{key_new, not_among, values_distinct, values_grow}
use Rattle.nested_arrays_dictionary_builders.specs.DictionaryBuilders.{keyed_over}
use Rattle.nested_arrays_dictionary_builders.proofs.KeyedSlots.{first_uses, greatest_more, one_use_more, slot_of_use, sound_below, sound_over}
use Rattle.nested_arrays_dictionary_builders.proofs.OpenParts.{fresh_open}
use Rattle.nested_arrays_dictionary_builders.proofs.KeyedStored.{stored_keys, uses_stored, values_stored}

or_some : (a b c : Bool) → (a || b) ≡ true → (a || b || c) ≡ true
or_some true b c h = refl
or_some false true c h = refl
or_some false false c h = absurd (false≢true h)

or_third : (a b c : Bool) → a ≡ false → b ≡ false → (a || b || c) ≡ c
or_third false false c p q = refl
or_third true b c p q = absurd cc
or_third false true c p q = absurd cc

-- a slot that no place has is not among those of a column
pub none_among : (child : Column) (s : Slot) → ((k : ℕ) → k < column_len child → slot_at child k ≢ s) → is_among s (slots child) ≡ false
none_among child s absent =
    not_among s (slots child) null (λ k lt. false_from_ne_true (same_slot s (get_or (slots child) k null)) (λ same.
    let within : k < column_len child = omega (arith, lt, slots_lengths child) in
    absent k within (at_window (slot_at child) (column_len child) (slots child) k null refl within
    ∙ sym (same_slot-implies s (get_or (slots child) k null) same))))

module _ (key : IntegerType) (t : DataType) (uses : List ℕ) (child : Column) (lies : physical_type t ≡ physical.Dictionary key)
    (valued : is_value_type (type_layer t) (column_type child) ≡ true) (held : greatest uses ≡ column_len child)
    (few : greatest uses ≤ most_values key) where
  abbrev old : Column
  old = keyed_over t uses child

  laid : (value : DataType) × (is_ordered : Bool) × (type_layer t ≡ layer.Dictionary key value is_ordered)
  laid = layouts_tell t (physical.Dictionary key) lies

  abbrev value : DataType
  value = laid.0

  abbrev is_ordered : Bool
  is_ordered = laid.1

  layered : type_layer t ≡ layer.Dictionary key value is_ordered
  layered = laid.2

  own : value ≡ column_type child
  own = (same_type-Decides value (column_type child)).0 (sym (ap (λ (x : Layer). is_value_type x (column_type child)) layered) ∙ valued)

  abbrev xs : List Slot
  xs = slots old

  abbrev values : List Slot
  values = dictionary_values xs

  old_long : length xs ≡ length uses
  old_long = slots_lengths old ∙ length-map uses (λ n. pos (key_of n))

  below : greatest uses ≤ column_len child
  below = omega (arith, held)

  -- ---- fresh ones

  module _ (f : IsFresh old) where
    uses_are : uses ≡ uses_among values xs
    uses_are = uses_stored t key value is_ordered layered uses child xs f.stored (sym old_long)

    child_is : child ≡ fresh value values
    child_is = values_stored t key value is_ordered layered uses child xs f.stored

    fit_below : fits value values ≡ true
    fit_below = (values_fit_below t key value is_ordered layered xs f.fit).1

    can_below : is_buildable value ≡ true
    can_below = sym (buildable_dictionary t key value is_ordered layered) ∙ f.can

    child_fresh : IsFresh child
    child_fresh = subst IsFresh (sym child_is) (fresh_open value values fit_below can_below)

    child_slots : slots child ≡ values
    child_slots = ap slots child_is ∙ fresh_slots value values can_below fit_below

    old_sound : is_sound old ≡ true
    old_sound = ap is_sound f.stored ∙ fresh_is_sound t xs f.can f.fit

    child_sound : is_sound child ≡ true
    child_sound = sound_below t uses child old_sound

    child_long : column_len child ≡ length values
    child_long = sym (slots_lengths child) ∙ ap length child_slots

  -- ---- a slot more

  module _ (s : Slot) (u : ℕ) (grown : Column) (typed : column_type grown ≡ column_type child) (most : u ≤ most_values key)
      (stands : u ≤ column_len grown)
      (goes : is_sound child ≡ true → (rest : List Slot) × (is_sound grown ≡ true) × (slots grown ≡ slots child ++ rest)
      × (slot_of_use (slots grown) u ≡ s))
      (kept : (f : IsFresh old) → (grown ≡ fresh value (grown_values values s)) × (u ≡ use_among (grown_values values s) s)
      × (fits t (xs ++ s ∷ []) ≡ true)) where
    abbrev new : Column
    new = keyed_over t (uses ++ u ∷ []) grown

    new_sound : is_sound old ≡ true → (is_sound new ≡ true) × (slots new ≡ xs ++ s ∷ [])
    new_sound h =
        let on = goes (sound_below t uses child h) in
        let before = slots_lengths child in
        let long : column_len grown ≡ length (slots child) + length on.0 =
        sym (slots_lengths grown) ∙ ap length on.2 ∙ length-append (slots child) on.0 in
        let all : greatest (uses ++ u ∷ []) ≤ column_len grown = omega (arith, greatest_more uses u, held, stands, long, before) in
        let told : greatest (uses ++ u ∷ []) ≤ most_values key = omega (arith, greatest_more uses u, few, most) in (
          sound_over t (uses ++ u ∷ []) grown key value is_ordered layered (own ∙ sym typed) all told on.1,
          one_use_more t child grown on.0 uses u below on.2 stands ∙ ap (λ (x : Slot). xs ++ x ∷ []) on.3,
        )

    new_fresh : IsFresh old → IsFresh new
    new_fresh f =
        let on = kept f in
        let more : uses ++ u ∷ [] ≡ uses_among (dictionary_values (xs ++ s ∷ [])) (xs ++ s ∷ []) =
        (λ j. uses_are f j ++ on.1 j ∷ []) ∙ sym (uses_one_more xs s) in
        let grows : grown ≡ fresh value (dictionary_values (xs ++ s ∷ [])) = on.0 ∙ ap (fresh value) (sym (values_grow xs s)) in
        let same : slots new ≡ xs ++ s ∷ [] = (new_sound (old_sound f)).1 in record {
          stored = (λ j. keyed_over t (more j) (grows j)) ∙ stored_keys t key value is_ordered layered (xs ++ s ∷ []) ∙ ap (fresh t) (sym same);
          fit = ap (fits t) same ∙ on.2;
          can = f.can;
        }

    new_long : column_len new ≡ length (xs ++ s ∷ [])
    new_long = omega (
      arith,
      length-map (uses ++ u ∷ []) (λ n. pos (key_of n)),
      length-append uses (u ∷ []),
      length-append xs (s ∷ []),
      old_long,
    )

    slot_added : Becomes old (slots_and old s) new
    slot_added = record { typed = refl; long = new_long; sound = new_sound; fresh = new_fresh }

  -- a null
  pub null_added : length uses < most_slots → Becomes old (slots_and old null) (keyed_over t (uses ++ 0 ∷ []) child)
  null_added room =
      slot_added null 0 child refl (omega arith) (omega arith)
      (λ h. ([], h, sym (append-nil (slots child)), refl))
      (λ f. (
        child_is f,
        refl,
        dictionary_takes_null t key value is_ordered layered xs f.fit ∙ le-leb (length xs + 1) most_slots (omega (arith, room, old_long)),
      ))

  -- one of the values
  module _ (s : Slot) (k : ℕ) (some : is_null s ≡ false) (lt : k < column_len child) (is : slot_at child k ≡ s) where
    found : get_or (slots child) k null ≡ s
    found = sym (at_window (slot_at child) (column_len child) (slots child) k null refl lt) ∙ is

    needs : (f : IsFresh old) → (k + 1 ≡ use_among values s) × ((is_null s || is_among s values) ≡ true)
    needs f =
        let at : get_or values k null ≡ s = ap (λ (ys : List Slot). get_or ys k null) (sym (child_slots f)) ∙ found in
        value_needs values s k (values_distinct xs) some (omega (arith, lt, child_long f)) (ap (same_slot s) at ∙ same_slot-itself s)

    pub known_added : (u : ℕ) → u ≡ k + 1 → length uses < most_slots → Becomes old (slots_and old s) (keyed_over t (uses ++ u ∷ []) child)
    known_added u next room =
        let named : u ≡ suc k = omega (arith, next) in
        slot_added s u child refl (omega (arith, next, lt, held, few)) (omega (arith, next, lt))
        (λ h. ([], h, sym (append-nil (slots child)), ap (slot_of_use (slots child)) named ∙ found))
        (λ f.
        let need = needs f in
        let stays : grown_values values s ≡ values = ap (λ (b : Bool). if b then values else values ++ s ∷ []) need.1 in
        let more = nat_le (length values + 1) (most_values key) && fits value (values ++ s ∷ []) in (
          child_is f ∙ ap (fresh value) (sym stays),
          next ∙ need.0 ∙ ap (λ (ys : List Slot). use_among ys s) (sym stays),
          one_more_key t key value is_ordered layered xs s f.fit
              ∙ and_from (nat_le (length xs + 1) most_slots) (is_null s || is_among s values || more)
              (le-leb (length xs + 1) most_slots (omega (arith, room, old_long))) (or_some (is_null s) (is_among s values) more need.1),
        ))

  -- one that is no value yet
  module _ (s : Slot) (some : is_null s ≡ false) (absent : (k : ℕ) → k < column_len child → slot_at child k ≢ s) where
    module _ (f : IsFresh old) where
      none : is_among s values ≡ false
      none = ap (is_among s) (sym (child_slots f)) ∙ none_among child s absent

      grows : grown_values values s ≡ values ++ s ∷ []
      grows = ap (λ (b : Bool). if b then values else values ++ s ∷ []) (or_from (is_null s) (is_among s values) some none)

      values_then : dictionary_values (xs ++ s ∷ []) ≡ values ++ s ∷ []
      values_then = values_grow xs s ∙ grows

      use_is : use_among (grown_values values s) s ≡ suc (length values)
      use_is =
          ap (λ (ys : List Slot). use_among ys s) grows
          ∙ ap (λ (b : Bool). used_by (not b) (key_among (values ++ s ∷ []) s)) some
          ∙ ap suc (key_new s values some none)

    pub new_added : (u : ℕ) (grown : Column) → Becomes child (slots_and child s) grown → u ≡ column_len child + 1 → column_len child < most_values key
        → length uses < most_slots → Becomes old (slots_and old s) (keyed_over t (uses ++ u ∷ []) grown)
    new_added u grown becomes next told room =
        let longer : column_len grown ≡ column_len child + 1 =
        omega (arith, becomes.long, length-append (slots child) (s ∷ []), slots_lengths child) in
        slot_added s u grown becomes.typed (omega (arith, next, told)) (omega (arith, next, longer)) goes kept
      where
        goes : is_sound child ≡ true → (rest : List Slot) × (is_sound grown ≡ true) × (slots grown ≡ slots child ++ rest)
            × (slot_of_use (slots grown) u ≡ s)
        goes h =
            let on = becomes.sound h in
            let named : u ≡ suc (column_len child) = omega (arith, next) in (
              s ∷ [],
              on.0,
              on.1,
              ap (slot_of_use (slots grown)) named ∙ ap (λ (ys : List Slot). get_or ys (column_len child) null) on.1
                  ∙ get_or_at (slots child) s [] null (column_len child) (slots_lengths child),
            )

        kept : (f : IsFresh old) → (grown ≡ fresh value (grown_values values s)) × (u ≡ use_among (grown_values values s) s)
            × (fits t (xs ++ s ∷ []) ≡ true)
        kept f =
            let later = becomes.fresh (child_fresh f) in
            let slots_are : slots grown ≡ values ++ s ∷ [] =
            (becomes.sound (child_sound f)).1 ∙ ap (λ (ys : List Slot). ys ++ s ∷ []) (child_slots f) in
            let typed : column_type grown ≡ value = becomes.typed ∙ sym own in
            let here : fits value (values ++ s ∷ []) ≡ true = (λ j. fits (sym typed j) (sym slots_are j)) ∙ later.fit in
            let most = nat_le (length values + 1) (most_values key) in
            let more : (most && fits value (values ++ s ∷ [])) ≡ true =
            and_from most (fits value (values ++ s ∷ []))
            (le-leb (length values + 1) (most_values key) (omega (arith, told, child_long f))) here in (
              later.stored ∙ (λ j. fresh (typed j) (slots_are j)) ∙ ap (fresh value) (sym (grows f)),
              omega (arith, next, child_long f, use_is f),
              one_more_key t key value is_ordered layered xs s f.fit
                  ∙ and_from (nat_le (length xs + 1) most_slots) (is_null s || is_among s values || (most && fits value (values ++ s ∷ [])))
                  (le-leb (length xs + 1) most_slots (omega (arith, room, old_long)))
                  (or_third (is_null s) (is_among s values) (most && fits value (values ++ s ∷ [])) some (none f) ∙ more),
            )

    -- ---- what has no room

    pub no_more_keys : most_values key ≤ column_len child → IsFresh old → fits t (slots_and old s) ≡ false
    no_more_keys told f =
        false_from_ne_true (fits t (xs ++ s ∷ [])) (λ fit.
        let later = values_fit_below t key value is_ordered layered (xs ++ s ∷ []) fit in
        omega (arith, later.0, ap length (values_then f), length-append values (s ∷ []), child_long f, told))

    pub no_more_values : (IsFresh child → fits (column_type child) (slots_and child s) ≡ false) → IsFresh old → fits t (slots_and old s) ≡ false
    no_more_values why f =
        false_from_ne_true (fits t (xs ++ s ∷ [])) (λ fit.
        let later = values_fit_below t key value is_ordered layered (xs ++ s ∷ []) fit in
        let fit_then : fits value (values ++ s ∷ []) ≡ true = ap (fits value) (sym (values_then f)) ∙ later.1 in
        false≢true (sym (why (child_fresh f)) ∙ (λ j. fits (sym own j) (child_slots f j ++ s ∷ [])) ∙ fit_then))

  pub too_many : (s : Slot) → length uses ≡ most_slots → fits t (slots_and old s) ≡ false
  too_many s full =
      false_from_ne_true (fits t (xs ++ s ∷ [])) (λ fit.
      omega (arith, fits_length t (xs ++ s ∷ []) fit, length-append xs (s ∷ []), old_long, full))

  -- what does not fit the type of the values does not fit the dictionary's
  pub unlike_values : (s : Slot) → fits_cell (column_type child) s ≡ false → fits_cell t s ≡ false
  unlike_values s other =
      (λ j. cell_by_layer t (layer.Dictionary key value is_ordered) layered j s) ∙ (λ j. fits_cell (own j) s) ∙ other

  -- ---- the first slots

  module _ (n : ℕ) (le : n ≤ length uses) (left : Column) (keeps : KeepsFirst child (greatest (take n uses)) left) where
    abbrev cut : Column
    cut = keyed_over t (take n uses) left

    pub left_long : column_len left ≡ greatest (take n uses)
    left_long =
        keeps.long
        ∙ length-take-le (greatest (take n uses)) (slots child) (omega (arith, greatest_first n uses, held, slots_lengths child))

    cut_sound : is_sound old ≡ true → (is_sound cut ≡ true) × (slots cut ≡ take n xs)
    cut_sound h =
        let under = keeps.sound (sound_below t uses child h) in (
          sound_over t (take n uses) left key value is_ordered layered (own ∙ sym keeps.typed) (omega (arith, left_long))
              (omega (arith, greatest_first n uses, few)) under.0,
          first_uses t child left uses n below under.1,
        )

    cut_fresh : IsFresh old → IsFresh cut
    cut_fresh f =
        let later = keeps.fresh (child_fresh f) in
        let within : n ≤ length xs = omega (arith, le, old_long) in
        let uses_then : take n uses ≡ uses_among (dictionary_values (take n xs)) (take n xs) = ap (take n) (uses_are f) ∙ sym (uses_first n xs) in
        let slots_then : slots left ≡ dictionary_values (take n xs) =
        (keeps.sound (child_sound f)).1 ∙ ap (take (greatest (take n uses))) (child_slots f)
        ∙ ap (λ (us : List ℕ). take (greatest (take n us)) values) (uses_are f) ∙ sym (values_first_used n xs within) in
        let left_is : left ≡ fresh value (dictionary_values (take n xs)) =
        later.stored ∙ (λ j. fresh ((keeps.typed ∙ sym own) j) (slots_then j)) in
        let same : slots cut ≡ take n xs = (cut_sound (old_sound f)).1 in record {
          stored = (λ j. keyed_over t (uses_then j) (left_is j)) ∙ stored_keys t key value is_ordered layered (take n xs) ∙ ap (fresh t) (sym same);
          fit = ap (fits t) same ∙ first_ones_fit t n xs f.fit;
          can = f.can;
        }

    pub first_left : KeepsFirst old n cut
    first_left = record {
      typed = refl;
      long = omega (
        arith,
        length-map (take n uses) (λ m. pos (key_of m)),
        length-take-le n uses le,
        length-take-le n xs (omega (arith, le, old_long)),
      );
      sound = cut_sound;
      fresh = cut_fresh;
    }

  -- ---- none left

  pub none_left : (left : Column) → IsEmptied child left → IsEmptied old (keyed_over t [] left)
  none_left left h = record { typed = refl; long = refl; begun = begun }
    where
      begun : is_sound old ≡ true → keyed_over t [] left ≡ fresh t []
      begun sound =
          ap (keyed_over t []) (h.begun (sound_below t uses child sound) ∙ ap (λ (own : DataType). fresh own []) (sym own))
          ∙ stored_keys t key value is_ordered layered []

  pub unsound_below : is_sound child ≡ false → is_sound old ≡ false
  unsound_below other =
      elim (cases_Bool (is_sound old)) [
        | inl sound ↦ absurd (false≢true (sym other ∙ sound_below t uses child sound))
        | inr unsound ↦ unsound
      ]
