-- What pushes, cuts and taking out make of the column of lists of one size, by that of their items.
use Rattle.std.proofs.Common.{◌≡◌, ◌∙◌, ◌<◌, ◌≤◌, ◌+◌, ◌-◌, ◌*◌, ℕ, suc, List, [], ◌∷◌, ◌++◌, length, take, drop, replicate, get_or, Bool, true, false}
use Rattle.std.proofs.Common.{refl, sym, ap, subst, arith}
use Rattle.std.specs.Prelude.{Option, ◌&&◌, ◌==◌, ◌/◌, if◌then◌else◌, nat_le}
use Rattle.std.specs.List.{list_all}
use Rattle.std.proofs.Math.Bool.{and-false}
use Rattle.std.proofs.Math.Nat.{add-div_right, mul-add, mul-div-le, mul-div_cancel_left, mul-le-mul_left}
use Rattle.std.proofs.lemmas.Bool.{and_from, and_parts, eq-eqb, eqb-true, le-leb, leb-true}
use Rattle.std.proofs.lemmas.List.{drop_at, get_or-take, length-append, length-replicate, length-take-le, take_all}
use denote.Hole.Carrier
use Rattle.nested_arrays_generic_builders.specs.nulls.arrays.Lengths.{layer_size, size_of}
use Rattle.nested_arrays_generic_builders.specs.nulls.columnar_memory.declared.DataType.{DataType}
use Rattle.nested_arrays_generic_builders.specs.nulls.columnar_memory.declared.DataType.TheOpen as layer
use Rattle.nested_arrays_generic_builders.specs.nulls.columnar_memory.declared.DataType.TheVariants as types
use Rattle.nested_arrays_generic_builders.specs.nulls.columnar_memory.declared.DataType.TheViews.{roll-DataType}
use Rattle.nested_arrays_generic_builders.specs.nulls.columnar_memory.declared.Field.{Field}
use Rattle.nested_arrays_generic_builders.specs.nulls.columnar_memory.Equality.{same_type, same_type-Decides}
use Rattle.nested_arrays_generic_builders.specs.nulls.columns.Children.{fixed_items_of, joined_fixed_items}
use Rattle.nested_arrays_generic_builders.specs.nulls.columns.FreshColumns.{fresh, mask_of}
use Rattle.nested_arrays_generic_builders.specs.nulls.columns.FreshLaws.{is_buildable}
use Rattle.nested_arrays_generic_builders.specs.nulls.columns.Kinds.{most_slots}
use Rattle.nested_arrays_generic_builders.specs.nulls.columns.OpenBatch.{fits, is_length}
use Rattle.nested_arrays_generic_builders.specs.nulls.columns.Slots.{Slot, null, items, in_slots, window}
use Rattle.nested_arrays_generic_builders.specs.nulls.columns.SoundColumns.{are_pieces, has_fixed_item_type, is_sound, mask_fits}
use Rattle.nested_arrays_generic_builders.specs.nulls.columns.StoredColumns.{Column, column_len, column_type, fixed_lists, slot_at, slots, type_layer}
use Rattle.nested_arrays_generic_builders.specs.nulls.flat.ColumnMasks.{column_mask}
use Rattle.nested_arrays_generic_builders.specs.cells.parts.Marks.{mask_of_marks}
use Rattle.nested_arrays_generic_builders.specs.cells.parts.Open.{opened}
use Rattle.nested_arrays_generic_builders.specs.cells.parts.columns.OpenParts.{is_list_sized, marks_of}
use Rattle.nested_arrays_generic_builders.specs.cells.taken.OpenColumns.{Becomes, IsEmptied, IsFresh, KeepsFirst, slots_and}
use Rattle.nested_arrays_generic_builders.specs.ListBuilders.{list_slot}
use Rattle.nested_arrays_generic_builders.proofs.ListSlots.{window_rest}
use Rattle.nested_arrays_generic_builders.proofs.ListsStored.{marks_fit}
use Rattle.nested_arrays_generic_builders.proofs.cells_lemmas.taken_lemmas.OpenColumns.{open_fresh, open_slots, open_type}
use Rattle.nested_arrays_generic_builders.proofs.cells_lemmas.columns_lemmas.ColumnSizes.{slots_lengths}
use Rattle.nested_arrays_generic_builders.proofs.cells_lemmas.columns_lemmas.Conditions.{parts_of_4}
use Rattle.nested_arrays_generic_builders.proofs.cells_lemmas.columns_lemmas.FreshLengths.{Layer}
use Rattle.nested_arrays_generic_builders.proofs.cells_lemmas.columns_lemmas.FreshPlaces.{at_window}
use Rattle.nested_arrays_generic_builders.proofs.cells_lemmas.columns_lemmas.TypeLayers.{layer_itself}
use Rattle.nested_arrays_generic_builders.proofs.cells_lemmas.columns_lemmas.Windows.{window_same}
use Rattle.nested_arrays_generic_builders.proofs.cells_lemmas.columns_lemmas.Below.{buildable_fixed_list, fixed_items_fit_below}
use Rattle.nested_arrays_generic_builders.proofs.cells_lemmas.columns_lemmas.FirstOnes.{fixed_items_cut}
use Rattle.nested_arrays_generic_builders.proofs.cells_lemmas.columns_lemmas.LayerParts.{fresh_fixed_list}
use Rattle.nested_arrays_generic_builders.proofs.cells_lemmas.columns_lemmas.Limits.{first_ones_fit}
use Rattle.nested_arrays_generic_builders.proofs.cells_lemmas.columns_lemmas.Masks.{marks_cut, marks_one_more}
use Rattle.nested_arrays_generic_builders.proofs.cells_lemmas.columns_lemmas.OneMore.{fixed_list_fits_one_more}
use Rattle.nested_arrays_generic_builders.proofs.cells_lemmas.columns_lemmas.Pieces.{joined_one_more}
use Rattle.nested_arrays_sized_builders.specs.FixedListBuilders.{lists_over, marks_for}
use Rattle.nested_arrays_sized_builders.proofs.GrownColumns.{begins, fresh_sound}
use Rattle.nested_arrays_sized_builders.proofs.MarkedSlots.{first_marked, marks_by_mask, marks_masked, masked_at, one_more_marked, valid_mark}
use Rattle.nested_arrays_sized_builders.proofs.SettledMarks.{settled, settled_first, settled_for, settled_many, settled_mask}
use Rattle.nested_arrays_sized_builders.proofs.SizedColumns.{ends_within}

-- ---- types

-- the size of the type of lists of a size
pub type_size : (item : Field) (size : ℕ) → size_of (types.FixedSizeList item size) ≡ size
unfolding roll-DataType denote.Hole.Carrier.roll
type_size item size = ap layer_size (layer_itself (layer.FixedSizeList item size) refl)

sized_layer : (x : Layer) → 0 < layer_size x → (item : Field) × (x ≡ layer.FixedSizeList item (layer_size x))
sized_layer (layer.FixedSizeList item size) some = (item, refl)
sized_layer _ some = absurd (omega (arith, some))

abbrev child_of : Column → Column → Column
child_of (fixed_lists t mask size child) other = child
child_of _ other = other

-- ---- slots

-- the list at a place, by the items
abbrev pub list_of : ℕ → (ℕ → Slot) → ℕ → Slot
list_of size at i = items (in_slots (window at (size * i) size))

-- it is the same over items that are the same up to its end
pub same_list : (size n : ℕ) (at kept : ℕ → Slot) → ((i : ℕ) → i < size * n → kept i ≡ at i) → (i : ℕ) → i < n
    → list_of size kept i ≡ list_of size at i
same_list size n at kept same i h =
    ap (λ (xs : List Slot). items (in_slots xs))
    (window_same kept at (size * i) (size * i) size (λ k lt. same (size * i + k) (omega (arith, lt, ends_within size i n h))))

module _ (t : DataType) (some : 0 < size_of t) where
  abbrev size : ℕ
  size = size_of t

  pub named : (item : Field) × (type_layer t ≡ layer.FixedSizeList item size)
  named = sized_layer (type_layer t) some

  pub typed_as : (child : DataType) → has_fixed_item_type (type_layer t) size child ≡ same_type named.0.data_type child
  typed_as child =
      ap (λ (x : Layer). has_fixed_item_type x size child) named.1
      ∙ ap (λ (b : Bool). b && same_type named.0.data_type child) (eq-eqb size size refl)

  pub count_is : (n m : ℕ) → n ≡ size * m → n / size ≡ m
  count_is n m long = ap (λ (k : ℕ). k / size) long ∙ mul-div_cancel_left m {n = size} some

  -- the slots of lists that have a mark each
  pub fixed_slots : (ms : List Bool) (child : Column) (n : ℕ) → length ms ≡ n → column_len child / size ≡ n
      → slots (lists_over t ms child) ≡ window (masked_at (list_of size (slot_at child)) ms) 0 n
  fixed_slots ms child n counted count =
      ap (window (slot_at (lists_over t ms child)) 0) count
      ∙ window_same (slot_at (lists_over t ms child)) (masked_at (list_of size (slot_at child)) ms) 0 0 n (λ i h. here (0 + i) (omega (arith, h)))
    where
      here : (i : ℕ) → i < n → slot_at (lists_over t ms child) i ≡ masked_at (list_of size (slot_at child)) ms i
      here i h =
          let mark = valid_mark ms i (omega (arith, h, counted)) in
          λ j. if mark j then list_of size (slot_at child) i else null

  -- ---- sound lists

  pub record AreSound (mask : Option (List Bool)) (child : Column) : Type 0 where
    pub typed : has_fixed_item_type (type_layer t) size (column_type child) ≡ true
    pub whole : column_len child ≡ size * (column_len child / size)
    pub masked : mask_fits mask (column_len child / size) ≡ true
    pub items : is_sound child ≡ true

  pub sound_parts : (mask : Option (List Bool)) (child : Column) → is_sound (fixed_lists t mask size child) ≡ true → AreSound mask child
  sound_parts mask child sound =
      let n = column_len child in
      let parts = parts_of_4 (has_fixed_item_type (type_layer t) size (column_type child)) (are_pieces size n) (mask_fits mask (n / size))
      (is_sound child) sound in
      let pieces = and_parts (nat_le 1 size) (size * (n / size) == n) parts.1 in record {
        typed = parts.0;
        whole = sym (eqb-true (size * (n / size)) n pieces.1);
        masked = parts.2;
        items = parts.3;
      }

  pub sound_whole : (mask : Option (List Bool)) (child : Column) → AreSound mask child → is_sound (fixed_lists t mask size child) ≡ true
  sound_whole mask child h =
      let n = column_len child in
      let a = has_fixed_item_type (type_layer t) size (column_type child) in
      and_from (a && are_pieces size n && mask_fits mask (n / size)) (is_sound child)
      (and_from (a && are_pieces size n) (mask_fits mask (n / size)) (and_from a (are_pieces size n) h.typed
      (and_from (nat_le 1 size) (size * (n / size) == n) (le-leb 1 size (omega (arith, some))) (eq-eqb (size * (n / size)) n (sym h.whole))))
      h.masked) h.items

  -- ---- fresh lists

  -- the column that stores some lists, by their marks and items
  pub stored_lists : (xs : List Slot) → lists_over t (marks_of xs) (fresh named.0.data_type (joined_fixed_items size xs)) ≡ fresh t xs
  stored_lists xs =
      ap (λ (mask : Option (List Bool)). fixed_lists t mask size (fresh named.0.data_type (joined_fixed_items size xs))) (marks_masked xs)
      ∙ sym (fresh_fixed_list t named.0 size named.1 xs)

  module _ (ms : List Bool) (child : Column) (f : IsFresh (lists_over t ms child)) where
    abbrev own : List Slot
    own = slots (lists_over t ms child)

    abbrev joined : List Slot
    joined = joined_fixed_items size own

    fresh_parts : lists_over t ms child ≡ fixed_lists t (mask_of own) size (fresh named.0.data_type joined)
    fresh_parts = f.stored ∙ fresh_fixed_list t named.0 size named.1 own

    pub fresh_marks : length ms ≡ length own → ms ≡ marks_of own
    fresh_marks long = marks_by_mask ms own (ap column_mask fresh_parts) long

    pub own_fit : (list_all (is_list_sized size) own ≡ true) × (fits named.0.data_type joined ≡ true)
    own_fit = fixed_items_fit_below t named.0 size named.1 own f.fit

    own_can : is_buildable named.0.data_type ≡ true
    own_can =
        (and_parts (nat_le 1 size) (is_buildable named.0.data_type) (sym (buildable_fixed_list t named.0 size named.1) ∙ f.can)).1

    child_is : child ≡ fresh named.0.data_type joined
    child_is = ap (λ (c : Column). child_of c child) fresh_parts

    pub child_fresh : IsFresh child
    child_fresh = subst IsFresh (sym child_is) (open_fresh (opened named.0.data_type joined) own_fit.1 own_can)

    pub child_slots : slots child ≡ joined
    child_slots = ap slots child_is ∙ open_slots (opened named.0.data_type joined) own_fit.1 own_can

    pub child_type : column_type child ≡ named.0.data_type
    child_type = ap column_type child_is ∙ open_type (opened named.0.data_type joined)

    -- lists over other items are fresh where these store what other lists bring, and the lists fit
    pub stored_as : (bits : List Bool) (below : Column) (xs : List Slot) → IsFresh below → column_type below ≡ column_type child
        → slots below ≡ joined_fixed_items size xs → marks_of xs ≡ bits → slots (lists_over t bits below) ≡ xs → fits t xs ≡ true
        → IsFresh (lists_over t bits below)
    stored_as bits below xs g typed held marked same fit =
        let kept : below ≡ fresh named.0.data_type (joined_fixed_items size xs) = g.stored ∙ (λ j. fresh ((typed ∙ child_type) j) (held j)) in
        let stored : lists_over t bits below ≡ fresh t xs = (λ j. lists_over t (sym marked j) (kept j)) ∙ stored_lists xs in record {
          stored = stored ∙ ap (fresh t) (sym same);
          fit = ap (fits t) same ∙ fit;
          can = f.can;
        }

  -- ---- one list more

  module _ (ms : List Bool) (mark : Bool) (a b : Column) (more : List Slot) (n : ℕ) (counted : length ms ≡ n) (whole : column_len a ≡ size * n)
      (wide : length more ≡ size) (same : slots b ≡ slots a ++ more) where
    abbrev before : Column
    before = lists_over t ms a

    abbrev after : Column
    after = lists_over t (ms ++ mark ∷ []) b

    grown_len : column_len b ≡ size * (n + 1)
    grown_len =
        omega (arith, sym (slots_lengths b), ap length same, length-append (slots a) more, slots_lengths a, whole, wide, mul-add size n 1)

    one_longer : length (ms ++ mark ∷ []) ≡ n + 1
    one_longer = omega (arith, length-append ms (mark ∷ []), counted)

    last_list : list_of size (slot_at b) n ≡ list_slot more
    last_list =
        let le : size * n ≤ column_len b = omega (arith, grown_len, mul-add size n 1) in
        let count : column_len b - size * n ≡ size = omega (arith, grown_len, mul-add size n 1) in
        let from : 0 + size * n ≡ size * n = omega arith in
        let rest : window (slot_at b) (size * n) size ≡ drop (size * n) (slots b) =
        (λ j. window (slot_at b) (sym from j) (sym count j)) ∙ sym (window_rest (slot_at b) 0 (column_len b) (size * n) le) in
        ap list_slot (rest ∙ ap (drop (size * n)) same ∙ drop_at (slots a) more (size * n) (slots_lengths a ∙ whole))

    pub grown_slots : slots after ≡ slots before ++ (if mark then list_slot more else null) ∷ []
    grown_slots =
        let last : (if mark then list_of size (slot_at b) n else null) ≡ (if mark then list_slot more else null) =
        ap (λ (s : Slot). if mark then s else null) last_list in
        fixed_slots (ms ++ mark ∷ []) b (n + 1) one_longer (count_is (column_len b) (n + 1) grown_len)
        ∙ one_more_marked (list_of size (slot_at a)) (list_of size (slot_at b)) ms mark n counted
        (same_list size n (slot_at a) (slot_at b) (λ i h. begins a b more same i (omega (arith, h, whole))))
        ∙ (λ j. sym (fixed_slots ms a n counted (count_is (column_len a) n whole)) j ++ last j ∷ [])

    pub grown_sound : column_type b ≡ column_type a → has_fixed_item_type (type_layer t) size (column_type a) ≡ true → is_sound b ≡ true
        → is_sound after ≡ true
    grown_sound typed own sound =
        let count = count_is (column_len b) (n + 1) grown_len in
        sound_whole (mask_of_marks (ms ++ mark ∷ [])) b (record {
          typed = ap (λ (d : DataType). has_fixed_item_type (type_layer t) size d) typed ∙ own;
          whole = grown_len ∙ ap (λ (k : ℕ). size * k) (sym count);
          masked = marks_fit (ms ++ mark ∷ []) (column_len b / size) (one_longer ∙ sym count);
          items = sound;
        })
