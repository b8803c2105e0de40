-- What calls make of a builder of lists of one size, as its parts and as its column.
use Rattle.std.proofs.Common.{◌≡◌, ◌∙◌, ◌<◌, ◌≤◌, ◌+◌, ◌*◌, ℕ, List, [], ◌∷◌, ◌++◌, length, take, replicate, Bool, true, false, not, refl, sym, ap, subst}
use Rattle.std.proofs.Common.{arith}
use Rattle.std.specs.Prelude.{◌/◌, Result, Ok, Err, ◌⊎◌}
use Rattle.std.proofs.Math.Nat.{mul-div-le, mul-le-mul_left}
use Rattle.std.proofs.lemmas.List.{length-append}
use mathlib.Core.Logic.{inl, inr}
use Rattle.nested_arrays_generic_builders.specs.nulls.arrays.Answers.{IsChecked}
use Rattle.nested_arrays_generic_builders.specs.nulls.arrays.Lengths.{size_of}
use Rattle.nested_arrays_generic_builders.specs.nulls.columnar_memory.declared.DataType.{DataType}
use Rattle.nested_arrays_generic_builders.specs.nulls.columnar_memory.declared.Error.{Error}
use Rattle.nested_arrays_generic_builders.specs.nulls.columnar_memory.Error.{IsInvalidArgument, IsOutOfMemory, IsOutOfSpec, IsOverflow}
use Rattle.nested_arrays_generic_builders.specs.nulls.columns.Kinds.{most_slots}
use Rattle.nested_arrays_generic_builders.specs.nulls.columns.OpenBatch.{fits}
use Rattle.nested_arrays_generic_builders.specs.nulls.columns.Slots.{Slot, null}
use Rattle.nested_arrays_generic_builders.specs.nulls.columns.SoundColumns.{is_sound}
use Rattle.nested_arrays_generic_builders.specs.nulls.columns.StoredColumns.{Column, column_len, column_type, slots}
use Rattle.nested_arrays_generic_builders.specs.cells.parts.Marks.{TakesMark}
use Rattle.nested_arrays_generic_builders.specs.cells.taken.OpenColumns.{Becomes, IsEmptied, IsFresh, IsFrozen, KeepsFirst, TakesColumn, slots_and}
use Rattle.nested_arrays_generic_builders.proofs.OpenLists.{same_becomes}
use Rattle.nested_arrays_generic_builders.proofs.cells_lemmas.columns_lemmas.ColumnSizes.{slots_lengths}
use Rattle.nested_arrays_sized_builders.specs.FixedListBuilders.{AddsFixedList, AreFixedLists, ClosesFixedColumn, ClosesFixedList}
use Rattle.nested_arrays_sized_builders.specs.FixedListBuilders.{FixedListParts, FreezesLists, filled, fixed_list_parts, fixed_lists_column}
use Rattle.nested_arrays_sized_builders.specs.FixedListBuilders.{items_with_one, lists_over, marks_for}
use Rattle.nested_arrays_sized_builders.proofs.FixedLists.{first_left, full, list_added, no_null_below, none_left, null_added, same_left, unsound_below}
use Rattle.nested_arrays_sized_builders.proofs.GrownColumns.{nulls_off}

-- what is tested of parts is whether their column is sound
pub lists_frozen : (column : Column) (r : Result Column Error) → IsChecked column r → IsFrozen (λ (array : Column). array) column r
lists_frozen column (Ok array) is = is
lists_frozen column (Err e) is = inr (is.0, unsound (is_sound column) is.1)
  where
    unsound : (b : Bool) → ¬ (b ≡ true) → b ≡ false
    unsound true h = absurd (h refl)
    unsound false h = refl

module _ {M : Type 0} (column : M → Column) (old : FixedListParts M) {size : ℕ} (are : AreFixedLists old.data_type size) where
  abbrev t : DataType
  t = old.data_type

  abbrev whole : Column
  whole = fixed_lists_column column old

  abbrev child : Column
  child = column old.values

  abbrev count : ℕ
  count = column_len child / size_of t

  are_some : 0 < size_of t
  are_some = omega (arith, are.wide, are.some)

  -- ---- a list more

  pub list_closed : {U : Type 0} (ms : List Bool) (r : Result U Error) → column_len child ≡ items_with_one old → TakesMark old.marks true ms r
      → ClosesFixedList (column_len child) old (fixed_list_parts t ms old.values) r
  list_closed ms (Ok u) is h = ((λ j. fixed_list_parts t (h.0 j) old.values), is, h.1)
  list_closed ms (Err e) is h = ((λ j. fixed_list_parts t (h.0 j) old.values), why h.1)
    where
      why : IsOutOfMemory e ⊎ (IsOverflow e × (length old.marks ≡ most_slots))
          → IsOutOfMemory e ⊎ (IsInvalidArgument e × ¬ (column_len child ≡ items_with_one old))
          ⊎ (IsOverflow e × (column_len child ≡ items_with_one old) × (length old.marks ≡ most_slots))
      why (inl memory) = inl memory
      why (inr over) = inr (inr (over.0, is, over.1))

  pub column_closed : {U : Type 0} (new : FixedListParts M) (r : Result U Error) → ClosesFixedList (column_len child) old new r
      → ClosesFixedColumn column old (fixed_lists_column column new) r
  column_closed new (Ok u) h =
      subst (λ (p : FixedListParts M). AddsFixedList t old.marks child (fixed_lists_column column p)) (sym h.0)
      (list_added t are_some old.marks child h.1)
  column_closed new (Err e) h = ap (fixed_lists_column column) h.0

  -- ---- a null more

  sized : (values : M) (n : ℕ) → n ≡ size → Becomes child (slots child ++ replicate n null) (column values)
      → Becomes child (slots child ++ replicate (size_of t) null) (column values)
  sized values n is h =
      subst (λ (n : ℕ). Becomes child (slots child ++ replicate n null) (column values)) (is ∙ sym are.wide) h

  count_is : (items : ℕ) → items ≡ column_len child → items / size ≡ count
  count_is items held = λ j. held j / sym are.wide j

  -- marks of lists that are there
  pub first_marks : (items : ℕ) (first ms : List Bool) → items ≡ column_len child → first ≡ take (items / size) old.marks → ms ≡ first
      → ms ≡ take count old.marks
  first_marks items first ms held kept same = same ∙ kept ∙ ap (λ (n : ℕ). take n old.marks) (count_is items held)

  -- there are no fewer items
  pub few_items : (values : M) (items : ℕ) → items ≡ column_len child → Becomes child (slots child ++ replicate size null) (column values)
      → items ≤ column_len (column values)
  few_items values items held nulls =
      omega (arith, held, nulls.long, length-append (slots child) (replicate size null), slots_lengths child)

  pub null_pushed : (items : ℕ) (first ms : List Bool) (values : M) → items ≡ column_len child → first ≡ take (items / size) old.marks
      → Becomes child (slots child ++ replicate size null) (column values) → ms ≡ filled (items / size) first ++ false ∷ []
      → items / size < most_slots → Becomes whole (slots_and whole null) (fixed_lists_column column (fixed_list_parts t ms values))
  null_pushed items first ms values held kept nulls marked few =
      let same = count_is items held in
      let own : first ≡ take count old.marks = first_marks items first first held kept refl in
      let all : marks_for count old.marks ++ false ∷ [] ≡ ms =
      (λ j. filled (sym same j) (sym own j) ++ false ∷ []) ∙ sym marked in
      subst (λ (bits : List Bool). Becomes whole (slots_and whole null) (lists_over t bits (column values))) all
      (null_added t are_some old.marks child (column values) (sized values size refl nulls) (omega (arith, few, same)))

  -- one that is refused
  refused : (ms : List Bool) (values : M) → ms ≡ take count old.marks → Becomes child (slots child) (column values)
      → Becomes whole (slots whole) (fixed_lists_column column (fixed_list_parts t ms values))
  refused ms values kept same =
      subst (λ (bits : List Bool). Becomes whole (slots whole) (lists_over t bits (column values))) (sym kept)
      (same_left t are_some old.marks child (column values) same)

  pub nulls_refused : (items : ℕ) (ms : List Bool) (values : M) (e : Error) → items ≡ column_len child → ms ≡ take (items / size) old.marks
      → Becomes child (slots child) (column values)
      → IsOutOfMemory e ⊎ (IsOverflow e × (IsFresh child → fits (column_type child) (slots child ++ replicate size null) ≡ false))
      → Becomes whole (slots whole) (fixed_lists_column column (fixed_list_parts t ms values))
      × (IsOutOfMemory e ⊎ (IsOverflow e × (IsFresh whole → fits t (slots_and whole null) ≡ false)))
  nulls_refused items ms values e held kept same why = (refused ms values (first_marks items ms ms held kept refl) same, reason why)
    where
      reason : IsOutOfMemory e ⊎ (IsOverflow e × (IsFresh child → fits (column_type child) (slots child ++ replicate size null) ≡ false))
          → IsOutOfMemory e ⊎ (IsOverflow e × (IsFresh whole → fits t (slots_and whole null) ≡ false))
      reason (inl memory) = inl memory
      reason (inr over) =
          let below : IsFresh child → fits (column_type child) (slots child ++ replicate (size_of t) null) ≡ false =
          subst (λ (n : ℕ). IsFresh child → fits (column_type child) (slots child ++ replicate n null) ≡ false) (sym are.wide) over.1 in
          inr (over.0, no_null_below t are_some old.marks child below)

  -- the items without the nulls
  pub items_again : (values left : M) (items : ℕ) → items ≡ column_len child → Becomes child (slots child ++ replicate size null) (column values)
      → KeepsFirst (column values) items (column left) → Becomes child (slots child) (column left)
  items_again values left items held nulls cut =
      let own : KeepsFirst (column values) (column_len child) (column left) =
      subst (λ (n : ℕ). KeepsFirst (column values) n (column left)) held cut in
      nulls_off child (column values) size nulls (column values) (column left) (same_becomes (column values)) own

  pub mark_refused : (first ms : List Bool) (values left : M) (items : ℕ) (e : Error) → first ≡ take (items / size) old.marks → ms ≡ first
      → items ≡ column_len child → Becomes child (slots child ++ replicate size null) (column values) → KeepsFirst (column values) items (column left)
      → IsOutOfMemory e ⊎ (IsOverflow e × (most_slots ≤ items / size))
      → Becomes whole (slots whole) (fixed_lists_column column (fixed_list_parts t ms left))
      × (IsOutOfMemory e ⊎ (IsOverflow e × (IsFresh whole → fits t (slots_and whole null) ≡ false)))
  mark_refused first ms values left items e kept same held nulls cut why =
      (refused ms left (first_marks items first ms held kept same) (items_again values left items held nulls cut), reason why)
    where
      reason : IsOutOfMemory e ⊎ (IsOverflow e × (most_slots ≤ items / size))
          → IsOutOfMemory e ⊎ (IsOverflow e × (IsFresh whole → fits t (slots_and whole null) ≡ false))
      reason (inl memory) = inl memory
      reason (inr over) = inr (over.0, λ _. full t are_some old.marks child (omega (arith, over.1, count_is items held)))

  -- ---- the first lists

  pub end_within : (k : ℕ) → k ≤ count → size * k ≤ column_len child
  end_within k le =
      let wide : size_of t * k ≡ size * k = ap (λ (n : ℕ). n * k) are.wide in
      omega (arith, wide, mul-div-le (column_len child) (size_of t), mul-le-mul_left {m = k} {n = count} (size_of t) le)

  pub kept_items : (k end : ℕ) (values : M) → end ≡ size * k → KeepsFirst child end (column values) → KeepsFirst child (size_of t * k) (column values)
  kept_items k end values ends keeps =
      subst (λ (n : ℕ). KeepsFirst child n (column values)) (ends ∙ ap (λ (n : ℕ). n * k) (sym are.wide)) keeps

  pub kept_lists : (k end : ℕ) (ms : List Bool) (values : M) → k ≤ count → end ≡ size * k → ms ≡ take k old.marks
      → KeepsFirst child end (column values) → KeepsFirst whole k (fixed_lists_column column (fixed_list_parts t ms values))
  kept_lists k end ms values le ends kept keeps =
      subst (λ (bits : List Bool). KeepsFirst whole k (lists_over t bits (column values))) (sym kept)
      (first_left t are_some old.marks child k le (column values) (kept_items k end values ends keeps))

  -- ---- what is taken out

  pub taken_lists : (values : M) (ms kept : List Bool) (items r : Result Column Error) → ms ≡ [] → kept ≡ old.marks
      → TakesColumn child (column values) (λ (array : Column). array) items → FreezesLists t kept items r
      → TakesColumn whole (fixed_lists_column column (fixed_list_parts t ms values)) (λ (array : Column). array) r
  taken_lists values ms kept items r none marked taken is = (
    subst (λ (bits : List Bool). IsEmptied whole (lists_over t bits (column values))) (sym none)
        (none_left t are_some old.marks child (column values) taken.0),
    frozen items r taken.1 is,
  )
    where
      frozen : (items r : Result Column Error) → (IsFrozen (λ (array : Column). array) child items) → FreezesLists t kept items r
          → IsFrozen (λ (array : Column). array) whole r
      frozen (Ok own) r held is =
          subst (λ (c : Column). IsFrozen (λ (array : Column). array) c r) (λ j. lists_over t (marked j) (held.0 j)) is
      frozen (Err e) r why is =
          subst (λ (r : Result Column Error). IsFrozen (λ (array : Column). array) whole r) (sym is)
          (elim why [ inl memory ↦ inl memory | inr below ↦ inr (below.0, unsound_below t are_some old.marks child below.1) ])
