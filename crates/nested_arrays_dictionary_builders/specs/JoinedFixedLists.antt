-- The items of a second builder that are pushed behind those of lists of one size.
use Rattle.std.specs.Prelude.{◌≡◌, ◌*◌, ℕ, Result, MatchResult}
use Rattle.nested_arrays_sized_builders.specs.FixedListBuilders.{FixedListParts, KeepsMarks, with_items}
use Rattle.nested_arrays_sized_builders.specs.nulls.arrays.Lengths.{size_of}
use Rattle.nested_arrays_sized_builders.specs.nulls.columnar_memory.declared.Error.{Error}
use Rattle.nested_arrays_sized_builders.specs.nulls.columns.StoredColumns.{Column, slots}
use Rattle.nested_arrays_sized_builders.specs.cells.taken.OpenColumns.{Becomes, KeepsFirst}
use Rattle.nested_arrays_dictionary_builders.specs.JoinedColumns.{AddsColumn, AreApart, Joins}

-- The items of another stand behind those of the lists, which are as they were; or the items are too.
abbrev pub AddsFixedItems : {M U : Type 0} → (M → Column) → FixedListParts M → M → FixedListParts M → Result U Error → Type 0
AddsFixedItems column old items new r = (new ≡ with_items old new.values) × AddsColumn (column old.values) (column items) (column new.values) r

-- The items of another stand behind those of the lists; or the first lists are left, over items that were as before and were cut.
abbrev pub JoinsFixedItems : {M U : Type 0} → (M → Column) → FixedListParts M → M → ℕ → FixedListParts M → Result U Error → Type 0
JoinsFixedItems {M} column old items n new r =
    MatchResult r (λ _. (new ≡ with_items old new.values) × Joins (column old.values) (column items) (column new.values))
    (λ e. KeepsMarks old n new × ((mid : M) × Becomes (column old.values) (slots (column old.values)) (column mid)
    × KeepsFirst (column mid) (size_of old.data_type * n) (column new.values)) × AreApart (column old.values) (column items) e)
