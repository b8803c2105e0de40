-- The items of a second builder that are pushed behind those of lists.
use Rattle.std.specs.Prelude.{◌≡◌, ℕ, Result, MatchResult}
use Rattle.nested_arrays_sized_builders.specs.ListBuilders.{KeepsParts, ListParts, with_values}
use Rattle.nested_arrays_sized_builders.specs.nulls.columnar_memory.declared.Error.{Error}
use Rattle.nested_arrays_sized_builders.specs.nulls.columnar_memory.Spans.{first_spans, last_of}
use Rattle.nested_arrays_sized_builders.specs.nulls.columns.StoredColumns.{Column, slots}
use Rattle.nested_arrays_sized_builders.specs.cells.taken.OpenColumns.{Becomes, KeepsFirst}
use Rattle.nested_arrays_dictionary_builders.specs.JoinedColumns.{AddsColumn, AreApart, Joins}

-- The items of another stand behind those of the lists, which are as they were; or the items are too.
abbrev pub AddsItems : {M U : Type 0} → (M → Column) → ListParts M → M → ListParts M → Result U Error → Type 0
AddsItems column old items new r = (new ≡ with_values old new.values) × AddsColumn (column old.values) (column items) (column new.values) r

-- The items of another stand behind those of the lists; or the first lists are left, over items that were as before and were cut.
abbrev pub JoinsItems : {M U : Type 0} → (M → Column) → ListParts M → M → ℕ → ListParts M → Result U Error → Type 0
JoinsItems {M} column old items n new r =
    MatchResult r (λ _. (new ≡ with_values old new.values) × Joins (column old.values) (column items) (column new.values))
    (λ e. KeepsParts old n new × ((mid : M) × Becomes (column old.values) (slots (column old.values)) (column mid)
    × KeepsFirst (column mid) (last_of (first_spans old.spans n)) (column new.values)) × AreApart (column old.values) (column items) e)
