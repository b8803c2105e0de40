-- What a mark and a span more make of a builder of lists.
use Rattle.std.proofs.Common.{◌≡◌, ◌∙◌, ◌<◌, ◌≤◌, ◌+◌, ◌-◌, ℕ, List, [], ◌∷◌, length, Bool, true, false, not, refl, sym, ap, arith, get_or}
use Rattle.std.specs.Prelude.{Option, Some, Result, Ok, Err, ◌⊎◌, slice_get}
use mathlib.Core.Logic.{inl, inr}
use Rattle.nested_arrays_nulls.specs.columnar_memory.declared.Error.{Error}
use Rattle.nested_arrays_nulls.specs.columnar_memory.Error.{IsOutOfMemory, IsOverflow}
use Rattle.nested_arrays_nulls.specs.columnar_memory.Spans.{Spans, extended, last_of}
use Rattle.nested_arrays_nulls.specs.columns.Kinds.{most_slots}
use Rattle.nested_arrays_generic_builders.specs.ListBuilders.{AddsNullList, AddsSpan, ClosesList, HasNoRoom, ListParts, list_parts}

module _ {M U : Type 0} (greatest : ℕ) (old : ListParts M) (ms : List Bool) (s : Spans) where
  pub null_pushed : (r : Result U Error) → last_of old.spans ≤ greatest → AddsSpan greatest old.marks old.spans false 0 ms s r
      → AddsNullList old (list_parts old.data_type ms s old.values) r
  null_pushed (Ok u) few h = ((λ j. list_parts old.data_type (h.0 j) (h.1 j) old.values), h.2)
  null_pushed (Err e) few h = ((λ j. list_parts old.data_type (h.0 j) (h.1 j) old.values), why h.2)
    where
      why : IsOutOfMemory e ⊎ (IsOverflow e × ((length old.marks ≡ most_slots) ⊎ (greatest < last_of old.spans + 0)))
          → IsOutOfMemory e ⊎ (IsOverflow e × (length old.marks ≡ most_slots))
      why (inl memory) = inl memory
      why (inr over) = elim over.1 [ inl full ↦ inr (over.0, full) | inr past ↦ absurd (omega (arith, past, few)) ]

  pub list_closed : (items count : ℕ) (r : Result U Error) → last_of old.spans ≤ items → count ≡ items - last_of old.spans
      → AddsSpan greatest old.marks old.spans true count ms s r → ClosesList greatest items old (list_parts old.data_type ms s old.values) r
  list_closed items count (Ok u) le is h = (
    (λ j. list_parts old.data_type (h.0 j) ((h.1 ∙ ap (λ (n : ℕ). extended old.spans (n ∷ [])) is) j) old.values),
    le,
    omega (arith, le, is, h.3),
    h.2,
  )
  list_closed items count (Err e) le is h = ((λ j. list_parts old.data_type (h.0 j) (h.1 j) old.values), why h.2)
    where
      why : IsOutOfMemory e ⊎ (IsOverflow e × ((length old.marks ≡ most_slots) ⊎ (greatest < last_of old.spans + count)))
          → IsOutOfMemory e ⊎ (IsOverflow e × HasNoRoom greatest items old)
      why (inl memory) = inl memory
      why (inr over) =
          elim over.1 [ inl full ↦ inr (over.0, inl full) | inr past ↦ inr (over.0, inr (inr (omega (arith, past, is, le)))) ]
