-- The open columns of builders of any type are fresh, and pushes, cuts and what is taken out are those of their columns.
use Rattle.std.proofs.Common.{◌≡◌, ◌∙◌, ◌<◌, ℕ, List, [], ◌∷◌, ◌++◌, length, take, Bool, true, false, not, refl, sym, ap, subst, get_or}
use Rattle.std.specs.Prelude.{Result, Ok, Err, ◌⊎◌}
use Rattle.std.specs.List.{list_all}
use Rattle.std.proofs.lemmas.Bool.{and_parts, false≢true}
use mathlib.Core.Logic.{inl, inr}
use Rattle.nested_arrays_builders.specs.columnar_memory.declared.DataType.{DataType}
use Rattle.nested_arrays_builders.specs.columnar_memory.declared.DataType.TheOpen as layer
use Rattle.nested_arrays_builders.specs.columnar_memory.declared.Error.{Error}
use Rattle.nested_arrays_builders.specs.columnar_memory.Error.{IsOutOfMemory, IsOverflow}
use Rattle.nested_arrays_builders.specs.columns.Cells.{is_null, fits_cell}
use Rattle.nested_arrays_builders.specs.columns.FreshColumns.{fresh}
use Rattle.nested_arrays_builders.specs.columns.FreshLaws.{is_buildable}
use Rattle.nested_arrays_builders.specs.columns.OpenBatch.{fits, is_within}
use Rattle.nested_arrays_builders.specs.columns.Slots.{Slot, null}
use Rattle.nested_arrays_builders.specs.columns.SoundColumns.{is_sound}
use Rattle.nested_arrays_builders.specs.columns.StoredColumns.{Column, column_len, column_type, slots, type_layer}
use Rattle.nested_arrays_builders.specs.generic.access.Nulls.{is_null_at}
use Rattle.nested_arrays_builders.specs.parts.Open.{Open, opened, column_of, first_slots, with_slot, IsPushed, IsRefusal, IsWithin}
use Rattle.nested_arrays_builders.proofs.columns_lemmas.FreshLengths.{Layer, fresh_layer, cell_layer, buildable_layer}
use Rattle.nested_arrays_builders.proofs.columns_lemmas.Fitting.{null_fits}
use Rattle.nested_arrays_builders.proofs.columns_lemmas.FreshPlaces.{mark_at, passes_at}
use Rattle.nested_arrays_builders.proofs.columns_lemmas.FreshSlots.{fresh_slots, fresh_lengths}
use Rattle.nested_arrays_builders.proofs.columns_lemmas.FreshSound.{fresh_is_sound}
use Rattle.nested_arrays_builders.proofs.columns_lemmas.FreshTypes.{fresh_types}
use Rattle.nested_arrays_builders.proofs.columns_lemmas.TypeLayers.{is_extension}
use Rattle.nested_arrays_builders.proofs.columns_lemmas.Fits.{nothing_fits}
use Rattle.nested_arrays_builders.proofs.columns_lemmas.Limits.{first_ones_fit}
use Rattle.nested_arrays_builders.proofs.columns_lemmas.TypeSteps.{buildable_is, cell_is, fresh_is, not_extended}
use Rattle.nested_arrays_builder_arrays.specs.OpenColumns.{IsFresh, Becomes, AddsNull, KeepsFirst, IsEmptied, TakesColumn, slots_and}
use Rattle.nested_arrays_builder_arrays.specs.Taken.{IsTaken}

pub open_type : (o : Open) → column_type (column_of o) ≡ o.data_type
open_type o = fresh_types o.data_type o.slots

pub open_long : (o : Open) → IsWithin o → is_buildable o.data_type ≡ true → column_len (column_of o) ≡ length o.slots
open_long o within can = fresh_lengths o.data_type o.slots can within

pub open_slots : (o : Open) → IsWithin o → is_buildable o.data_type ≡ true → slots (column_of o) ≡ o.slots
open_slots o within can = fresh_slots o.data_type o.slots can within

pub open_sound : (o : Open) → IsWithin o → is_buildable o.data_type ≡ true → is_sound (column_of o) ≡ true
open_sound o within can = fresh_is_sound o.data_type o.slots can within

pub open_fresh : (o : Open) → IsWithin o → is_buildable o.data_type ≡ true → IsFresh (column_of o)
open_fresh o within can = record {
  stored = λ j. fresh (sym (open_type o) j) (sym (open_slots o within can) j);
  fit = (λ j. fits (open_type o j) (open_slots o within can j)) ∙ within;
  can = ap is_buildable (open_type o) ∙ can;
}

-- an open column in place of another of its type
pub open_becomes : (a b : Open) → IsWithin b → is_buildable a.data_type ≡ true → b.data_type ≡ a.data_type
    → Becomes (column_of a) b.slots (column_of b)
open_becomes a b within can typed =
    let own : is_buildable b.data_type ≡ true = ap is_buildable typed ∙ can in record {
      typed = open_type b ∙ typed ∙ sym (open_type a);
      long = open_long b within own;
      sound = λ _. (open_sound b within own, open_slots b within own);
      fresh = λ _. open_fresh b within own;
    }

module _ (old : Open) (within : IsWithin old) (can : is_buildable old.data_type ≡ true) where
  own : slots (column_of old) ≡ old.slots
  own = open_slots old within can

  same_slots : (new : Open) → new ≡ old → Becomes (column_of old) (slots (column_of old)) (column_of new)
  same_slots new same =
      subst (λ (b : Open). Becomes (column_of old) (slots (column_of old)) (column_of b)) (sym same)
      (subst (λ (xs : List Slot). Becomes (column_of old) xs (column_of old)) (sym own) (open_becomes old old within can refl))

  refused : (e : Error) → IsRefusal old null e
      → IsOutOfMemory e ⊎ (IsOverflow e × (IsFresh (column_of old) → fits (column_type (column_of old)) (slots_and (column_of old) null) ≡ false))
  refused e (inl memory) = inl memory
  refused e (inr (inl other)) = absurd (false≢true (sym other.1 ∙ null_fits old.data_type))
  refused e (inr (inr full)) = inr (full.0, λ _. (λ j. fits (open_type old j) (own j ++ null ∷ [])) ∙ full.2)

  pub pushed_null : {U : Type 0} (new : Open) (r : Result U Error) → IsPushed old null new r → AddsNull (column_of old) (column_of new) r
  pushed_null new (Ok u) h =
      subst (λ (b : Open). Becomes (column_of old) (slots_and (column_of old) null) (column_of b)) (sym h.0)
      (subst (λ (xs : List Slot). Becomes (column_of old) (xs ++ null ∷ []) (column_of (with_slot old null))) (sym own)
      (open_becomes old (with_slot old null) h.1 can refl))
  pushed_null new (Err e) h = (same_slots new h.0, refused e h.1)

  pub kept_first : (new : Open) (n : ℕ) → new ≡ first_slots old n → KeepsFirst (column_of old) n (column_of new)
  kept_first new n is =
      subst (λ (b : Open). KeepsFirst (column_of old) n (column_of b)) (sym is)
      (subst (λ (xs : List Slot). Becomes (column_of old) (take n xs) (column_of (first_slots old n))) (sym own)
      (open_becomes old (first_slots old n) (first_ones_fit old.data_type n old.slots within) can refl))

  emptied : (new : Open) → new ≡ opened old.data_type [] → IsEmptied (column_of old) (column_of new)
  emptied new is = record {
    typed = ap (λ (b : Open). column_type (column_of b)) is ∙ open_type (opened old.data_type []) ∙ sym (open_type old);
    long = ap (λ (b : Open). column_len (column_of b)) is ∙ open_long (opened old.data_type []) (nothing_fits old.data_type) can;
    begun = λ _. ap column_of is ∙ ap (λ (t : DataType). fresh t []) (sym (open_type old));
  }

  pub taken_column : {A : Type 0} (new : Open) (content : A → Column) (r : Result A Error) → IsTaken old new content r
      → TakesColumn (column_of old) (column_of new) content r
  taken_column new content (Ok a) h = (emptied new h.0, (h.1, open_sound old within can))
  taken_column new content (Err e) h = (emptied new h.0, inl h.1)

-- ---- which slots are null, by the mask

null_by_layer : (x : Layer) (t : DataType) (xs : List Slot) (i : ℕ) → i < length xs → is_extension x ≡ false → buildable_layer x ≡ true
    → list_all (cell_layer x) xs ≡ true → is_null_at (fresh_layer x t xs) i ≡ is_null (get_or xs i null)
null_by_layer layer.Null t xs i lt plain can all = sym (passes_at is_null xs i null all lt)
null_by_layer (layer.Union children ids mode) t xs i lt plain can all = absurd (false≢true can)
null_by_layer (layer.Extension name inner metadata) t xs i lt plain can all = absurd (false≢true (sym plain))
null_by_layer _ t xs i lt plain can all = ap not (mark_at xs i lt) ∙ sym (twice (is_null (get_or xs i null)))
  where
    twice : (b : Bool) → b ≡ not (not b)
    twice true = refl
    twice false = refl

pub open_null : (o : Open) (i : ℕ) → IsWithin o → is_buildable o.data_type ≡ true → i < length o.slots
    → is_null_at (column_of o) i ≡ is_null (get_or o.slots i null)
open_null o i within can lt =
    let t = o.data_type in
    let cells = and_parts (list_all (fits_cell t) o.slots) (is_within t o.slots) within in
    ap (λ (c : Column). is_null_at c i) (fresh_is t o.slots)
    ∙ null_by_layer (type_layer t) t o.slots i lt (not_extended t) (sym (buildable_is t) ∙ can)
    ((λ j. list_all (sym (cell_is t) j) o.slots) ∙ cells.0)
