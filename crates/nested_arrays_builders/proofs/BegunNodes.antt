-- Builders with children and without slots.
use Rattle.std.proofs.Common.{inl, inr, ◌≡◌, ◌∙◌, ℕ, zero, suc, ◌+◌, ◌<◌, ◌≤◌, List, [], ◌∷◌, ◌++◌, length, take}
use Rattle.std.proofs.Common.{get_or, Bool, true, false, refl, sym, ap, subst, arith}
use Rattle.std.specs.Prelude.{◌&&◌, ◌⊎◌, ◌==◌, nat_le}
use Rattle.std.proofs.lemmas.Bool.{and_from, le-leb}
use Rattle.std.proofs.lemmas.List.{take_more}
use Rattle.std.proofs.lemmas.List.Folds.{list_all_more, list_any_at}
use Rattle.nested_arrays_builder_values.specs.parts.arrays.columnar_memory.declared.DataType.{DataType}
use Rattle.nested_arrays_builder_values.specs.parts.arrays.columnar_memory.declared.DataType.TheOpen as layer
use Rattle.nested_arrays_builder_values.specs.parts.arrays.columnar_memory.declared.Error.{Error}
use Rattle.nested_arrays_builder_values.specs.parts.arrays.columnar_memory.declared.Field.{Field}
use Rattle.nested_arrays_builder_values.specs.parts.arrays.columnar_memory.declared.IntegerType.{IntegerType}
use Rattle.nested_arrays_builder_values.specs.parts.arrays.columnar_memory.Error.{IsInvalidArgument, IsNotYetImplemented, IsOutOfMemory}
use Rattle.nested_arrays_builder_values.specs.parts.arrays.columnar_memory.Spans.{Spans, no_spans}
use Rattle.nested_arrays_builder_values.specs.parts.arrays.columns.Children.{field_slots}
use Rattle.nested_arrays_builder_values.specs.parts.arrays.columns.FreshLaws.{is_buildable, are_buildable}
use Rattle.nested_arrays_builder_values.specs.parts.arrays.columns.Slots.{Slot, window}
use Rattle.nested_arrays_builder_values.specs.parts.arrays.columns.StoredColumns.{slots, type_layer}
use Rattle.nested_arrays_builder_values.proofs.parts_lemmas.columns_lemmas.Below.{buildable_list, buildable_large_list, buildable_fixed_list, buildable_struct}
use Rattle.nested_arrays_builder_values.proofs.parts_lemmas.columns_lemmas.Below.{buildable_dictionary}
use Rattle.nested_arrays_builder_values.proofs.parts_lemmas.columns_lemmas.Fits.{nothing_fits}
use Rattle.nested_arrays_builder_values.specs.parts.Open.{Open, opened}
use Rattle.nested_arrays_builders.specs.Begun.{fields_size, opened_none, AreNoBuilders, IsNoBuilder}
use Rattle.nested_arrays_builders.specs.BuiltTypes.{has_builder, has_floats, have_builders, is_invalid}
use Rattle.nested_arrays_builders.specs.Parts.{Parts, listed, sized, of_fields, keyed, opened_each, parts_column, type_size, HoldsParts, IsKept}
use Rattle.nested_arrays_builders.proofs.KeptNodes.{kept_again, view_kept}

module _ (t : DataType) (item : Field) (o : Open) (made : o ≡ opened item.data_type []) (can : is_buildable item.data_type ≡ true) where
  pub begun_list : (spans : Spans) → type_layer t ≡ layer.List item → spans ≡ no_spans → IsKept t [] (listed false spans o) []
  begun_list spans is none = record {
    can = buildable_list t item is ∙ can;
    fit = nothing_fits t;
    marked = refl;
    held = subst (λ x. HoldsParts x (listed false spans o) []) (sym is) (refl, none, made);
  }

  pub begun_large_list : (spans : Spans) → type_layer t ≡ layer.LargeList item → spans ≡ no_spans → IsKept t [] (listed true spans o) []
  begun_large_list spans is none = record {
    can = buildable_large_list t item is ∙ can;
    fit = nothing_fits t;
    marked = refl;
    held = subst (λ x. HoldsParts x (listed true spans o) []) (sym is) (refl, none, made);
  }

  pub begun_sized : (size : ℕ) → type_layer t ≡ layer.FixedSizeList item size → 0 < size → IsKept t [] (sized size o) []
  begun_sized size is some = record {
    can = buildable_fixed_list t item size is
        ∙ and_from (nat_le 1 size) (is_buildable item.data_type) (le-leb 1 size (omega (arith, some))) can;
    fit = nothing_fits t;
    marked = refl;
    held = subst (λ x. HoldsParts x (sized size o) []) (sym is) (refl, made);
  }

pub begun_keyed : (t : DataType) (key : IntegerType) (value : DataType) (is_ordered : Bool) (uses : List ℕ) (known : List Slot) (o : Open)
    → type_layer t ≡ layer.Dictionary key value is_ordered → uses ≡ [] → known ≡ [] → o ≡ opened value [] → is_buildable value ≡ true
    → IsKept t [] (keyed key uses known o) []
begun_keyed t key value is_ordered uses known o is unused unknown made can = record {
  can = buildable_dictionary t key value is_ordered is ∙ can;
  fit = nothing_fits t;
  marked = refl;
  held = subst (λ x. HoldsParts x (keyed key uses known o) []) (sym is) (refl, unused, unknown, made);
}

each_none : (us : List Field) (a : ℕ) → opened_none us ≡ opened_each us (window (field_slots []) a (length us))
each_none [] a = refl
each_none (u ∷ us) a = ap (λ rest. opened u.data_type [] ∷ rest) (each_none us (a + 1))

pub begun_struct : (t : DataType) (us : List Field) (os : List Open) → os ≡ opened_none us → are_buildable us ≡ true → type_layer t ≡ layer.Struct us
    → 0 < length us → IsKept t [] (of_fields os) []
begun_struct t us os made can is some = record {
  can = buildable_struct t us is ∙ and_from (nat_le 1 (length us)) (are_buildable us) (le-leb 1 (length us) (omega (arith, some))) can;
  fit = nothing_fits t;
  marked = refl;
  held = subst (λ x. HoldsParts x (of_fields os) []) (sym is) (made ∙ each_none us 0);
}

-- the type of what was begun is one whose slots are stored as they come
pub stored_type : (o : Open) (t : DataType) → o ≡ opened t [] → is_buildable o.data_type ≡ true → is_buildable t ≡ true
stored_type o t made can = ap (λ (o : Open). is_buildable o.data_type) (sym made) ∙ can

-- ---- what is made of it

module _ (t own : DataType) (marks : List Bool) (parts : Parts) (kept : IsKept t [] parts []) (typed : own ≡ t) (none : marks ≡ []) where
  own_kept : IsKept own marks parts []
  own_kept = subst (λ t. IsKept t marks parts []) (sym typed) (subst (λ marks. IsKept t marks parts []) (sym none) kept)

  pub made_kept : IsKept own marks parts (slots (parts_column own marks parts))
  made_kept = kept_again own marks parts [] own_kept

  pub made_seen : opened own (slots (parts_column own marks parts)) ≡ opened t []
  made_seen = view_kept own marks parts [] own_kept ∙ ap (λ t. opened t []) typed

pub some_of : (n : ℕ) → (n == 0) ≡ false → 0 < n
some_of zero other = absurd cc
some_of (suc n) other = omega arith

-- ---- fields

pub one_field : (us : List Field) (k : ℕ) (d : Field) → k < length us → type_size (get_or us k d).data_type ≤ fields_size us
one_field [] k d lt = absurd (omega arith)
one_field (u ∷ us) zero d lt = omega arith
one_field (u ∷ us) (suc k) d lt = omega (arith, one_field us k d (omega (arith, lt)))

opened_behind : (us : List Field) (u : Field) → opened_none (us ++ u ∷ []) ≡ opened_none us ++ opened u.data_type [] ∷ []
opened_behind [] u = refl
opened_behind (v ∷ us) u = ap (λ rest. opened v.data_type [] ∷ rest) (opened_behind us u)

module _ (us : List Field) (k : ℕ) (u : Field) (lt : k < length us) (is : u ≡ get_or us k u) where
  next : take (k + 1) us ≡ take k us ++ u ∷ []
  next = take_more us k u lt ∙ ap (λ v. take k us ++ v ∷ []) (sym is)

  pub one_more_begun : (os : List Open) (o : Open) → os ≡ opened_none (take k us) → o ≡ opened u.data_type []
      → os ++ o ∷ [] ≡ opened_none (take (k + 1) us)
  one_more_begun os o held made = (λ j. held j ++ made j ∷ []) ∙ sym (opened_behind (take k us) u) ∙ ap opened_none (sym next)

  pub one_more_can : are_buildable (take k us) ≡ true → is_buildable u.data_type ≡ true → are_buildable (take (k + 1) us) ≡ true
  one_more_can all can = list_all_more (λ (v : Field). is_buildable v.data_type) us k u lt
      ∙ and_from (are_buildable (take k us)) (is_buildable (get_or us k u).data_type) all
      (ap (λ (v : Field). is_buildable v.data_type) (sym is) ∙ can)

  pub one_more_built : have_builders (take k us) ≡ true → has_builder u.data_type ≡ true → have_builders (take (k + 1) us) ≡ true
  one_more_built all built = list_all_more (λ (v : Field). has_builder v.data_type) us k u lt
      ∙ and_from (have_builders (take k us)) (has_builder (get_or us k u).data_type) all
      (ap (λ (v : Field). has_builder v.data_type) (sym is) ∙ built)

  -- where one has no builder not all have
  pub one_refused : (e : Error) → IsNoBuilder u.data_type e → AreNoBuilders us e
  one_refused e (inl out) = inl out
  one_refused e (inr (inl floats)) =
      inr (inl (
        floats.0,
        list_any_at (λ (v : Field). has_floats v.data_type) us k u lt (ap (λ (v : Field). has_floats v.data_type) (sym is) ∙ floats.1),
      ))
  one_refused e (inr (inr other)) =
      inr (inr (
        other.0,
        list_any_at (λ (v : Field). is_invalid v.data_type) us k u lt (ap (λ (v : Field). is_invalid v.data_type) (sym is) ∙ other.1),
      ))
