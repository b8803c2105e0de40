-- Dictionaries to which a value that is new is pushed.
use Rattle.std.proofs.Common.{◌≡◌, ◌∙◌, ℕ, suc, ◌+◌, List, [], ◌∷◌, ◌++◌, length, Bool, true, false, refl, sym, ap, arith}
use Rattle.std.proofs.Common.{length-append}
use Rattle.std.specs.Prelude.{◌&&◌, ◌||◌, nat_le, if◌then◌else◌, not, Ok}
use Rattle.std.proofs.lemmas.Bool.{or_from}
use Rattle.nested_arrays_builder_values.specs.parts.arrays.columnar_memory.declared.IntegerType.{IntegerType}
use Rattle.nested_arrays_builder_values.specs.parts.arrays.columns.Cells.{is_null}
use Rattle.nested_arrays_builder_values.specs.parts.arrays.columns.FreshColumns.{key_among}
use Rattle.nested_arrays_builder_values.specs.parts.arrays.columns.Kinds.{most_values}
use Rattle.nested_arrays_builder_values.specs.parts.arrays.columns.SameSlots.{is_among}
use Rattle.nested_arrays_builder_values.specs.parts.arrays.columns.Slots.{Slot}
use Rattle.nested_arrays_builder_values.specs.parts.columns.OpenParts.{grown_values, used_by}
use Rattle.nested_arrays_builder_values.specs.parts.Open.{Open, opened, with_slot}
use Rattle.nested_arrays_builder_values.specs.Keyed.{AddsUse}
use Rattle.nested_arrays_builder_values.specs.Uses.{use_among}
use Rattle.nested_arrays_builder_values.proofs.parts_lemmas.columns_lemmas.Values.{key_new}
use Rattle.nested_arrays_builders.specs.Keyed.{MayLearn}
use Rattle.nested_arrays_builders.specs.Parts.{keyed, is_fitting, has_room, AddsSlot}

third_of : (a b c : Bool) → a ≡ false → b ≡ false → (a || b || c) ≡ c
third_of false false c p q = refl
third_of true b c p q = absurd cc
third_of false true c p q = absurd cc

module _ (marks : List Bool) (key : IntegerType) (uses : List ℕ) (known : List Slot) (child : Open) (s : Slot) (same : known ≡ child.slots)
    (some : is_null s ≡ false) (absent : is_among s known ≡ false) where
  grown : grown_values known s ≡ known ++ s ∷ []
  grown = ap (λ b. if b then known else known ++ s ∷ []) (or_from (is_null s) (is_among s known) some absent)

  grown_below : grown_values child.slots s ≡ child.slots ++ s ∷ []
  grown_below = ap (λ ys. grown_values ys s) (sym same) ∙ grown ∙ ap (λ ys. ys ++ s ∷ []) same

  -- a new value has the last key
  use_of_new : use_among (grown_values known s) s ≡ suc (length known)
  use_of_new = ap (λ ys. use_among ys s) grown ∙ ap (λ b. used_by (not b) (key_among (known ++ s ∷ []) s)) some
      ∙ ap suc (key_new s known some absent)

  room_is : (most : ℕ) → most ≡ most_values key
      → has_room (keyed key uses known child) s ≡ (nat_le (length known + 1) most && is_fitting (with_slot child s))
  room_is most is =
      third_of (is_null s) (is_among s known) (nat_le (length known + 1) (most_values key) && is_fitting (with_slot child s)) some absent
      ∙ ap (λ m. nat_le (length known + 1) m && is_fitting (with_slot child s)) (sym is)

  pub new_added : (most : ℕ) → most ≡ most_values key → (U : Type 0) (new : List Slot) (after : Open) (need : ℕ) (new_marks : List Bool)
      (new_uses : List ℕ) (u : U)
      → new ≡ known ++ s ∷ [] → after ≡ with_slot child s → MayLearn most known child s → need ≡ length new
      → AddsUse {U = U} marks uses true need new_marks new_uses (Ok u)
      → AddsSlot {U = U} marks (keyed key uses known child) s new_marks (keyed key new_uses new after) (Ok u)
  new_added most most_is U new after need new_marks new_uses u more held may of adds =
      let next : need ≡ suc (length known) = of ∙ ap length more ∙ omega (arith, length-append known (s ∷ [])) in
      let used : new_uses ≡ uses ++ use_among (grown_values known s) s ∷ [] =
      adds.1 ∙ ap (λ n. uses ++ n ∷ []) (next ∙ sym use_of_new) in (
        adds.0 ∙ ap (λ b. marks ++ not b ∷ []) (sym some),
        (λ j. keyed key (used j) ((more ∙ sym grown) j) ((held ∙ ap (opened child.data_type) (sym grown_below)) j)),
        adds.2,
        room_is most most_is ∙ may,
      )
