-- Byte strings of one size that are put one after another.
use Rattle.std.proofs.Common.{◌≡◌, ◌∙◌, ℕ, ◌*◌, ◌<◌, Bool, true, false, List, [], ◌∷◌, ◌++◌, length, map, refl, sym, ap, ap₂}
use Rattle.std.proofs.Common.{arith, append-nil, length-append}
use Rattle.std.proofs.Math.Nat.{mul-add, mul-div_cancel_left}
use Rattle.std.proofs.iter.runs.Made.{run_of_exit, run_of_turn}
use Rattle.std.proofs.lemmas.Bool.{eq-eqb}
use Rattle.std.proofs.lemmas.List.{length-replicate, map-append}
use Rattle.std.proofs.lemmas.List.Elements.{All-head, All-nil, All-push, All-same, All-tail}
use Rattle.std.proofs.lemmas.List.Folds.{concat-append}
use Rattle.std.proofs.lemmas.Result.{MatchResult-weaker}
use Rattle.std.specs.Iterator.{Yields}
use Rattle.std.specs.Iterator.Runs.{SomeRun}
use Rattle.std.specs.List.{concat, flat_map}
use Rattle.std.specs.Prelude.{◌⊎◌, ◌/◌, ◌==◌, All, Option, Some, None, Result, MatchResult, if◌then◌else◌, is_some, option_map}
use Rattle.flat_arrays_core.specs.columnar_memory.Bits.{unset_count}
use Rattle.flat_arrays_core.specs.columnar_memory.Error.{IsInvalidArgument, IsOutOfMemory, IsOutOfSpec}
use Rattle.flat_arrays_core.specs.columnar_memory.declared.DataType.TheOpen as layer
use Rattle.flat_arrays_core.specs.columnar_memory.declared.DataType.TheVariants as types
use Rattle.flat_arrays_core.specs.columnar_memory.declared.DataType.TheViews.{roll-DataType}
use Rattle.flat_arrays_core.specs.columnar_memory.declared.Error.{Error}
use Rattle.flat_arrays_core.specs.Flat.{mask_of}
use Rattle.nested_arrays_columns.specs.SoundColumns.{mask_fits}
use Rattle.nested_arrays_columns.specs.StoredColumns.{Column}
use Rattle.nested_arrays_flat.proofs.Layers.{layer_itself}
use Rattle.nested_arrays_flat.specs.FixedSizeItems.{EndsInOtherSize, GathersAlong, HasSize, of_slots, sized_column, stored_for}
use Rattle.nested_arrays_flat.specs.FlatColumns.{byte_width, layer_width}
use denote.Hole.Carrier
use mathlib.Core.Logic.{inl, inr}

-- the size of the plainest type of such strings
pub plainest_width : (size : ℕ) → byte_width (types.FixedSizeBinary size) ≡ size
unfolding roll-DataType denote.Hole.Carrier.roll
plainest_width size = ap layer_width (layer_itself (layer.FixedSizeBinary size) refl)

-- ---- bytes

-- these slots are stored one after another, and each value has the size
pub record AreStored (size : ℕ) (slots : List (Option (List ℕ))) (bytes : List ℕ) : Type 0 where
  pub joined : bytes ≡ concat (map (stored_for size) slots)
  pub sized : All (HasSize size) slots

pub none_stored : (size : ℕ) → AreStored size [] []
none_stored size = record { joined = refl; sized = All-nil (HasSize size) }

concat-more : (values : List (List ℕ)) (value : List ℕ) → concat (values ++ value ∷ []) ≡ concat values ++ value
concat-more values value = concat-append values (value ∷ []) ∙ ap (λ rest. concat values ++ rest) (append-nil value)

-- one more slot
pub stored_more : (size : ℕ) (slots more : List (Option (List ℕ))) (slot : Option (List ℕ)) (bytes after : List ℕ) → more ≡ slots ++ slot ∷ []
    → AreStored size slots bytes → (after ≡ bytes ++ stored_for size slot) × HasSize size slot → AreStored size more after
stored_more size slots more slot bytes after e h pushed = record {
  joined = pushed.0 ∙ ap (λ bs. bs ++ stored_for size slot) h.joined ∙ sym (concat-more (map (stored_for size) slots) (stored_for size slot))
      ∙ ap concat (sym (map-append (stored_for size) slots (slot ∷ []))) ∙ ap (λ ss. concat (map (stored_for size) ss)) (sym e);
  sized = All-same (HasSize size) more (slots ++ slot ∷ []) e (All-push (HasSize size) slots slot h.sized pushed.1);
}

stored_len : (size : ℕ) (slot : Option (List ℕ)) → HasSize size slot → length (stored_for size slot) ≡ size
stored_len size None h = length-replicate size 0
stored_len size (Some value) h = h

all_len : (size : ℕ) (slots : List (Option (List ℕ))) → All (HasSize size) slots → length (concat (map (stored_for size) slots)) ≡ size * length slots
all_len size [] h = omega arith
all_len size (slot ∷ slots) h = omega (
  arith,
  length-append (stored_for size slot) (concat (map (stored_for size) slots)),
  stored_len size slot (All-head (HasSize size) slot slots h),
  all_len size slots (All-tail (HasSize size) slot slots h),
  mul-add size (length slots) 1,
)

-- so many strings of a size are whole
pub whole_strings : (size n : ℕ) (bytes : List ℕ) → 0 < size → length bytes ≡ size * n → length bytes / size ≡ n
whole_strings size n bytes some e = ap (λ k. k / size) e ∙ mul-div_cancel_left n {n = size} some

pub whole_bytes : (size n : ℕ) (bytes : List ℕ) → 0 < size → length bytes ≡ size * n → size * (length bytes / size) ≡ length bytes
whole_bytes size n bytes some e = ap (λ k. size * k) (whole_strings size n bytes some e) ∙ sym e

module _ (size : ℕ) (slots : List (Option (List ℕ))) (bytes : List ℕ) (h : AreStored size slots bytes) where
  -- the bytes take the size for each slot
  pub stored_bytes : length bytes ≡ size * length slots
  stored_bytes = ap length h.joined ∙ all_len size slots h.sized

  chosen : (n : ℕ) (bits : List Bool) (none : Bool) → length bits ≡ n → mask_fits (if none then None else Some bits) n ≡ true
  chosen n bits true e = refl
  chosen n bits false e = eq-eqb (length bits) n e

  -- a mask with a mark for each slot has one for each string
  pub masked_strings : (mask : List Bool) (validity : Option (List Bool)) → 0 < size → length mask ≡ length slots → validity ≡ mask_of mask
      → mask_fits validity (length bytes / size) ≡ true
  masked_strings mask validity some marks e =
      ap₂ mask_fits e (whole_strings size (length slots) bytes some stored_bytes) ∙ chosen (length slots) mask (unset_count mask == 0) marks

marks_seen : {A : Type 0} (bytes_of : A → List ℕ) (items : List (Option A)) → map is_some (map (option_map bytes_of) items) ≡ map is_some items
marks_seen bytes_of [] = refl
marks_seen bytes_of (None ∷ items) = ap (λ rest. false ∷ rest) (marks_seen bytes_of items)
marks_seen bytes_of (Some x ∷ items) = ap (λ rest. true ∷ rest) (marks_seen bytes_of items)

-- ---- what a walk makes

module _ {S A : Type 0} (bytes_of : A → List ℕ) (size : ℕ) (steps : S → Option (Option A) → S → Type 0) (from it : S) (is : it ≡ from)
    (items : List (Option A)) (t : S) (ran : Yields steps it items t) (bytes : List ℕ)
    (h : AreStored size (map (option_map bytes_of) items) bytes) (some : 0 < size) where
  -- one that came to its end made the column of all slots
  pub gathered : (u : S) (mask : List Bool) (validity : Option (List Bool)) (r : Result Column Error) → steps t None u → mask ≡ map is_some items
      → validity ≡ mask_of mask → MatchResult r (λ a. a ≡ sized_column size bytes validity) IsOutOfMemory → GathersAlong steps bytes_of size from r
  gathered u mask validity r step marks e made =
      let run = run_of_exit steps it items t ran u step in
      let same : map (option_map bytes_of) run.0.items ≡ map (option_map bytes_of) items = ap (map (option_map bytes_of)) run.3.0 in
      MatchResult-weaker r made (λ a is_made. (
        some,
        (
          run.0,
          run.1 ∙ is,
          run.2,
          (
            is_made ∙ ap₂ (sized_column size) h.joined (e ∙ ap mask_of (marks ∙ sym (marks_seen bytes_of items))) ∙ ap (of_slots size) (sym same),
            All-same (HasSize size) (map (option_map bytes_of) run.0.items) (map (option_map bytes_of) items) same h.sized,
          ),
        ),
      )) (λ e refused. inl refused)

  -- one that stopped at an item was refused there
  pub refused : (u : S) (item : Option A) (e : Error) → steps t (Some item) u
      → IsOutOfMemory e ⊎ (IsInvalidArgument e × ¬ HasSize size (option_map bytes_of item))
      → IsOutOfMemory e ⊎ (IsOutOfSpec e × (size ≡ 0))
      ⊎ (IsInvalidArgument e × (0 < size) × SomeRun steps from (λ p. EndsInOtherSize size (map (option_map bytes_of) p.items)))
  refused u item e step (inl none) = inl none
  refused u item e step (inr other) =
      let run = run_of_turn steps it items t ran item u step in inr (inr (
        other.0,
        some,
        (
          run.0,
          run.1 ∙ is,
          (
            map (option_map bytes_of) items,
            option_map bytes_of item,
            ap (map (option_map bytes_of)) run.2.0 ∙ map-append (option_map bytes_of) items (item ∷ []),
            h.sized,
            other.1,
          ),
        ),
      ))

-- values one after another
pub flattened : (values : List (List ℕ)) → flat_map (λ x. x) values ≡ concat values
flattened [] = refl
flattened (v ∷ vs) = ap (λ rest. v ++ rest) (flattened vs)
