-- Columns are read the same where the same dictionary stands under each id: those over children, where that holds of their children.
use Rattle.std.proofs.Common.{◌≡◌, ℕ, ◌+◌, ℤ, Bool, List, [], ◌∷◌, refl}
use Rattle.std.specs.Prelude.{Option, Some, None, slice_get}
use Rattle.std.specs.Int.{Width}
use Rattle.ipc_format_reading.specs.columnar_memory.declared.DataType.{DataType}
use Rattle.ipc_format_reading.specs.columnar_memory.declared.Field.{Field}
use Rattle.ipc_format_reading.specs.columnar_memory.declared.IntegerType.{IntegerType}
use Rattle.ipc_format_reading.specs.columnar_memory.declared.UnionMode.{UnionMode}
use Rattle.ipc_format_reading.specs.columns.Slots.{Slot}
use Rattle.ipc_format_reading.specs.grammar.Messages.{FieldNode, natural}
use Rattle.ipc_format_reading.specs.grammar.Schemas.{IdsList}
use Rattle.ipc_format_reading.specs.grammar.Columns.{Dictionary, Marked, Place, Reader, marked_in}
use Rattle.ipc_format_reading.specs.grammar.Columns.{null_slots, fixed_slots, byte_slots}
use Rattle.ipc_format_reading.specs.grammar.Columns.{dictionary_slots}
use Rattle.ipc_format_reading.specs.grammar.Columns.{own_id, standing_for, first_below}
use Rattle.ipc_format_reading.specs.grammar.Columns.{behind_column, first_ids}
use Rattle.ipc_format_reading.specs.grammar.Columns.{other_ids, ids_below, limit_times, last_of}
use Rattle.ipc_format_reading.specs.grammar.Columns.{list_slots}
use Rattle.ipc_format_reading.specs.grammar.Columns.{offsets_in, buffer_at, places_in}
use Rattle.ipc_format_reading.specs.grammar.Columns.{fixed_list_slots, columns_below}
use Rattle.ipc_format_reading.specs.grammar.Columns.{struct_slots, union_slots}
use Rattle.ipc_format_reading.proofs.AlikePlaces.{both_same}
use Rattle.ipc_format_batch_reading.specs.Standing.{StandAlike}

-- a place among other dictionaries: all else is kept
abbrev pub among : List Dictionary → Place → Place
among standing at = record at { standing = standing }

-- What is found at a place is found there among all dictionaries that stand alike.
abbrev pub Looks : {A : Type 0} → (Place → A) → Type 0
Looks found = (at : Place) (standing : List Dictionary) → StandAlike at.standing standing → found at ≡ found (among standing at)

-- ---- columns without children

pub nulls_look : Looks null_slots
nulls_look at standing alike = refl

pub fixed_look : (needed : ℕ → ℕ) (value : List ℕ → ℕ → Slot) → Looks (fixed_slots needed value)
unfolding fixed_slots marked_in
fixed_look needed value at standing alike = refl

pub bytes_look : (w : Width) (is_allowed : List ℕ → Bool) (slot : List ℕ → Slot) → Looks (byte_slots w is_allowed slot)
unfolding byte_slots marked_in
bytes_look w is_allowed slot at standing alike = refl

-- keys mean the dictionary that stands under the field's id
pub keys_look : (key : IntegerType) (data_type : DataType) → Looks (dictionary_slots key data_type)
unfolding dictionary_slots marked_in
keys_look key data_type at standing alike =
    both_same (own_id at.ids) (own_id at.ids) _ _ refl (λ (id : ℤ).
    both_same (standing_for id at.standing) (standing_for id standing) _ _ (alike id) (λ (dictionary : Dictionary). refl))

-- ---- lists

pub lists_look : (w : Width) (field : Field) (reader : Reader) → Looks reader → Looks (list_slots w (field, reader))
unfolding list_slots marked_in
lists_look w field reader looks at standing alike =
    both_same (marked_in at) (marked_in at) _ _ refl (λ (marked : Marked).
    both_same (offsets_in w at.source (at.buffer + 1) marked.taken) (offsets_in w at.source (at.buffer + 1) marked.taken) _ _ refl
    (λ (offsets : List ℕ). both_same _ _ _ _ (looks (first_below at 2 (Some (last_of offsets))) standing alike) (λ (values : List Slot). refl)))

pub fixed_lists_look : (size : ℕ) (field : Field) (reader : Reader) → Looks reader → Looks (fixed_list_slots size (field, reader))
unfolding fixed_list_slots marked_in
fixed_lists_look size field reader looks at standing alike =
    both_same (marked_in at) (marked_in at) _ _ refl (λ (marked : Marked).
    both_same _ _ _ _ (looks (first_below at 1 (limit_times at.limit size)) standing alike) (λ (values : List Slot). refl))

-- ---- children one after another

-- each of some readers
abbrev pub AllLook : List (Field × Reader) → Type 0
AllLook [] = Unit {0}
AllLook (child ∷ children) = Looks child.1 × AllLook children

pub columns_look : (children : List (Field × Reader)) → AllLook children → (below : IdsList) → Looks (λ at. columns_below children at below)
columns_look [] all below at standing alike = refl
columns_look (child ∷ children) all below at standing alike =
    both_same _ _ _ _ (all.0 (record at { ids = first_ids below }) standing alike) (λ (column : List Slot).
    both_same _ _ _ _ (columns_look children all.1 (other_ids below) (behind_column at child.0.data_type) standing alike)
    (λ (columns : List (List Slot)). refl))

pub structs_look : (children : List (Field × Reader)) → AllLook children → Looks (struct_slots children)
unfolding struct_slots marked_in
structs_look children all at standing alike =
    both_same (marked_in at) (marked_in at) _ _ refl (λ (marked : Marked).
    both_same _ _ _ _ (columns_look children all (ids_below at.ids) (first_below at 1 at.limit) standing alike)
    (λ (columns : List (List Slot)). refl))

pub unions_look : (children : List (Field × Reader)) → AllLook children → (numbers : Option (List ℤ)) (mode : UnionMode) (spare own : ℕ)
    → Looks (union_slots children numbers mode spare own)
unfolding union_slots
unions_look children all numbers mode spare own at standing alike =
    both_same (slice_get at.source.nodes at.node) (slice_get at.source.nodes at.node) _ _ refl (λ (node : FieldNode).
    both_same (natural node.length) (natural node.length) _ _ refl (λ (count : ℕ).
    both_same (buffer_at at.source (at.buffer + spare) count) (buffer_at at.source (at.buffer + spare) count) _ _ refl (λ (types : List ℕ).
    both_same (places_in mode at.source (at.buffer + spare + 1) count) (places_in mode at.source (at.buffer + spare + 1) count) _ _ refl
    (λ (places : ℕ → ℤ).
    both_same _ _ _ _ (columns_look children all (ids_below at.ids) (first_below at own None) standing alike)
    (λ (columns : List (List Slot)). refl)))))
