-- Columns are read the same where nodes and buffers before them are taken off: those over children, where that holds of their children.
use Rattle.std.proofs.Common.{◌≡◌, ◌∙◌, ℕ, ◌+◌, ◌*◌, ◌/◌, ℤ, Bool, List, [], ◌∷◌, refl, ap, ap₂}
use Rattle.std.specs.Prelude.{Option, Some, None}
use Rattle.std.specs.Int.{Width}
use Rattle.std.proofs.Math.Nat.{add_assoc}
use Rattle.ipc_format_laws.specs.flatbuffers.Reading.{guard}
use Rattle.columnar_memory_types.specs.Equality.{same_type}
use Rattle.ipc_format_laws.specs.columnar_memory.declared.DataType.{DataType}
use Rattle.ipc_format_laws.specs.columnar_memory.declared.Field.{Field}
use Rattle.ipc_format_laws.specs.columnar_memory.declared.IntegerType.{IntegerType}
use Rattle.ipc_format_laws.specs.columnar_memory.declared.PrimitiveType.{PrimitiveType}
use Rattle.ipc_format_laws.specs.columnar_memory.declared.UnionMode.{UnionMode}
use Rattle.ipc_format_laws.specs.columnar_memory.declared.UnionMode.TheVariants as modes
use Rattle.ipc_format_laws.specs.columns.Slots.{Slot, truth, bytes}
use Rattle.ipc_format_laws.specs.grammar.Layouts.{node_count, buffer_count}
use Rattle.ipc_format_laws.specs.grammar.Messages.{FieldNode}
use Rattle.ipc_format_laws.specs.grammar.Schemas.{IdsList}
use Rattle.ipc_format_laws.specs.grammar.Values.{bit_at, kind_size, value_at, element_bytes, key_size}
use Rattle.ipc_format_laws.specs.grammar.Columns.{Source, Place, Reader, Dictionary, Marked, null_slots, fixed_slots, truth_slots, number_slots}
use Rattle.ipc_format_laws.specs.grammar.Columns.{fixed_bytes_slots, last_of, byte_slots, dictionary_slots, first_ids, other_ids, ids_below}
use Rattle.ipc_format_laws.specs.grammar.Columns.{own_id, standing_for}
use Rattle.ipc_format_laws.specs.grammar.Columns.{first_below, behind_column, limit_times, list_slots, fixed_list_slots, columns_below, struct_slots}
use Rattle.ipc_format_laws.specs.grammar.Columns.{places_in, union_slots}
use Rattle.ipc_format_reading_laws.proofs.FrontsPlaces.{further, without, within, Moves, moves_below, both_same, get_moved, buffer_moved}
use Rattle.ipc_format_reading_laws.proofs.FrontsPlaces.{marked_moves, offsets_moved}

-- ---- columns without children

pub nulls_move : Moves null_slots
nulls_move i j at = both_same _ _ _ _ (get_moved i at.node (i + at.node) at.source.nodes refl) (λ (node : FieldNode). refl)

pub fixed_move : (needed : ℕ → ℕ) (value : List ℕ → ℕ → Slot) → Moves (fixed_slots needed value)
unfolding fixed_slots
fixed_move needed value i j at =
    both_same _ _ _ _ (marked_moves i j at) (λ (marked : Marked).
    both_same _ _ _ _ (buffer_moved i j at.source (at.buffer + 1) (j + at.buffer + 1) (needed marked.taken) (add_assoc j at.buffer 1))
    (λ (values : List ℕ). refl))

pub truths_move : Moves truth_slots
truths_move = fixed_move (λ taken. (taken + 7) / 8) (λ values i. truth (bit_at values i))

pub numbers_move : (kind : PrimitiveType) → Moves (number_slots kind)
numbers_move kind i j at = fixed_move (λ taken. taken * kind_size kind) (value_at kind at.source.is_little_endian) i j at

pub fixed_bytes_move : (size : ℕ) → Moves (fixed_bytes_slots size)
fixed_bytes_move size = fixed_move (λ taken. taken * size) (λ values i. bytes (element_bytes size values i))

pub bytes_move : (w : Width) (is_allowed : List ℕ → Bool) (slot : List ℕ → Slot) → Moves (byte_slots w is_allowed slot)
unfolding byte_slots
bytes_move w is_allowed slot i j at =
    both_same _ _ _ _ (marked_moves i j at) (λ (marked : Marked).
    both_same _ _ _ _ (offsets_moved w i j at.source (at.buffer + 1) (j + at.buffer + 1) marked.taken (add_assoc j at.buffer 1))
    (λ (offsets : List ℕ).
    both_same _ _ _ _ (buffer_moved i j at.source (at.buffer + 2) (j + at.buffer + 2) (last_of offsets) (add_assoc j at.buffer 2))
    (λ (values : List ℕ). refl)))

pub keys_move : (key : IntegerType) (data_type : DataType) → Moves (dictionary_slots key data_type)
unfolding dictionary_slots
keys_move key data_type i j at =
    both_same (own_id at.ids) _ _ _ refl (λ (id : ℤ).
    both_same (standing_for id at.standing) _ _ _ refl (λ (dictionary : Dictionary).
    both_same (guard (same_type dictionary.data_type data_type)) _ _ _ refl (λ (test : Bool).
    both_same _ _ _ _ (marked_moves i j at) (λ (marked : Marked).
    both_same _ _ _ _ (buffer_moved i j at.source (at.buffer + 1) (j + at.buffer + 1) (marked.taken * key_size key) (add_assoc j at.buffer 1))
    (λ (keys : List ℕ). refl)))))

-- ---- lists

pub lists_move : (w : Width) (field : Field) (reader : Reader) → Moves reader → Moves (list_slots w (field, reader))
unfolding list_slots
lists_move w field reader moves i j at =
    both_same _ _ _ _ (marked_moves i j at) (λ (marked : Marked).
    both_same _ _ _ _ (offsets_moved w i j at.source (at.buffer + 1) (j + at.buffer + 1) marked.taken (add_assoc j at.buffer 1))
    (λ (offsets : List ℕ).
    both_same _ _ _ _ (moves_below reader moves i j at 2 (Some (last_of offsets))) (λ (values : List Slot). refl)))

pub fixed_lists_move : (size : ℕ) (field : Field) (reader : Reader) → Moves reader → Moves (fixed_list_slots size (field, reader))
unfolding fixed_list_slots
fixed_lists_move size field reader moves i j at =
    both_same _ _ _ _ (marked_moves i j at) (λ (marked : Marked).
    both_same _ _ _ _ (moves_below reader moves i j at 1 (limit_times at.limit size)) (λ (values : List Slot). refl))

-- ---- children one after another

-- each of some readers
abbrev pub AllMove : List (Field × Reader) → Type 0
AllMove [] = Unit {0}
AllMove (child ∷ children) = Moves child.1 × AllMove children

columns_move : (children : List (Field × Reader)) → AllMove children → (below : IdsList) → Moves (λ at. columns_below children at below)
columns_move [] all below i j at = refl
columns_move (child ∷ children) all below i j at =
    both_same _ _ _ _ (all.0 i j (record at { ids = first_ids below })) (λ (column : List Slot).
    both_same _ _ _ _
    (ap₂ (λ n m. columns_below children (record at { node = n; buffer = m }) (other_ids below))
    (add_assoc i at.node (node_count child.0.data_type)) (add_assoc j at.buffer (buffer_count at.source.version child.0.data_type))
    ∙ columns_move children all.1 (other_ids below) i j (behind_column at child.0.data_type))
    (λ (columns : List (List Slot)). refl))

columns_moved : (children : List (Field × Reader)) → AllMove children → (i j : ℕ) (at : Place) (own : ℕ) (limit : Option ℕ)
    → columns_below children (first_below (further i j at) own limit) (ids_below at.ids)
    ≡ columns_below children (first_below (within i j at) own limit) (ids_below at.ids)
columns_moved children all i j at own limit =
    moves_below (λ at'. columns_below children at' (ids_below at.ids)) (columns_move children all (ids_below at.ids)) i j at own limit

pub structs_move : (children : List (Field × Reader)) → AllMove children → Moves (struct_slots children)
unfolding struct_slots
structs_move children all i j at =
    both_same _ _ _ _ (marked_moves i j at) (λ (marked : Marked).
    both_same _ _ _ _ (columns_moved children all i j at 1 at.limit) (λ (columns : List (List Slot)). refl))

-- ---- unions

places_moved : (mode : UnionMode) (i j : ℕ) (source : Source) (k place count : ℕ) → place ≡ j + k
    → places_in mode source place count ≡ places_in mode (without i j source) k count
places_moved modes.Sparse i j source k place count is = refl
places_moved modes.Dense i j source k place count is =
    both_same _ _ _ _ (buffer_moved i j source k place (count * 4) is) (λ (offsets : List ℕ). refl)

pub unions_move : (children : List (Field × Reader)) → AllMove children → (numbers : Option (List ℤ)) (mode : UnionMode) (spare own : ℕ)
    → Moves (union_slots children numbers mode spare own)
unfolding union_slots
unions_move children all numbers mode spare own i j at =
    let ids_at : j + at.buffer + spare ≡ j + (at.buffer + spare) = add_assoc j at.buffer spare in
    let places_at : j + at.buffer + spare + 1 ≡ j + (at.buffer + spare + 1) = ap (λ n. n + 1) ids_at ∙ add_assoc j (at.buffer + spare) 1 in
    both_same _ _ _ _ (get_moved i at.node (i + at.node) at.source.nodes refl) (λ (node : FieldNode).
    both_same _ _ _ _ refl (λ (count : ℕ).
    both_same _ _ _ _ (buffer_moved i j at.source (at.buffer + spare) (j + at.buffer + spare) count ids_at) (λ (types : List ℕ).
    both_same _ _ _ _ (places_moved mode i j at.source (at.buffer + spare + 1) (j + at.buffer + spare + 1) count places_at) (λ (places : ℕ → ℤ).
    both_same _ _ _ _ (columns_moved children all i j at own None) (λ (columns : List (List Slot)). refl)))))
