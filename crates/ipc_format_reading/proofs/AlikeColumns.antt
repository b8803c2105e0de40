-- Columns are read the same at places that stand alike: those over children, where that holds of their children.
use Rattle.std.proofs.Common.{◌≡◌, ℕ, ◌+◌, ◌*◌, ◌/◌, ℤ, Bool, List, [], ◌∷◌, take, refl, ap, inl}
use Rattle.std.specs.Prelude.{Option, Some, None, true}
use Rattle.std.specs.Int.{Width, w8}
use Rattle.std.proofs.Math.Nat.{add_assoc}
use Rattle.ipc_format_array_reading.specs.flatbuffers.Reading.{guard}
use Rattle.ipc_format_array_reading.specs.columnar_memory.Equality.{same_type}
use Rattle.ipc_format_array_reading.specs.columnar_memory.declared.DataType.{DataType}
use Rattle.ipc_format_array_reading.specs.columnar_memory.declared.Field.{Field}
use Rattle.ipc_format_array_reading.specs.columnar_memory.declared.IntegerType.{IntegerType}
use Rattle.ipc_format_array_reading.specs.columnar_memory.declared.PrimitiveType.{PrimitiveType}
use Rattle.ipc_format_array_reading.specs.columnar_memory.declared.UnionMode.{UnionMode}
use Rattle.ipc_format_array_reading.specs.columnar_memory.declared.UnionMode.TheVariants as modes
use Rattle.ipc_format_array_reading.specs.columns.Slots.{Slot, truth, bytes, window}
use Rattle.ipc_format_array_reading.specs.grammar.Layouts.{node_count, buffer_count}
use Rattle.ipc_format_array_reading.specs.grammar.Messages.{FieldNode, natural}
use Rattle.ipc_format_array_reading.specs.grammar.Schemas.{IdsList}
use Rattle.ipc_format_array_reading.specs.grammar.Values.{bit_at, signed_of, kind_size, value_at, element_bytes, key_size}
use Rattle.ipc_format_array_reading.specs.grammar.Columns.{Place, Reader, Dictionary, Marked, null_slots, fixed_slots, truth_slots, number_slots}
use Rattle.ipc_format_array_reading.specs.grammar.Columns.{fixed_bytes_slots, last_of, byte_slots, dictionary_slots, first_ids, other_ids, ids_below}
use Rattle.ipc_format_array_reading.specs.grammar.Columns.{own_id, standing_for}
use Rattle.ipc_format_array_reading.specs.grammar.Columns.{first_below, behind_column, limit_times, list_slots, fixed_list_slots, columns_below, struct_slots}
use Rattle.ipc_format_array_reading.specs.grammar.Columns.{places_in, are_as_long, all_of, picked, child_of, union_slots}
use Rattle.ipc_format_reading.proofs.AlikePlaces.{Spot, put, spot_further, LimitsAgree, StandsAlike, Agrees, limits_further, limits_times}
use Rattle.ipc_format_reading.proofs.AlikePlaces.{alike_further, agrees_below, both_known, both_same, node_alike, buffer_alike, taken_alike}
use Rattle.ipc_format_reading.proofs.AlikePlaces.{counts_alike, marked_agree, offsets_alike}

-- ---- columns without children

pub nulls_agree : Agrees null_slots
nulls_agree at spot alike =
    both_known _ _ _ _ (node_alike at spot alike) (λ (node : FieldNode) found.
    both_same _ _ _ _ (counts_alike at spot node alike found) (λ (taken : ℕ). refl))

pub fixed_agree : (needed : ℕ → ℕ) (value : List ℕ → ℕ → Slot) → Agrees (fixed_slots needed value)
unfolding fixed_slots
fixed_agree needed value at spot alike =
    both_same _ _ _ _ (marked_agree at spot alike) (λ (marked : Marked).
    both_same _ _ _ _ (buffer_alike at spot 1 (at.buffer + 1) (spot.buffer + 1) (needed marked.taken) alike refl refl)
    (λ (values : List ℕ). refl))

pub truths_agree : Agrees truth_slots
truths_agree = fixed_agree (λ taken. (taken + 7) / 8) (λ values i. truth (bit_at values i))

pub numbers_agree : (kind : PrimitiveType) → Agrees (number_slots kind)
numbers_agree kind at spot alike =
    fixed_agree (λ taken. taken * kind_size kind) (value_at kind at.source.is_little_endian) at spot alike

pub fixed_bytes_agree : (size : ℕ) → Agrees (fixed_bytes_slots size)
fixed_bytes_agree size = fixed_agree (λ taken. taken * size) (λ values i. bytes (element_bytes size values i))

pub bytes_agree : (w : Width) (is_allowed : List ℕ → Bool) (slot : List ℕ → Slot) → Agrees (byte_slots w is_allowed slot)
unfolding byte_slots
bytes_agree w is_allowed slot at spot alike =
    both_same _ _ _ _ (marked_agree at spot alike) (λ (marked : Marked).
    both_same _ _ _ _ (offsets_alike w at spot 1 marked.taken alike) (λ (offsets : List ℕ).
    both_same _ _ _ _ (buffer_alike at spot 2 (at.buffer + 2) (spot.buffer + 2) (last_of offsets) alike refl refl)
    (λ (values : List ℕ). refl)))

pub keys_agree : (key : IntegerType) (data_type : DataType) → Agrees (dictionary_slots key data_type)
unfolding dictionary_slots
keys_agree key data_type at spot alike =
    both_same (own_id at.ids) _ _ _ refl (λ (id : ℤ).
    both_same (standing_for id at.standing) _ _ _ refl (λ (dictionary : Dictionary).
    both_same (guard (same_type dictionary.data_type data_type)) _ _ _ refl (λ (test : Bool).
    both_same _ _ _ _ (marked_agree at spot alike) (λ (marked : Marked).
    both_same _ _ _ _ (buffer_alike at spot 1 (at.buffer + 1) (spot.buffer + 1) (marked.taken * key_size key) alike refl refl)
    (λ (keys : List ℕ). refl)))))

-- ---- lists

pub lists_agree : (w : Width) (field : Field) (reader : Reader) → Agrees reader → Agrees (list_slots w (field, reader))
unfolding list_slots
lists_agree w field reader agrees at spot alike =
    both_same _ _ _ _ (marked_agree at spot alike) (λ (marked : Marked).
    both_same _ _ _ _ (offsets_alike w at spot 1 marked.taken alike) (λ (offsets : List ℕ).
    both_same _ _ _ _ (agrees_below reader agrees at spot 2 (Some (last_of offsets)) (Some (last_of offsets)) alike (inl refl))
    (λ (values : List Slot). refl)))

pub fixed_lists_agree : (size : ℕ) (field : Field) (reader : Reader) → Agrees reader → Agrees (fixed_list_slots size (field, reader))
unfolding fixed_list_slots
fixed_lists_agree size field reader agrees at spot alike =
    both_same _ _ _ _ (marked_agree at spot alike) (λ (marked : Marked).
    both_same _ _ _ _ (agrees_below reader agrees at spot 1 (limit_times at.limit size) (limit_times spot.limit size) alike
    (limits_times at.source.nodes at.node 1 at.limit spot.limit size alike.limits)) (λ (values : List Slot). refl))

-- ---- children one after another

-- each of some readers
abbrev pub AllAgree : List (Field × Reader) → Type 0
AllAgree [] = Unit {0}
AllAgree (child ∷ children) = Agrees child.1 × AllAgree children

-- the place behind a column, and the spot
pub alike_behind : (at : Place) (spot : Spot) (data_type : DataType) → StandsAlike at spot → StandsAlike (behind_column at data_type)
    (spot_further spot (node_count data_type) (buffer_count at.source.version data_type) spot.limit)
alike_behind at spot data_type alike =
    let behind = alike_further at spot (node_count data_type) (buffer_count at.source.version data_type) at.limit spot.limit alike
    (limits_further at.source.nodes at.node (node_count data_type) at.limit spot.limit alike.limits) in
    record { nodes = behind.nodes; buffers = behind.buffers; limits = behind.limits }

columns_agree : (children : List (Field × Reader)) → AllAgree children → (below : IdsList) → Agrees (λ at. columns_below children at below)
columns_agree [] all below at spot alike = refl
columns_agree (child ∷ children) all below at spot alike =
    both_same _ _ _ _ (all.0 (record at { ids = first_ids below }) spot
    (record { nodes = alike.nodes; buffers = alike.buffers; limits = alike.limits })) (λ (column : List Slot).
    both_same _ _ _ _ (columns_agree children all.1 (other_ids below) (behind_column at child.0.data_type)
    (spot_further spot (node_count child.0.data_type) (buffer_count at.source.version child.0.data_type) spot.limit)
    (alike_behind at spot child.0.data_type alike)) (λ (columns : List (List Slot)). refl))

pub columns_alike : (children : List (Field × Reader)) → AllAgree children → (at : Place) (spot : Spot) (own : ℕ) (old new : Option ℕ)
    → StandsAlike at spot → LimitsAgree at.source.nodes (at.node + 1) old new
    → columns_below children (first_below at own old) (ids_below at.ids)
    ≡ columns_below children (first_below (put spot at) own new) (ids_below at.ids)
columns_alike children all at spot own old new alike limits =
    agrees_below (λ at'. columns_below children at' (ids_below at.ids)) (columns_agree children all (ids_below at.ids)) at spot own old new
    alike limits

pub structs_agree : (children : List (Field × Reader)) → AllAgree children → Agrees (struct_slots children)
unfolding struct_slots
structs_agree children all at spot alike =
    both_same _ _ _ _ (marked_agree at spot alike) (λ (marked : Marked).
    both_same _ _ _ _ (columns_alike children all at spot 1 at.limit spot.limit alike
    (limits_further at.source.nodes at.node 1 at.limit spot.limit alike.limits)) (λ (columns : List (List Slot)). refl))

-- ---- unions

places_alike : (mode : UnionMode) (at : Place) (spot : Spot) (k m n count : ℕ) → StandsAlike at spot → m ≡ at.buffer + k → n ≡ spot.buffer + k
    → places_in mode at.source m count ≡ places_in mode (put spot at).source n count
places_alike modes.Sparse at spot k m n count alike here there = refl
places_alike modes.Dense at spot k m n count alike here there =
    both_same _ _ _ _ (buffer_alike at spot k m n (count * 4) alike here there) (λ (offsets : List ℕ). refl)

pub unions_agree : (children : List (Field × Reader)) → AllAgree children → (numbers : Option (List ℤ)) (mode : UnionMode) (spare own : ℕ)
    → Agrees (union_slots children numbers mode spare own)
unfolding union_slots
unions_agree children all numbers mode spare own at spot alike =
    let here = add_assoc at.buffer spare 1 in
    let there = add_assoc spot.buffer spare 1 in
    both_known _ _ _ _ (node_alike at spot alike) (λ (node : FieldNode) found.
    both_known (natural node.length) (natural node.length) _ _ refl (λ (count : ℕ) is.
    both_same _ _ _ _ (buffer_alike at spot spare (at.buffer + spare) (spot.buffer + spare) count alike refl refl) (λ (types : List ℕ).
    both_same _ _ _ _ (places_alike mode at spot (spare + 1) (at.buffer + spare + 1) (spot.buffer + spare + 1) count alike here there)
    (λ (places : ℕ → ℤ).
    both_same _ _ _ _ (columns_alike children all at spot own None None alike (inl refl)) (λ (columns : List (List Slot)).
    both_same (guard (are_as_long mode count columns)) _ _ _ refl (λ (fits : Bool).
    both_same (all_of (window (λ i. picked children columns (child_of numbers (signed_of true w8 (element_bytes 1 types i)))
    (natural (places i))) 0 count)) _ _ _ refl (λ (slots : List Slot).
    ap (λ taken. Some (take taken slots)) (taken_alike at spot node count alike found is))))))))
