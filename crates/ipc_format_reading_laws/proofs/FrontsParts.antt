-- A column that reads has its nodes and buffers from its place on: those over children, where that holds of their children.
use Rattle.std.proofs.Common.{◌≡◌, ℕ, ◌+◌, ◌-◌, ◌*◌, ◌/◌, ◌≤◌, ◌<◌, ℤ, Bool, List, [], ◌∷◌, length, map, sym, subst, arith}
use Rattle.std.specs.Prelude.{Option, Some, None, slice_get}
use Rattle.std.specs.Int.{Width}
use Rattle.std.proofs.lemmas.List.{length-append}
use Rattle.std.proofs.lemmas.List.Sums.{sum_by-cons}
use Rattle.std.proofs.lemmas.Option.{slice_get_within}
use Rattle.ipc_format_laws.specs.flatbuffers.Reading.{guard}
use Rattle.columnar_memory_types.specs.Equality.{same_type}
use Rattle.ipc_format_laws.specs.columnar_memory.declared.DataType.{DataType}
use Rattle.ipc_format_laws.specs.columnar_memory.declared.Field.{Field}
use Rattle.ipc_format_laws.specs.columnar_memory.declared.IntegerType.{IntegerType}
use Rattle.ipc_format_laws.specs.columnar_memory.declared.PrimitiveType.{PrimitiveType}
use Rattle.ipc_format_laws.specs.columnar_memory.declared.UnionMode.{UnionMode}
use Rattle.ipc_format_laws.specs.columnar_memory.declared.UnionMode.TheVariants as modes
use Rattle.ipc_format_laws.specs.columns.Slots.{Slot, truth, bytes}
use Rattle.ipc_format_laws.specs.grammar.Layouts.{before_V5, mode_parts, union_parts, total, node_count, buffer_count}
use Rattle.ipc_format_laws.specs.grammar.Messages.{Version, FieldNode, Buffer, natural}
use Rattle.ipc_format_laws.specs.grammar.Schemas.{IdsList}
use Rattle.ipc_format_laws.specs.grammar.Values.{bit_at, kind_size, value_at, element_bytes, key_size}
use Rattle.ipc_format_laws.specs.grammar.Columns.{Source, Place, Reader, Dictionary, Validity, Marked, buffer_at, taken_in, validity_in, marked_in}
use Rattle.ipc_format_laws.specs.grammar.Columns.{null_slots, fixed_slots, truth_slots, number_slots, fixed_bytes_slots, offsets_in, last_of, byte_slots}
use Rattle.ipc_format_laws.specs.grammar.Columns.{own_id, standing_for, dictionary_slots, first_ids, other_ids, ids_below, first_below, behind_column}
use Rattle.ipc_format_laws.specs.grammar.Columns.{limit_times, list_slots, fixed_list_slots, columns_below, struct_slots, places_in, union_slots}
use Rattle.ipc_format_laws.specs.grammar.Columns.{slots_in}
use Rattle.ipc_format_laws.proofs.Firsts.{came_of}

-- ---- what stands from a place on

-- so many nodes and buffers
pub record Stand (n m : ℕ) (at : Place) : Type 0 where
  pub nodes : n ≤ length at.source.nodes - at.node
  pub buffers : m ≤ length at.source.buffers - at.buffer

-- Where a column reads, so many nodes stand from its place on, and so many buffers, by its batch's version.
abbrev pub Needs : Reader → ℕ → (Version → ℕ) → Type 0
Needs reader n m = (at : Place) (some : List Slot) → reader at ≡ Some some → Stand n (m at.source.version) at

-- as many as the type has
abbrev pub TypeNeeds : DataType → Type 0
TypeNeeds t = Needs (slots_in t) (node_count t) (λ version. buffer_count version t)

-- some of what stands, and more behind it
one_and_more : (all from some more : ℕ) → some ≤ all - from → more ≤ all - (from + some) → some + more ≤ all - from
one_and_more all from some more here behind = omega arith

-- what a column has of its own, and what is below it
own_and_more : (all from own more : ℕ) → from + own ≤ all → more ≤ all - (from + own) → own + more ≤ all - from
own_and_more all from own more here behind = omega arith

-- a column's own node and buffers, and what is below it
over_children : (own n m : ℕ) (at : Place) (limit : Option ℕ) → at.node < length at.source.nodes
    → at.buffer + own ≤ length at.source.buffers → Stand n m (first_below at own limit) → Stand (1 + n) (own + m) at
over_children own n m at limit node buffers below = record {
  nodes = own_and_more (length at.source.nodes) at.node 1 n (omega arith) below.nodes;
  buffers = own_and_more (length at.source.buffers) at.buffer own m buffers below.buffers;
}

-- a column's own node and buffers, where nothing is below it
alone : (own : ℕ) (at : Place) → at.node < length at.source.nodes → at.buffer + own ≤ length at.source.buffers → Stand 1 own at
alone own at node buffers = record { nodes = omega arith; buffers = omega arith }

-- ---- nodes and buffers

buffer_there : (source : Source) (k needed : ℕ) (found : List ℕ) → buffer_at source k needed ≡ Some found → k < length source.buffers
unfolding buffer_at
buffer_there source k needed found e =
    let buffer = came_of {A = Buffer} (slice_get source.buffers k) _ found e in
    slice_get_within source.buffers k buffer.0 buffer.1

validity_there : (source : Source) (node : FieldNode) (k taken : ℕ) (validity : Validity) → validity_in source node k taken ≡ Some validity
    → k < length source.buffers
unfolding validity_in
validity_there source node k taken validity e =
    let buffer = came_of {A = Buffer} (slice_get source.buffers k) _ validity e in
    slice_get_within source.buffers k buffer.0 buffer.1

offsets_there : (w : Width) (source : Source) (k taken : ℕ) (offsets : List ℕ) → offsets_in w source k taken ≡ Some offsets
    → k < length source.buffers
unfolding offsets_in
offsets_there w source k taken offsets e =
    let buffer = came_of {A = Buffer} (slice_get source.buffers k) _ offsets e in
    slice_get_within source.buffers k buffer.0 buffer.1

record MarkedThere (at : Place) : Type 0 where
  node : at.node < length at.source.nodes
  buffer : at.buffer < length at.source.buffers

marked_there : (at : Place) (marked : Marked) → marked_in at ≡ Some marked → MarkedThere at
unfolding marked_in
marked_there at marked e =
    let node = came_of {A = FieldNode} (slice_get at.source.nodes at.node) _ marked e in
    let taken = came_of {A = ℕ} (taken_in at node.0) _ marked node.2 in
    let validity = came_of {A = Validity} (validity_in at.source node.0 at.buffer taken.0) _ marked taken.2 in
    record {
      node = slice_get_within at.source.nodes at.node node.0 node.1;
      buffer = validity_there at.source node.0 at.buffer taken.0 validity.0 validity.1;
    }

-- ---- columns without children

pub nulls_need : Needs null_slots 1 (λ version. 0)
nulls_need at some e =
    let node = came_of {A = FieldNode} (slice_get at.source.nodes at.node) _ some e in
    let inside : at.node < length at.source.nodes = slice_get_within at.source.nodes at.node node.0 node.1 in
    record { nodes = omega (arith, inside); buffers = omega arith }

pub fixed_need : (needed : ℕ → ℕ) (value : List ℕ → ℕ → Slot) → Needs (fixed_slots needed value) 1 (λ version. 2)
unfolding fixed_slots
fixed_need needed value at some e =
    let marked = came_of {A = Marked} (marked_in at) _ some e in
    let values = came_of {A = List ℕ} (buffer_at at.source (at.buffer + 1) (needed marked.0.taken)) _ some marked.2 in
    let last = buffer_there at.source (at.buffer + 1) (needed marked.0.taken) values.0 values.1 in
    alone 2 at (marked_there at marked.0 marked.1).node (omega (arith, last))

pub truths_need : Needs truth_slots 1 (λ version. 2)
truths_need = fixed_need (λ taken. (taken + 7) / 8) (λ values i. truth (bit_at values i))

pub numbers_need : (kind : PrimitiveType) → Needs (number_slots kind) 1 (λ version. 2)
numbers_need kind at some e = fixed_need (λ taken. taken * kind_size kind) (value_at kind at.source.is_little_endian) at some e

pub fixed_bytes_need : (size : ℕ) → Needs (fixed_bytes_slots size) 1 (λ version. 2)
fixed_bytes_need size = fixed_need (λ taken. taken * size) (λ values i. bytes (element_bytes size values i))

pub bytes_need : (w : Width) (is_allowed : List ℕ → Bool) (slot : List ℕ → Slot) → Needs (byte_slots w is_allowed slot) 1 (λ version. 3)
unfolding byte_slots
bytes_need w is_allowed slot at some e =
    let marked = came_of {A = Marked} (marked_in at) _ some e in
    let offsets = came_of {A = List ℕ} (offsets_in w at.source (at.buffer + 1) marked.0.taken) _ some marked.2 in
    let values = came_of {A = List ℕ} (buffer_at at.source (at.buffer + 2) (last_of offsets.0)) _ some offsets.2 in
    let last = buffer_there at.source (at.buffer + 2) (last_of offsets.0) values.0 values.1 in
    alone 3 at (marked_there at marked.0 marked.1).node (omega (arith, last))

pub keys_need : (key : IntegerType) (data_type : DataType) → Needs (dictionary_slots key data_type) 1 (λ version. 2)
unfolding dictionary_slots
keys_need key data_type at some e =
    let id = came_of {A = ℤ} (own_id at.ids) _ some e in
    let dictionary = came_of {A = Dictionary} (standing_for id.0 at.standing) _ some id.2 in
    let test = came_of {A = Bool} (guard (same_type dictionary.0.data_type data_type)) _ some dictionary.2 in
    let marked = came_of {A = Marked} (marked_in at) _ some test.2 in
    let keys = came_of {A = List ℕ} (buffer_at at.source (at.buffer + 1) (marked.0.taken * key_size key)) _ some marked.2 in
    let last = buffer_there at.source (at.buffer + 1) (marked.0.taken * key_size key) keys.0 keys.1 in
    alone 2 at (marked_there at marked.0 marked.1).node (omega (arith, last))

-- ---- lists

-- the only column below
one_below : (n m : ℕ) (at : Place) → Stand n m at → Stand (total (n ∷ [])) (total (m ∷ [])) at
one_below n m at below = record { nodes = omega (arith, below.nodes); buffers = omega (arith, below.buffers) }

pub lists_need : (w : Width) (field : Field) (reader : Reader) (n : ℕ) (m : Version → ℕ) → Needs reader n m
    → Needs (list_slots w (field, reader)) (1 + total (n ∷ [])) (λ version. 2 + total (m version ∷ []))
unfolding list_slots
lists_need w field reader n m needs at some e =
    let marked = came_of {A = Marked} (marked_in at) _ some e in
    let offsets = came_of {A = List ℕ} (offsets_in w at.source (at.buffer + 1) marked.0.taken) _ some marked.2 in
    let limit : Option ℕ = Some (last_of offsets.0) in
    let values = came_of {A = List Slot} (reader (first_below at 2 limit)) _ some offsets.2 in
    let last = offsets_there w at.source (at.buffer + 1) marked.0.taken offsets.0 offsets.1 in
    let below = one_below n (m at.source.version) (first_below at 2 limit) (needs (first_below at 2 limit) values.0 values.1) in
    over_children 2 (total (n ∷ [])) (total (m at.source.version ∷ [])) at limit (marked_there at marked.0 marked.1).node (omega (arith, last)) below

pub fixed_lists_need : (size : ℕ) (field : Field) (reader : Reader) (n : ℕ) (m : Version → ℕ) → Needs reader n m
    → Needs (fixed_list_slots size (field, reader)) (1 + total (n ∷ [])) (λ version. 1 + total (m version ∷ []))
unfolding fixed_list_slots
fixed_lists_need size field reader n m needs at some e =
    let marked = came_of {A = Marked} (marked_in at) _ some e in
    let limit : Option ℕ = limit_times at.limit size in
    let values = came_of {A = List Slot} (reader (first_below at 1 limit)) _ some marked.2 in
    let there = marked_there at marked.0 marked.1 in
    let below = one_below n (m at.source.version) (first_below at 1 limit) (needs (first_below at 1 limit) values.0 values.1) in
    over_children 1 (total (n ∷ [])) (total (m at.source.version ∷ [])) at limit there.node (omega (arith, there.buffer)) below

-- ---- children one after another

-- each of some fields has what its type needs
abbrev pub AllNeed : List Field → Type 0
AllNeed [] = Unit {0}
AllNeed (u ∷ us) = TypeNeeds u.data_type × AllNeed us

-- what reads the columns of some fields, and how many nodes and buffers they have
abbrev pub readers : List Field → List (Field × Reader)
readers us = map (λ u. (u, slots_in u.data_type)) us

abbrev pub nodes_of : List Field → ℕ
nodes_of us = total (map (λ u. node_count u.data_type) us)

abbrev pub buffers_of : Version → List Field → ℕ
buffers_of version us = total (map (λ u. buffer_count version u.data_type) us)

-- counts, one after another
one_and_others : (n m : ℕ) (ns ms : List ℕ) (at : Place) → n + total ns ≤ length at.source.nodes - at.node
    → m + total ms ≤ length at.source.buffers - at.buffer → Stand (total (n ∷ ns)) (total (m ∷ ms)) at
one_and_others n m ns ms at nodes buffers = record {
  nodes = subst (λ (k : ℕ). k ≤ length at.source.nodes - at.node) (sym (sum_by-cons (λ n. n) n ns)) nodes;
  buffers = subst (λ (k : ℕ). k ≤ length at.source.buffers - at.buffer) (sym (sum_by-cons (λ n. n) m ms)) buffers;
}

columns_need : (us : List Field) → AllNeed us → (at : Place) (below : IdsList) (columns : List (List Slot))
    → columns_below (readers us) at below ≡ Some columns → Stand (nodes_of us) (buffers_of at.source.version us) at
columns_need [] all at below columns e = record { nodes = omega arith; buffers = omega arith }
columns_need (u ∷ us) all at below columns e =
    let column = came_of {A = List Slot} (slots_in u.data_type (record at { ids = first_ids below })) _ columns e in
    let others = came_of {A = List (List Slot)} (columns_below (readers us) (behind_column at u.data_type) (other_ids below)) _ columns column.2 in
    let here = all.0 (record at { ids = first_ids below }) column.0 column.1 in
    let rest = columns_need us all.1 (behind_column at u.data_type) (other_ids below) others.0 others.1 in
    one_and_others (node_count u.data_type) (buffer_count at.source.version u.data_type) (map (λ u. node_count u.data_type) us)
    (map (λ u. buffer_count at.source.version u.data_type) us) at
    (one_and_more (length at.source.nodes) at.node (node_count u.data_type) (nodes_of us) here.nodes rest.nodes)
    (one_and_more (length at.source.buffers) at.buffer (buffer_count at.source.version u.data_type) (buffers_of at.source.version us)
    here.buffers rest.buffers)

pub structs_need : (us : List Field) → AllNeed us
    → Needs (struct_slots (readers us)) (1 + nodes_of us) (λ version. 1 + buffers_of version us)
unfolding struct_slots
structs_need us all at some e =
    let marked = came_of {A = Marked} (marked_in at) _ some e in
    let columns = came_of {A = List (List Slot)} (columns_below (readers us) (first_below at 1 at.limit) (ids_below at.ids)) _ some marked.2 in
    let there = marked_there at marked.0 marked.1 in
    let below = columns_need us all (first_below at 1 at.limit) (ids_below at.ids) columns.0 columns.1 in
    over_children 1 (nodes_of us) (buffers_of at.source.version us) at at.limit there.node (omega (arith, there.buffer)) below

-- ---- unions

-- the buffers from a union's ids on
places_there : (mode : UnionMode) (source : Source) (k count : ℕ) (places : ℕ → ℤ) → k < length source.buffers
    → places_in mode source (k + 1) count ≡ Some places → k + length (mode_parts mode) ≤ length source.buffers
places_there modes.Sparse source k count places ids e = omega arith
places_there modes.Dense source k count places ids e =
    let offsets = came_of {A = List ℕ} (buffer_at source (k + 1) (count * 4)) _ places e in
    let last = buffer_there source (k + 1) (count * 4) offsets.0 offsets.1 in
    omega (arith, last)

own_parts : (version : Version) (mode : UnionMode) (from all : ℕ) → from + length (before_V5 version) + length (mode_parts mode) ≤ all
    → from + length (union_parts version mode) ≤ all
own_parts version mode from all h =
    let parts : length (union_parts version mode) ≡ length (before_V5 version) + length (mode_parts mode) =
    length-append (before_V5 version) (mode_parts mode) in
    omega (arith, parts, h)

pub unions_need : (us : List Field) → AllNeed us → (numbers : Option (List ℤ)) (mode : UnionMode) (at : Place) (some : List Slot)
    → union_slots (readers us) numbers mode (length (before_V5 at.source.version)) (length (union_parts at.source.version mode)) at ≡ Some some
    → Stand (1 + nodes_of us) (length (union_parts at.source.version mode) + buffers_of at.source.version us) at
unfolding union_slots
unions_need us all numbers mode at some e =
    let spare : ℕ = length (before_V5 at.source.version) in
    let own : ℕ = length (union_parts at.source.version mode) in
    let node = came_of {A = FieldNode} (slice_get at.source.nodes at.node) _ some e in
    let count = came_of {A = ℕ} (natural node.0.length) _ some node.2 in
    let types = came_of {A = List ℕ} (buffer_at at.source (at.buffer + spare) count.0) _ some count.2 in
    let places = came_of {A = ℕ → ℤ} (places_in mode at.source (at.buffer + spare + 1) count.0) _ some types.2 in
    let columns = came_of {A = List (List Slot)} (columns_below (readers us) (first_below at own None) (ids_below at.ids)) _ some places.2 in
    let ids = buffer_there at.source (at.buffer + spare) count.0 types.0 types.1 in
    let upto = places_there mode at.source (at.buffer + spare) count.0 places.0 ids places.1 in
    let below = columns_need us all (first_below at own None) (ids_below at.ids) columns.0 columns.1 in
    over_children own (nodes_of us) (buffers_of at.source.version us) at None (slice_get_within at.source.nodes at.node node.0 node.1)
    (own_parts at.source.version mode at.buffer (length at.source.buffers) upto) below
