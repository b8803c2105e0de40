-- Columns over children read the same by the normal form of their type, where their children do.
use Rattle.std.proofs.Common.{◌≡◌, ◌∙◌, ℕ, zero, suc, ◌+◌, ◌*◌, ℤ, Bool, true, ◌&&◌, List, [], ◌∷◌, length, map, take, refl, sym, ap, ap₂}
use Rattle.std.proofs.Common.{slice_range, ◌==◌}
use Rattle.std.specs.Prelude.{Option, Some, None, slice_get, option_map}
use Rattle.std.specs.Int.{Width, w8}
use Rattle.std.proofs.lemmas.List.{length-map, take-map}
use Rattle.std.proofs.lemmas.Option.{slice_get-map}
use Rattle.ipc_format_laws.specs.flatbuffers.Reading.{guard}
use Rattle.ipc_format_laws.specs.columnar_memory.declared.DataType.{DataType}
use Rattle.ipc_format_laws.specs.columnar_memory.declared.Field.{Field}
use Rattle.ipc_format_laws.specs.columnar_memory.declared.UnionMode.{UnionMode}
use Rattle.ipc_format_laws.specs.columnar_memory.declared.UnionMode.TheVariants as modes
use Rattle.ipc_format_laws.specs.columns.Slots.{Slot, items, fields, pick, in_slots, window}
use Rattle.ipc_format_laws.specs.columns.Tables.{row_at}
use Rattle.ipc_format_laws.specs.grammar.Messages.{FieldNode, natural}
use Rattle.ipc_format_laws.specs.grammar.Schemas.{IdsList}
use Rattle.ipc_format_laws.specs.grammar.Layouts.{node_count, buffer_count}
use Rattle.ipc_format_laws.specs.grammar.Writable.{normalised_type}
use Rattle.ipc_format_laws.specs.grammar.Values.{signed_of, element_bytes}
use Rattle.ipc_format_laws.specs.grammar.Columns.{Place, Reader, Marked, taken_of, slots_by, marked_in, buffer_at, offsets_in, last_of, piece_at}
use Rattle.ipc_format_laws.specs.grammar.Columns.{first_below, behind_column, limit_times, list_slots, fixed_list_slots, columns_below, have_length}
use Rattle.ipc_format_laws.specs.grammar.Columns.{struct_slots, ids_below, first_ids, other_ids, places_in, are_as_long, picked, child_of, all_of}
use Rattle.ipc_format_laws.specs.grammar.Columns.{union_slots}
use Rattle.ipc_format_laws.proofs.Firsts.{came_of, bind_is, same_value, guarded}
use Rattle.ipc_format_reading_laws.specs.NormalSlots.{normal_slot, among_normal}
use Rattle.ipc_format_reading_laws.proofs.NormalCounts.{nodes_same, buffers_same}
use Rattle.ipc_format_reading_laws.proofs.NormalValues.{in_normal, range_normal, row_normal, slots_normal}
use Rattle.ipc_format_reading_laws.proofs.NormalColumns.{ReadsNormal, marked_same}

abbrev Child : Type 0
Child = Field × Reader

-- a child, and one of the normal form of its type
pub record NormalChild (child normal : Child) : Type 0 where
  pub type_is : normal.0.data_type ≡ normalised_type child.0.data_type
  pub reads : ReadsNormal child.1 normal.1

-- ---- lists

items_normal : (values : List Slot) (a b : ℕ)
    → items (in_slots (slice_range (map normal_slot values) a b)) ≡ normal_slot (items (in_slots (slice_range values a b)))
items_normal values a b =
    ap (λ (slots : List Slot). items (in_slots slots)) (range_normal values a b) ∙ ap items (sym (in_normal (slice_range values a b)))

pub lists_normal : (w : Width) (child normal : Child) → NormalChild child normal → ReadsNormal (list_slots w child) (list_slots w normal)
unfolding list_slots
lists_normal w child normal below at some e =
    let marked = came_of {A = Marked} (marked_in at) _ some e in
    let many : ℕ = marked.0.taken in
    let found = came_of {A = List ℕ} (offsets_in w at.source (at.buffer + 1) many) _ some marked.2 in
    let offsets : List ℕ = found.0 in
    let values = came_of {A = List Slot} (child.1 (first_below at 2 (Some (last_of offsets)))) _ some found.2 in
    let test = came_of {A = Bool} (guard (length values.0 == last_of offsets)) _ some values.2 in
    let long : (length (map normal_slot values.0) == last_of offsets) ≡ true =
    ap (λ n. n == last_of offsets) (length-map values.0 normal_slot) ∙ guarded _ test.0 test.1 in
    let whole : slots_by marked.0.validity (λ i. items (in_slots (piece_at offsets values.0 i))) many ≡ some = same_value _ some test.2 in
    let part : normal.1 (among_normal (first_below at 2 (Some (last_of offsets)))) ≡ Some (map normal_slot values.0) =
    below.reads (first_below at 2 (Some (last_of offsets))) values.0 values.1 in
    bind_is (marked_in (among_normal at)) _ marked.0 (marked_same at ∙ marked.1)
    ∙ bind_is (offsets_in w at.source (at.buffer + 1) many) _ offsets found.1
    ∙ bind_is (normal.1 (among_normal (first_below at 2 (Some (last_of offsets))))) _ (map normal_slot values.0) part
    ∙ bind_is (guard (length (map normal_slot values.0) == last_of offsets)) _ true (ap guard long)
    ∙ ap Some (slots_normal marked.0.validity (λ i. items (in_slots (piece_at offsets values.0 i)))
    (λ i. items (in_slots (piece_at offsets (map normal_slot values.0) i))) many
    (λ i. items_normal values.0 _ _) ∙ ap (map normal_slot) whole)

pub fixed_lists_normal : (size : ℕ) (child normal : Child) → NormalChild child normal
    → ReadsNormal (fixed_list_slots size child) (fixed_list_slots size normal)
unfolding fixed_list_slots
fixed_lists_normal size child normal below at some e =
    let marked = came_of {A = Marked} (marked_in at) _ some e in
    let many : ℕ = marked.0.taken in
    let values = came_of {A = List Slot} (child.1 (first_below at 1 (limit_times at.limit size))) _ some marked.2 in
    let test = came_of {A = Bool} (guard (length values.0 == many * size)) _ some values.2 in
    let long : (length (map normal_slot values.0) == many * size) ≡ true =
    ap (λ n. n == many * size) (length-map values.0 normal_slot) ∙ guarded _ test.0 test.1 in
    let whole : slots_by marked.0.validity (λ i. items (in_slots (slice_range values.0 (size * i) (size * (i + 1))))) many ≡ some =
    same_value _ some test.2 in
    let part : normal.1 (among_normal (first_below at 1 (limit_times at.limit size))) ≡ Some (map normal_slot values.0) =
    below.reads (first_below at 1 (limit_times at.limit size)) values.0 values.1 in
    bind_is (marked_in (among_normal at)) _ marked.0 (marked_same at ∙ marked.1)
    ∙ bind_is (normal.1 (among_normal (first_below at 1 (limit_times at.limit size)))) _ (map normal_slot values.0) part
    ∙ bind_is (guard (length (map normal_slot values.0) == many * size)) _ true (ap guard long)
    ∙ ap Some (slots_normal marked.0.validity (λ i. items (in_slots (slice_range values.0 (size * i) (size * (i + 1)))))
    (λ i. items (in_slots (slice_range (map normal_slot values.0) (size * i) (size * (i + 1))))) many
    (λ i. items_normal values.0 (size * i) (size * (i + 1))) ∙ ap (map normal_slot) whole)

-- ---- children one after another

-- children, and those of the normal forms of their types
abbrev pub AllNormal : List Child → List Child → Type 0
AllNormal [] [] = Unit {0}
AllNormal [] (normal ∷ normals) = ⊥
AllNormal (child ∷ children) [] = ⊥
AllNormal (child ∷ children) (normal ∷ normals) = NormalChild child normal × AllNormal children normals

-- the column behind one stands at the same place
behind_same : (at : Place) (t u : DataType) → u ≡ normalised_type t
    → behind_column (among_normal at) u ≡ among_normal (behind_column at t)
behind_same at t u e =
    ap₂ (λ (n b : ℕ). record (among_normal at) { node = at.node + n; buffer = at.buffer + b }) (ap node_count e ∙ nodes_same t)
    (ap (buffer_count at.source.version) e ∙ buffers_same at.source.version t)

columns_normal : (children normals : List Child) → AllNormal children normals → (at : Place) (below : IdsList) (columns : List (List Slot))
    → columns_below children at below ≡ Some columns
    → columns_below normals (among_normal at) below ≡ Some (map (map normal_slot) columns)
columns_normal [] [] all at below columns e = ap (λ xs. Some (map (map normal_slot) xs)) (same_value [] columns e)
columns_normal [] (normal ∷ normals) all at below columns e = absurd all
columns_normal (child ∷ children) [] all at below columns e = absurd all
columns_normal (child ∷ children) (normal ∷ normals) all at below columns e =
    let column = came_of {A = List Slot} (child.1 (record at { ids = first_ids below })) _ columns e in
    let others = came_of {A = List (List Slot)} (columns_below children (behind_column at child.0.data_type) (other_ids below)) _ columns column.2 in
    let here : normal.1 (among_normal (record at { ids = first_ids below })) ≡ Some (map normal_slot column.0) =
    all.0.reads (record at { ids = first_ids below }) column.0 column.1 in
    let rest : columns_below normals (behind_column (among_normal at) normal.0.data_type) (other_ids below)
    ≡ Some (map (map normal_slot) others.0) =
    ap (λ (at : Place). columns_below normals at (other_ids below))
    (behind_same at child.0.data_type normal.0.data_type all.0.type_is)
    ∙ columns_normal children normals all.1 (behind_column at child.0.data_type) (other_ids below) others.0 others.1 in
    bind_is (normal.1 (among_normal (record at { ids = first_ids below }))) _ (map normal_slot column.0) here
    ∙ bind_is (columns_below normals (behind_column (among_normal at) normal.0.data_type) (other_ids below)) _ (map (map normal_slot) others.0) rest
    ∙ ap (λ xs. Some (map (map normal_slot) xs)) (same_value (column.0 ∷ others.0) columns others.2)

lengths_same : (count : ℕ) (columns : List (List Slot)) → have_length count (map (map normal_slot) columns) ≡ have_length count columns
lengths_same count [] = refl
lengths_same count (column ∷ columns) =
    ap₂ (λ (a b : Bool). a && b) (ap (λ n. n == count) (length-map column normal_slot)) (lengths_same count columns)

-- ---- structs

fields_normal : (columns : List (List Slot)) (i : ℕ)
    → fields (in_slots (row_at (map (map normal_slot) columns) i)) ≡ normal_slot (fields (in_slots (row_at columns i)))
fields_normal columns i =
    ap (λ (slots : List Slot). fields (in_slots slots)) (row_normal columns i) ∙ ap fields (sym (in_normal (row_at columns i)))

pub structs_normal : (children normals : List Child) → AllNormal children normals → ReadsNormal (struct_slots children) (struct_slots normals)
unfolding struct_slots
structs_normal children normals all at some e =
    let marked = came_of {A = Marked} (marked_in at) _ some e in
    let many : ℕ = marked.0.taken in
    let columns = came_of {A = List (List Slot)} (columns_below children (first_below at 1 at.limit) (ids_below at.ids)) _ some marked.2 in
    let test = came_of {A = Bool} (guard (have_length many columns.0)) _ some columns.2 in
    let long : have_length many (map (map normal_slot) columns.0) ≡ true = lengths_same many columns.0 ∙ guarded _ test.0 test.1 in
    let whole : slots_by marked.0.validity (λ i. fields (in_slots (row_at columns.0 i))) many ≡ some = same_value _ some test.2 in
    let part : columns_below normals (among_normal (first_below at 1 at.limit)) (ids_below at.ids) ≡ Some (map (map normal_slot) columns.0) =
    columns_normal children normals all (first_below at 1 at.limit) (ids_below at.ids) columns.0 columns.1 in
    bind_is (marked_in (among_normal at)) _ marked.0 (marked_same at ∙ marked.1)
    ∙ bind_is (columns_below normals (among_normal (first_below at 1 at.limit)) (ids_below at.ids)) _ (map (map normal_slot) columns.0) part
    ∙ bind_is (guard (have_length many (map (map normal_slot) columns.0))) _ true (ap guard long)
    ∙ ap Some (slots_normal marked.0.validity (λ i. fields (in_slots (row_at columns.0 i)))
    (λ i. fields (in_slots (row_at (map (map normal_slot) columns.0) i))) many (fields_normal columns.0) ∙ ap (map normal_slot) whole)

-- ---- unions

-- the child of a number, and the one of the normal form of its type
record NumberedChild (normals : List Child) (number : ℕ) (child : Child) : Type 0 where
  normal : Child
  found : slice_get normals number ≡ Some normal
  type_is : normal.0.data_type ≡ normalised_type child.0.data_type

child_at : (children normals : List Child) → AllNormal children normals → (number : ℕ) (child : Child)
    → slice_get children number ≡ Some child → NumberedChild normals number child
child_at [] [] all number child e = absurd cc
child_at [] (normal ∷ normals) all number child e = absurd all
child_at (first ∷ children) [] all number child e = absurd all
child_at (first ∷ children) (normal ∷ normals) all zero child e = record {
  normal = normal;
  found = refl;
  type_is = all.0.type_is ∙ ap (λ (child : Child). normalised_type child.0.data_type) (same_value first child e);
}
child_at (first ∷ children) (normal ∷ normals) all (suc number) child e =
    let rest = child_at children normals all.1 number child e in
    record { normal = rest.normal; found = rest.found; type_is = rest.type_is }

picked_normal : (children normals : List Child) (columns : List (List Slot)) → AllNormal children normals → (k place : Option ℕ) (slot : Slot)
    → picked children columns k place ≡ Some slot → picked normals (map (map normal_slot) columns) k place ≡ Some (normal_slot slot)
picked_normal children normals columns all k place slot e =
    let number = came_of {A = ℕ} k _ slot e in
    let child = came_of {A = Child} (slice_get children number.0) _ slot number.2 in
    let column = came_of {A = List Slot} (slice_get columns number.0) _ slot child.2 in
    let at = came_of {A = ℕ} place _ slot column.2 in
    let found = came_of {A = Slot} (slice_get column.0 at.0) _ slot at.2 in
    let whole : pick child.0.0.data_type found.0 ≡ slot = same_value (pick child.0.0.data_type found.0) slot found.2 in
    let twin = child_at children normals all number.0 child.0 child.1 in
    bind_is k _ number.0 number.1
    ∙ bind_is (slice_get normals number.0) _ twin.normal twin.found
    ∙ bind_is (slice_get (map (map normal_slot) columns) number.0) _ (map normal_slot column.0)
    (slice_get-map (map normal_slot) columns number.0 ∙ ap (option_map (map normal_slot)) column.1)
    ∙ bind_is place _ at.0 at.1
    ∙ bind_is (slice_get (map normal_slot column.0) at.0) _ (normal_slot found.0)
    (slice_get-map normal_slot column.0 at.0 ∙ ap (option_map normal_slot) found.1)
    ∙ ap (λ (t : DataType). Some (pick t (normal_slot found.0))) twin.type_is ∙ ap (λ (slot : Slot). Some (normal_slot slot)) whole

all_normal : (f g : ℕ → Option Slot) → ((i : ℕ) (slot : Slot) → f i ≡ Some slot → g i ≡ Some (normal_slot slot)) → (first n : ℕ)
    (slots : List Slot) → all_of (window f first n) ≡ Some slots → all_of (window g first n) ≡ Some (map normal_slot slots)
all_normal f g each first zero slots e = ap (λ (xs : List Slot). Some (map normal_slot xs)) (same_value [] slots e)
all_normal f g each first (suc n) slots e =
    let slot = came_of {A = Slot} (f first) _ slots e in
    let others = came_of {A = List Slot} (all_of (window f (first + 1) n)) _ slots slot.2 in
    bind_is (g first) _ (normal_slot slot.0) (each first slot.0 slot.1)
    ∙ bind_is (all_of (window g (first + 1) n)) _ (map normal_slot others.0) (all_normal f g each (first + 1) n others.0 others.1)
    ∙ ap (λ (xs : List Slot). Some (map normal_slot xs)) (same_value (slot.0 ∷ others.0) slots others.2)

long_same : (mode : UnionMode) (count : ℕ) (columns : List (List Slot))
    → are_as_long mode count (map (map normal_slot) columns) ≡ are_as_long mode count columns
long_same modes.Sparse count columns = lengths_same count columns
long_same modes.Dense count columns = refl

pub unions_normal : (children normals : List Child) → AllNormal children normals → (numbers : Option (List ℤ)) (mode : UnionMode)
    (spare own : ℕ) → ReadsNormal (union_slots children numbers mode spare own) (union_slots normals numbers mode spare own)
unfolding union_slots
unions_normal children normals all numbers mode spare own at some e =
    let node = came_of {A = FieldNode} (slice_get at.source.nodes at.node) _ some e in
    let count = came_of {A = ℕ} (natural node.0.length) _ some node.2 in
    let types = came_of {A = List ℕ} (buffer_at at.source (at.buffer + spare) count.0) _ some count.2 in
    let places = came_of {A = ℕ → ℤ} (places_in mode at.source (at.buffer + spare + 1) count.0) _ some types.2 in
    let columns = came_of {A = List (List Slot)} (columns_below children (first_below at own None) (ids_below at.ids)) _ some places.2 in
    let test = came_of {A = Bool} (guard (are_as_long mode count.0 columns.0)) _ some columns.2 in
    let number : ℕ → Option ℕ = λ i. child_of numbers (signed_of true w8 (element_bytes 1 types.0 i)) in
    let picks : List Child → List (List Slot) → ℕ → Option Slot =
    λ children columns i. picked children columns (number i) (natural (places.0 i)) in
    let slots = came_of {A = List Slot} (all_of (window (picks children columns.0) 0 count.0)) _ some test.2 in
    let whole : take (taken_of at.limit count.0) slots.0 ≡ some = same_value (take (taken_of at.limit count.0) slots.0) some slots.2 in
    let normal_columns : List (List Slot) = map (map normal_slot) columns.0 in
    let part : columns_below normals (among_normal (first_below at own None)) (ids_below at.ids) ≡ Some normal_columns =
    columns_normal children normals all (first_below at own None) (ids_below at.ids) columns.0 columns.1 in
    let long : are_as_long mode count.0 normal_columns ≡ true = long_same mode count.0 columns.0 ∙ guarded _ test.0 test.1 in
    let each : all_of (window (picks normals normal_columns) 0 count.0) ≡ Some (map normal_slot slots.0) =
    all_normal (picks children columns.0) (picks normals normal_columns)
    (λ i slot. picked_normal children normals columns.0 all (number i) (natural (places.0 i)) slot) 0 count.0 slots.0 slots.1 in
    bind_is (slice_get at.source.nodes at.node) _ node.0 node.1 ∙ bind_is (natural node.0.length) _ count.0 count.1
    ∙ bind_is (buffer_at at.source (at.buffer + spare) count.0) _ types.0 types.1
    ∙ bind_is (places_in mode at.source (at.buffer + spare + 1) count.0) _ places.0 places.1
    ∙ bind_is (columns_below normals (among_normal (first_below at own None)) (ids_below at.ids)) _ normal_columns part
    ∙ bind_is (guard (are_as_long mode count.0 normal_columns)) _ true (ap guard long)
    ∙ bind_is (all_of (window (picks normals normal_columns) 0 count.0)) _ (map normal_slot slots.0) each
    ∙ ap Some (take-map normal_slot (taken_of at.limit count.0) slots.0 ∙ ap (map normal_slot) whole)
