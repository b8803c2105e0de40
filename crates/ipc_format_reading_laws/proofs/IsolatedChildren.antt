-- Columns over children read the same in another room with the same bytes in the windows that they take, where their children do.
use Rattle.std.proofs.Common.{◌≡◌, ◌∙◌, ℕ, ◌+◌, ◌*◌, ℤ, List, [], ◌∷◌, ◌++◌, ap, subst}
use Rattle.std.specs.Prelude.{Option, Some, None, slice_get}
use Rattle.std.specs.Int.{Width}
use Rattle.ipc_format_laws.specs.columnar_memory.declared.Field.{Field}
use Rattle.ipc_format_laws.specs.columnar_memory.declared.UnionMode.{UnionMode}
use Rattle.ipc_format_laws.specs.columnar_memory.declared.UnionMode.TheVariants as modes
use Rattle.ipc_format_laws.specs.columns.Slots.{Slot}
use Rattle.ipc_format_laws.specs.grammar.Messages.{FieldNode, natural}
use Rattle.ipc_format_laws.specs.grammar.Schemas.{IdsList}
use Rattle.ipc_format_laws.specs.grammar.Columns.{Source, Place, Reader, Dictionary, Marked, marked_in, buffer_at, offsets_in, last_of, first_below}
use Rattle.ipc_format_laws.specs.grammar.Columns.{behind_column, limit_times, list_slots, fixed_list_slots, columns_below, struct_slots, ids_below}
use Rattle.ipc_format_laws.specs.grammar.Columns.{first_ids, other_ids, places_in, union_slots}
use Rattle.ipc_format_laws.specs.grammar.Windows.{Taker, Window, or_none, buffer_windows, offsets_windows, last_found, list_windows, fixed_list_windows}
use Rattle.ipc_format_laws.specs.grammar.Windows.{windows_below, struct_windows, places_windows, union_windows}
use Rattle.ipc_format_laws.proofs.Firsts.{came_of, bind_is}
use Rattle.ipc_format_reading_laws.proofs.IsolatedBuffers.{SameBytes, same_first, same_later, in_room, among, Extends, moved, buffer_same}
use Rattle.ipc_format_reading_laws.proofs.IsolatedBuffers.{marked_same, offsets_same}
use Rattle.ipc_format_reading_laws.proofs.IsolatedColumns.{Isolated}

-- ---- lists

pub lists_isolated : (w : Width) (field : Field) (reader : Reader) (taker : Taker) → Isolated reader taker
    → Isolated (list_slots w (field, reader)) (list_windows w (field, taker))
unfolding list_slots
lists_isolated w field reader taker below at standing now more room some same e =
    let marked = came_of {A = Marked} (marked_in (among at standing)) _ some e in
    let many : ℕ = marked.0.taken in
    let besides : ℕ → List Window = λ taken. offsets_windows w at.source (at.buffer + 1) taken
    ++ taker (first_below at 2 (Some (last_found (offsets_in w at.source (at.buffer + 1) taken)))) in
    let here = marked_same besides at standing now room marked.0 same marked.1 in
    let offsets = came_of {A = List ℕ} (offsets_in w at.source (at.buffer + 1) many) _ some marked.2 in
    let values = came_of {A = List Slot} (reader (first_below (among at standing) 2 (Some (last_of offsets.0)))) _ some offsets.2 in
    let offsets_are = offsets_same w at.source room (at.buffer + 1) many offsets.0
    (same_first at.source.room room (offsets_windows w at.source (at.buffer + 1) many) _ here.1) offsets.1 in
    let taken : SameBytes at.source.room room (taker (first_below at 2 (Some (last_of offsets.0)))) =
    subst (λ (found : Option (List ℕ)). SameBytes at.source.room room (taker (first_below at 2 (Some (last_found found))))) offsets.1
    (same_later at.source.room room (offsets_windows w at.source (at.buffer + 1) many) _ here.1) in
    let part = below (first_below at 2 (Some (last_of offsets.0))) standing now more room values.0 taken values.1 in
    bind_is (marked_in (moved at now room)) _ marked.0 here.0
    ∙ bind_is (offsets_in w (in_room at.source room) (at.buffer + 1) many) _ offsets.0 offsets_are
    ∙ bind_is (reader (first_below (moved at now room) 2 (Some (last_of offsets.0)))) _ values.0 part ∙ values.2

pub fixed_lists_isolated : (size : ℕ) (field : Field) (reader : Reader) (taker : Taker) → Isolated reader taker
    → Isolated (fixed_list_slots size (field, reader)) (fixed_list_windows size (field, taker))
unfolding fixed_list_slots
fixed_lists_isolated size field reader taker below at standing now more room some same e =
    let marked = came_of {A = Marked} (marked_in (among at standing)) _ some e in
    let here = marked_same (λ taken. taker (first_below at 1 (limit_times at.limit size))) at standing now room marked.0 same marked.1 in
    let values = came_of {A = List Slot} (reader (first_below (among at standing) 1 (limit_times at.limit size))) _ some marked.2 in
    let part = below (first_below at 1 (limit_times at.limit size)) standing now more room values.0 here.1 values.1 in
    bind_is (marked_in (moved at now room)) _ marked.0 here.0
    ∙ bind_is (reader (first_below (moved at now room) 1 (limit_times at.limit size))) _ values.0 part ∙ values.2

-- ---- children one after another

-- the same fields, each with what reads its column and with what says which bytes the column takes
abbrev pub AllIsolated : List (Field × Reader) → List (Field × Taker) → Type 0
AllIsolated [] [] = Unit {0}
AllIsolated [] (taker ∷ takers) = ⊥
AllIsolated (child ∷ children) [] = ⊥
AllIsolated (child ∷ children) (taker ∷ takers) = ((taker.0 ≡ child.0) × Isolated child.1 taker.1) × AllIsolated children takers

columns_isolated : (children : List (Field × Reader)) (takers : List (Field × Taker)) → AllIsolated children takers → (at : Place)
    (standing now : List Dictionary) → Extends standing now → (room : List ℕ) (below : IdsList) (columns : List (List Slot))
    → SameBytes at.source.room room (windows_below takers at below) → columns_below children (among at standing) below ≡ Some columns
    → columns_below children (moved at now room) below ≡ Some columns
columns_isolated [] [] all at standing now more room below columns same e = e
columns_isolated [] (taker ∷ takers) all at standing now more room below columns same e = absurd all
columns_isolated (child ∷ children) [] all at standing now more room below columns same e = absurd all
columns_isolated (child ∷ children) (taker ∷ takers) all at standing now more room below columns same e =
    let column = came_of {A = List Slot} (child.1 (record (among at standing) { ids = first_ids below })) _ columns e in
    let others = came_of {A = List (List Slot)}
    (columns_below children (behind_column (among at standing) child.0.data_type) (other_ids below)) _ columns column.2 in
    let mine : List Window = taker.1 (record at { ids = first_ids below }) in
    let here : child.1 (record (moved at now room) { ids = first_ids below }) ≡ Some column.0 =
    all.0.1 (record at { ids = first_ids below }) standing now more room column.0 (same_first at.source.room room mine _ same) column.1 in
    let taken : SameBytes at.source.room room (windows_below takers (behind_column at child.0.data_type) (other_ids below)) =
    subst (λ (field : Field). SameBytes at.source.room room (windows_below takers (behind_column at field.data_type) (other_ids below))) all.0.0
    (same_later at.source.room room mine _ same) in
    let rest : columns_below children (behind_column (moved at now room) child.0.data_type) (other_ids below) ≡ Some others.0 =
    columns_isolated children takers all.1 (behind_column at child.0.data_type) standing now more room (other_ids below) others.0 taken others.1 in
    bind_is (child.1 (record (moved at now room) { ids = first_ids below })) _ column.0 here
    ∙ bind_is (columns_below children (behind_column (moved at now room) child.0.data_type) (other_ids below)) _ others.0 rest ∙ others.2

-- ---- structs

pub structs_isolated : (children : List (Field × Reader)) (takers : List (Field × Taker)) → AllIsolated children takers
    → Isolated (struct_slots children) (struct_windows takers)
unfolding struct_slots
structs_isolated children takers all at standing now more room some same e =
    let marked = came_of {A = Marked} (marked_in (among at standing)) _ some e in
    let here = marked_same (λ taken. windows_below takers (first_below at 1 at.limit) (ids_below at.ids)) at standing now room marked.0 same
    marked.1 in
    let columns = came_of {A = List (List Slot)}
    (columns_below children (first_below (among at standing) 1 at.limit) (ids_below at.ids)) _ some marked.2 in
    let part : columns_below children (first_below (moved at now room) 1 at.limit) (ids_below at.ids) ≡ Some columns.0 =
    columns_isolated children takers all (first_below at 1 at.limit) standing now more room (ids_below at.ids) columns.0 here.1 columns.1 in
    bind_is (marked_in (moved at now room)) _ marked.0 here.0
    ∙ bind_is (columns_below children (first_below (moved at now room) 1 at.limit) (ids_below at.ids)) _ columns.0 part ∙ columns.2

-- ---- unions

places_same : (mode : UnionMode) (source : Source) (room : List ℕ) (k count : ℕ) (places : ℕ → ℤ)
    → SameBytes source.room room (places_windows mode source k count) → places_in mode source k count ≡ Some places
    → places_in mode (in_room source room) k count ≡ Some places
places_same modes.Sparse source room k count places same e = e
places_same modes.Dense source room k count places same e =
    let offsets = came_of {A = List ℕ} (buffer_at source k (count * 4)) _ places e in
    bind_is (buffer_at (in_room source room) k (count * 4)) _ offsets.0 (buffer_same source room k (count * 4) offsets.0 same offsets.1) ∙ offsets.2

pub unions_isolated : (children : List (Field × Reader)) (takers : List (Field × Taker)) → AllIsolated children takers
    → (numbers : Option (List ℤ)) (mode : UnionMode) (spare own : ℕ)
    → Isolated (union_slots children numbers mode spare own) (union_windows takers mode spare own)
unfolding union_slots union_windows
unions_isolated children takers all numbers mode spare own at standing now more room some same e =
    let node = came_of {A = FieldNode} (slice_get at.source.nodes at.node) _ some e in
    let count = came_of {A = ℕ} (natural node.0.length) _ some node.2 in
    let types = came_of {A = List ℕ} (buffer_at at.source (at.buffer + spare) count.0) _ some count.2 in
    let places = came_of {A = ℕ → ℤ} (places_in mode at.source (at.buffer + spare + 1) count.0) _ some types.2 in
    let columns = came_of {A = List (List Slot)}
    (columns_below children (first_below (among at standing) own None) (ids_below at.ids)) _ some places.2 in
    let first : List Window = buffer_windows at.source (at.buffer + spare) count.0 in
    let second : List Window = places_windows mode at.source (at.buffer + spare + 1) count.0 in
    let third : List Window = windows_below takers (first_below at own None) (ids_below at.ids) in
    let windows : union_windows takers mode spare own at ≡ first ++ second ++ third =
    ap or_none (bind_is (slice_get at.source.nodes at.node) _ node.0 node.1 ∙ bind_is (natural node.0.length) _ count.0 count.1) in
    let here : SameBytes at.source.room room (first ++ second ++ third) = subst (SameBytes at.source.room room) windows same in
    let before : SameBytes at.source.room room (first ++ second) = same_first at.source.room room (first ++ second) third here in
    let types_are = buffer_same at.source room (at.buffer + spare) count.0 types.0
    (same_first at.source.room room first second before) types.1 in
    let places_are = places_same mode at.source room (at.buffer + spare + 1) count.0 places.0
    (same_later at.source.room room first second before) places.1 in
    let columns_are : columns_below children (first_below (moved at now room) own None) (ids_below at.ids) ≡ Some columns.0 =
    columns_isolated children takers all (first_below at own None) standing now more room (ids_below at.ids) columns.0
    (same_later at.source.room room (first ++ second) third here) columns.1 in
    bind_is (slice_get at.source.nodes at.node) _ node.0 node.1 ∙ bind_is (natural node.0.length) _ count.0 count.1
    ∙ bind_is (buffer_at (in_room at.source room) (at.buffer + spare) count.0) _ types.0 types_are
    ∙ bind_is (places_in mode (in_room at.source room) (at.buffer + spare + 1) count.0) _ places.0 places_are
    ∙ bind_is (columns_below children (first_below (moved at now room) own None) (ids_below at.ids)) _ columns.0 columns_are ∙ columns.2
