-- The windows that reading takes of columns over children stand before an end where the batch's buffers do, where their children's do.
use Rattle.std.proofs.Common.{◌≡◌, ◌∙◌, ℕ, ◌+◌, ◌*◌, ℤ, List, [], ◌∷◌, ◌++◌, ap, sym, subst}
use Rattle.std.specs.Prelude.{Option, Some, None, slice_get}
use Rattle.std.specs.Int.{Width}
use Rattle.ipc_format_laws.specs.columnar_memory.declared.Field.{Field}
use Rattle.ipc_format_laws.specs.columnar_memory.declared.UnionMode.{UnionMode}
use Rattle.ipc_format_laws.specs.columnar_memory.declared.UnionMode.TheVariants as modes
use Rattle.ipc_format_laws.specs.columns.Slots.{Slot}
use Rattle.ipc_format_laws.specs.grammar.Messages.{FieldNode, natural}
use Rattle.ipc_format_laws.specs.grammar.Schemas.{IdsList}
use Rattle.ipc_format_laws.specs.grammar.Columns.{Source, Place, Reader, Dictionary, Marked, marked_in, buffer_at, offsets_in, last_of, first_below}
use Rattle.ipc_format_laws.specs.grammar.Columns.{behind_column, limit_times, list_slots, fixed_list_slots, columns_below, struct_slots, ids_below}
use Rattle.ipc_format_laws.specs.grammar.Columns.{first_ids, other_ids, places_in, union_slots}
use Rattle.ipc_format_laws.specs.grammar.Windows.{Taker, Window, or_none, buffer_windows, offsets_windows, last_found, list_windows, fixed_list_windows}
use Rattle.ipc_format_laws.specs.grammar.Windows.{windows_below, struct_windows, places_windows, union_windows}
use Rattle.ipc_format_laws.proofs.Firsts.{came_of, bind_is}
use Rattle.ipc_format_reading_laws.proofs.AppendedEntries.{IsBefore}
use Rattle.ipc_format_reading_laws.proofs.EndsBuffers.{Before, SourceEnds, buffer_before, marked_before, offsets_before}
use Rattle.ipc_format_reading_laws.proofs.EndsColumns.{Ends}
use Rattle.ipc_format_reading_laws.proofs.IsolatedBuffers.{among}
use Rattle.ipc_format_reading_laws.proofs.StoredGivenLists.{each_more}

-- ---- lists

pub lists_end : (end : ℕ) (w : Width) (field : Field) (reader : Reader) (taker : Taker) → Ends end reader taker
    → Ends end (list_slots w (field, reader)) (list_windows w (field, taker))
unfolding list_slots
lists_end end w field reader taker below at standing ends some e =
    let marked = came_of {A = Marked} (marked_in (among at standing)) _ some e in
    let many : ℕ = marked.0.taken in
    let besides : ℕ → List Window = λ taken. offsets_windows w at.source (at.buffer + 1) taken
    ++ taker (first_below at 2 (Some (last_found (offsets_in w at.source (at.buffer + 1) taken)))) in
    let offsets = came_of {A = List ℕ} (offsets_in w at.source (at.buffer + 1) many) _ some marked.2 in
    let values = came_of {A = List Slot} (reader (first_below (among at standing) 2 (Some (last_of offsets.0)))) _ some offsets.2 in
    let taken : Before end (taker (first_below at 2 (Some (last_found (offsets_in w at.source (at.buffer + 1) many))))) =
    subst (λ (found : Option (List ℕ)). Before end (taker (first_below at 2 (Some (last_found found))))) (sym offsets.1)
    (below (first_below at 2 (Some (last_of offsets.0))) standing ends values.0 values.1) in
    marked_before end besides at standing marked.0 ends marked.1
    (each_more (IsBefore end) (offsets_windows w at.source (at.buffer + 1) many)
    (taker (first_below at 2 (Some (last_found (offsets_in w at.source (at.buffer + 1) many)))))
    (offsets_before end w at.source (at.buffer + 1) many offsets.0 ends offsets.1) taken)

pub fixed_lists_end : (end size : ℕ) (field : Field) (reader : Reader) (taker : Taker) → Ends end reader taker
    → Ends end (fixed_list_slots size (field, reader)) (fixed_list_windows size (field, taker))
unfolding fixed_list_slots
fixed_lists_end end size field reader taker below at standing ends some e =
    let marked = came_of {A = Marked} (marked_in (among at standing)) _ some e in
    let values = came_of {A = List Slot} (reader (first_below (among at standing) 1 (limit_times at.limit size))) _ some marked.2 in
    marked_before end (λ taken. taker (first_below at 1 (limit_times at.limit size))) at standing marked.0 ends marked.1
    (below (first_below at 1 (limit_times at.limit size)) standing ends values.0 values.1)

-- ---- children one after another

-- the same fields, each with what reads its column and with what says which bytes the column takes
abbrev pub AllEnd : ℕ → List (Field × Reader) → List (Field × Taker) → Type 0
AllEnd end [] [] = Unit {0}
AllEnd end [] (taker ∷ takers) = ⊥
AllEnd end (child ∷ children) [] = ⊥
AllEnd end (child ∷ children) (taker ∷ takers) = ((taker.0 ≡ child.0) × Ends end child.1 taker.1) × AllEnd end children takers

columns_end : (end : ℕ) (children : List (Field × Reader)) (takers : List (Field × Taker)) → AllEnd end children takers → (at : Place)
    (standing : List Dictionary) → SourceEnds end at.source → (below : IdsList) (columns : List (List Slot))
    → columns_below children (among at standing) below ≡ Some columns → Before end (windows_below takers at below)
columns_end end [] [] all at standing ends below columns e = tt
columns_end end [] (taker ∷ takers) all at standing ends below columns e = absurd all
columns_end end (child ∷ children) [] all at standing ends below columns e = absurd all
columns_end end (child ∷ children) (taker ∷ takers) all at standing ends below columns e =
    let column = came_of {A = List Slot} (child.1 (record (among at standing) { ids = first_ids below })) _ columns e in
    let others = came_of {A = List (List Slot)}
    (columns_below children (behind_column (among at standing) child.0.data_type) (other_ids below)) _ columns column.2 in
    let rest : Before end (windows_below takers (behind_column at taker.0.data_type) (other_ids below)) =
    subst (λ (field : Field). Before end (windows_below takers (behind_column at field.data_type) (other_ids below))) (sym all.0.0)
    (columns_end end children takers all.1 (behind_column at child.0.data_type) standing ends (other_ids below) others.0 others.1) in
    each_more (IsBefore end) (taker.1 (record at { ids = first_ids below }))
    (windows_below takers (behind_column at taker.0.data_type) (other_ids below))
    (all.0.1 (record at { ids = first_ids below }) standing ends column.0 column.1) rest

-- ---- structs

pub structs_end : (end : ℕ) (children : List (Field × Reader)) (takers : List (Field × Taker)) → AllEnd end children takers
    → Ends end (struct_slots children) (struct_windows takers)
unfolding struct_slots
structs_end end children takers all at standing ends some e =
    let marked = came_of {A = Marked} (marked_in (among at standing)) _ some e in
    let columns = came_of {A = List (List Slot)}
    (columns_below children (first_below (among at standing) 1 at.limit) (ids_below at.ids)) _ some marked.2 in
    marked_before end (λ taken. windows_below takers (first_below at 1 at.limit) (ids_below at.ids)) at standing marked.0 ends marked.1
    (columns_end end children takers all (first_below at 1 at.limit) standing ends (ids_below at.ids) columns.0 columns.1)

-- ---- unions

places_before : (end : ℕ) (mode : UnionMode) (source : Source) (k count : ℕ) (places : ℕ → ℤ) → SourceEnds end source
    → places_in mode source k count ≡ Some places → Before end (places_windows mode source k count)
places_before end modes.Sparse source k count places ends e = tt
places_before end modes.Dense source k count places ends e =
    let offsets = came_of {A = List ℕ} (buffer_at source k (count * 4)) _ places e in
    buffer_before end source k (count * 4) offsets.0 ends offsets.1

pub unions_end : (end : ℕ) (children : List (Field × Reader)) (takers : List (Field × Taker)) → AllEnd end children takers
    → (numbers : Option (List ℤ)) (mode : UnionMode) (spare own : ℕ)
    → Ends end (union_slots children numbers mode spare own) (union_windows takers mode spare own)
unfolding union_slots union_windows
unions_end end children takers all numbers mode spare own at standing ends some e =
    let node = came_of {A = FieldNode} (slice_get at.source.nodes at.node) _ some e in
    let count = came_of {A = ℕ} (natural node.0.length) _ some node.2 in
    let types = came_of {A = List ℕ} (buffer_at at.source (at.buffer + spare) count.0) _ some count.2 in
    let places = came_of {A = ℕ → ℤ} (places_in mode at.source (at.buffer + spare + 1) count.0) _ some types.2 in
    let columns = came_of {A = List (List Slot)}
    (columns_below children (first_below (among at standing) own None) (ids_below at.ids)) _ some places.2 in
    let first : List Window = buffer_windows at.source (at.buffer + spare) count.0 in
    let second : List Window = places_windows mode at.source (at.buffer + spare + 1) count.0 in
    let third : List Window = windows_below takers (first_below at own None) (ids_below at.ids) in
    let windows : union_windows takers mode spare own at ≡ first ++ second ++ third =
    ap or_none (bind_is (slice_get at.source.nodes at.node) _ node.0 node.1 ∙ bind_is (natural node.0.length) _ count.0 count.1) in
    subst (Before end) (sym windows) (each_more (IsBefore end) (first ++ second) third
    (each_more (IsBefore end) first second (buffer_before end at.source (at.buffer + spare) count.0 types.0 ends types.1)
    (places_before end mode at.source (at.buffer + spare + 1) count.0 places.0 ends places.1))
    (columns_end end children takers all (first_below at own None) standing ends (ids_below at.ids) columns.0 columns.1))
