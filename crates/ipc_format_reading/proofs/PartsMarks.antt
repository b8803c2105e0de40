-- Columns over children with a validity bitmap, by their parts and their children's slots: lists, lists of one size and structs.
use Rattle.std.proofs.Common.{◌≡◌, ◌∙◌, ℕ, ◌+◌, ◌*◌, Bool, List, [], ◌∷◌, length, drop, refl, sym, ap, ◌==◌, slice_range}
use Rattle.std.specs.Prelude.{Option, Some, None}
use Rattle.ipc_format_array_reading.specs.columnar_memory.declared.Field.{Field}
use Rattle.ipc_format_array_reading.specs.columns.Slots.{Slot, fields, in_slots, items}
use Rattle.ipc_format_array_reading.specs.columns.Tables.{row_at}
use Rattle.ipc_format_array_reading.specs.flatbuffers.Reading.{◌>>=◌, guard}
use Rattle.ipc_format_array_reading.specs.grammar.Columns.{Dictionary, Marked, Place, Reader, buffer_at, columns_below, first_below, fixed_list_slots}
use Rattle.ipc_format_array_reading.specs.grammar.Columns.{have_length, ids_below, last_of, limit_times, list_slots, marked_in, offsets_in}
use Rattle.ipc_format_array_reading.specs.grammar.Columns.{piece_at, slots_by, struct_slots, validity_in}
use Rattle.ipc_format_array_reading.specs.grammar.Messages.{Version}
use Rattle.ipc_format_array_reading.specs.grammar.Schemas.{Ids}
use Rattle.ipc_format_array_reading.specs.messages.declared.values.Buffer.{Buffer}
use Rattle.ipc_format_array_reading.specs.messages.declared.values.FieldNode.{FieldNode}
use Rattle.ipc_format_array_reading.specs.Buffers.{source_of}
use Rattle.ipc_format_array_reading.specs.Reads.{front, next_marked, next_offsets, offset_width}
use Rattle.ipc_format_array_reading.proofs.Marks.{front_made, later_offsets, marks_of, mask_of, slots_same}
use Rattle.ipc_format_array_reading.proofs.Readings.{through, through_found, through_two}
use Rattle.ipc_format_array_reading.specs.Parts.{Parts, marks, next_marks, next_spans, spans}
use Rattle.ipc_format_array_reading.specs.ReadArrays.{at_front}
use Rattle.ipc_format_reading.proofs.JoinedSlots.{joined_fixed, joined_lists, joined_structs}

-- ---- the marks at the fronts

marked_front : (nodes : List FieldNode) (buffers : List Buffer) (version : Version) (little : Bool) (standing : List Dictionary) (limit : Option ℕ)
    (origin : ℕ) (here : Ids) (room : List ℕ)
    → marked_in (at_front nodes buffers version little standing limit origin here room) ≡ marked_in (front nodes buffers little limit origin room)
unfolding marked_in validity_in buffer_at
marked_front nodes buffers version little standing limit origin here room = refl

-- what is made of the marks
made_front : {C : Type 0} (nodes : List FieldNode) (buffers : List Buffer) (version : Version) (little : Bool) (standing : List Dictionary)
    (limit : Option ℕ) (origin : ℕ) (here : Ids) (room : List ℕ) (f : Marked → Option C) (g : ℕ × Option (List Bool) → Option C)
    → ((found : Marked) → f found ≡ g (marks_of found))
    → (marked_in (at_front nodes buffers version little standing limit origin here room) >>= f)
    ≡ (next_marked nodes limit buffers origin room >>= g)
made_front nodes buffers version little standing limit origin here room f g same =
    ap (λ (found : Option Marked). found >>= f) (marked_front nodes buffers version little standing limit origin here room)
    ∙ front_made nodes buffers little limit origin room f g same

offsets_front : (is_large : Bool) (nodes : List FieldNode) (buffers : List Buffer) (version : Version) (little : Bool)
    (standing : List Dictionary) (limit : Option ℕ) (origin : ℕ) (here : Ids) (room : List ℕ) (taken : ℕ)
    → offsets_in (offset_width is_large) (at_front nodes buffers version little standing limit origin here room).source 1 taken
    ≡ next_offsets is_large little (drop 1 buffers) taken origin room
unfolding offsets_in buffer_at
offsets_front is_large nodes buffers version little standing limit origin here room taken =
    later_offsets 1 is_large nodes buffers little origin taken room

-- ---- lists

abbrev list_from : Marked → List ℕ → List Slot → Option (List Slot)
list_from found offsets values = do
  _ ← guard (length values == last_of offsets)
  Some (slots_by found.validity (λ i. items (in_slots (piece_at offsets values i))) found.taken)

list_made : (found : Marked) (offsets : List ℕ) (values : List Slot)
    → list_from found offsets values ≡ joined_lists (spans found.taken (mask_of found.validity found.taken) offsets) (values ∷ [])
list_made found offsets values =
    ap (λ (made : List Slot). guard (length values == last_of offsets) >>= (λ _. Some made))
    (slots_same found.validity found.taken (λ i. items (in_slots (piece_at offsets values i))) (λ i. items (in_slots (piece_at offsets values i)))
    (λ i below. refl))

pub lists_given : (is_large : Bool) (field : Field) (reader : Reader) (nodes : List FieldNode) (buffers : List Buffer) (version : Version)
    (little : Bool) (standing : List Dictionary) (limit : Option ℕ) (origin : ℕ) (here : Ids) (room : List ℕ)
    (rest : Parts → Option (List Slot))
    → ((taken : ℕ) (mask : Option (List Bool)) (offsets : List ℕ)
    → (reader (first_below (at_front nodes buffers version little standing limit origin here room) 2 (Some (last_of offsets)))
    >>= (λ values. joined_lists (spans taken mask offsets) (values ∷ []))) ≡ rest (spans taken mask offsets))
    → list_slots (offset_width is_large) (field, reader) (at_front nodes buffers version little standing limit origin here room)
    ≡ (next_spans is_large little nodes limit buffers origin room >>= rest)
unfolding list_slots
lists_given is_large field reader nodes buffers version little standing limit origin here room rest joins =
    let at : Place = at_front nodes buffers version little standing limit origin here room in
    let from : Marked → List ℕ → Option (List Slot) =
    λ found offsets. reader (first_below at 2 (Some (last_of offsets))) >>= list_from found offsets in
    let behind : ℕ × Option (List Bool) → Option Parts =
    λ found. next_offsets is_large little (drop 1 buffers) found.0 origin room >>= (λ offsets. Some (spans found.0 found.1 offsets)) in
    made_front nodes buffers version little standing limit origin here room
    (λ found. offsets_in (offset_width is_large) at.source 1 found.taken >>= from found) (λ found. behind found >>= rest)
    (λ found.
    ap (λ (offsets : Option (List ℕ)). offsets >>= from found)
    (offsets_front is_large nodes buffers version little standing limit origin here room found.taken)
    ∙ through (next_offsets is_large little (drop 1 buffers) found.taken origin room)
    (spans found.taken (mask_of found.validity found.taken)) (from found) rest (λ offsets.
    through_found (reader (first_below at 2 (Some (last_of offsets)))) (list_from found offsets)
    (λ values. joined_lists (spans found.taken (mask_of found.validity found.taken) offsets) (values ∷ []))
    (λ values there. list_made found offsets values)
    ∙ joins found.taken (mask_of found.validity found.taken) offsets))
    ∙ sym (through_two (next_marked nodes limit buffers origin room) behind rest)

-- ---- lists of one size

abbrev fixed_from : ℕ → Marked → List Slot → Option (List Slot)
fixed_from size found values = do
  _ ← guard (length values == found.taken * size)
  Some (slots_by found.validity (λ i. items (in_slots (slice_range values (size * i) (size * (i + 1))))) found.taken)

fixed_made : (size : ℕ) (found : Marked) (values : List Slot)
    → fixed_from size found values ≡ joined_fixed size (marks found.taken (mask_of found.validity found.taken)) (values ∷ [])
fixed_made size found values =
    ap (λ (made : List Slot). guard (length values == found.taken * size) >>= (λ _. Some made))
    (slots_same found.validity found.taken (λ i. items (in_slots (slice_range values (size * i) (size * (i + 1)))))
    (λ i. items (in_slots (slice_range values (size * i) (size * (i + 1))))) (λ i below. refl))

pub fixed_given : (size : ℕ) (field : Field) (reader : Reader) (nodes : List FieldNode) (buffers : List Buffer) (version : Version)
    (little : Bool) (standing : List Dictionary) (limit : Option ℕ) (origin : ℕ) (here : Ids) (room : List ℕ)
    (rest : Parts → Option (List Slot))
    → ((taken : ℕ) (mask : Option (List Bool))
    → (reader (first_below (at_front nodes buffers version little standing limit origin here room) 1 (limit_times limit size))
    >>= (λ values. joined_fixed size (marks taken mask) (values ∷ []))) ≡ rest (marks taken mask))
    → fixed_list_slots size (field, reader) (at_front nodes buffers version little standing limit origin here room)
    ≡ (next_marks nodes limit buffers origin room >>= rest)
unfolding fixed_list_slots
fixed_given size field reader nodes buffers version little standing limit origin here room rest joins =
    let at : Place = at_front nodes buffers version little standing limit origin here room in
    let values_at : Option (List Slot) = reader (first_below at 1 (limit_times limit size)) in
    made_front nodes buffers version little standing limit origin here room (λ found. values_at >>= fixed_from size found)
    (λ found. rest (marks found.0 found.1))
    (λ found.
    through_found values_at (fixed_from size found)
    (λ values. joined_fixed size (marks found.taken (mask_of found.validity found.taken)) (values ∷ []))
    (λ values there. fixed_made size found values)
    ∙ joins found.taken (mask_of found.validity found.taken))
    ∙ sym (through_two (next_marked nodes limit buffers origin room) (λ found. Some (marks found.0 found.1)) rest)

-- ---- structs

abbrev struct_from : Marked → List (List Slot) → Option (List Slot)
struct_from found columns = do
  _ ← guard (have_length found.taken columns)
  Some (slots_by found.validity (λ i. fields (in_slots (row_at columns i))) found.taken)

struct_made : (found : Marked) (columns : List (List Slot))
    → struct_from found columns ≡ joined_structs (marks found.taken (mask_of found.validity found.taken)) columns
struct_made found columns =
    ap (λ (made : List Slot). guard (have_length found.taken columns) >>= (λ _. Some made))
    (slots_same found.validity found.taken (λ i. fields (in_slots (row_at columns i))) (λ i. fields (in_slots (row_at columns i)))
    (λ i below. refl))

pub structs_given : (children : List (Field × Reader)) (nodes : List FieldNode) (buffers : List Buffer) (version : Version)
    (little : Bool) (standing : List Dictionary) (limit : Option ℕ) (origin : ℕ) (here : Ids) (room : List ℕ)
    (rest : Parts → Option (List Slot))
    → ((taken : ℕ) (mask : Option (List Bool))
    → (columns_below children (first_below (at_front nodes buffers version little standing limit origin here room) 1 limit) (ids_below here)
    >>= joined_structs (marks taken mask)) ≡ rest (marks taken mask))
    → struct_slots children (at_front nodes buffers version little standing limit origin here room)
    ≡ (next_marks nodes limit buffers origin room >>= rest)
unfolding struct_slots
structs_given children nodes buffers version little standing limit origin here room rest joins =
    let at : Place = at_front nodes buffers version little standing limit origin here room in
    let columns_at : Option (List (List Slot)) = columns_below children (first_below at 1 limit) (ids_below here) in
    made_front nodes buffers version little standing limit origin here room (λ found. columns_at >>= struct_from found)
    (λ found. rest (marks found.0 found.1))
    (λ found.
    through_found columns_at (struct_from found) (joined_structs (marks found.taken (mask_of found.validity found.taken)))
    (λ columns there. struct_made found columns)
    ∙ joins found.taken (mask_of found.validity found.taken))
    ∙ sym (through_two (next_marked nodes limit buffers origin room) (λ found. Some (marks found.0 found.1)) rest)
