-- The arrays of columns with children are read by parts: what stands before the children, the arrays of the children, and what both make.
use Rattle.std.proofs.Common.{◌≡◌, ◌∙◌, ℕ, Bool, true, false, ◌&&◌, List, [], ◌∷◌, length, drop, refl, sym}
use Rattle.std.specs.Prelude.{Option, Some, None}
use Rattle.std.proofs.lemmas.Bool.{true≢false}
use Rattle.ipc_format_array_reading.specs.columnar_memory.declared.DataType.{DataType}
use Rattle.ipc_format_array_reading.specs.columnar_memory.declared.DataType.TheOpen as layer
use Rattle.ipc_format_array_reading.specs.columnar_memory.declared.Field.{Field}
use Rattle.ipc_format_array_reading.specs.columns.Slots.{Slot}
use Rattle.ipc_format_array_reading.specs.columns.StoredColumns.{type_layer}
use Rattle.ipc_format_array_reading.specs.flatbuffers.Reading.{◌>>=◌, guard}
use Rattle.ipc_format_array_reading.specs.grammar.Columns.{Dictionary, Place, columns_below, first_below, ids_below, last_of, limit_times, slots_in}
use Rattle.ipc_format_array_reading.specs.grammar.Messages.{Version}
use Rattle.ipc_format_array_reading.specs.grammar.Schemas.{Ids}
use Rattle.ipc_format_array_reading.specs.messages.declared.values.Buffer.{Buffer}
use Rattle.ipc_format_array_reading.specs.messages.declared.values.FieldNode.{FieldNode}
use Rattle.ipc_format_array_reading.proofs.Readings.{through}
use Rattle.ipc_format_array_reading.proofs.TypeLayers.{Layer}
use Rattle.ipc_format_array_reading.specs.ArrayReads.{array_slots, fields_below, pass_each}
use Rattle.ipc_format_reading.specs.Below.{arrays_below}
use Rattle.ipc_format_array_reading.specs.Parts.{Parts, has_children, limit_below, marks, next_parts, own_buffers, spans}
use Rattle.ipc_format_array_reading.specs.ReadArrays.{at_front}
use Rattle.ipc_format_reading.proofs.JoinedSlots.{joined_fixed, joined_lists, joined_slots, layer_arrays}
use Rattle.ipc_format_array_reading.proofs.Layers.{layer_reads, layer_tests, read_layer}
use Rattle.ipc_format_reading.proofs.PartsGuards.{below_tested, layer_tested, read_each, test_each, tested_later}
use Rattle.ipc_format_reading.proofs.PartsMarks.{fixed_given, lists_given, structs_given}
use Rattle.ipc_format_reading.proofs.PartsUnions.{unions_given}

-- ---- by the layer

-- the children's columns, read below parts
abbrev columns_by : Layer → Place → Parts → Option (List (List Slot))
columns_by x at parts =
    columns_below (read_each (fields_below x)) (first_below at (own_buffers at.source.version x) (limit_below x at.limit parts)) (ids_below at.ids)

abbrev joined_by : Layer → Place → Parts → Option (List Slot)
joined_by x at parts = columns_by x at parts >>= (λ columns. joined_slots x at.limit parts columns)

unlike : false ≡ true → ⊥
unlike e = true≢false (sym e)

parts_given : (x : Layer) (nodes : List FieldNode) (buffers : List Buffer) (version : Version) (little : Bool) (standing : List Dictionary)
    (limit : Option ℕ) (origin : ℕ) (here : Ids) (room : List ℕ) → has_children x ≡ true
    → read_layer x (at_front nodes buffers version little standing limit origin here room)
    ≡ (next_parts x version little nodes limit buffers origin room
    >>= joined_by x (at_front nodes buffers version little standing limit origin here room))
parts_given (layer.List item) nodes buffers version little standing limit origin here room with_children =
    let at : Place = at_front nodes buffers version little standing limit origin here room in
    lists_given false item (slots_in item.data_type) nodes buffers version little standing limit origin here room
    (joined_by (layer.List item) at) (λ taken mask offsets.
    through (slots_in item.data_type (first_below at 2 (Some (last_of offsets)))) (λ values. values ∷ [])
    (λ values. joined_lists (spans taken mask offsets) (values ∷ [])) (joined_lists (spans taken mask offsets)) (λ values. refl))
parts_given (layer.LargeList item) nodes buffers version little standing limit origin here room with_children =
    let at : Place = at_front nodes buffers version little standing limit origin here room in
    lists_given true item (slots_in item.data_type) nodes buffers version little standing limit origin here room
    (joined_by (layer.LargeList item) at) (λ taken mask offsets.
    through (slots_in item.data_type (first_below at 2 (Some (last_of offsets)))) (λ values. values ∷ [])
    (λ values. joined_lists (spans taken mask offsets) (values ∷ [])) (joined_lists (spans taken mask offsets)) (λ values. refl))
parts_given (layer.Map entry is_sorted) nodes buffers version little standing limit origin here room with_children =
    let at : Place = at_front nodes buffers version little standing limit origin here room in
    lists_given false entry (slots_in entry.data_type) nodes buffers version little standing limit origin here room
    (joined_by (layer.Map entry is_sorted) at) (λ taken mask offsets.
    through (slots_in entry.data_type (first_below at 2 (Some (last_of offsets)))) (λ values. values ∷ [])
    (λ values. joined_lists (spans taken mask offsets) (values ∷ [])) (joined_lists (spans taken mask offsets)) (λ values. refl))
parts_given (layer.FixedSizeList item size) nodes buffers version little standing limit origin here room with_children =
    let at : Place = at_front nodes buffers version little standing limit origin here room in
    fixed_given size item (slots_in item.data_type) nodes buffers version little standing limit origin here room
    (joined_by (layer.FixedSizeList item size) at) (λ taken mask.
    through (slots_in item.data_type (first_below at 1 (limit_times limit size))) (λ values. values ∷ [])
    (λ values. joined_fixed size (marks taken mask) (values ∷ [])) (joined_fixed size (marks taken mask)) (λ values. refl))
parts_given (layer.Struct us) nodes buffers version little standing limit origin here room with_children =
    structs_given (read_each us) nodes buffers version little standing limit origin here room
    (joined_by (layer.Struct us) (at_front nodes buffers version little standing limit origin here room)) (λ taken mask. refl)
parts_given (layer.Union us numbers mode) nodes buffers version little standing limit origin here room with_children =
    unions_given us numbers mode nodes buffers version little standing limit origin here room
    (joined_by (layer.Union us numbers mode) (at_front nodes buffers version little standing limit origin here room))
    (λ ids_given places. refl)
parts_given x nodes buffers version little standing limit origin here room with_children = absurd (unlike with_children)

-- ---- by the type

-- The array of a column whose type has a layer with children is read by parts.
pub arrays_by_parts : (t : DataType) (nodes : List FieldNode) (buffers : List Buffer) (version : Version) (little : Bool)
    (standing : List Dictionary) (limit : Option ℕ) (origin : ℕ) (here : Ids) (room : List ℕ) → has_children (type_layer t) ≡ true
    → array_slots t (at_front nodes buffers version little standing limit origin here room)
    ≡ (guard (layer_arrays (type_layer t)) >>= (λ _. next_parts (type_layer t) version little nodes limit buffers origin room
    >>= (λ parts. arrays_below (fields_below (type_layer t))
    (first_below (at_front nodes buffers version little standing limit origin here room) (own_buffers version (type_layer t))
    (limit_below (type_layer t) limit parts)) (ids_below here)
    >>= (λ columns. joined_slots (type_layer t) limit parts columns))))
arrays_by_parts t nodes buffers version little standing limit origin here room with_children =
    let x : Layer = type_layer t in
    let at : Place = at_front nodes buffers version little standing limit origin here room in
    let given : Option Parts = next_parts x version little nodes limit buffers origin room in
    let below_passes : Bool = pass_each (test_each (fields_below x)) (ids_below here) in
    (λ j. guard (layer_tests t j here) >>= (λ _. layer_reads t j at))
    ∙ (λ j. guard (layer_tested x here with_children j)
    >>= (λ _. parts_given x nodes buffers version little standing limit origin here room with_children j))
    ∙ tested_later (layer_arrays x) below_passes given (columns_by x at) (λ parts columns. joined_slots x limit parts columns)
    ∙ (λ j. guard (layer_arrays x) >>= (λ _. given
    >>= (λ parts. sym (below_tested (fields_below x) (first_below at (own_buffers version x) (limit_below x limit parts)) (ids_below here)) j
    >>= (λ columns. joined_slots x limit parts columns))))
