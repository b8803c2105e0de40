-- Columns without children read the same in another room with the same bytes in the windows that they take.
use Rattle.std.proofs.Common.{◌≡◌, ◌∙◌, ℕ, ◌+◌, ◌*◌, ◌/◌, ℤ, Bool, List, [], ◌++◌, subst}
use Rattle.std.specs.Prelude.{Option, Some}
use Rattle.std.specs.Int.{Width}
use Rattle.ipc_format_laws.specs.flatbuffers.Reading.{guard}
use Rattle.columnar_memory_types.specs.Equality.{same_type}
use Rattle.ipc_format_laws.specs.columnar_memory.declared.DataType.{DataType}
use Rattle.ipc_format_laws.specs.columnar_memory.declared.IntegerType.{IntegerType}
use Rattle.ipc_format_laws.specs.columnar_memory.declared.PrimitiveType.{PrimitiveType}
use Rattle.ipc_format_laws.specs.columns.Slots.{Slot, truth, bytes}
use Rattle.ipc_format_laws.specs.grammar.Values.{bit_at, kind_size, value_at, element_bytes, key_size}
use Rattle.ipc_format_laws.specs.grammar.Columns.{Place, Reader, Dictionary, Marked, marked_in, buffer_at, null_slots, fixed_slots, truth_slots}
use Rattle.ipc_format_laws.specs.grammar.Columns.{number_slots, fixed_bytes_slots, offsets_in, last_of, byte_slots, own_id, standing_for, dictionary_slots}
use Rattle.ipc_format_laws.specs.grammar.Windows.{Taker, Window, buffer_windows, fixed_windows, offsets_windows, last_found, byte_windows}
use Rattle.ipc_format_laws.proofs.Firsts.{came_of, bind_is}
use Rattle.ipc_format_reading_laws.proofs.IsolatedBuffers.{SameBytes, same_first, same_later, in_room, among, Extends, moved, buffer_same}
use Rattle.ipc_format_reading_laws.proofs.IsolatedBuffers.{marked_same, offsets_same}

-- What is read where some dictionaries stand is read where more stand, in each other room that has the same bytes in the windows that are
-- taken.
abbrev pub Isolated : Reader → Taker → Type 0
Isolated reader taker = (at : Place) (standing now : List Dictionary) → Extends standing now → (room : List ℕ) (some : List Slot)
    → SameBytes at.source.room room (taker at) → reader (among at standing) ≡ Some some → reader (moved at now room) ≡ Some some

-- ---- slots of one size

pub nulls_isolated : Isolated null_slots (λ at. [])
nulls_isolated at standing now more room some same e = e

pub fixed_isolated : (needed : ℕ → ℕ) (value : List ℕ → ℕ → Slot) → Isolated (fixed_slots needed value) (fixed_windows needed)
unfolding fixed_slots
fixed_isolated needed value at standing now more room some same e =
    let marked = came_of {A = Marked} (marked_in (among at standing)) _ some e in
    let many : ℕ = marked.0.taken in
    let here = marked_same (λ taken. buffer_windows at.source (at.buffer + 1) (needed taken)) at standing now room marked.0 same marked.1 in
    let content = came_of {A = List ℕ} (buffer_at at.source (at.buffer + 1) (needed many)) _ some marked.2 in
    let part = buffer_same at.source room (at.buffer + 1) (needed many) content.0 here.1 content.1 in
    bind_is (marked_in (moved at now room)) _ marked.0 here.0
    ∙ bind_is (buffer_at (in_room at.source room) (at.buffer + 1) (needed many)) _ content.0 part ∙ content.2

pub truths_isolated : Isolated truth_slots (fixed_windows (λ taken. (taken + 7) / 8))
truths_isolated = fixed_isolated (λ taken. (taken + 7) / 8) (λ values i. truth (bit_at values i))

pub numbers_isolated : (kind : PrimitiveType) → Isolated (number_slots kind) (fixed_windows (λ taken. taken * kind_size kind))
numbers_isolated kind at standing now more room some same e =
    fixed_isolated (λ taken. taken * kind_size kind) (value_at kind at.source.is_little_endian) at standing now more room some same e

pub fixed_bytes_isolated : (size : ℕ) → Isolated (fixed_bytes_slots size) (fixed_windows (λ taken. taken * size))
fixed_bytes_isolated size = fixed_isolated (λ taken. taken * size) (λ values i. bytes (element_bytes size values i))

-- ---- bytes and texts

pub bytes_isolated : (w : Width) (is_allowed : List ℕ → Bool) (slot : List ℕ → Slot) → Isolated (byte_slots w is_allowed slot) (byte_windows w)
unfolding byte_slots
bytes_isolated w is_allowed slot at standing now more room some same e =
    let marked = came_of {A = Marked} (marked_in (among at standing)) _ some e in
    let many : ℕ = marked.0.taken in
    let besides : ℕ → List Window = λ taken. offsets_windows w at.source (at.buffer + 1) taken
    ++ buffer_windows at.source (at.buffer + 2) (last_found (offsets_in w at.source (at.buffer + 1) taken)) in
    let here = marked_same besides at standing now room marked.0 same marked.1 in
    let offsets = came_of {A = List ℕ} (offsets_in w at.source (at.buffer + 1) many) _ some marked.2 in
    let content = came_of {A = List ℕ} (buffer_at at.source (at.buffer + 2) (last_of offsets.0)) _ some offsets.2 in
    let offsets_are = offsets_same w at.source room (at.buffer + 1) many offsets.0
    (same_first at.source.room room (offsets_windows w at.source (at.buffer + 1) many) _ here.1) offsets.1 in
    let taken : SameBytes at.source.room room (buffer_windows at.source (at.buffer + 2) (last_of offsets.0)) =
    subst (λ (found : Option (List ℕ)). SameBytes at.source.room room (buffer_windows at.source (at.buffer + 2) (last_found found))) offsets.1
    (same_later at.source.room room (offsets_windows w at.source (at.buffer + 1) many) _ here.1) in
    let part = buffer_same at.source room (at.buffer + 2) (last_of offsets.0) content.0 taken content.1 in
    bind_is (marked_in (moved at now room)) _ marked.0 here.0
    ∙ bind_is (offsets_in w (in_room at.source room) (at.buffer + 1) many) _ offsets.0 offsets_are
    ∙ bind_is (buffer_at (in_room at.source room) (at.buffer + 2) (last_of offsets.0)) _ content.0 part ∙ content.2

-- ---- dictionaries

pub keys_isolated : (key : IntegerType) (data_type : DataType)
    → Isolated (dictionary_slots key data_type) (fixed_windows (λ taken. taken * key_size key))
unfolding dictionary_slots
keys_isolated key data_type at standing now more room some same e =
    let id = came_of {A = ℤ} (own_id at.ids) _ some e in
    let dictionary = came_of {A = Dictionary} (standing_for id.0 standing) _ some id.2 in
    let test = came_of {A = Bool} (guard (same_type dictionary.0.data_type data_type)) _ some dictionary.2 in
    let marked = came_of {A = Marked} (marked_in (among at standing)) _ some test.2 in
    let many : ℕ = marked.0.taken in
    let here = marked_same (λ taken. buffer_windows at.source (at.buffer + 1) (taken * key_size key)) at standing now room marked.0 same marked.1 in
    let content = came_of {A = List ℕ} (buffer_at at.source (at.buffer + 1) (many * key_size key)) _ some marked.2 in
    let part = buffer_same at.source room (at.buffer + 1) (many * key_size key) content.0 here.1 content.1 in
    bind_is (own_id at.ids) _ id.0 id.1 ∙ bind_is (standing_for id.0 now) _ dictionary.0 (more id.0 dictionary.0 dictionary.1)
    ∙ bind_is (guard (same_type dictionary.0.data_type data_type)) _ test.0 test.1
    ∙ bind_is (marked_in (moved at now room)) _ marked.0 here.0
    ∙ bind_is (buffer_at (in_room at.source room) (at.buffer + 1) (many * key_size key)) _ content.0 part ∙ content.2
