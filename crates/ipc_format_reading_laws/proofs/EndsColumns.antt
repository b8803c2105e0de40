-- The windows that reading takes of columns without children stand before an end where the batch's buffers do.
use Rattle.std.proofs.Common.{◌≡◌, ℕ, ◌+◌, ◌*◌, ◌/◌, ℤ, Bool, List, [], ◌++◌, sym, subst}
use Rattle.std.specs.Prelude.{Option, Some}
use Rattle.std.specs.Int.{Width}
use Rattle.ipc_format_laws.specs.flatbuffers.Reading.{guard}
use Rattle.columnar_memory_types.specs.Equality.{same_type}
use Rattle.ipc_format_laws.specs.columnar_memory.declared.DataType.{DataType}
use Rattle.ipc_format_laws.specs.columnar_memory.declared.IntegerType.{IntegerType}
use Rattle.ipc_format_laws.specs.columnar_memory.declared.PrimitiveType.{PrimitiveType}
use Rattle.ipc_format_laws.specs.columns.Slots.{Slot, truth, bytes}
use Rattle.ipc_format_laws.specs.grammar.Values.{bit_at, kind_size, value_at, element_bytes, key_size}
use Rattle.ipc_format_laws.specs.grammar.Columns.{Place, Reader, Dictionary, Marked, marked_in, buffer_at, null_slots, fixed_slots, truth_slots}
use Rattle.ipc_format_laws.specs.grammar.Columns.{number_slots, fixed_bytes_slots, offsets_in, last_of, byte_slots, own_id, standing_for}
use Rattle.ipc_format_laws.specs.grammar.Columns.{dictionary_slots}
use Rattle.ipc_format_laws.specs.grammar.Windows.{Taker, Window, buffer_windows, fixed_windows, offsets_windows, last_found, byte_windows}
use Rattle.ipc_format_laws.proofs.Firsts.{came_of}
use Rattle.ipc_format_reading_laws.proofs.AppendedEntries.{IsBefore}
use Rattle.ipc_format_reading_laws.proofs.EndsBuffers.{Before, SourceEnds, buffer_before, marked_before, offsets_before}
use Rattle.ipc_format_reading_laws.proofs.IsolatedBuffers.{among}
use Rattle.ipc_format_reading_laws.proofs.StoredGivenLists.{each_more}

-- what is read, under whichever dictionaries, is taken of windows that stand before an end where the batch's buffers do
abbrev pub Ends : ℕ → Reader → Taker → Type 0
Ends end reader taker = (at : Place) (standing : List Dictionary) → SourceEnds end at.source → (some : List Slot)
    → reader (among at standing) ≡ Some some → Before end (taker at)

-- ---- slots of one size

pub nulls_end : (end : ℕ) → Ends end null_slots (λ at. [])
nulls_end end at standing ends some e = tt

pub fixed_end : (end : ℕ) (needed : ℕ → ℕ) (value : List ℕ → ℕ → Slot) → Ends end (fixed_slots needed value) (fixed_windows needed)
unfolding fixed_slots
fixed_end end needed value at standing ends some e =
    let marked = came_of {A = Marked} (marked_in (among at standing)) _ some e in
    let many : ℕ = marked.0.taken in
    let content = came_of {A = List ℕ} (buffer_at at.source (at.buffer + 1) (needed many)) _ some marked.2 in
    marked_before end (λ taken. buffer_windows at.source (at.buffer + 1) (needed taken)) at standing marked.0 ends marked.1
    (buffer_before end at.source (at.buffer + 1) (needed many) content.0 ends content.1)

pub truths_end : (end : ℕ) → Ends end truth_slots (fixed_windows (λ taken. (taken + 7) / 8))
truths_end end = fixed_end end (λ taken. (taken + 7) / 8) (λ values i. truth (bit_at values i))

pub numbers_end : (end : ℕ) (kind : PrimitiveType) → Ends end (number_slots kind) (fixed_windows (λ taken. taken * kind_size kind))
numbers_end end kind at standing ends some e =
    fixed_end end (λ taken. taken * kind_size kind) (value_at kind at.source.is_little_endian) at standing ends some e

pub fixed_bytes_end : (end size : ℕ) → Ends end (fixed_bytes_slots size) (fixed_windows (λ taken. taken * size))
fixed_bytes_end end size = fixed_end end (λ taken. taken * size) (λ values i. bytes (element_bytes size values i))

-- ---- bytes and texts

pub bytes_end : (end : ℕ) (w : Width) (is_allowed : List ℕ → Bool) (slot : List ℕ → Slot)
    → Ends end (byte_slots w is_allowed slot) (byte_windows w)
unfolding byte_slots
bytes_end end w is_allowed slot at standing ends some e =
    let marked = came_of {A = Marked} (marked_in (among at standing)) _ some e in
    let many : ℕ = marked.0.taken in
    let besides : ℕ → List Window = λ taken. offsets_windows w at.source (at.buffer + 1) taken
    ++ buffer_windows at.source (at.buffer + 2) (last_found (offsets_in w at.source (at.buffer + 1) taken)) in
    let offsets = came_of {A = List ℕ} (offsets_in w at.source (at.buffer + 1) many) _ some marked.2 in
    let content = came_of {A = List ℕ} (buffer_at at.source (at.buffer + 2) (last_of offsets.0)) _ some offsets.2 in
    let taken : Before end (buffer_windows at.source (at.buffer + 2) (last_found (offsets_in w at.source (at.buffer + 1) many))) =
    subst (λ (found : Option (List ℕ)). Before end (buffer_windows at.source (at.buffer + 2) (last_found found))) (sym offsets.1)
    (buffer_before end at.source (at.buffer + 2) (last_of offsets.0) content.0 ends content.1) in
    marked_before end besides at standing marked.0 ends marked.1
    (each_more (IsBefore end) (offsets_windows w at.source (at.buffer + 1) many)
    (buffer_windows at.source (at.buffer + 2) (last_found (offsets_in w at.source (at.buffer + 1) many)))
    (offsets_before end w at.source (at.buffer + 1) many offsets.0 ends offsets.1) taken)

-- ---- dictionaries

pub keys_end : (end : ℕ) (key : IntegerType) (data_type : DataType)
    → Ends end (dictionary_slots key data_type) (fixed_windows (λ taken. taken * key_size key))
unfolding dictionary_slots
keys_end end key data_type at standing ends some e =
    let id = came_of {A = ℤ} (own_id at.ids) _ some e in
    let dictionary = came_of {A = Dictionary} (standing_for id.0 standing) _ some id.2 in
    let test = came_of {A = Bool} (guard (same_type dictionary.0.data_type data_type)) _ some dictionary.2 in
    let marked = came_of {A = Marked} (marked_in (among at standing)) _ some test.2 in
    let many : ℕ = marked.0.taken in
    let content = came_of {A = List ℕ} (buffer_at at.source (at.buffer + 1) (many * key_size key)) _ some marked.2 in
    marked_before end (λ taken. buffer_windows at.source (at.buffer + 1) (taken * key_size key)) at standing marked.0 ends marked.1
    (buffer_before end at.source (at.buffer + 1) (many * key_size key) content.0 ends content.1)
