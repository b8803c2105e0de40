-- The windows that reading takes of buffers, of validity and of offsets stand before an end where the batch's buffers do.
use Rattle.std.proofs.Common.{◌≡◌, ◌∙◌, ℕ, ◌+◌, ◌*◌, ◌/◌, pos, Bool, true, false, ◌&&◌, List, [], ◌∷◌, ◌++◌, sym, ap, subst, arith, nat_le}
use Rattle.std.proofs.Common.{nat_lt, ◌==◌}
use Rattle.std.specs.Prelude.{Some, slice_get, int_lt, if◌then◌else◌}
use Rattle.std.specs.Int.{Width, byte_len}
use Rattle.std.proofs.lemmas.Bool.{leb-true}
use Rattle.ipc_format_laws.specs.flatbuffers.Reading.{◌>>=◌, guard}
use Rattle.ipc_format_laws.specs.columns.Slots.{window}
use Rattle.ipc_format_laws.specs.grammar.Messages.{FieldNode, Buffer, natural}
use Rattle.ipc_format_laws.specs.grammar.Values.{signed_of, element_bytes}
use Rattle.ipc_format_laws.specs.grammar.Columns.{Source, Dictionary, Place, Validity, all_valid, bitmap, Marked, buffer_at, taken_in, validity_in}
use Rattle.ipc_format_laws.specs.grammar.Columns.{marked_in, rising, offsets_in}
use Rattle.ipc_format_laws.specs.grammar.Windows.{Window, or_none, buffer_windows, validity_windows, marked_windows, offsets_windows}
use Rattle.ipc_format_laws.proofs.Firsts.{came_of, bind_is, same_value, guarded}
use Rattle.ipc_format_reading_laws.specs.StatedBodies.{BuffersEnd}
use Rattle.ipc_format_reading_laws.proofs.AppendedEntries.{IsBefore}
use Rattle.ipc_format_reading_laws.proofs.IsolatedBuffers.{among}
use Rattle.ipc_format_reading_laws.proofs.StoredGivenLists.{Each, each_more}

-- windows that stand before an end
abbrev pub Before : ℕ → List Window → Type 0
Before end windows = Each (IsBefore end) windows

-- the buffers of a batch end before an end
abbrev pub SourceEnds : ℕ → Source → Type 0
SourceEnds end source = BuffersEnd end source.origin source.buffers

-- ---- buffers

pub buffer_before : (end : ℕ) (source : Source) (k needed : ℕ) (found : List ℕ) → SourceEnds end source
    → buffer_at source k needed ≡ Some found → Before end (buffer_windows source k needed)
unfolding buffer_at buffer_windows
buffer_before end source k needed found ends e =
    let buffer = came_of {A = Buffer} (slice_get source.buffers k) _ found e in
    let offset = came_of {A = ℕ} (natural buffer.0.offset) _ found buffer.2 in
    let stated = came_of {A = ℕ} (natural buffer.0.length) _ found offset.2 in
    let enough = came_of {A = Bool} (guard (nat_le needed stated.0)) _ found stated.2 in
    let few = leb-true needed stated.0 (guarded (nat_le needed stated.0) enough.0 enough.1) in
    let windows : buffer_windows source k needed ≡ record { start = source.origin + offset.0; size = needed } ∷ [] =
    ap or_none (bind_is (slice_get source.buffers k) _ buffer.0 buffer.1 ∙ bind_is (natural buffer.0.offset) _ offset.0 offset.1) in
    subst (Before end) (sym windows) (omega (arith, few, ends k buffer.0 offset.0 stated.0 buffer.1 offset.1 stated.1), tt)

-- ---- validity

validity_by : (end : ℕ) (source : Source) (k taken : ℕ) (validity : Validity) (test : Bool) → SourceEnds end source
    → (if test then (buffer_at source k ((taken + 7) / 8) >>= (λ bits. Some (bitmap bits))) else Some all_valid) ≡ Some validity
    → Before end (if test then buffer_windows source k ((taken + 7) / 8) else [])
validity_by end source k taken validity false ends e = tt
validity_by end source k taken validity true ends e =
    let bits = came_of {A = List ℕ} (buffer_at source k ((taken + 7) / 8)) _ validity e in
    buffer_before end source k ((taken + 7) / 8) bits.0 ends bits.1

validity_before : (end : ℕ) (source : Source) (node : FieldNode) (k taken : ℕ) (validity : Validity) → SourceEnds end source
    → validity_in source node k taken ≡ Some validity
    → Before end (if int_lt (pos 0) node.null_count then buffer_windows source k ((taken + 7) / 8) else [])
unfolding validity_in
validity_before end source node k taken validity ends e =
    let buffer = came_of {A = Buffer} (slice_get source.buffers k) _ validity e in
    validity_by end source k taken validity (int_lt (pos 0) node.null_count) ends buffer.2

-- a column's validity, and what its taken slots take besides
pub marked_before : (end : ℕ) (besides : ℕ → List Window) (at : Place) (standing : List Dictionary) (marked : Marked)
    → SourceEnds end at.source → marked_in (among at standing) ≡ Some marked → Before end (besides marked.taken)
    → Before end (marked_windows besides at)
unfolding marked_in marked_windows
marked_before end besides at standing marked ends e others =
    let node = came_of {A = FieldNode} (slice_get at.source.nodes at.node) _ marked e in
    let taken = came_of {A = ℕ} (taken_in at node.0) _ marked node.2 in
    let validity = came_of {A = Validity} (validity_in at.source node.0 at.buffer taken.0) _ marked taken.2 in
    let whole : record { taken = taken.0; validity = validity.0 } ≡ marked =
    same_value (record { taken = taken.0; validity = validity.0 }) marked validity.2 in
    let windows : marked_windows besides at ≡ validity_windows at node.0 taken.0 ++ besides taken.0 =
    ap or_none (bind_is (slice_get at.source.nodes at.node) _ node.0 node.1 ∙ bind_is (taken_in at node.0) _ taken.0 taken.1) in
    let behind : Before end (besides taken.0) = subst (λ (m : Marked). Before end (besides m.taken)) (sym whole) others in
    subst (Before end) (sym windows) (each_more (IsBefore end) (validity_windows at node.0 taken.0) (besides taken.0)
    (validity_before end at.source node.0 at.buffer taken.0 validity.0 ends validity.1) behind)

-- ---- offsets

offsets_by : (end : ℕ) (w : Width) (source : Source) (k taken : ℕ) (offsets : List ℕ) (test : Bool) → SourceEnds end source
    → (if test then Some (0 ∷ []) else (buffer_at source k ((taken + 1) * byte_len w) >>= (λ numbers. rising 0 (window
    (λ i. signed_of source.is_little_endian w (element_bytes (byte_len w) numbers i)) 0 (taken + 1))))) ≡ Some offsets
    → Before end (if test then [] else buffer_windows source k ((taken + 1) * byte_len w))
offsets_by end w source k taken offsets true ends e = tt
offsets_by end w source k taken offsets false ends e =
    let numbers = came_of {A = List ℕ} (buffer_at source k ((taken + 1) * byte_len w)) _ offsets e in
    buffer_before end source k ((taken + 1) * byte_len w) numbers.0 ends numbers.1

pub offsets_before : (end : ℕ) (w : Width) (source : Source) (k taken : ℕ) (offsets : List ℕ) → SourceEnds end source
    → offsets_in w source k taken ≡ Some offsets → Before end (offsets_windows w source k taken)
unfolding offsets_in offsets_windows
offsets_before end w source k taken offsets ends e =
    let buffer = came_of {A = Buffer} (slice_get source.buffers k) _ offsets e in
    let stated = came_of {A = ℕ} (natural buffer.0.length) _ offsets buffer.2 in
    let test : Bool = (taken == 0) && nat_lt stated.0 (byte_len w) in
    let windows : offsets_windows w source k taken ≡ (if test then [] else buffer_windows source k ((taken + 1) * byte_len w)) =
    ap or_none (bind_is (slice_get source.buffers k) _ buffer.0 buffer.1 ∙ bind_is (natural buffer.0.length) _ stated.0 stated.1) in
    subst (Before end) (sym windows) (offsets_by end w source k taken offsets test ends stated.2)
