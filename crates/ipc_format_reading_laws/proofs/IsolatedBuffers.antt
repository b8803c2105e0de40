-- Buffers, validity and offsets read the same in another room with the same bytes in the windows that they take.
use Rattle.std.proofs.Common.{◌≡◌, ◌∙◌, ℕ, ◌+◌, ◌*◌, ◌/◌, ℤ, pos, Bool, true, false, ◌&&◌, List, [], ◌∷◌, ◌++◌, refl, ap, subst, nat_le, nat_lt}
use Rattle.std.proofs.Common.{◌==◌}
use Rattle.std.specs.Prelude.{Some, slice_get, int_lt, if◌then◌else◌}
use Rattle.std.specs.List.{All}
use Rattle.std.specs.Int.{Width, byte_len}
use Rattle.std.proofs.lemmas.List.Elements.{All-head, All-tail}
use Rattle.ipc_format_laws.specs.flatbuffers.Reading.{◌>>=◌, guard, window_at}
use Rattle.ipc_format_laws.specs.columns.Slots.{window}
use Rattle.ipc_format_laws.specs.grammar.Messages.{FieldNode, Buffer, natural}
use Rattle.ipc_format_laws.specs.grammar.Values.{signed_of, element_bytes}
use Rattle.ipc_format_laws.specs.grammar.Columns.{Source, Dictionary, Place, Validity, all_valid, bitmap, Marked, buffer_at, taken_in, validity_in}
use Rattle.ipc_format_laws.specs.grammar.Columns.{marked_in, rising, offsets_in, standing_for}
use Rattle.ipc_format_laws.specs.grammar.Windows.{Window, or_none, buffer_windows, validity_windows, marked_windows, offsets_windows}
use Rattle.ipc_format_laws.proofs.Firsts.{came_of, bind_is, same_value}

-- ---- rooms

-- each window holds the same bytes in another room
abbrev pub SameBytes : List ℕ → List ℕ → List Window → Type 0
SameBytes room other [] = Unit {0}
SameBytes room other (w ∷ windows) = (window_at other w.start w.size ≡ window_at room w.start w.size) × SameBytes room other windows

pub same_of_all : (room other : List ℕ) (windows : List Window)
    → All (λ (w : Window). window_at other w.start w.size ≡ window_at room w.start w.size) windows → SameBytes room other windows
same_of_all room other [] all = tt
same_of_all room other (w ∷ windows) all = (
  All-head (λ (w : Window). window_at other w.start w.size ≡ window_at room w.start w.size) w windows all,
  same_of_all room other windows (All-tail (λ (w : Window). window_at other w.start w.size ≡ window_at room w.start w.size) w windows all),
)

pub same_first : (room other : List ℕ) (some others : List Window) → SameBytes room other (some ++ others) → SameBytes room other some
same_first room other [] others same = tt
same_first room other (w ∷ some) others same = (same.0, same_first room other some others same.1)

pub same_later : (room other : List ℕ) (some others : List Window) → SameBytes room other (some ++ others) → SameBytes room other others
same_later room other [] others same = same
same_later room other (w ∷ some) others same = same_later room other some others same.1

-- the same batch in another room
abbrev pub in_room : Source → List ℕ → Source
in_room source room = record source { room = room }

-- a place under some standing dictionaries
abbrev pub among : Place → List Dictionary → Place
among at standing = record at { standing = standing }

-- each dictionary that stands among some stands among others
abbrev pub Extends : List Dictionary → List Dictionary → Type 0
Extends standing now = (id : ℤ) (found : Dictionary) → standing_for id standing ≡ Some found → standing_for id now ≡ Some found

pub unchanged : (standing : List Dictionary) → Extends standing standing
unchanged standing id found e = e

-- the same in another room
abbrev pub moved : Place → List Dictionary → List ℕ → Place
moved at standing room = record at { source = in_room at.source room; standing = standing }

-- ---- buffers

pub buffer_same : (source : Source) (room : List ℕ) (k needed : ℕ) (found : List ℕ)
    → SameBytes source.room room (buffer_windows source k needed) → buffer_at source k needed ≡ Some found
    → buffer_at (in_room source room) k needed ≡ Some found
unfolding buffer_at buffer_windows
buffer_same source room k needed found same e =
    let buffer = came_of {A = Buffer} (slice_get source.buffers k) _ found e in
    let offset = came_of {A = ℕ} (natural buffer.0.offset) _ found buffer.2 in
    let stated = came_of {A = ℕ} (natural buffer.0.length) _ found offset.2 in
    let enough = came_of {A = Bool} (guard (nat_le needed stated.0)) _ found stated.2 in
    let windows : buffer_windows source k needed ≡ record { start = source.origin + offset.0; size = needed } ∷ [] =
    ap or_none (bind_is (slice_get source.buffers k) _ buffer.0 buffer.1 ∙ bind_is (natural buffer.0.offset) _ offset.0 offset.1) in
    let here : SameBytes source.room room (record { start = source.origin + offset.0; size = needed } ∷ []) =
    subst (SameBytes source.room room) windows same in
    bind_is (slice_get source.buffers k) _ buffer.0 buffer.1 ∙ bind_is (natural buffer.0.offset) _ offset.0 offset.1
    ∙ bind_is (natural buffer.0.length) _ stated.0 stated.1 ∙ bind_is (guard (nat_le needed stated.0)) _ enough.0 enough.1
    ∙ here.0 ∙ enough.2

-- ---- validity

validity_by : (source : Source) (room : List ℕ) (node : FieldNode) (k taken : ℕ) (validity : Validity) (buffer : Buffer) (test : Bool)
    → slice_get source.buffers k ≡ Some buffer → int_lt (pos 0) node.null_count ≡ test
    → SameBytes source.room room (if test then buffer_windows source k ((taken + 7) / 8) else [])
    → (if test then (buffer_at source k ((taken + 7) / 8) >>= (λ bits. Some (bitmap bits))) else Some all_valid) ≡ Some validity
    → validity_in (in_room source room) node k taken ≡ Some validity
unfolding validity_in
validity_by source room node k taken validity buffer false there is same e = rw (there, is) e
validity_by source room node k taken validity buffer true there is same e =
    let bits = came_of {A = List ℕ} (buffer_at source k ((taken + 7) / 8)) _ validity e in
    rw (there, is, buffer_same source room k ((taken + 7) / 8) bits.0 same bits.1) bits.2

validity_same : (source : Source) (room : List ℕ) (node : FieldNode) (k taken : ℕ) (validity : Validity)
    → SameBytes source.room room (if int_lt (pos 0) node.null_count then buffer_windows source k ((taken + 7) / 8) else [])
    → validity_in source node k taken ≡ Some validity → validity_in (in_room source room) node k taken ≡ Some validity
unfolding validity_in
validity_same source room node k taken validity same e =
    let buffer = came_of {A = Buffer} (slice_get source.buffers k) _ validity e in
    validity_by source room node k taken validity buffer.0 (int_lt (pos 0) node.null_count) buffer.1 refl same buffer.2

-- a column's taken slots and their validity, and the bytes of what they take besides
pub marked_same : (besides : ℕ → List Window) (at : Place) (standing now : List Dictionary) (room : List ℕ) (marked : Marked)
    → SameBytes at.source.room room (marked_windows besides at) → marked_in (among at standing) ≡ Some marked
    → (marked_in (moved at now room) ≡ Some marked) × SameBytes at.source.room room (besides marked.taken)
unfolding marked_in marked_windows
marked_same besides at standing now room marked same e =
    let node = came_of {A = FieldNode} (slice_get at.source.nodes at.node) _ marked e in
    let taken = came_of {A = ℕ} (taken_in at node.0) _ marked node.2 in
    let validity = came_of {A = Validity} (validity_in at.source node.0 at.buffer taken.0) _ marked taken.2 in
    let whole : record { taken = taken.0; validity = validity.0 } ≡ marked =
    same_value (record { taken = taken.0; validity = validity.0 }) marked validity.2 in
    let windows : marked_windows besides at ≡ validity_windows at node.0 taken.0 ++ besides taken.0 =
    ap or_none (bind_is (slice_get at.source.nodes at.node) _ node.0 node.1 ∙ bind_is (taken_in at node.0) _ taken.0 taken.1) in
    let here : SameBytes at.source.room room (validity_windows at node.0 taken.0 ++ besides taken.0) =
    subst (SameBytes at.source.room room) windows same in
    let part = validity_same at.source room node.0 at.buffer taken.0 validity.0
    (same_first at.source.room room (validity_windows at node.0 taken.0) (besides taken.0) here) validity.1 in (
      bind_is (slice_get at.source.nodes at.node) _ node.0 node.1 ∙ bind_is (taken_in at node.0) _ taken.0 taken.1
          ∙ bind_is (validity_in (in_room at.source room) node.0 at.buffer taken.0) _ validity.0 part ∙ ap Some whole,
      subst (λ (marked : Marked). SameBytes at.source.room room (besides marked.taken)) whole
          (same_later at.source.room room (validity_windows at node.0 taken.0) (besides taken.0) here),
    )

-- ---- offsets

offsets_by : (w : Width) (source : Source) (room : List ℕ) (k taken : ℕ) (offsets : List ℕ) (buffer : Buffer) (stated : ℕ) (test : Bool)
    → slice_get source.buffers k ≡ Some buffer → natural buffer.length ≡ Some stated → ((taken == 0) && nat_lt stated (byte_len w)) ≡ test
    → SameBytes source.room room (if test then [] else buffer_windows source k ((taken + 1) * byte_len w))
    → (if test then Some (0 ∷ []) else (buffer_at source k ((taken + 1) * byte_len w) >>= (λ numbers. rising 0 (window
    (λ i. signed_of source.is_little_endian w (element_bytes (byte_len w) numbers i)) 0 (taken + 1))))) ≡ Some offsets
    → offsets_in w (in_room source room) k taken ≡ Some offsets
unfolding offsets_in
offsets_by w source room k taken offsets buffer stated true there length_is test same e = rw (there, length_is, test) e
offsets_by w source room k taken offsets buffer stated false there length_is test same e =
    let numbers = came_of {A = List ℕ} (buffer_at source k ((taken + 1) * byte_len w)) _ offsets e in
    rw (there, length_is, test, buffer_same source room k ((taken + 1) * byte_len w) numbers.0 same numbers.1) numbers.2

pub offsets_same : (w : Width) (source : Source) (room : List ℕ) (k taken : ℕ) (offsets : List ℕ)
    → SameBytes source.room room (offsets_windows w source k taken) → offsets_in w source k taken ≡ Some offsets
    → offsets_in w (in_room source room) k taken ≡ Some offsets
unfolding offsets_in offsets_windows
offsets_same w source room k taken offsets same e =
    let buffer = came_of {A = Buffer} (slice_get source.buffers k) _ offsets e in
    let stated = came_of {A = ℕ} (natural buffer.0.length) _ offsets buffer.2 in
    let test : Bool = (taken == 0) && nat_lt stated.0 (byte_len w) in
    let windows : offsets_windows w source k taken ≡ (if test then [] else buffer_windows source k ((taken + 1) * byte_len w)) =
    ap or_none (bind_is (slice_get source.buffers k) _ buffer.0 buffer.1 ∙ bind_is (natural buffer.0.length) _ stated.0 stated.1) in
    offsets_by w source room k taken offsets buffer.0 stated.0 test buffer.1 stated.1 refl (subst (SameBytes source.room room) windows same) stated.2
