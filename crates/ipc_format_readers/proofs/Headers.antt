-- The header of a message of a stream is the one that its metadata says.
use Rattle.std.proofs.Common.{◌≡◌, ◌∙◌, ◌+◌, ℕ, ℤ, List, [], refl, sym, ap}
use Rattle.std.specs.Prelude.{Option, Some, None}
use Rattle.ipc_format_chunk_writing.specs.flatbuffers.Reading.{◌>>=◌, window_at}
use Rattle.ipc_format_chunk_writing.specs.grammar.Framing.{Frame, Framed, Next, frame_at, framed_at, framed_by, next_of, next_at}
use Rattle.ipc_format_chunk_writing.specs.grammar.Framing.{truncated, end_mark, metadata_then, message_then}
use Rattle.ipc_format_chunk_writing.specs.grammar.Messages as message
use Rattle.ipc_format_chunk_writing.specs.grammar.Messages.{Header, Message, message_in, natural}
use Rattle.ipc_format_readers.proofs.Dropped.{came_of, some_is}

-- what is found has some metadata and a header
abbrev IsOf : List ℕ → Header → Framed × ℕ → Type 0
IsOf metadata header found = (found.0.metadata ≡ metadata) × (found.0.header ≡ header)

of_same : (metadata : List ℕ) (header : Header) (it found : Framed × ℕ) → it.0.metadata ≡ metadata → it.0.header ≡ header → Some it ≡ Some found
    → IsOf metadata header found
of_same metadata header it found m h e =
    let same = some_is it found e in
    (sym (ap (λ (x : Framed × ℕ). x.0.metadata) same) ∙ m, sym (ap (λ (x : Framed × ℕ). x.0.header) same) ∙ h)

-- a message with its body
with_body : (bytes metadata : List ℕ) (place : ℕ) (header : Header) (size : Option ℕ) (found : Framed × ℕ)
    → (size >>= (λ n. window_at bytes place n >>= (λ body. Some (record { metadata = metadata; header = header; body = body }, place + n))))
    ≡ Some found → IsOf metadata header found
with_body bytes metadata place header size found e =
    let n = came_of size _ found e in
    let body = came_of (window_at bytes place n.0) _ found n.2 in
    of_same metadata header _ found refl refl body.2

framed_of : (bytes metadata : List ℕ) (place : ℕ) (header : Header) (stated : ℤ) (found : Framed × ℕ)
    → framed_by bytes metadata place header stated ≡ Some found → IsOf metadata header found
framed_of bytes metadata place (message.schema table) stated found e = of_same metadata (message.schema table) _ found refl refl e
framed_of bytes metadata place (message.dictionary_batch table) stated found e =
    with_body bytes metadata place (message.dictionary_batch table) (natural stated) found e
framed_of bytes metadata place (message.record_batch table) stated found e =
    with_body bytes metadata place (message.record_batch table) (natural stated) found e

abbrev message_or : Framed → Next → Framed
message_or other (message_then found place) = found
message_or other _ = other

-- the header that some metadata says
abbrev pub Says : Framed → Type 0
Says found = (it : Message) × (message_in found.metadata ≡ Some it) × (it.header ≡ found.header)

says_by : (it : Message) (metadata : List ℕ) (whole : Framed × ℕ) (found : Framed) → message_in metadata ≡ Some it → IsOf metadata it.header whole
    → whole.0 ≡ found → Says found
says_by it metadata whole found there is same =
    (it, ap message_in (sym (ap (λ (x : Framed). x.metadata) same) ∙ is.0) ∙ there, sym (sym (ap (λ (x : Framed). x.header) same) ∙ is.1))

says_in : (bytes : List ℕ) (frame : Frame) (found : Framed) (after : ℕ) → next_of bytes frame ≡ Some (message_then found after) → Says found
says_in bytes truncated found after e = absurd cc
says_in bytes end_mark found after e = absurd cc
says_in bytes (metadata_then metadata place) found after e =
    let whole = came_of {A = Framed × ℕ} (framed_at bytes metadata place) _ _ e in
    let it = came_of {A = Message} (message_in metadata) _ whole.0 whole.1 in
    says_by it.0 metadata whole.0 found it.1 (framed_of bytes metadata place it.0.header it.0.body_length whole.0 it.2)
    (ap (message_or found) (some_is _ _ whole.2))

pub says : (bytes : List ℕ) (found : Framed) (after : ℕ) → next_at bytes 0 ≡ Some (message_then found after) → Says found
says bytes found after e =
    let frame = came_of {A = Frame} (frame_at bytes 0) _ _ e in
    says_in bytes frame.0 found after frame.2
