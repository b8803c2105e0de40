-- The messages of a stream that was written are its messages.
use Rattle.std.proofs.Common.{◌≡◌, ℕ, zero, suc, ◌+◌, ◌<◌, ◌≤◌, pos, List, [], ◌∷◌, ◌++◌, length, map, refl, sym, ap, arith, length-append}
use Rattle.std.proofs.Common.{append_assoc, ap₂}
use Rattle.std.specs.Int.{w32, to_le_bytes}
use Rattle.std.specs.Prelude.{Some, None, IsSomeAnd, Option}
use Rattle.std.specs.List.{All}
use Rattle.std.proofs.lemmas.List.Elements.{All-head, All-tail}
use Rattle.ipc_format_grammar.specs.flatbuffers.FlatBuffers.{number_at, reference_at, root_of}
use Rattle.ipc_format_grammar.specs.Messages as grammar
use Rattle.ipc_format_grammar.specs.Messages.{Header, Message, message_in}
use Rattle.ipc_format_laws.proofs.Places.{Stands, front, back, ends_within, window_stands}
use Rattle.ipc_format_grammar.specs.Framing.{Framed, message_then, framed_by, next_at, dictionaries_after}
use Rattle.ipc_format_grammar.specs.Framing.{later_messages, schema_then, first_of, messages_of}
use Rattle.ipc_format_grammar.specs.WrittenMessages.{message_bytes, continuation_marker, end_mark}
use Rattle.ipc_format_grammar.specs.WrittenStreams.{bytes_of_messages}
use Rattle.ipc_format_laws.specs.Messages.{as_written, IsReadable, IsOfSchema, MayFollow, all_written, MessagesReadBack}
use Rattle.ipc_format_laws.proofs.StreamReaders.{schema_has_no_body}
use Rattle.ipc_format_laws.proofs.Frames.{frame_stands, end_stands}

-- ---- one message

-- the bytes of a message
abbrev pub bytes_of : Framed → List ℕ
bytes_of message = message_bytes (as_written message)

-- what is read has metadata
has_metadata : (metadata : List ℕ) (message : Message) → message_in metadata ≡ Some message → 0 < length metadata
unfolding message_in root_of reference_at number_at
has_metadata [] message e = absurd cc
has_metadata (first ∷ others) message e = omega arith

none_of_length : (xs : List ℕ) → pos (length xs) ≡ pos 0 → xs ≡ []
none_of_length [] e = refl
none_of_length (x ∷ xs) e = absurd cc

-- the header and body where the metadata ends
body_stands : {bytes : List ℕ} {place : ℕ} (metadata body : List ℕ) (header : Header)
    → message_in metadata ≡ Some (record { header = header; body_length = pos (length body) }) → Stands bytes place body
    → framed_by bytes metadata place header (pos (length body))
    ≡ Some (record { metadata = metadata; header = header; body = body }, place + length body)
body_stands {bytes} {place} metadata body (grammar.schema table) tells s =
    let none : body ≡ [] = none_of_length body (schema_has_no_body metadata table (pos (length body)) tells) in
    let ends : place ≡ place + length body = omega (arith, ap length none) in
    ap₂ (λ (its_body : List ℕ) (end : ℕ). Some (record { metadata = metadata; header = grammar.schema table; body = its_body }, end)) (sym none) ends
body_stands metadata body (grammar.dictionary_batch table) tells s = rw (window_stands (length body) refl s) refl
body_stands metadata body (grammar.record_batch table) tells s = rw (window_stands (length body) refl s) refl

-- where a message ends
abbrev pub end_of : Framed → ℕ → ℕ
end_of message place = place + length (bytes_of message)

pub message_stands : {bytes : List ℕ} {place : ℕ} (message : Framed) → IsReadable message → Stands bytes place (bytes_of message)
    → next_at bytes place ≡ Some (message_then message (end_of message place))
message_stands {bytes} {place} message readable s =
    let metadata = message.metadata in
    let frame = frame_stands metadata message.body (has_metadata metadata _ readable.tells) readable.is_short s in
    let head : List ℕ = continuation_marker ++ to_le_bytes w32 (length metadata) in
    let behind : Stands bytes (place + 8) (metadata ++ message.body) = back head (metadata ++ message.body) (place + 8) refl refl s in
    let body = body_stands metadata message.body message.header readable.tells
    (back metadata message.body (place + 8 + length metadata) refl refl behind) in
    let ends : place + 8 + length metadata + length message.body ≡ end_of message place = omega (arith, length-append metadata message.body) in
    rw (frame, readable.tells, body) (ap (λ (end : ℕ). Some (message_then message end)) ends)

-- ---- messages one behind another

-- a message has eight bytes at least
few_messages : (messages : List Framed) → length messages ≤ length (bytes_of_messages (map as_written messages))
few_messages [] = omega arith
few_messages (message ∷ messages) =
    omega (arith, few_messages messages, length-append (bytes_of message) (bytes_of_messages (map as_written messages)))

-- one more message before others
message_before : (bytes : List ℕ) (place most dictionaries : ℕ) (message : Framed) (others : List Framed) (given : Option ℕ)
    → next_at bytes place ≡ Some (message_then message (end_of message place)) → dictionaries_after dictionaries message.header ≡ given
    → IsSomeAnd given (λ (in_a_row : ℕ). MayFollow in_a_row others)
    → ((in_a_row : ℕ) → MayFollow in_a_row others → later_messages most bytes (end_of message place) in_a_row ≡ Some others)
    → later_messages (suc most) bytes place dictionaries ≡ Some (message ∷ others)
message_before bytes place most dictionaries message others None next after follow rest = absurd follow
message_before bytes place most dictionaries message others (Some in_a_row) next after follow rest = rw (next, after, rest in_a_row follow) refl

pub later_stand : {bytes : List ℕ} (most : ℕ) (messages : List Framed) (place dictionaries : ℕ) → length messages < most
    → All IsReadable messages → MayFollow dictionaries messages
    → Stands bytes place (bytes_of_messages (map as_written messages) ++ end_mark)
    → later_messages most bytes place dictionaries ≡ Some messages
later_stand zero messages place dictionaries few readable follow s = absurd (omega arith)
later_stand (suc most) [] place dictionaries few readable follow s = rw (end_stands s) refl
later_stand {bytes} (suc most) (message ∷ messages) place dictionaries few readable follow s =
    let rest : List ℕ = bytes_of_messages (map as_written messages) in
    let parts = append_assoc (bytes_of message) rest end_mark in
    let here = message_stands message (All-head IsReadable message messages readable) (front (bytes_of message) (rest ++ end_mark) parts s) in
    let others : Stands bytes (end_of message place) (rest ++ end_mark) =
    back (bytes_of message) (rest ++ end_mark) (end_of message place) parts refl s in
    message_before bytes place most dictionaries message messages (dictionaries_after dictionaries message.header) here refl follow
    (λ (in_a_row : ℕ) (more : MayFollow in_a_row messages). later_stand most messages (end_of message place) in_a_row (omega arith)
    (All-tail IsReadable message messages readable) more others)

-- ---- a stream

schema_first : (message : Framed) (header : Header) (place : ℕ) → IsOfSchema header → schema_then message place header ≡ Some (message, place)
schema_first message (grammar.schema table) place is = refl
schema_first message (grammar.dictionary_batch table) place is = absurd is
schema_first message (grammar.record_batch table) place is = absurd is

pub messages_read_back : MessagesReadBack
unfolding first_of messages_of
messages_read_back messages behind is =
    let first = messages.first in
    let rest : List ℕ = bytes_of_messages (map as_written messages.later) in
    let written : List ℕ = bytes_of_messages (all_written messages) in
    let bytes : List ℕ = written ++ end_mark ++ behind in
    let all : Stands bytes 0 (written ++ end_mark) = record {
      before = [];
      after = behind;
      whole = refl;
      at = refl;
    } in
    let parts = append_assoc (bytes_of first) rest end_mark in
    let here = message_stands first is.first (front (bytes_of first) (rest ++ end_mark) parts all) in
    let others : Stands bytes (end_of first 0) (rest ++ end_mark) = back (bytes_of first) (rest ++ end_mark) (end_of first 0) parts refl all in
    let few : length messages.later < length bytes = omega (arith, ends_within others, few_messages messages.later, length-append rest end_mark) in
    rw (
      here,
      schema_first first first.header (end_of first 0) is.begins,
      later_stand (length bytes) messages.later (end_of first 0) 0 few is.later is.in_a_row others,
    ) refl
