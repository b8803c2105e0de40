-- The messages behind a schema's, as they are read.
use Rattle.std.proofs.Common.{◌≡◌, ℕ, ◌+◌, ◌<◌, ◌≤◌, ◌^◌, pos, true, List, [], ◌∷◌, length, map, refl, ap, arith}
use Rattle.std.specs.Prelude.{Some, nat_le, nat_lt}
use Rattle.std.specs.List.{All}
use Rattle.std.proofs.lemmas.Bool.{leb-true, ltb-true, lt-ltb}
use Rattle.std.proofs.lemmas.List.Elements.{All-nil, All-cons}
use Rattle.ipc_format_grammar.specs.flatbuffers.FlatBuffers.{TablePlace}
use Rattle.ipc_format_grammar.specs.Messages as grammar
use Rattle.ipc_format_grammar.specs.Messages.{Header, message_in}
use Rattle.ipc_format_grammar.specs.Framing.{Framed}
use Rattle.ipc_format_grammar.specs.Limits.{most_dictionaries}
use Rattle.ipc_format_grammar.specs.WrittenMessages.{Written, fits_limit, prefix_size, most_metadata, body_limit}
use Rattle.ipc_format_laws.specs.BatchMessages.{IsMessage}
use Rattle.ipc_format_laws.proofs.SchemaParts.{both}
use Rattle.ipc_format_laws.specs.Messages.{as_written, IsReadable, MayFollow}
use Rattle.ipc_format_laws.specs.Contents.{IsMessageOf, AreThoseOf}

-- ---- limits

pub record HasRoom (message : Written) : Type 0 where
  pub body : length message.body < 2 ^ 63
  pub metadata : length message.metadata < 2 ^ 31

pub has_room : (message : Written) → fits_limit message ≡ true → HasRoom message
has_room message e =
    let tests = both (nat_lt (length message.body) body_limit) (nat_le (prefix_size + length message.metadata) most_metadata) e in
    let body : length message.body < body_limit = ltb-true (length message.body) body_limit tests.0 in
    let metadata : prefix_size + length message.metadata ≤ most_metadata =
    leb-true (prefix_size + length message.metadata) most_metadata tests.1 in
    record { body = body; metadata = omega arith }

-- ---- one message

-- a written message as it is read with a header
abbrev pub read_of : Written → Header → Framed
read_of message header = record { metadata = message.metadata; header = header; body = message.body }

-- a message's metadata is read with a header of a kind, which has something
abbrev pub ReadsBack : Written → (TablePlace → Header) → (TablePlace → Type 0) → Type 0
ReadsBack message kind HasTable = IsMessage message.metadata kind (length message.body) HasTable

is_readable : (message : Written) (header : Header) → message_in message.metadata
    ≡ Some (record { header = header; body_length = pos (length message.body) }) → fits_limit message ≡ true → IsReadable (read_of message header)
is_readable message header tells fits = record { tells = tells; is_short = (has_room message fits).metadata }

pub is_message_of : (message : Written) (kind : TablePlace → Header) (HasTable : TablePlace → Type 0) (found : ReadsBack message kind HasTable)
    → IsMessageOf message kind HasTable (read_of message (kind found.header_at))
is_message_of message kind HasTable found = record { written = refl; table = found.header_at; header = refl; has_table = found.header }

-- ---- messages one behind another

-- messages as they are read, behind so many dictionary messages
pub record ReadLater (dictionaries : ℕ) (written : List Written) (AreLater : List Framed → Type 0) : Type 0 where
  pub messages : List Framed
  pub are_written : map as_written messages ≡ written
  pub readable : All IsReadable messages
  pub follow : MayFollow dictionaries messages
  pub are_later : AreLater messages

pub no_more : {X : Type 0} (IsThat : X → Framed → Type 0) (dictionaries : ℕ) → ReadLater dictionaries [] (AreThoseOf IsThat [])
no_more IsThat dictionaries = record { messages = []; are_written = refl; readable = All-nil IsReadable; follow = tt; are_later = tt }

-- a message before others
pub one_more : {X : Type 0} (IsThat : X → Framed → Type 0) (before after : ℕ) (x : X) (xs : List X) (message : Written) (header : Header)
    (others : List Written) → IsReadable (read_of message header) → IsThat x (read_of message header)
    → ((messages : List Framed) → MayFollow after messages → MayFollow before (read_of message header ∷ messages))
    → ReadLater after others (AreThoseOf IsThat xs) → ReadLater before (message ∷ others) (AreThoseOf IsThat (x ∷ xs))
one_more IsThat before after x xs message header others readable is follow rest = record {
  messages = read_of message header ∷ rest.messages;
  are_written = ap (λ (ms : List Written). message ∷ ms) rest.are_written;
  readable = All-cons IsReadable (read_of message header) rest.messages readable rest.readable;
  follow = follow rest.messages rest.follow;
  are_later = (is, rest.are_later);
}

-- a batch's message, however many dictionaries stand before it
pub batch_more : {X : Type 0} (IsThat : X → Framed → Type 0) (before : ℕ) (x : X) (xs : List X) (message : Written) (HasTable : TablePlace → Type 0)
    (others : List Written) (found : ReadsBack message grammar.record_batch HasTable) → fits_limit message ≡ true
    → IsThat x (read_of message (grammar.record_batch found.header_at))
    → ReadLater 0 others (AreThoseOf IsThat xs) → ReadLater before (message ∷ others) (AreThoseOf IsThat (x ∷ xs))
batch_more IsThat before x xs message HasTable others found fits is rest =
    one_more IsThat before 0 x xs message (grammar.record_batch found.header_at) others
    (is_readable message (grammar.record_batch found.header_at) found.message fits) is (λ (ms : List Framed) (follow : MayFollow 0 ms). follow) rest

-- a dictionary's message, where not too many stand before it
pub dictionary_more : {X : Type 0} (IsThat : X → Framed → Type 0) (before : ℕ) (x : X) (xs : List X) (message : Written)
    (HasTable : TablePlace → Type 0) (others : List Written) (found : ReadsBack message grammar.dictionary_batch HasTable) → fits_limit message ≡ true
    → IsThat x (read_of message (grammar.dictionary_batch found.header_at)) → before < most_dictionaries
    → ReadLater (before + 1) others (AreThoseOf IsThat xs) → ReadLater before (message ∷ others) (AreThoseOf IsThat (x ∷ xs))
dictionary_more IsThat before x xs message HasTable others found fits is few rest =
    let test : nat_lt before most_dictionaries ≡ true = lt-ltb before most_dictionaries few in
    one_more IsThat before (before + 1) x xs message (grammar.dictionary_batch found.header_at) others
    (is_readable message (grammar.dictionary_batch found.header_at) found.message fits) is
    (λ (ms : List Framed) (follow : MayFollow (before + 1) ms). rw test follow) rest
