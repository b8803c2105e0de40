-- A stream by its first message and those behind it.
use Rattle.std.proofs.Common.{◌≡◌, ◌∙◌, ℕ, ◌<◌, ◌≤◌, ◌^◌, true, List, [], length, map, refl, sym, ap, subst, inl, inr}
use Rattle.std.proofs.lemmas.Bool.{lt-ltb, le-ltb}
use Rattle.std.specs.Prelude.{Option, Some, None, IsSome, IfSome, IsSomeAnd, nat_lt, ◌⊎◌}
use Rattle.ipc_format_chunk_writing.specs.streams.Starts.{Start, start_in}
use Rattle.ipc_format_chunk_writing.specs.columnar_memory.declared.Schema.{Schema}
use Rattle.ipc_format_chunk_writing.specs.columns.Tables.{Table, rows_of_batches}
use Rattle.ipc_format_chunk_writing.specs.flatbuffers.Reading.{◌>>=◌, guard}
use Rattle.ipc_format_chunk_writing.specs.grammar.Framing.{Framed, Stream, Next, first_of, messages_of, later_messages, truncated_from, is_truncated}
use Rattle.ipc_format_chunk_writing.specs.grammar.Messages.{Header, Version, version_in}
use Rattle.ipc_format_chunk_writing.specs.grammar.Refusals.{first_messages, first_batches, behind_messages, next_after, message_there, compression_in}
use Rattle.ipc_format_chunk_writing.specs.grammar.Refusals.{is_delta, HasFloat, HasCompression, HasDelta, HasTooManyRows, IsUnfinished}
use Rattle.ipc_format_chunk_writing.specs.grammar.Schemas.{SchemaIn}
use Rattle.ipc_format_chunk_writing.specs.grammar.Tables.{stream, Contents, batches_of, batches_behind, batches_in}
use Rattle.ipc_format_chunk_writing.specs.grammar.Tables.{schema_of, stream_entry, layout_of}
use Rattle.ipc_format_chunk_writing.specs.grammar.Tables.{contents_of, table_of}
use Rattle.ipc_format_chunk_writing.specs.grammar.Writable.{normalised}
use Rattle.ipc_format_readers.specs.Behind.{IsUnreadThere, HasUnreadFrom, HasTooManyFrom, IsUnfinishedFrom}
use Rattle.ipc_format_readers.specs.Steps.{Batches, first_from}
use Rattle.ipc_format_readers.proofs.Binding.{bind_same, bind_assoc, came_of, same_some}

-- ---- the parts of a stream

-- a table of batches, where its rows fit 64 bits
abbrev pub fitting : Schema → Option Batches → Option Table
fitting schema given = do
  batches ← given
  _ ← guard (nat_lt (length (rows_of_batches batches)) (2 ^ 64))
  Some (record { schema = schema; rows = rows_of_batches batches })

-- what comes of a schema and the messages behind it
abbrev pub Rest : Type 0 → Type 0
Rest A = Contents → Option A

abbrev table_rest : Rest Table
table_rest contents = fitting (normalised contents.schema.schema) (batches_of (layout_of contents.schema) [] contents.entries)

abbrev batches_rest : Rest Batches
batches_rest contents = batches_of (layout_of contents.schema) [] contents.entries

abbrev pub contents_by : Start → List Framed → Contents
contents_by start later = record { schema = start.schema; entries = map (stream_entry start.version) later }

-- what comes of a stream's messages
abbrev rest_of : {A : Type 0} → Rest A → Stream → Option A
rest_of rest messages = do
  version ← version_in messages.first.metadata
  found ← schema_of messages.first messages.first.header
  rest (record { schema = found; entries = map (stream_entry version) messages.later })

abbrev stream_of : Framed → List Framed → Option Stream
stream_of first later = Some (record { first = first; later = later })

-- a start, by the parts of the first message
abbrev start_by : Framed × ℕ → Option (Start × ℕ)
start_by first = do
  version ← version_in first.0.metadata
  found ← schema_of first.0 first.0.header
  Some (record { version = version; schema = found }, first.1)

-- the messages behind a start, and what comes of them
abbrev pub behind_start : {A : Type 0} → Rest A → (ℕ → Option (List Framed)) → Start × ℕ → Option A
behind_start rest later begun = later begun.1 >>= (λ more. rest (contents_by begun.0 more))

in_turn : {A : Type 0} (rest : Rest A) (later : ℕ → Option (List Framed)) (first : Framed × ℕ) (version : Option Version) (found : Option SchemaIn)
    (given : Option (List Framed))
    → later first.1 ≡ given
    → (given >>= (λ more. version >>= (λ v. found >>= (λ s. rest (contents_by (record { version = v; schema = s }) more)))))
    ≡ ((version >>= (λ v. found >>= (λ s. Some (record { version = v; schema = s }, first.1)))) >>= behind_start rest later)
in_turn rest later first None found None e = refl
in_turn rest later first None found (Some more) e = refl
in_turn rest later first (Some v) None None e = refl
in_turn rest later first (Some v) None (Some more) e = refl
in_turn rest later first (Some v) (Some s) None e = rw e refl
in_turn rest later first (Some v) (Some s) (Some more) e = rw e refl

messages_then : {A : Type 0} (rest : Rest A) (first : Framed) (later : Option (List Framed))
    → ((later >>= stream_of first) >>= rest_of rest) ≡ (later >>= (λ more. rest_of rest (record { first = first; later = more })))
messages_then rest first None = refl
messages_then rest first (Some more) = refl

contents_first : {A : Type 0} (rest : Rest A) (bytes : List ℕ) → (contents_of stream bytes >>= rest) ≡ (messages_of bytes >>= rest_of rest)
unfolding contents_of
contents_first rest bytes =
    bind_assoc {A = Stream} (messages_of bytes) _ rest ∙
    bind_same {A = Stream} (messages_of bytes) _ _ (λ messages.
    bind_assoc {A = Version} (version_in messages.first.metadata) _ rest ∙
    bind_same {A = Version} (version_in messages.first.metadata) _ _ (λ version.
    bind_assoc {A = SchemaIn} (schema_of messages.first messages.first.header) _ rest))

messages_behind : {A : Type 0} (rest : Rest A) (bytes : List ℕ) (given : Option (Framed × ℕ)) → first_of bytes ≡ given
    → (messages_of bytes >>= rest_of rest)
    ≡ ((given >>= start_by) >>= behind_start rest (λ place. later_messages (length bytes) bytes place 0))
unfolding messages_of
messages_behind rest bytes None e = rw e refl
messages_behind rest bytes (Some first) e =
    rw e (messages_then rest first.0 (later_messages (length bytes) bytes first.1 0)
    ∙ in_turn rest (λ place. later_messages (length bytes) bytes place 0) first (version_in first.0.metadata) (schema_of first.0 first.0.header)
    (later_messages (length bytes) bytes first.1 0) refl)

-- what comes of a stream comes of its start, and of the messages behind it
pub stream_by : {A : Type 0} (rest : Rest A) (bytes : List ℕ)
    → (contents_of stream bytes >>= rest) ≡ (start_in bytes >>= behind_start rest (λ place. later_messages (length bytes) bytes place 0))
stream_by rest bytes = contents_first rest bytes ∙ messages_behind rest bytes (first_of bytes) refl

first_then : {A : Type 0} (rest : Rest A) (n : ℕ) (bytes : List ℕ) (version : Option Version) (found : Option SchemaIn) (first : Framed × ℕ)
    → ((version >>= (λ v. found >>= (λ s. first_messages n bytes first.1 >>= (λ later.
    Some (contents_by (record { version = v; schema = s }) later))))) >>= rest)
    ≡ ((version >>= (λ v. found >>= (λ s. Some (record { version = v; schema = s }, first.1)))) >>= behind_start rest (first_messages n bytes))
first_then rest n bytes None found first = refl
first_then rest n bytes (Some v) None first = refl
first_then rest n bytes (Some v) (Some s) first = bind_assoc (first_messages n bytes first.1) _ rest

-- the same of its first messages
firsts_by : (n : ℕ) (bytes : List ℕ) (given : Option (Framed × ℕ)) → first_of bytes ≡ given
    → first_batches stream n bytes ≡ ((given >>= start_by) >>= behind_start batches_rest (first_messages n bytes))
unfolding first_batches
firsts_by n bytes None e = rw e refl
firsts_by n bytes (Some first) e =
    rw e (first_then batches_rest n bytes (version_in first.0.metadata) (schema_of first.0 first.0.header) first)

-- ---- a stream whose first message is known

-- a stream's table and batches are those behind its start, and so are its first batches, what stands behind some messages, and whether it is
-- truncated
pub record IsStreamFrom (bytes : List ℕ) (start : Start) (place : ℕ) : Type 0 where
  pub first : (n : ℕ) → first_batches stream n bytes ≡ first_from (layout_of start.schema) start.version [] n bytes place
  pub behind : (n : ℕ) → behind_messages n bytes ≡ next_after n bytes place
  pub cut : is_truncated bytes ≡ truncated_from (length bytes) bytes place 0
  pub table : table_of stream bytes
      ≡ fitting (normalised start.schema.schema) (batches_behind (layout_of start.schema) start.version [] (length bytes) bytes place 0)
  pub batches : batches_in stream bytes ≡ batches_behind (layout_of start.schema) start.version [] (length bytes) bytes place 0

-- the place of the first message's end
place_of : (bytes : List ℕ) (start : Start) (place : ℕ) → start_in bytes ≡ Some (start, place)
    → (first : Framed × ℕ) × (first_of bytes ≡ Some first) × (first.1 ≡ place)
place_of bytes start place e =
    let a = came_of {A = Framed × ℕ} (first_of bytes) _ (start, place) e in
    let b = came_of {A = Version} (version_in a.0.0.metadata) _ (start, place) a.2 in
    let c = came_of {A = SchemaIn} (schema_of a.0.0 a.0.0.header) _ (start, place) b.2 in
    let pair : (record { version = b.0; schema = c.0 }, a.0.1) ≡ (start, place) =
    same_some {A = Start × ℕ} (record { version = b.0; schema = c.0 }, a.0.1) (start, place) c.2 in
    (a.0, a.1, ap (λ (p : Start × ℕ). p.1) pair)

cut_is : (bytes : List ℕ) (first : Framed × ℕ) (place : ℕ) → first_of bytes ≡ Some first → first.1 ≡ place
    → is_truncated bytes ≡ truncated_from (length bytes) bytes place 0
unfolding is_truncated
cut_is bytes first place e same = rw e (ap (λ (at : ℕ). truncated_from (length bytes) bytes at 0) same)

behind_is : (n : ℕ) (bytes : List ℕ) (first : Framed × ℕ) (place : ℕ) → first_of bytes ≡ Some first → first.1 ≡ place
    → behind_messages n bytes ≡ next_after n bytes place
behind_is n bytes first place e same = rw e (ap (next_after n bytes) same)

table_is : (bytes : List ℕ) (start : Start) (place : ℕ) → start_in bytes ≡ Some (start, place)
    → table_of stream bytes
    ≡ fitting (normalised start.schema.schema) (batches_behind (layout_of start.schema) start.version [] (length bytes) bytes place 0)
unfolding table_of
table_is bytes start place e =
    stream_by table_rest bytes
    ∙ ap (λ (given : Option (Start × ℕ)). given >>= behind_start table_rest (λ place. later_messages (length bytes) bytes place 0)) e
    ∙ sym (bind_assoc (later_messages (length bytes) bytes place 0) (λ more. batches_rest (contents_by start more))
    (λ batches. fitting (normalised start.schema.schema) (Some batches)))

batches_are : (bytes : List ℕ) (start : Start) (place : ℕ) → start_in bytes ≡ Some (start, place)
    → batches_in stream bytes ≡ batches_behind (layout_of start.schema) start.version [] (length bytes) bytes place 0
unfolding batches_in
batches_are bytes start place e =
    stream_by batches_rest bytes
    ∙ ap (λ (given : Option (Start × ℕ)). given >>= behind_start batches_rest (λ place. later_messages (length bytes) bytes place 0)) e

pub stream_from : (bytes : List ℕ) (start : Start) (place : ℕ) → start_in bytes ≡ Some (start, place) → IsStreamFrom bytes start place
stream_from bytes start place e =
    let begun = place_of bytes start place e in
    record {
      first = λ n. firsts_by n bytes (first_of bytes) refl
          ∙ ap (λ (given : Option (Start × ℕ)). given >>= behind_start batches_rest (first_messages n bytes)) e;
      behind = λ n. behind_is n bytes begun.0 place begun.1 begun.2;
      cut = cut_is bytes begun.0 place begun.1 begun.2;
      table = table_is bytes start place e;
      batches = batches_are bytes start place e;
    }

-- ---- a stream without a start

pub no_table : (bytes : List ℕ) → start_in bytes ≡ None → table_of stream bytes ≡ None
unfolding table_of
no_table bytes none =
    stream_by table_rest bytes
    ∙ ap (λ (given : Option (Start × ℕ)). given >>= behind_start table_rest (λ place. later_messages (length bytes) bytes place 0)) none

no_first_batches : (n : ℕ) (bytes : List ℕ) → start_in bytes ≡ None → first_batches stream n bytes ≡ None
no_first_batches n bytes none =
    firsts_by n bytes (first_of bytes) refl
    ∙ ap (λ (given : Option (Start × ℕ)). given >>= behind_start batches_rest (first_messages n bytes)) none

pub never_unfinished : (bytes : List ℕ) → start_in bytes ≡ None → IsUnfinished bytes → ⊥
never_unfinished bytes none found =
    let nothing : Option Batches = None in
    let holds : IsSome nothing = subst IsSome (no_first_batches found.0 bytes none) found.2 in absurd cc

-- ---- what was read

-- batches whose rows fit are a table, and others are none
pub fits : (schema : Schema) (batches : Batches) → length (rows_of_batches batches) < 2 ^ 64
    → fitting schema (Some batches) ≡ Some (record { schema = schema; rows = rows_of_batches batches })
fits schema batches h = rw (lt-ltb (length (rows_of_batches batches)) (2 ^ 64) h) refl

pub too_many : (schema : Schema) (given : Option Batches) → IfSome given (λ batches. 2 ^ 64 ≤ length (rows_of_batches batches))
    → fitting schema given ≡ None
too_many schema None h = refl
too_many schema (Some batches) h = rw (le-ltb (length (rows_of_batches batches)) (2 ^ 64) h) refl

-- what stands behind a schema, said of the whole stream
pub unfinished_from : (bytes : List ℕ) (start : Start) (place : ℕ) → IsStreamFrom bytes start place → IsUnfinished bytes
    → IsUnfinishedFrom (layout_of start.schema) start.version bytes place
unfinished_from bytes start place whole found =
    (found.0, sym (whole.behind found.0) ∙ found.1, subst IsSome (whole.first found.0) found.2)

pub many_in_stream : (bytes : List ℕ) (start : Start) (place : ℕ) → IsStreamFrom bytes start place
    → HasTooManyFrom (layout_of start.schema) start.version bytes place → HasTooManyRows stream bytes
many_in_stream bytes start place whole found =
    (found.0, subst (λ given. IsSomeAnd given (λ batches. 2 ^ 64 ≤ length (rows_of_batches batches))) (sym (whole.first found.0)) found.1)

-- a message of a stream that is not read
unread_there : (bytes : List ℕ) (n : ℕ) (given : Option Next) → behind_messages n bytes ≡ given → IsUnreadThere given
    → HasCompression stream bytes ⊎ HasDelta stream bytes
unread_there bytes n None e unread = absurd unread
unread_there bytes n (Some next) e unread = by_message (message_there next) refl unread
  where
    by_message : (found : Option (List ℕ × Header)) → message_there next ≡ found
        → IsSomeAnd found (λ it. IsSome (compression_in it) ⊎ (is_delta it.0 it.1 ≡ Some true))
        → HasCompression stream bytes ⊎ HasDelta stream bytes
    by_message None is why = absurd why
    by_message (Some it) is (inl compressed) =
        inl (true, n, rw (e, is) compressed)
    by_message (Some it) is (inr delta) =
        inr (n, rw (e, is) delta)

pub unread_in_stream : (bytes : List ℕ) (start : Start) (place : ℕ) → IsStreamFrom bytes start place → HasUnreadFrom bytes place
    → HasFloat stream bytes ⊎ (HasCompression stream bytes ⊎ HasDelta stream bytes)
unread_in_stream bytes start place whole found =
    inr (unread_there bytes found.0 (next_after found.0 bytes place) (whole.behind found.0) found.1)
