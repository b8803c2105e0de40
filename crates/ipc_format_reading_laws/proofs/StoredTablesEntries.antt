-- What is read of a message that was written: of a batch's columns, and of a dictionary's values.
use Rattle.std.proofs.Common.{◌≡◌, ◌∙◌, ℕ, ◌+◌, ◌-◌, ◌≤◌, List, [], ◌∷◌, length, map, take, drop, replicate, refl, sym, ap, subst, Bool, true}
use Rattle.std.proofs.Common.{arith, append-nil, length-append, sum_by, nat_le}
use Rattle.std.specs.Prelude.{Option, Some, None}
use Rattle.std.specs.Int.{next_multiple_of}
use Rattle.std.proofs.lemmas.Bool.{le-leb, leb-true}
use Rattle.std.proofs.lemmas.Option.{cond_some}
use Rattle.std.proofs.lemmas.List.Sums.{sum_by-cons}
use Rattle.ipc_format_laws.specs.flatbuffers.Reading.{◌>>=◌, window_at}
use Rattle.ipc_format_laws.specs.flatbuffers.FlatBuffers.{TablePlace}
use Rattle.ipc_format_laws.specs.columnar_memory.declared.DataType.{DataType}
use Rattle.ipc_format_laws.specs.columns.StoredColumns.{Column, column_type, column_len, slots}
use Rattle.ipc_format_laws.specs.columns.SoundColumns.{is_sound}
use Rattle.ipc_format_laws.specs.grammar.Messages as grammar
use Rattle.ipc_format_laws.specs.grammar.Messages.{Header, V5}
use Rattle.ipc_format_laws.specs.grammar.Schemas.{ids}
use Rattle.ipc_format_laws.specs.grammar.Writable.{normalised_type}
use Rattle.ipc_format_laws.specs.grammar.Columns.{Source, Dictionary, Place, slots_in, taken_of}
use Rattle.ipc_format_laws.specs.grammar.Dictionaries.{Entry, Layout, source_in, dictionary_in, values_of}
use Rattle.ipc_format_laws.specs.grammar.Tables.{batches_with, batches_of}
use Rattle.ipc_format_laws.specs.grammar.Encoding.{Encoded}
use Rattle.ipc_format_laws.specs.grammar.StoredEncoding.{encode_range, encode_stored}
use Rattle.ipc_format_laws.specs.grammar.GivenDictionaries.{Given, given_stored}
use Rattle.ipc_format_laws.specs.grammar.WrittenMessages.{Written, padded_buffer, buffer_places, body_bytes, dictionary_message}
use Rattle.ipc_format_laws.specs.BatchMessages.{IsRecordBatch, IsDictionaryBatch, stated_node, stated_buffer}
use Rattle.ipc_format_laws.specs.Columns.{StandsAt, StandsAmong, HoldsColumns}
use Rattle.ipc_format_laws.specs.Contents.{HasColumns, HasValues, Sent, dictionary, batch, batch_message}
use Rattle.ipc_format_reading_laws.specs.NormalColumns.{normal_slot, normal_column}
use Rattle.ipc_format_reading_laws.specs.StoredColumns.{HasDictionaries, StoredColumnsReadBack}
use Rattle.ipc_format_reading_laws.proofs.NormalColumnsKept.{type_normal, all_slots_normal, sound_normal, encoded_normal}
use Rattle.ipc_format_reading_laws.proofs.StoredGivenLists.{Each}
use Rattle.ipc_format_reading_laws.proofs.StoredGivenBrought.{Brought, given_of}
use Rattle.ipc_format_reading_laws.proofs.StoredGivenFits.{IsGood}
use Rattle.ipc_format_reading_laws.proofs.StoredGivenStanding.{as_read, StandsIn, has_dictionaries}

-- ---- entries

-- An entry of a stream or a file is a message that was written, with a header of a kind: its metadata is the message's, and the message's
-- body stands in its room, from its origin on.
pub record IsEntryOf (message : Written) (kind : TablePlace → Header) (HasTable : TablePlace → Type 0) (entry : Entry) : Type 0 where
  pub metadata : entry.metadata ≡ message.metadata
  pub version : entry.version ≡ V5
  pub body : window_at entry.room entry.origin (length message.body) ≡ Some message.body
  pub table : TablePlace
  pub header : entry.header ≡ kind table
  pub has_table : HasTable table

-- an entry is a dictionary or a batch that was sent
abbrev pub IsSent : Sent → Entry → Type 0
IsSent (dictionary given) = IsEntryOf (dictionary_message given) grammar.dictionary_batch (HasValues given)
IsSent (batch its_batch) = IsEntryOf (batch_message its_batch) grammar.record_batch (HasColumns its_batch)

-- ---- the source of an entry

padding_behind : (bytes : List ℕ) → length bytes ≤ length (padded_buffer bytes)
padding_behind bytes = omega (arith, length-append bytes (replicate (next_multiple_of (length bytes) 64 - length bytes) 0))

-- together buffers state no more bytes than their body has
lengths_within : (offset : ℕ) (buffers : List (List ℕ))
    → sum_by (λ (pair : ℕ × ℕ). pair.1) (buffer_places offset buffers) ≤ length (body_bytes buffers)
lengths_within offset [] = omega arith
lengths_within offset (bytes ∷ buffers) =
    let next : ℕ = offset + length (padded_buffer bytes) in
    let sum : sum_by (λ (pair : ℕ × ℕ). pair.1) (buffer_places offset (bytes ∷ buffers))
    ≡ length bytes + sum_by (λ (pair : ℕ × ℕ). pair.1) (buffer_places next buffers) =
    sum_by-cons (λ (pair : ℕ × ℕ). pair.1) (offset, length bytes) (buffer_places next buffers) in
    let size : length (body_bytes (bytes ∷ buffers)) ≡ length (padded_buffer bytes) + length (body_bytes buffers) =
    length-append (padded_buffer bytes) (body_bytes buffers) in
    omega (arith, lengths_within next buffers, padding_behind bytes)

-- what a window sees lies in the bytes
window_within : (bytes : List ℕ) (place n : ℕ) (part : List ℕ) → window_at bytes place n ≡ Some part → place + n ≤ length bytes
window_within bytes place n part e =
    leb-true (place + n) (length bytes) (cond_some (nat_le (place + n) (length bytes)) (take n (drop place bytes)) part e).0

-- what is read of an entry that has written columns
abbrev pub source_of : Entry → Encoded → Source
source_of entry all = record {
  nodes = map stated_node all.nodes;
  buffers = map stated_buffer (buffer_places 0 all.buffers);
  version = entry.version;
  is_little_endian = true;
  room = entry.room;
  origin = entry.origin;
}

pub source_is : (entry : Entry) (all : Encoded) (table : TablePlace)
    → IsRecordBatch entry.metadata table all.nodes (buffer_places 0 all.buffers)
    → window_at entry.room entry.origin (length (body_bytes all.buffers)) ≡ Some (body_bytes all.buffers)
    → source_in true entry table ≡ Some (source_of entry all)
unfolding source_in
source_is entry all table h body =
    let sum = sum_by (λ (pair : ℕ × ℕ). pair.1) (buffer_places 0 all.buffers) in
    let inside = window_within entry.room entry.origin (length (body_bytes all.buffers)) (body_bytes all.buffers) body in
    let enough : nat_le sum (length entry.room) ≡ true =
    le-leb sum (length entry.room) (omega (arith, inside, lengths_within 0 all.buffers)) in
    rw (h.batch, h.sum_is, enough, h.nodes_are, h.buffers_are) refl

pub holds_columns : (entry : Entry) (all : Encoded)
    → window_at entry.room entry.origin (length (body_bytes all.buffers)) ≡ Some (body_bytes all.buffers)
    → HoldsColumns (source_of entry all) all
holds_columns entry all body = record { nodes = refl; buffers = refl; body = body; order = refl }

-- all of some things stand among them from their beginning on
pub whole_list : {A : Type 0} (xs : List A) → StandsAt xs 0 xs
whole_list xs = record { before = []; after = []; whole = sym (append-nil xs); at = refl }

-- ---- columns

none_limits : (limit : Option ℕ) (n : ℕ) → limit ≡ None → taken_of limit n ≡ n
none_limits limit n none = ap (λ (l : Option ℕ). taken_of l n) none

-- the whole of a sound column is read under its normalised type
pub column_reads : StoredColumnsReadBack → (c : Column) (at : Place) (all : Encoded) → is_sound c ≡ true → at.source.version ≡ V5
    → HoldsColumns at.source all → StandsAmong all (encode_stored true c) at.node at.buffer → at.limit ≡ None
    → HasDictionaries at.standing at.ids (normal_column c)
    → slots_in (normalised_type (column_type c)) at ≡ Some (map normal_slot (slots c))
column_reads stored c at all sound version holds stands none has =
    let n = column_len (normal_column c) in
    let among : StandsAmong all (encode_range true (normal_column c) 0 n) at.node at.buffer =
    subst (λ (e : Encoded). StandsAmong all e at.node at.buffer) (sym (encoded_normal true c)) stands in
    let within : 0 + n ≤ n = omega arith in
    let read = stored (normal_column c) (sound_normal c sound) 0 n at all within version holds among (none_limits at.limit n none) has in
    ap (λ (t : DataType). slots_in t at) (sym (type_normal c)) ∙ read ∙ ap Some (all_slots_normal c)

-- ---- dictionaries

-- a dictionary's message gives it under its normalised type, where its values' dictionaries stand
pub dictionary_reads : StoredColumnsReadBack → (layout : Layout) (written : List Given) (b : Brought) (entry : Entry)
    → layout.is_little_endian ≡ true → (is : IsSent (dictionary (given_of b)) entry) → IsGood b
    → values_of layout.fields b.id layout.below ≡ Some (record { data_type = normalised_type (column_type b.values); below = b.below })
    → Each (StandsIn written) (given_stored (ids None b.below) b.values)
    → dictionary_in layout (map as_read written) entry is.table ≡ Some (as_read (given_of b))
unfolding dictionary_in dictionary_message
dictionary_reads stored layout written b entry little is good values stand =
    let all : Encoded = encode_stored true b.values in
    let its : IsDictionaryBatch entry.metadata is.table b.id all.nodes (buffer_places 0 all.buffers) =
    subst (λ (bytes : List ℕ). IsDictionaryBatch bytes is.table b.id all.nodes (buffer_places 0 all.buffers)) (sym is.metadata) is.has_table in
    let source : source_in layout.is_little_endian entry its.values_at ≡ Some (source_of entry all) =
    ap (λ (order : Bool). source_in order entry its.values_at) little ∙ source_is entry all its.values_at its.values is.body in
    let at : Place = record {
      source = source_of entry all;
      standing = map as_read written;
      limit = None;
      node = 0;
      buffer = 0;
      ids = ids None b.below;
    } in
    let read : slots_in (normalised_type (column_type b.values)) at ≡ Some (map normal_slot (slots b.values)) =
    column_reads stored b.values at all good.sound is.version (holds_columns entry all is.body)
    (record { nodes = whole_list all.nodes; buffers = whole_list all.buffers }) refl
    (has_dictionaries written (ids None b.below) b.values good.sound good.fit stand) in
    rw (its.batch, source, values, read) refl

-- an entry that is a dictionary, before others
pub dictionary_then : (layout : Layout) (standing : List Dictionary) (entry : Entry) (others : List Entry) (table : TablePlace) (found : Dictionary)
    → entry.header ≡ grammar.dictionary_batch table → dictionary_in layout standing entry table ≡ Some found
    → batches_of layout standing (entry ∷ others) ≡ batches_of layout (found ∷ standing) others
dictionary_then layout standing entry others table found header read =
    ap (λ (h : Header). batches_with layout standing entry (λ (now : List Dictionary). batches_of layout now others) h) header
    ∙ ap (λ (r : Option Dictionary). r >>= (λ (d : Dictionary). batches_of layout (d ∷ standing) others)) read
