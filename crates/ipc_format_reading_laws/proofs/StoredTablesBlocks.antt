-- What stands at the blocks of a file: its dictionaries and its batches, each message where it was written.
use Rattle.std.proofs.Common.{◌≡◌, ◌∙◌, ℕ, zero, suc, ◌+◌, ◌<◌, ◌≤◌, ◌^◌, pos, List, [], ◌∷◌, ◌++◌, length, map, refl, sym, ap, subst}
use Rattle.std.proofs.Common.{Bool, true, arith, length-append, append_assoc, take}
use Rattle.std.specs.Prelude.{ℤ, Option, Some, if◌then◌else◌, nat_lt, nat_le}
use Rattle.std.specs.List.{All, list_all}
use Rattle.std.specs.Int.{w8, w32, to_le_bytes}
use Rattle.std.proofs.lemmas.Bool.{and_parts, leb-true}
use Rattle.std.proofs.lemmas.Option.{same_Some}
use Rattle.std.proofs.lemmas.List.Elements.{All-head, All-tail, All-cons}
use Rattle.std.proofs.lemmas.List.Folds.{list_all-append}
use Rattle.ipc_format_laws.specs.flatbuffers.FlatBuffers.{TablePlace, root_of, number_at, reference_at, number_field, table_field}
use Rattle.ipc_format_laws.specs.grammar.Messages as grammar
use Rattle.ipc_format_laws.specs.grammar.Messages.{Header, Message, V5, message_in, header_of, body_length_of, version_in}
use Rattle.ipc_format_laws.specs.grammar.Files.{header_in, is_dictionary, is_record_batch, entry_at, entries_at}
use Rattle.ipc_format_laws.specs.grammar.Dictionaries.{Entry}
use Rattle.ipc_format_laws.specs.grammar.Encoding.{joined_columns}
use Rattle.ipc_format_laws.specs.grammar.GivenDictionaries.{Given, last_under, stands_for, to_write, written_after}
use Rattle.ipc_format_laws.specs.grammar.WrittenMessages.{Written, prefix_size, continuation_marker, message_bytes, most_metadata, body_limit, fits_limit}
use Rattle.ipc_format_laws.specs.grammar.WrittenMessages.{padded_buffer, buffer_places, body_bytes, record_message, dictionary_message}
use Rattle.ipc_format_laws.specs.grammar.WrittenStreams.{Batch, messages_after, bytes_of_messages}
use Rattle.ipc_format_laws.specs.grammar.WrittenFiles.{WrittenBlock, Blocks, block_of, place_after, with_record_batch, dictionary_blocks}
use Rattle.ipc_format_laws.specs.grammar.WrittenFiles.{batch_blocks}
use Rattle.ipc_format_laws.specs.grammar.AppendedFiles.{block_end}
use Rattle.ipc_format_laws.specs.BatchMessages.{AreSigned}
use Rattle.ipc_format_laws.specs.Contents.{HasColumns, HasValues, dictionary, batch, batch_message}
use Rattle.ipc_format_laws.specs.Footers.{FitsBlock, FitBlocks, block_read}
use Rattle.ipc_format_laws.proofs.BatchMessages.{record_batches_read_back, dictionary_batches_read_back}
use Rattle.ipc_format_laws.proofs.Frames.{frame_stands}
use Rattle.ipc_format_laws.proofs.LaterMessages.{has_room, ReadsBack}
use Rattle.ipc_format_laws.proofs.Places.{Stands, front, back, ends_within, window_stands}
use Rattle.ipc_format_laws.proofs.Room.{HasRoomForValues, HasRoomForColumns}
use Rattle.ipc_format_laws.proofs.StreamReaders.{came_of}
use Rattle.ipc_format_reading_laws.specs.StatedBodies.{HeaderEnds, EntryEnds}
use Rattle.ipc_format_reading_laws.proofs.EndsBodies.{columns_state, values_state, cut_stands}
use Rattle.ipc_format_reading_laws.proofs.StoredGivenLists.{AreEach, by_answer}
use Rattle.ipc_format_reading_laws.proofs.StoredTablesEntries.{IsEntryOf, IsSent}

-- ---- what is read of a message by its metadata

-- what is read has metadata
has_metadata : (metadata : List ℕ) (message : Message) → message_in metadata ≡ Some message → 0 < length metadata
unfolding message_in root_of reference_at number_at
has_metadata [] message e = absurd cc
has_metadata (first ∷ others) message e = omega arith

same_header : (a b : Message) → Some a ≡ Some b → a.header ≡ b.header
same_header a b e = ap (λ (m : Message). m.header) (same_Some a b e)

header_found : (metadata : List ℕ) (root : TablePlace) (tag : ℕ) (found : Option TablePlace) (table : TablePlace) (header : Header)
    → root_of metadata ≡ Some root → number_field w8 metadata root 1 0 ≡ Some tag → table_field metadata root 2 ≡ Some found
    → found ≡ Some table → header_of tag table ≡ Some header → header_in metadata ≡ Some header
unfolding header_in
header_found metadata root tag found table header its_root its_tag its_found its_table its_header =
    rw (its_root, its_tag, its_found, its_table) its_header

-- the header of a message's metadata, as a file's reader finds it
header_reads : (metadata : List ℕ) (header : Header) (size : ℤ)
    → message_in metadata ≡ Some (record { header = header; body_length = size }) → header_in metadata ≡ Some header
unfolding message_in
header_reads metadata header size e =
    let message : Message = record { header = header; body_length = size } in
    let root = came_of {A = TablePlace} (root_of metadata) _ message e in
    let tag = came_of {A = ℕ} (number_field w8 metadata root.0 1 0) _ message root.2 in
    let found = came_of {A = Option TablePlace} (table_field metadata root.0 2) _ message tag.2 in
    let its_table = came_of {A = TablePlace} found.0 _ message found.2 in
    let its_header = came_of {A = Header} (header_of tag.0 its_table.0) _ message its_table.2 in
    let its_size = came_of {A = ℤ} (body_length_of metadata root.0 its_header.0) _ message its_header.2 in
    let whole : Message = record { header = its_header.0; body_length = its_size.0 } in
    let same : its_header.0 ≡ header = same_header whole message its_size.2 in
    header_found metadata root.0 tag.0 found.0 its_table.0 header root.1 tag.1 found.1 its_table.1 (its_header.1 ∙ ap Some same)

-- ---- what is written reads back

-- the places of buffers have room where their body has
places_signed : (offset : ℕ) (buffers : List (List ℕ)) → offset + length (body_bytes buffers) < 2 ^ 63 → AreSigned (buffer_places offset buffers)
places_signed offset [] small k d inside = absurd (omega arith)
places_signed offset (bytes ∷ buffers) small zero d inside =
    let sizes = length-append (padded_buffer bytes) (body_bytes buffers) in
    let padded : length bytes ≤ length (padded_buffer bytes) = omega (arith, length-append {A = ℕ}) in
    (omega arith, omega arith)
places_signed offset (bytes ∷ buffers) small (suc k) d inside =
    places_signed (offset + length (padded_buffer bytes)) buffers
    (omega (arith, length-append (padded_buffer bytes) (body_bytes buffers))) k d (omega arith)

batch_reads_back : (its_batch : Batch) → HasRoomForColumns its_batch → fits_limit (batch_message its_batch) ≡ true
    → ReadsBack (batch_message its_batch) grammar.record_batch (HasColumns its_batch)
unfolding record_message
batch_reads_back its_batch is fits =
    let room = has_room (batch_message its_batch) fits in
    let columns = joined_columns its_batch.columns in
    record_batches_read_back its_batch.rows columns.nodes (buffer_places 0 columns.buffers) (length (body_bytes columns.buffers)) is.rows is.nodes
    (places_signed 0 columns.buffers (omega (arith, room.body))) room.body (omega (arith, room.metadata))

dictionary_reads_back : (given : Given) → HasRoomForValues given → fits_limit (dictionary_message given) ≡ true
    → ReadsBack (dictionary_message given) grammar.dictionary_batch (HasValues given)
unfolding dictionary_message
dictionary_reads_back given is fits =
    let room = has_room (dictionary_message given) fits in
    let column = given.column in
    dictionary_batches_read_back given.id (length given.slots) column.nodes (buffer_places 0 column.buffers) (length (body_bytes column.buffers))
    is.id is.rows is.nodes (places_signed 0 column.buffers (omega (arith, room.body))) room.body (omega (arith, room.metadata))

-- ---- one block

-- a block's message and the buffers that it states end where the block does
abbrev pub EndsWith : List ℕ → WrittenBlock → Entry → Type 0
EndsWith bytes block entry = EntryEnds (block_end block) bytes (block_read block) entry

-- the message of a block
record BlockReads (bytes : List ℕ) (is_of_kind : Header → Bool) (message : Written) (kind : TablePlace → Header) (HasTable : TablePlace → Type 0)
    (place : ℕ) : Type 0 where
  fit : FitsBlock (block_of place message)
  entry : Entry
  read : entry_at is_of_kind bytes (block_read (block_of place message)) ≡ Some entry
  is : IsEntryOf message kind HasTable entry
  ends : EndsWith bytes (block_of place message) entry

block_reads : {bytes : List ℕ} {place : ℕ} (is_of_kind : Header → Bool) (message : Written) (kind : TablePlace → Header)
    (HasTable : TablePlace → Type 0)
    → ((table : TablePlace) → is_of_kind (kind table) ≡ true)
    → ((table : TablePlace) (origin : ℕ) → HasTable table → HeaderEnds (origin + length message.body) origin message.metadata (kind table))
    → ReadsBack message kind HasTable → fits_limit message ≡ true → length bytes < 2 ^ 63 → Stands bytes place (message_bytes message)
    → BlockReads bytes is_of_kind message kind HasTable place
unfolding entry_at
block_reads {bytes} {place} is_of_kind message kind HasTable of_kind states found fits small s =
    let metadata = message.metadata in
    let room = has_room message fits in
    let limits = and_parts (nat_lt (length message.body) body_limit) (nat_le (prefix_size + length metadata) most_metadata) fits in
    let short : prefix_size + length metadata ≤ most_metadata = leb-true (prefix_size + length metadata) most_metadata limits.1 in
    let frame = frame_stands metadata message.body (has_metadata metadata _ found.message) room.metadata s in
    let header : header_in metadata ≡ Some (kind found.header_at) =
    header_reads metadata (kind found.header_at) (pos (length message.body)) found.message in
    let behind : Stands bytes (place + 8) (metadata ++ message.body) =
    back (continuation_marker ++ to_le_bytes w32 (length metadata)) (metadata ++ message.body) (place + 8) refl refl s in
    let next : ℕ = place + (prefix_size + length metadata) in
    let its_body : Stands bytes next message.body = back metadata message.body next refl (omega arith) behind in
    let end : ℕ = block_end (block_of place message) in
    let cut : Stands (take end bytes) place (message_bytes message) =
    cut_stands end (omega (arith, length-append metadata message.body)) s in
    record {
      fit = record { offset_fits = omega (arith, ends_within behind); metadata_fits = omega (arith, short); body_fits = room.body };
      entry = record { metadata = metadata; header = kind found.header_at; version = V5; room = bytes; origin = next };
      read = rw (frame, header, of_kind found.header_at, found.version) refl;
      is = record {
        metadata = refl;
        version = refl;
        body = window_stands (length message.body) refl its_body;
        table = found.header_at;
        header = refl;
        has_table = found.header;
      };
      ends = record {
        metadata = metadata;
        next = place + 8 + length metadata;
        frame = frame_stands metadata message.body (has_metadata metadata _ found.message) room.metadata cut;
        buffers = states found.header_at next found.header;
      };
    }

-- ---- all blocks

-- the entries that are read at blocks are those of some dictionaries and of some batches
pub record BlocksRead (bytes : List ℕ) (blocks : Blocks) (given : List Given) (batches : List Batch) : Type 0 where
  pub count : length blocks.dictionaries ≡ length given
  pub fit_dictionaries : FitBlocks blocks.dictionaries
  pub fit_batches : FitBlocks blocks.record_batches
  pub values : List Entry
  pub values_read : entries_at is_dictionary bytes (map block_read blocks.dictionaries) ≡ Some values
  pub are_values : AreEach (λ (g : Given). IsSent (dictionary g)) given values
  pub values_end : AreEach (EndsWith bytes) blocks.dictionaries values
  pub columns : List Entry
  pub columns_read : entries_at is_record_batch bytes (map block_read blocks.record_batches) ≡ Some columns
  pub are_columns : AreEach (λ (b : Batch). IsSent (batch b)) batches columns
  pub columns_end : AreEach (EndsWith bytes) blocks.record_batches columns

-- the dictionaries that are written of batches
abbrev pub all_written : List Given → List Batch → List Given
all_written written [] = []
all_written written (next ∷ batches) = to_write written next.given ++ all_written (written_after written next.given) batches

dictionaries_at : {bytes : List ℕ} (given : List Given) (place : ℕ) (rest : ℕ → Blocks) (others : List Written) (more : List Given)
    (batches : List Batch) → All HasRoomForValues given → list_all fits_limit (map dictionary_message given) ≡ true → length bytes < 2 ^ 63
    → Stands bytes place (bytes_of_messages (map dictionary_message given ++ others))
    → ((here : ℕ) → Stands bytes here (bytes_of_messages others) → BlocksRead bytes (rest here) more batches)
    → BlocksRead bytes (dictionary_blocks place given rest) (given ++ more) batches
dictionaries_at [] place rest others more batches all fit small s rest_reads = rest_reads place s
dictionaries_at {bytes} (next ∷ given) place rest others more batches all fit small s rest_reads =
    let message = dictionary_message next in
    let tests = and_parts (fits_limit message) (list_all fits_limit (map dictionary_message given)) fit in
    let behind = bytes_of_messages (map dictionary_message given ++ others) in
    let found = dictionary_reads_back next (All-head HasRoomForValues next given all) tests.0 in
    let here = block_reads is_dictionary message grammar.dictionary_batch (HasValues next) (λ (table : TablePlace). refl)
    (values_state next) found tests.0 small
    (front (message_bytes message) behind refl s) in
    let later = dictionaries_at given (place_after place message) rest others more batches (All-tail HasRoomForValues next given all) tests.1 small
    (back (message_bytes message) behind (place_after place message) refl refl s) rest_reads in
    record {
      count = ap suc later.count;
      fit_dictionaries = (here.fit, later.fit_dictionaries);
      fit_batches = later.fit_batches;
      values = here.entry ∷ later.values;
      values_read = rw (here.read, later.values_read) refl;
      are_values = (here.is, later.are_values);
      values_end = (here.ends, later.values_end);
      columns = later.columns;
      columns_read = later.columns_read;
      are_columns = later.are_columns;
      columns_end = later.columns_end;
    }

batch_at : {bytes : List ℕ} (next : Batch) (place : ℕ) (blocks : ℕ → Blocks) (others : List Written) (more : List Given)
    (batches : List Batch) → HasRoomForColumns next → fits_limit (batch_message next) ≡ true → length bytes < 2 ^ 63
    → Stands bytes place (bytes_of_messages (batch_message next ∷ others))
    → ((here : ℕ) → Stands bytes here (bytes_of_messages others) → BlocksRead bytes (blocks here) more batches)
    → BlocksRead bytes (with_record_batch (block_of place (batch_message next)) (blocks (place_after place (batch_message next)))) more
    (next ∷ batches)
batch_at {bytes} next place blocks others more batches has fit small s rest_reads =
    let message = batch_message next in
    let behind = bytes_of_messages others in
    let here = block_reads is_record_batch message grammar.record_batch (HasColumns next) (λ (table : TablePlace). refl)
    (columns_state next)
    (batch_reads_back next has fit) fit small (front (message_bytes message) behind refl s) in
    let later = rest_reads (place_after place message) (back (message_bytes message) behind (place_after place message) refl refl s) in
    record {
      count = later.count;
      fit_dictionaries = later.fit_dictionaries;
      fit_batches = (here.fit, later.fit_batches);
      values = later.values;
      values_read = later.values_read;
      are_values = later.are_values;
      values_end = later.values_end;
      columns = here.entry ∷ later.columns;
      columns_read = rw (here.read, later.columns_read) refl;
      are_columns = (here.is, later.are_columns);
      columns_end = (here.ends, later.columns_end);
    }

-- the dictionaries that are written are among those that are brought
have_room : (written given : List Given) → All HasRoomForValues given → All HasRoomForValues (to_write written given)
have_room written [] all = all
have_room written (next ∷ given) all =
    let here = All-head HasRoomForValues next given all in
    let others = All-tail HasRoomForValues next given all in
    by_answer (λ (answer : Bool). All HasRoomForValues (if answer then to_write written given else next ∷ to_write (next ∷ written) given))
    (stands_for next (last_under next.id written)) (λ is. have_room written given others)
    (λ is. All-cons HasRoomForValues next (to_write (next ∷ written) given) here (have_room (next ∷ written) given others))

pub blocks_stand : {bytes : List ℕ} (batches : List Batch) (written : List Given) (place : ℕ) → All HasRoomForColumns batches
    → list_all fits_limit (messages_after written batches) ≡ true → length bytes < 2 ^ 63
    → Stands bytes place (bytes_of_messages (messages_after written batches))
    → BlocksRead bytes (batch_blocks place written batches) (all_written written batches) batches
blocks_stand [] written place all fit small s = record {
  count = refl;
  fit_dictionaries = tt;
  fit_batches = tt;
  values = [];
  values_read = refl;
  are_values = tt;
  values_end = tt;
  columns = [];
  columns_read = refl;
  are_columns = tt;
  columns_end = tt;
}
blocks_stand {bytes} (next ∷ batches) written place all fit small s =
    let has = All-head HasRoomForColumns next batches all in
    let given = to_write written next.given in
    let now = written_after written next.given in
    let before : List Written = map dictionary_message given in
    let others : List Written = messages_after now batches in
    let joins : (before ++ batch_message next ∷ []) ++ others ≡ before ++ (batch_message next ∷ others) =
    append_assoc before (batch_message next ∷ []) others in
    let all_fit : list_all fits_limit (before ++ (batch_message next ∷ others)) ≡ true =
    subst (λ (messages : List Written). list_all fits_limit messages ≡ true) joins fit in
    let split = and_parts (list_all fits_limit before) (list_all fits_limit (batch_message next ∷ others))
    (sym (list_all-append fits_limit before (batch_message next ∷ others)) ∙ all_fit) in
    let tests = and_parts (fits_limit (batch_message next)) (list_all fits_limit others) split.1 in
    let stands : Stands bytes place (bytes_of_messages (before ++ (batch_message next ∷ others))) =
    subst (λ (messages : List Written). Stands bytes place (bytes_of_messages messages)) joins s in
    dictionaries_at given place (λ (here : ℕ).
    with_record_batch (block_of here (batch_message next)) (batch_blocks (place_after here (batch_message next)) now batches))
    (batch_message next ∷ others) (all_written now batches) (next ∷ batches) (have_room written next.given has.given) split.0 small stands
    (λ (here : ℕ) (its : Stands bytes here (bytes_of_messages (batch_message next ∷ others))).
    batch_at next here (λ (behind : ℕ). batch_blocks behind now batches) others (all_written now batches) batches has tests.0 small its
    (λ (behind : ℕ) (they : Stands bytes behind (bytes_of_messages others)).
    blocks_stand batches now behind (All-tail HasRoomForColumns next batches all) tests.1 small they))
