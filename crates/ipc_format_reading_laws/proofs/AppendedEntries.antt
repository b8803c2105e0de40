-- Messages that are read of a file read the same where its bytes up to an end stand before others, and what is read of them stands before the
-- end.
use Rattle.std.proofs.Common.{◌≡◌, ◌∙◌, ℕ, ◌+◌, ◌≤◌, Bool, true, List, [], ◌∷◌, ◌++◌, length, map, take, refl, sym, ap, subst}
use Rattle.std.specs.Prelude.{Some, None, slice_get}
use Rattle.std.specs.List.{All, flat_map}
use Rattle.std.proofs.lemmas.Option.{same_Some}
use Rattle.std.proofs.lemmas.List.Elements.{All-head, All-tail}
use Rattle.ipc_format_laws.specs.flatbuffers.Reading.{guard}
use Rattle.ipc_format_laws.specs.flatbuffers.FlatBuffers as flat
use Rattle.ipc_format_laws.specs.columnar_memory.declared.Field.{Field}
use Rattle.ipc_format_laws.specs.columns.Slots.{Slot, window}
use Rattle.ipc_format_laws.specs.grammar.Messages as message
use Rattle.ipc_format_laws.specs.grammar.Messages.{Version, version_in}
use Rattle.ipc_format_laws.specs.grammar.Columns.{Source, Dictionary}
use Rattle.ipc_format_laws.specs.grammar.Dictionaries.{Entry, Layout, source_in, dictionary_in}
use Rattle.ipc_format_laws.specs.grammar.Framing.{Frame, truncated, end_mark, metadata_then, frame_at}
use Rattle.ipc_format_laws.specs.grammar.Files as read
use Rattle.ipc_format_laws.specs.grammar.Files.{metadata_of, header_in, entry_at, entries_at, is_record_batch}
use Rattle.ipc_format_laws.specs.grammar.Tables.{column_place, column_in, columns_from, batch_in, batches_with, batches_of}
use Rattle.ipc_format_laws.specs.grammar.Windows.{Window, or_none, windows_in, column_windows, batch_windows, header_windows, entry_windows}
use Rattle.ipc_format_laws.specs.grammar.AppendedFiles.{kept_block, standing_with, standing_behind}
use Rattle.ipc_format_laws.specs.Columns.{StandsAt}
use Rattle.ipc_format_laws.specs.Footers.{block_read}
use Rattle.ipc_format_laws.proofs.Elements.{part_first, part_next}
use Rattle.ipc_format_laws.proofs.Firsts.{came_of, bind_is, same_value, guarded}
use Rattle.ipc_format_reading_laws.proofs.AppendedBytes.{frame_more, window_same}
use Rattle.ipc_format_reading_laws.proofs.IsolatedBuffers.{SameBytes, same_first, same_later, in_room, Extends}
use Rattle.ipc_format_reading_laws.proofs.IsolatedEntries.{with_room, source_same, dictionary_same}
use Rattle.ipc_format_reading_laws.proofs.IsolatedTypes.{types_isolated}
use Rattle.ipc_format_reading_laws.proofs.StoredGivenLists.{Each}
use Rattle.ipc_format_reading_laws.proofs.StoredTablesEntries.{whole_list}

-- ---- the message of a block

-- a block of a file, as it is read where it was written again
abbrev pub again : read.Block → read.Block
again block = block_read (kept_block block)

with_metadata : (frame : Frame) (metadata : List ℕ) → metadata_of frame ≡ Some metadata → (next : ℕ) × (frame ≡ metadata_then metadata next)
with_metadata truncated metadata e = absurd cc
with_metadata end_mark metadata e = absurd cc
with_metadata (metadata_then found next) metadata e = (next, ap (λ (m : List ℕ). metadata_then m next) (same_Some found metadata e))

-- what is known of a message that is read at a block
pub record EntryMore (is_of_kind : message.Header → Bool) (bytes cut others : List ℕ) (block : read.Block) (entry : Entry) : Type 0 where
  pub there : entry_at is_of_kind (cut ++ others) (again block) ≡ Some (with_room entry (cut ++ others))
  pub room : entry.room ≡ bytes
  pub of_kind : is_of_kind entry.header ≡ true
  pub inside : block.offset + 4 + length entry.metadata ≤ length cut

pub entry_more : (is_of_kind : message.Header → Bool) (bytes cut others : List ℕ) (block : read.Block) (entry : Entry)
    → frame_at cut block.offset ≡ frame_at bytes block.offset → entry_at is_of_kind bytes block ≡ Some entry
    → EntryMore is_of_kind bytes cut others block entry
unfolding entry_at
entry_more is_of_kind bytes cut others block entry same e =
    let frame = came_of {A = Frame} (frame_at bytes block.offset) _ entry e in
    let metadata = came_of {A = List ℕ} (metadata_of frame.0) _ entry frame.2 in
    let header = came_of {A = message.Header} (header_in metadata.0) _ entry metadata.2 in
    let test = came_of {A = Bool} (guard (is_of_kind header.0)) _ entry header.2 in
    let version = came_of {A = Version} (version_in metadata.0) _ entry test.2 in
    let found : Entry = record {
      metadata = metadata.0;
      header = header.0;
      version = version.0;
      room = bytes;
      origin = block.offset + block.metadata_length;
    } in
    let whole : found ≡ entry = same_value found entry version.2 in
    let with = with_metadata frame.0 metadata.0 metadata.1 in
    let more = frame_more cut others block.offset metadata.0 with.0 (same ∙ frame.1 ∙ ap Some with.1) in
    record {
      there = bind_is (frame_at (cut ++ others) block.offset) _ (metadata_then metadata.0 with.0) more.0
          ∙ bind_is (header_in metadata.0) _ header.0 header.1 ∙ bind_is (guard (is_of_kind header.0)) _ test.0 test.1
          ∙ bind_is (version_in metadata.0) _ version.0 version.1 ∙ ap (λ (e : Entry). Some (with_room e (cut ++ others))) whole;
      room = sym (ap (λ (e : Entry). e.room) whole);
      of_kind = ap (λ (e : Entry). is_of_kind e.header) (sym whole) ∙ guarded (is_of_kind header.0) test.0 test.1;
      inside = subst (λ (e : Entry). block.offset + 4 + length e.metadata ≤ length cut) whole more.1;
    }

-- ---- the messages of blocks

-- a message as it stands in other bytes
abbrev pub moved_to : List ℕ → Entry → Entry
moved_to room entry = with_room entry room

abbrev SameFrame : List ℕ → List ℕ → read.Block → Type 0
SameFrame cut bytes block = frame_at cut block.offset ≡ frame_at bytes block.offset

-- what is known of messages that are read at blocks
pub record EntriesMore (is_of_kind : message.Header → Bool) (bytes cut others : List ℕ) (blocks : List read.Block) (entries : List Entry)
    : Type 0 where
  pub there : entries_at is_of_kind (cut ++ others) (map again blocks) ≡ Some (map (moved_to (cut ++ others)) entries)
  pub rooms : Each (λ (entry : Entry). entry.room ≡ bytes) entries
  pub of_kind : Each (λ (entry : Entry). is_of_kind entry.header ≡ true) entries

pub entries_more : (is_of_kind : message.Header → Bool) (bytes cut others : List ℕ) (blocks : List read.Block) (entries : List Entry)
    → All (SameFrame cut bytes) blocks → entries_at is_of_kind bytes blocks ≡ Some entries
    → EntriesMore is_of_kind bytes cut others blocks entries
entries_more is_of_kind bytes cut others [] entries same e =
    subst (EntriesMore is_of_kind bytes cut others []) (same_value [] entries e) (record { there = refl; rooms = tt; of_kind = tt })
entries_more is_of_kind bytes cut others (block ∷ blocks) entries same e =
    let new = cut ++ others in
    let first = came_of {A = Entry} (entry_at is_of_kind bytes block) _ entries e in
    let later = came_of {A = List Entry} (entries_at is_of_kind bytes blocks) _ entries first.2 in
    let here = entry_more is_of_kind bytes cut others block first.0 (All-head (SameFrame cut bytes) block blocks same) first.1 in
    let rest = entries_more is_of_kind bytes cut others blocks later.0 (All-tail (SameFrame cut bytes) block blocks same) later.1 in
    subst (EntriesMore is_of_kind bytes cut others (block ∷ blocks)) (same_value (first.0 ∷ later.0) entries later.2) (record {
      there = bind_is (entry_at is_of_kind new (again block)) _ (with_room first.0 new) here.there
          ∙ bind_is (entries_at is_of_kind new (map again blocks)) _ (map (moved_to new) later.0) rest.there;
      rooms = (here.room, rest.rooms);
      of_kind = (here.of_kind, rest.of_kind);
    })

-- ---- the bytes of windows

abbrev pub IsBefore : ℕ → Window → Type 0
IsBefore end w = w.start + w.size ≤ end

-- windows before an end hold the same bytes
pub windows_before : (bytes others : List ℕ) (end : ℕ) (windows : List Window) → end ≤ length bytes → All (IsBefore end) windows
    → SameBytes bytes (take end bytes ++ others) windows
windows_before bytes others end [] inside before = tt
windows_before bytes others end (w ∷ windows) inside before = (
  window_same bytes others end w.start w.size inside (All-head (IsBefore end) w windows before),
  windows_before bytes others end windows inside (All-tail (IsBefore end) w windows before),
)

-- ---- whole batches

columns_moved : (layout : Layout) (standing now : List Dictionary) (source : Source) (room : List ℕ) (k : ℕ) (fields : List Field)
    (columns : List (List Slot)) → Extends standing now → StandsAt layout.fields k fields → columns_from layout standing source k fields ≡ Some
    columns
    → SameBytes source.room room (flat_map (column_windows layout source) (window (λ j. j) k (length fields)))
    → columns_from layout now (in_room source room) k fields ≡ Some columns
columns_moved layout standing now source room k [] columns more at e same = e
columns_moved layout standing now source room k (field ∷ fields) columns more at e same =
    let column = came_of {A = List Slot} (column_in layout standing source None k field) _ columns e in
    let others = came_of {A = List (List Slot)} (columns_from layout standing source (k + 1) fields) _ columns column.2 in
    let behind = flat_map (column_windows layout source) (window (λ j. j) (k + 1) (length fields)) in
    let windows : column_windows layout source k ≡ windows_in field.data_type (column_place layout [] source None k) =
    ap or_none (bind_is (slice_get layout.fields k) _ field (part_first field fields at)) in
    let here = types_isolated field.data_type (column_place layout [] source None k) standing now more room column.0
    (subst (SameBytes source.room room) windows (same_first source.room room (column_windows layout source k) behind same)) column.1 in
    let rest = columns_moved layout standing now source room (k + 1) fields others.0 more (part_next field fields at) others.1
    (same_later source.room room (column_windows layout source k) behind same) in
    bind_is (column_in layout now (in_room source room) None k field) _ column.0 here
    ∙ bind_is (columns_from layout now (in_room source room) (k + 1) fields) _ others.0 rest ∙ others.2

-- a batch reads the same where more dictionaries stand, in a room with the same bytes in the windows of all columns
pub batch_moved : (layout : Layout) (standing now : List Dictionary) (entry : Entry) (room : List ℕ) (table : flat.TablePlace)
    (columns : List (List Slot)) → Extends standing now → length entry.room ≤ length room
    → SameBytes entry.room room (batch_windows layout (window (λ j. j) 0 (length layout.fields)) entry table)
    → batch_in layout standing entry table ≡ Some columns → batch_in layout now (with_room entry room) table ≡ Some columns
unfolding batch_in
batch_moved layout standing now entry room table columns more size same e =
    let source = came_of {A = Source} (source_in layout.is_little_endian entry table) _ columns e in
    let found = came_of {A = List (List Slot)} (columns_from layout standing source.0 0 layout.fields) _ columns source.2 in
    let there = source_same layout.is_little_endian entry room table source.0 size source.1 in
    let taken : List Window = flat_map (column_windows layout source.0) (window (λ j. j) 0 (length layout.fields)) in
    let windows : batch_windows layout (window (λ j. j) 0 (length layout.fields)) entry table ≡ taken =
    ap or_none (bind_is (source_in layout.is_little_endian entry table) _ source.0 source.1) in
    let here : SameBytes source.0.room room taken =
    subst (λ (first : List ℕ). SameBytes first room taken) there.1 (subst (SameBytes entry.room room) windows same) in
    bind_is (source_in layout.is_little_endian (with_room entry room) table) _ (in_room source.0 room) there.0
    ∙ bind_is (columns_from layout now (in_room source.0 room) 0 layout.fields) _ found.0
    (columns_moved layout standing now source.0 room 0 layout.fields found.0 more (whole_list layout.fields) found.1 here) ∙ found.2

-- ---- messages one after another

-- a message may be read in another room: it is at least as long, and has the same bytes in the windows of all columns
abbrev pub ReadsIn : Layout → List ℕ → Entry → Type 0
ReadsIn layout room entry = (length entry.room ≤ length room)
    × SameBytes entry.room room (entry_windows layout (window (λ j. j) 0 (length layout.fields)) entry)

-- dictionaries

standing_by : (layout : Layout) (room : List ℕ) (standing : List Dictionary) (entry : Entry) (entries : List Entry) (now : List Dictionary)
    (header : message.Header) → length entry.room ≤ length room
    → SameBytes entry.room room (header_windows layout (window (λ j. j) 0 (length layout.fields)) entry header)
    → ((d : List Dictionary) → standing_behind layout d entries ≡ Some now → standing_behind layout d (map (moved_to room) entries) ≡ Some now)
    → standing_with layout standing entry (λ d. standing_behind layout d entries) header ≡ Some now
    → standing_with layout standing (with_room entry room) (λ d. standing_behind layout d (map (moved_to room) entries)) header ≡ Some now
standing_by layout room standing entry entries now (message.dictionary_batch table) size same rest e =
    let dictionary = came_of {A = Dictionary} (dictionary_in layout standing entry table) _ now e in
    bind_is (dictionary_in layout standing (with_room entry room) table) _ dictionary.0
    (dictionary_same layout standing entry room table dictionary.0 size same dictionary.1) ∙ rest (dictionary.0 ∷ standing) dictionary.2
standing_by layout room standing entry entries now (message.schema table) size same rest e = absurd cc
standing_by layout room standing entry entries now (message.record_batch table) size same rest e = absurd cc

-- the dictionaries that stand behind messages stand behind them in another room
pub standing_moved : (layout : Layout) (room : List ℕ) (standing : List Dictionary) (entries : List Entry) (now : List Dictionary)
    → Each (ReadsIn layout room) entries → standing_behind layout standing entries ≡ Some now
    → standing_behind layout standing (map (moved_to room) entries) ≡ Some now
standing_moved layout room standing [] now same e = e
standing_moved layout room standing (entry ∷ entries) now same e =
    standing_by layout room standing entry entries now entry.header same.0.0 same.0.1
    (λ (d : List Dictionary) found. standing_moved layout room d entries now same.1 found) e

standing_then_by : (layout : Layout) (standing : List Dictionary) (entry : Entry) (entries others : List Entry) (now : List Dictionary)
    (header : message.Header)
    → ((d : List Dictionary) → standing_behind layout d entries ≡ Some now → batches_of layout d (entries ++ others) ≡ batches_of layout now others)
    → standing_with layout standing entry (λ d. standing_behind layout d entries) header ≡ Some now
    → batches_with layout standing entry (λ d. batches_of layout d (entries ++ others)) header ≡ batches_of layout now others
standing_then_by layout standing entry entries others now (message.dictionary_batch table) rest e =
    let dictionary = came_of {A = Dictionary} (dictionary_in layout standing entry table) _ now e in
    bind_is (dictionary_in layout standing entry table) _ dictionary.0 dictionary.1 ∙ rest (dictionary.0 ∷ standing) dictionary.2
standing_then_by layout standing entry entries others now (message.schema table) rest e = absurd cc
standing_then_by layout standing entry entries others now (message.record_batch table) rest e = absurd cc

-- what is read behind dictionaries is read under those that stand behind them
pub standing_then : (layout : Layout) (standing : List Dictionary) (entries others : List Entry) (now : List Dictionary)
    → standing_behind layout standing entries ≡ Some now → batches_of layout standing (entries ++ others) ≡ batches_of layout now others
standing_then layout standing [] others now e = ap (λ (d : List Dictionary). batches_of layout d others) (same_value standing now e)
standing_then layout standing (entry ∷ entries) others now e =
    standing_then_by layout standing entry entries others now entry.header
    (λ (d : List Dictionary) found. standing_then layout d entries others now found) e

-- record batches

abbrev Batches : Type 0
Batches = List (List (List Slot))

batches_by : (layout : Layout) (room : List ℕ) (standing now : List Dictionary) (entry : Entry) (entries others : List Entry) (old more : Batches)
    (header : message.Header) → Extends standing now → is_record_batch header ≡ true → length entry.room ≤ length room
    → SameBytes entry.room room (header_windows layout (window (λ j. j) 0 (length layout.fields)) entry header)
    → ((some : Batches) → batches_of layout standing entries ≡ Some some
    → batches_of layout now (map (moved_to room) entries ++ others) ≡ Some (some ++ more))
    → batches_with layout standing entry (λ d. batches_of layout d entries) header ≡ Some old
    → batches_with layout now (with_room entry room) (λ d. batches_of layout d (map (moved_to room) entries ++ others)) header ≡ Some (old ++ more)
batches_by layout room standing now entry entries others old more (message.record_batch table) extends is size same rest e =
    let columns = came_of {A = List (List Slot)} (batch_in layout standing entry table) _ old e in
    let later = came_of {A = Batches} (batches_of layout standing entries) _ old columns.2 in
    bind_is (batch_in layout now (with_room entry room) table) _ columns.0
    (batch_moved layout standing now entry room table columns.0 extends size same columns.1)
    ∙ bind_is (batches_of layout now (map (moved_to room) entries ++ others)) _ (later.0 ++ more) (rest later.0 later.1)
    ∙ ap (λ (some : Batches). Some (some ++ more)) (same_value (columns.0 ∷ later.0) old later.2)
batches_by layout room standing now entry entries others old more (message.schema table) extends is size same rest e = absurd cc
batches_by layout room standing now entry entries others old more (message.dictionary_batch table) extends is size same rest e = absurd cc

-- record batches in another room, before others, where more dictionaries stand
pub batches_moved : (layout : Layout) (room : List ℕ) (standing now : List Dictionary) (entries others : List Entry) (old more : Batches)
    → Extends standing now → Each (ReadsIn layout room) entries → Each (λ (entry : Entry). is_record_batch entry.header ≡ true) entries
    → batches_of layout standing entries ≡ Some old → batches_of layout now others ≡ Some more
    → batches_of layout now (map (moved_to room) entries ++ others) ≡ Some (old ++ more)
batches_moved layout room standing now [] others old more extends same are e found =
    found ∙ ap (λ (some : Batches). Some (some ++ more)) (same_value [] old e)
batches_moved layout room standing now (entry ∷ entries) others old more extends same are e found =
    batches_by layout room standing now entry entries others old more entry.header extends are.0 same.0.0 same.0.1
    (λ (some : Batches) its. batches_moved layout room standing now entries others some more extends same.1 are.1 its found) e
