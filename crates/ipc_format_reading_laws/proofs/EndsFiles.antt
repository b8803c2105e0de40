-- A file whose messages state their ends reads nothing behind them; and where the messages end that are written.
use Rattle.std.proofs.Common.{◌≡◌, ◌∙◌, ℕ, ◌≤◌, List, [], ◌∷◌, ◌++◌, length, map, take, drop, refl, sym, ap, subst, arith}
use Rattle.std.specs.Prelude.{Some}
use Rattle.std.specs.List.{All}
use Rattle.std.proofs.Math.Nat.{le-max_left, le-max_right, max-le}
use Rattle.std.proofs.lemmas.List.{take-append-drop, take-take}
use Rattle.std.proofs.lemmas.List.Elements.{All-nil, All-cons}
use Rattle.ipc_format_laws.specs.columns.Slots.{window}
use Rattle.ipc_format_laws.specs.columns.Tables.{Table}
use Rattle.ipc_format_laws.specs.grammar.Messages as message
use Rattle.ipc_format_laws.specs.grammar.Messages.{Buffer}
use Rattle.ipc_format_laws.specs.grammar.Dictionaries.{Entry, Layout}
use Rattle.ipc_format_laws.specs.grammar.Framing.{metadata_then, frame_at}
use Rattle.ipc_format_laws.specs.grammar.Files as read
use Rattle.ipc_format_laws.specs.grammar.Files.{Footer, footer_in, entries_at, is_dictionary, is_record_batch}
use Rattle.ipc_format_laws.specs.grammar.Tables.{file, Contents, layout_of, table_of}
use Rattle.ipc_format_laws.specs.grammar.Windows.{entry_windows}
use Rattle.ipc_format_laws.specs.grammar.WrittenFiles.{WrittenBlock}
use Rattle.ipc_format_laws.specs.grammar.AppendedFiles.{kept_block, block_end, greatest_end, Base, base_end}
use Rattle.ipc_format_laws.specs.Footers.{block_read}
use Rattle.ipc_format_laws.proofs.Firsts.{same_value}
use Rattle.ipc_format_reading_laws.specs.AppendLaws.{StandsBefore}
use Rattle.ipc_format_reading_laws.specs.StatedBodies.{BuffersEnd, HeaderEnds, EntryEnds, EntriesEnd, MessagesEnd}
use Rattle.ipc_format_reading_laws.proofs.AppendedBase.{IsBase}
use Rattle.ipc_format_reading_laws.proofs.AppendedBytes.{frame_more}
use Rattle.ipc_format_reading_laws.proofs.AppendedEntries.{again, moved_to, IsBefore}
use Rattle.ipc_format_reading_laws.proofs.AppendedOld.{SameMessage, contents_are, gives, count_same}
use Rattle.ipc_format_reading_laws.proofs.EndsBuffers.{Before}
use Rattle.ipc_format_reading_laws.proofs.EndsEntries.{ColumnsEnd, StatesEnd, entries_before}
use Rattle.ipc_format_reading_laws.proofs.StoredGivenLists.{Each, each_more, AreEach}
use Rattle.ipc_format_reading_laws.proofs.StoredTablesBlocks.{EndsWith}

-- ---- lists

each_all : {A : Type 0} (P : A → Type 0) (xs : List A) → Each P xs → All P xs
each_all P [] each = All-nil P
each_all P (x ∷ xs) each = All-cons P x xs each.0 (each_all P xs each.1)

-- the windows of all of n columns stand before an end
abbrev AllColumnsEnd : ℕ → Layout → ℕ → Entry → Type 0
AllColumnsEnd end layout n entry = All (IsBefore end) (entry_windows layout (window (λ (k : ℕ). k) 0 n) entry)

windows_all : (end : ℕ) (layout : Layout) (n : ℕ) (entries : List Entry)
    → Each (λ (entry : Entry). Before end (entry_windows layout (window (λ (k : ℕ). k) 0 n) entry)) entries
    → All (AllColumnsEnd end layout n) entries
windows_all end layout n [] each = All-nil (AllColumnsEnd end layout n)
windows_all end layout n (entry ∷ entries) each =
    All-cons (AllColumnsEnd end layout n) entry entries
    (each_all (IsBefore end) (entry_windows layout (window (λ (k : ℕ). k) 0 n) entry) each.0) (windows_all end layout n entries each.1)

-- ---- frames

-- metadata that stands before an end stands before a later one, also where the bytes are others from the end on
frame_later : (end later : ℕ) (bytes new : List ℕ) (place : ℕ) (metadata : List ℕ) (next : ℕ) → end ≤ later → take end new ≡ take end bytes
    → frame_at (take end bytes) place ≡ Some (metadata_then metadata next)
    → frame_at (take later new) place ≡ Some (metadata_then metadata next)
frame_later end later bytes new place metadata next inside same e =
    let whole : take later new ≡ take end bytes ++ drop end (take later new) =
    sym (take-append-drop end (take later new))
    ∙ ap (λ (front : List ℕ). front ++ drop end (take later new)) (take-take end later new inside ∙ same) in
    ap (λ (them : List ℕ). frame_at them place) whole ∙ (frame_more (take end bytes) (drop end (take later new)) place metadata next e).0

-- and so in all bytes
frame_whole : (end : ℕ) (bytes : List ℕ) (place : ℕ) (metadata : List ℕ) (next : ℕ)
    → frame_at (take end bytes) place ≡ Some (metadata_then metadata next) → frame_at bytes place ≡ Some (metadata_then metadata next)
frame_whole end bytes place metadata next e =
    ap (λ (them : List ℕ). frame_at them place) (sym (take-append-drop end bytes))
    ∙ (frame_more (take end bytes) (drop end bytes) place metadata next e).0

-- ---- messages that state their ends

messages_same : (end : ℕ) (bytes : List ℕ) (blocks : List read.Block) (entries : List Entry) → EntriesEnd end bytes blocks entries
    → Each (SameMessage end bytes) blocks
messages_same end bytes [] [] ends = tt
messages_same end bytes [] (entry ∷ entries) ends = absurd ends
messages_same end bytes (block ∷ blocks) [] ends = absurd ends
messages_same end bytes (block ∷ blocks) (entry ∷ entries) ends =
    let first = ends.0 in (
      first.frame ∙ sym (frame_whole end bytes block.offset first.metadata first.next first.frame),
      messages_same end bytes blocks entries ends.1,
    )

messages_state : (end : ℕ) (bytes : List ℕ) (blocks : List read.Block) (entries : List Entry) → EntriesEnd end bytes blocks entries
    → Each (StatesEnd end) entries
messages_state end bytes [] [] ends = tt
messages_state end bytes [] (entry ∷ entries) ends = absurd ends
messages_state end bytes (block ∷ blocks) [] ends = absurd ends
messages_state end bytes (block ∷ blocks) (entry ∷ entries) ends = (ends.0.buffers, messages_state end bytes blocks entries ends.1)

-- what is read of a file stands before the end that its messages state
pub stands_before : (bytes : List ℕ) (base : Base) → IsBase bytes base → (table : Table) → table_of file bytes ≡ Some table
    → MessagesEnd (base_end base) bytes → StandsBefore (base_end base) bytes
stands_before bytes base is table e ends =
    let end = base_end base in
    let found = gives bytes base is table e in
    let contents : Contents = found.0 in
    let layout = layout_of contents.schema in
    let parts = contents_are bytes base is contents found.1 in
    let same : ends.footer ≡ is.footer = same_value ends.footer is.footer (sym ends.has_footer ∙ is.has_footer) in
    let values : ends.values ≡ is.entries = same_value ends.values is.entries
    (sym ends.has_values ∙ ap (λ (f : Footer). entries_at is_dictionary bytes f.dictionaries) same ∙ is.has_entries) in
    let columns : ends.columns ≡ parts.0 = same_value ends.columns parts.0
    (sym ends.has_columns ∙ ap (λ (f : Footer). entries_at is_record_batch bytes f.record_batches) same ∙ parts.1) in
    let all : ends.values ++ ends.columns ≡ contents.entries =
    ap (λ (them : List Entry). them ++ ends.columns) values ∙ ap (λ (them : List Entry). is.entries ++ them) columns
    ∙ ap (λ (c : Contents). c.entries) parts.2 in
    let state : Each (StatesEnd end) contents.entries = subst (Each (StatesEnd end)) all (each_more (StatesEnd end) ends.values ends.columns
    (messages_state end bytes ends.footer.dictionaries ends.values ends.values_end)
    (messages_state end bytes ends.footer.record_batches ends.columns ends.columns_end)) in
    let windows : Each (ColumnsEnd end layout) contents.entries =
    entries_before end layout [] contents.entries found.2.old state found.2.reads in
    record {
      footer = ends.footer;
      has_footer = ends.has_footer;
      messages = each_all (SameMessage end bytes) (ends.footer.dictionaries ++ ends.footer.record_batches)
          (each_more (SameMessage end bytes) ends.footer.dictionaries ends.footer.record_batches
          (messages_same end bytes ends.footer.dictionaries ends.values ends.values_end)
          (messages_same end bytes ends.footer.record_batches ends.columns ends.columns_end));
      contents = contents;
      holds = found.1;
      windows = subst (λ (n : ℕ). All (AllColumnsEnd end layout n) contents.entries) (sym (count_same contents.schema.schema))
          (windows_all end layout (length layout.fields) contents.entries windows);
    }

-- ---- ends of blocks

pub end_front : (some others : List WrittenBlock) → greatest_end some ≤ greatest_end (some ++ others)
end_front [] others = omega arith
end_front (block ∷ some) others =
    let later = greatest_end (some ++ others) in
    max-le (le-max_left (block_end block) later) (omega (arith, end_front some others, le-max_right (block_end block) later))

pub end_back : (some others : List WrittenBlock) → greatest_end others ≤ greatest_end (some ++ others)
end_back [] others = omega arith
end_back (block ∷ some) others =
    omega (arith, end_back some others, le-max_right (block_end block) (greatest_end (some ++ others)))

pub end_both : (some others : List WrittenBlock) (end : ℕ) → greatest_end some ≤ end → greatest_end others ≤ end → greatest_end (some ++ others) ≤ end
end_both [] others end h k = k
end_both (block ∷ some) others end h k =
    let first : block_end block ≤ end = omega (arith, h, le-max_left (block_end block) (greatest_end some)) in
    let rest : greatest_end some ≤ end = omega (arith, h, le-max_right (block_end block) (greatest_end some)) in
    max-le first (end_both some others end rest k)

pub kept_read : (blocks : List WrittenBlock) → map kept_block (map block_read blocks) ≡ blocks
kept_read [] = refl
kept_read (block ∷ blocks) = ap (λ (them : List WrittenBlock). block ∷ them) (kept_read blocks)

-- ---- messages at blocks

buffers_later : (end later origin : ℕ) (buffers : List Buffer) → end ≤ later → BuffersEnd end origin buffers → BuffersEnd later origin buffers
buffers_later end later origin buffers inside ends k buffer offset stated at is size =
    omega (arith, inside, ends k buffer offset stated at is size)

header_later : (end later origin : ℕ) (metadata : List ℕ) (header : message.Header) → end ≤ later → HeaderEnds end origin metadata header
    → HeaderEnds later origin metadata header
header_later end later origin metadata (message.schema table) inside ends = tt
header_later end later origin metadata (message.dictionary_batch table) inside ends =
    λ batch e values buffers at found. buffers_later end later origin buffers inside (ends batch e values buffers at found)
header_later end later origin metadata (message.record_batch table) inside ends =
    λ batch buffers at found. buffers_later end later origin buffers inside (ends batch buffers at found)

entry_later : (end later : ℕ) (bytes new : List ℕ) (block : read.Block) (entry : Entry) → end ≤ later → take end new ≡ take end bytes
    → EntryEnds end bytes block entry → EntryEnds later new block entry
entry_later end later bytes new block entry inside same ends = record {
  metadata = ends.metadata;
  next = ends.next;
  frame = frame_later end later bytes new block.offset ends.metadata ends.next inside same ends.frame;
  buffers = header_later end later entry.origin entry.metadata entry.header inside ends.buffers;
}

-- messages that end with their blocks end before each end that the blocks end before
pub entries_end : (end : ℕ) (bytes : List ℕ) (blocks : List WrittenBlock) (entries : List Entry) → greatest_end blocks ≤ end
    → AreEach (EndsWith bytes) blocks entries → EntriesEnd end bytes (map block_read blocks) entries
entries_end end bytes [] [] inside are = tt
entries_end end bytes [] (entry ∷ entries) inside are = absurd are
entries_end end bytes (block ∷ blocks) [] inside are = absurd are
entries_end end bytes (block ∷ blocks) (entry ∷ entries) inside are =
    let first : block_end block ≤ end = omega (arith, inside, le-max_left (block_end block) (greatest_end blocks)) in
    let rest : greatest_end blocks ≤ end = omega (arith, inside, le-max_right (block_end block) (greatest_end blocks)) in
    (entry_later (block_end block) end bytes bytes (block_read block) entry first refl are.0, entries_end end bytes blocks entries rest are.1)

-- messages before an end stand before a later one where the bytes up to the end stand before others
pub entries_later : (end later : ℕ) (bytes new : List ℕ) (blocks : List read.Block) (entries : List Entry) → end ≤ later
    → take end new ≡ take end bytes → EntriesEnd end bytes blocks entries
    → EntriesEnd later new (map again blocks) (map (moved_to new) entries)
entries_later end later bytes new [] [] inside same ends = tt
entries_later end later bytes new [] (entry ∷ entries) inside same ends = absurd ends
entries_later end later bytes new (block ∷ blocks) [] inside same ends = absurd ends
entries_later end later bytes new (block ∷ blocks) (entry ∷ entries) inside same ends =
    let first = entry_later end later bytes new block entry inside same ends.0 in (
      record { metadata = first.metadata; next = first.next; frame = first.frame; buffers = first.buffers },
      entries_later end later bytes new blocks entries inside same ends.1,
    )

pub entries_join_end : (end : ℕ) (bytes : List ℕ) (some others : List read.Block) (first behind : List Entry)
    → EntriesEnd end bytes some first → EntriesEnd end bytes others behind → EntriesEnd end bytes (some ++ others) (first ++ behind)
entries_join_end end bytes [] others [] behind h k = k
entries_join_end end bytes [] others (entry ∷ first) behind h k = absurd h
entries_join_end end bytes (block ∷ some) others [] behind h k = absurd h
entries_join_end end bytes (block ∷ some) others (entry ∷ first) behind h k =
    (h.0, entries_join_end end bytes some others first behind h.1 k)
