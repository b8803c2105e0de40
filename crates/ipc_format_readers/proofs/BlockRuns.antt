-- The batches of a file are those of its blocks, one after another.
use Rattle.std.proofs.Common.{◌≡◌, ◌∙◌, ℕ, List, [], ◌∷◌, refl, sym, ap}
use Rattle.std.specs.Prelude.{Option, Some, None}
use Rattle.ipc_format_chunk_writing.specs.Readable.{HasArrays, SchemasHaveArrays, all_of}
use Rattle.ipc_format_chunk_writing.specs.columns.Slots.{Slot}
use Rattle.ipc_format_chunk_writing.specs.flatbuffers.Reading.{◌>>=◌}
use Rattle.ipc_format_chunk_writing.specs.grammar.Columns.{Dictionary}
use Rattle.ipc_format_chunk_writing.specs.grammar.Dictionaries.{Entry, Layout, dictionary_in}
use Rattle.ipc_format_chunk_writing.specs.grammar.Files.{Block, entry_at, file_entries, is_record_batch}
use Rattle.ipc_format_chunk_writing.specs.grammar.Messages.{Header, schema, dictionary_batch, record_batch}
use Rattle.ipc_format_chunk_writing.specs.grammar.Tables.{Contents, batches_of, batches_with, chosen_batch_in, chosen_batches}
use Rattle.ipc_format_chunk_writing.specs.grammar.Tables.{chosen_batches_with, file, layout_of}
use Rattle.ipc_format_readers.proofs.Binding.{bind_assoc, bind_same}
use Rattle.ipc_format_readers.specs.BlockRuns.{FilesAreReadByBlocks, batches_at_blocks, batches_by_blocks, chosen_of_file}
use Rattle.ipc_format_readers.specs.FileReads.{asked_at, asked_by, dictionaries_before}
use Rattle.ipc_format_readers.specs.FileStarts.{Start, start_in}
use Rattle.ipc_format_readers.proofs.EntryLists.{chosen_there}
use Rattle.ipc_format_readers.proofs.Starts.{batches_of_start, contents_are, contents_with, footer_of}

abbrev Batches : Type 0
Batches = List (List (List Slot))

-- ---- all columns are the choice of all

all_with : (layout : Layout) (standing : List Dictionary) (entry : Entry) (rest : List Dictionary → Option Batches)
    (rest_chosen : List Dictionary → Option ℕ → Option Batches) (header : Header) → HasArrays layout
    → ((now : List Dictionary) → rest now ≡ rest_chosen now None)
    → batches_with layout standing entry rest header
    ≡ chosen_batches_with layout standing entry None (all_of layout.fields) rest_chosen header
all_with layout standing entry rest rest_chosen (schema table) have same = refl
all_with layout standing entry rest rest_chosen (dictionary_batch table) have same =
    bind_same (dictionary_in layout standing entry table) _ _ (λ d. same (d ∷ standing))
all_with layout standing entry rest rest_chosen (record_batch table) have same =
    ap (λ (found : Option (List (List Slot))). found >>= (λ columns. rest standing >>= (λ batches. Some (columns ∷ batches))))
    (sym (have.batches standing entry table) ∙ have.limited standing None entry table)
    ∙ bind_same (chosen_batch_in layout standing entry None (all_of layout.fields) table) _ _ (λ columns.
    ap (λ (later : Option Batches). later >>= (λ batches. Some (columns ∷ batches))) (same standing))

all_chosen : (layout : Layout) → HasArrays layout → (entries : List Entry) (standing : List Dictionary)
    → batches_of layout standing entries ≡ chosen_batches layout (all_of layout.fields) standing None entries
all_chosen layout have [] standing = refl
all_chosen layout have (entry ∷ others) standing =
    all_with layout standing entry (λ now. batches_of layout now others)
    (λ now left. chosen_batches layout (all_of layout.fields) now left others) entry.header have (all_chosen layout have others)

asked_all : (layout : Layout) (standing : List Dictionary) (limit : Option ℕ) (entry : Entry) (header : Header)
    → asked_by (Some (all_of layout.fields)) layout standing limit entry header ≡ asked_by None layout standing limit entry header
asked_all layout standing limit entry (schema table) = refl
asked_all layout standing limit entry (dictionary_batch table) = refl
asked_all layout standing limit entry (record_batch table) = refl

blocks_all : (layout : Layout) (bytes : List ℕ) (standing : List Dictionary) (blocks : List Block)
    → batches_at_blocks (Some (all_of layout.fields)) layout standing None blocks bytes
    ≡ batches_at_blocks None layout standing None blocks bytes
blocks_all layout bytes standing [] = refl
blocks_all layout bytes standing (block ∷ blocks) =
    let later = batches_at_blocks (Some (all_of layout.fields)) layout standing None blocks bytes in
    ap (λ (found : Option (List (List Slot))). found >>= (λ columns. later >>= (λ others. Some (columns ∷ others))))
    (bind_same {A = Entry} (entry_at is_record_batch bytes block) _ _ (λ entry. asked_all layout standing None entry entry.header))
    ∙ bind_same (asked_at None layout standing None block bytes) _ _ (λ columns.
    ap (λ (rest : Option Batches). rest >>= (λ others. Some (columns ∷ others))) (blocks_all layout bytes standing blocks))

-- ---- files

all_by_blocks : (bytes : List ℕ) (start : Start) → HasArrays (layout_of start.schema)
    → (file_entries bytes start.dictionaries start.record_batches >>= (λ entries. batches_of (layout_of start.schema) [] entries))
    ≡ batches_by_blocks None None start bytes
all_by_blocks bytes start have =
    let layout = layout_of start.schema in
    bind_same {A = List Entry} (file_entries bytes start.dictionaries start.record_batches) _ _ (λ entries. all_chosen layout have entries [])
    ∙ chosen_there layout bytes (all_of layout.fields) start.dictionaries start.record_batches None
    ∙ bind_same {A = List Dictionary} (dictionaries_before layout bytes start.dictionaries start.record_batches) _ _
    (λ standing. blocks_all layout bytes standing start.record_batches)

-- the chosen columns of what a file holds
abbrev held : List ℕ → Option ℕ → Contents → Option Batches
held columns limit contents = chosen_batches (layout_of contents.schema) columns [] limit contents.entries

chosen_by_blocks : (bytes : List ℕ) (start : Start) (columns : List ℕ) (limit : Option ℕ) → start_in bytes ≡ Some start
    → chosen_of_file columns limit bytes ≡ batches_by_blocks (Some columns) limit start bytes
chosen_by_blocks bytes start columns limit e =
    ap (λ (contents : Option Contents). contents >>= held columns limit)
    (contents_are bytes ∙ ap (λ (found : Option Start). found >>= contents_with bytes) e)
    ∙ bind_assoc {A = List Entry} (file_entries bytes start.dictionaries start.record_batches)
    (λ entries. Some (record { schema = start.schema; entries = entries })) (held columns limit)
    ∙ chosen_there (layout_of start.schema) bytes columns start.dictionaries start.record_batches limit

pub files_are_read_by_blocks : SchemasHaveArrays → FilesAreReadByBlocks
files_are_read_by_blocks law bytes start e =
    let its = footer_of bytes start e in (
      batches_of_start bytes start e ∙ all_by_blocks bytes start (law its.footer.bytes its.footer.schema start.schema its.schema),
      λ columns limit. chosen_by_blocks bytes start columns limit e,
    )
