-- What a file reads as to which batches of stored columns were appended (Arrow IPC, "IPC File Format"; docs/FORMAT.md, "Appending").
use Rattle.std.specs.Prelude.{◌≡◌, ℕ, ◌+◌, ◌<◌, ◌≤◌, ◌^◌, List, [], ◌∷◌, ◌++◌, length, take, Option, Some}
use Rattle.std.specs.List.{All, flat_map}
use Rattle.ipc_format_laws.specs.columnar_memory.declared.Schema.{Schema}
use Rattle.ipc_format_laws.specs.flatbuffers.Reading.{◌>>=◌}
use Rattle.ipc_format_laws.specs.columns.Slots.{window}
use Rattle.ipc_format_laws.specs.columns.StoredColumns.{Column}
use Rattle.ipc_format_laws.specs.columns.Tables.{Table, rows_of_batches}
use Rattle.ipc_format_laws.specs.grammar.Dictionaries.{Entry}
use Rattle.ipc_format_laws.specs.grammar.Framing.{frame_at}
use Rattle.ipc_format_laws.specs.grammar.Files.{Block, Footer, footer_in}
use Rattle.ipc_format_laws.specs.grammar.Tables.{Contents, file, contents_of, layout_of, table_of}
use Rattle.ipc_format_laws.specs.grammar.Schemas.{IdsList}
use Rattle.ipc_format_laws.specs.grammar.Windows.{Window, entry_windows}
use Rattle.ipc_format_laws.specs.grammar.WrittenFiles.{written_file}
use Rattle.ipc_format_laws.specs.grammar.AppendedFiles.{Base, base_of, base_end, appended}
use Rattle.ipc_format_laws.specs.Schemas.{HasTexts}
use Rattle.ipc_format_reading_laws.specs.StatedBodies.{MessagesEnd}
use Rattle.ipc_format_reading_laws.specs.StoredTables.{stored_chunks, read_batches, HoldsBatches}

-- the numbers of a schema's columns
abbrev pub all_columns : Contents → List ℕ
all_columns contents = window (λ k. k) 0 (length contents.schema.schema.fields)

-- every byte that is taken of a file's messages stands before an end: their metadata, and the windows of all columns and dictionaries
pub record StandsBefore (end : ℕ) (bytes : List ℕ) : Type 0 where
  pub footer : Footer
  pub has_footer : footer_in bytes ≡ Some footer
  pub messages : All (λ (block : Block). frame_at (take end bytes) block.offset ≡ frame_at bytes block.offset)
      (footer.dictionaries ++ footer.record_batches)
  pub contents : Contents
  pub holds : contents_of file bytes ≡ Some contents
  pub windows : All (λ (entry : Entry). All (λ (w : Window). w.start + w.size ≤ end)
      (entry_windows (layout_of contents.schema) (all_columns contents) entry)) contents.entries

-- A file to which batches were appended reads as the old table joined with their rows, where the old file reads, nothing of it is taken
-- behind its last message, and the rows of both fit 64 bits.
abbrev pub AppendedFilesReadBack : Type 0
AppendedFilesReadBack = (bytes new : List ℕ) (base : Base) (batches : List (List Column)) (table : Table) → base_of bytes ≡ Some base
    → StandsBefore (base_end base) bytes → table_of file bytes ≡ Some table → appended bytes (stored_chunks batches) ≡ Some new
    → length (table.rows ++ rows_of_batches (read_batches batches)) < 2 ^ 64
    → table_of file new ≡ Some (record table { rows = table.rows ++ rows_of_batches (read_batches batches) })

-- Where the messages of a file and the buffers that they state end before an end, as their metadata tells it, what is taken of the file
-- stands before that end.
abbrev pub StatedEndsAreEnough : Type 0
StatedEndsAreEnough = (bytes : List ℕ) (base : Base) (table : Table) → base_of bytes ≡ Some base → table_of file bytes ≡ Some table
    → MessagesEnd (base_end base) bytes → StandsBefore (base_end base) bytes

-- ---- files that were written here

-- a file to which batches were appended in turns, one after another
unfoldable pub appended_in_turns : List ℕ → List (List (List Column)) → Option (List ℕ)
appended_in_turns bytes [] = Some bytes
appended_in_turns bytes (batches ∷ turns) = do
  new ← appended bytes (stored_chunks batches)
  appended_in_turns new turns

-- the batches of some turns
abbrev pub all_turns : List (List (List Column)) → List (List Column)
all_turns turns = flat_map (λ (batches : List (List Column)). batches) turns

-- A file that was written, and to which batches were then appended in any number of turns, holds the batches of all turns, one after another,
-- where names and metadata are texts and the rows fit 64 bits.
abbrev pub GrownFilesReadBack : Type 0
GrownFilesReadBack = (schema : Schema) (below : IdsList) (batches : List (List Column)) (turns : List (List (List Column)))
    (bytes new : List ℕ) → written_file schema below (stored_chunks batches) ≡ Some bytes → HasTexts schema
    → appended_in_turns bytes turns ≡ Some new → length (rows_of_batches (read_batches (batches ++ all_turns turns))) < 2 ^ 64
    → HoldsBatches file new schema (read_batches (batches ++ all_turns turns))
