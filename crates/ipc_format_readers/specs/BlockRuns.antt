-- How the batches of a file are those of its blocks, one after another (Arrow IPC, "IPC File Format").
use Rattle.std.specs.Prelude.{◌≡◌, ℕ, List, [], ◌∷◌, Option, Some, None}
use Rattle.ipc_format_chunk_writing.specs.columns.Slots.{Slot}
use Rattle.ipc_format_chunk_writing.specs.columns.Tables.{rows_of_columns}
use Rattle.ipc_format_chunk_writing.specs.flatbuffers.Reading.{◌>>=◌}
use Rattle.ipc_format_chunk_writing.specs.grammar.Columns.{Dictionary}
use Rattle.ipc_format_chunk_writing.specs.grammar.Dictionaries.{Layout}
use Rattle.ipc_format_chunk_writing.specs.grammar.Files.{Block}
use Rattle.ipc_format_chunk_writing.specs.grammar.Tables.{batches_in, chosen_batches, contents_of, file, layout_of, left_of}
use Rattle.ipc_format_readers.specs.FileReads.{asked_at, dictionaries_before}
use Rattle.ipc_format_readers.specs.FileStarts.{Start, start_in}

-- the columns that are asked for of the batches at some blocks, each of as many rows as those before it leave of the limit
abbrev pub batches_at_blocks : Option (List ℕ) → Layout → List Dictionary → Option ℕ → List Block → List ℕ → Option (List (List (List Slot)))
batches_at_blocks asked layout standing limit [] bytes = Some []
batches_at_blocks asked layout standing limit (block ∷ blocks) bytes = do
  columns ← asked_at asked layout standing limit block bytes
  others ← batches_at_blocks asked layout standing (left_of limit (rows_of_columns columns)) blocks bytes
  Some (columns ∷ others)

-- the same of the batches of a file, under its dictionaries
abbrev pub batches_by_blocks : Option (List ℕ) → Option ℕ → Start → List ℕ → Option (List (List (List Slot)))
batches_by_blocks asked limit start bytes = do
  standing ← dictionaries_before (layout_of start.schema) bytes start.dictionaries start.record_batches
  batches_at_blocks asked (layout_of start.schema) standing limit start.record_batches bytes

-- the chosen columns of a file's batches
abbrev pub chosen_of_file : List ℕ → Option ℕ → List ℕ → Option (List (List (List Slot)))
chosen_of_file columns limit bytes = do
  contents ← contents_of file bytes
  chosen_batches (layout_of contents.schema) columns [] limit contents.entries

-- The batches that the format gives of a file are those at its blocks, one after another; and so are those of chosen columns under a limit.
abbrev pub FilesAreReadByBlocks : Type 0
FilesAreReadByBlocks = (bytes : List ℕ) (start : Start) → start_in bytes ≡ Some start
    → (batches_in file bytes ≡ batches_by_blocks None None start bytes)
    × ((columns : List ℕ) (limit : Option ℕ) → chosen_of_file columns limit bytes ≡ batches_by_blocks (Some columns) limit start bytes)
