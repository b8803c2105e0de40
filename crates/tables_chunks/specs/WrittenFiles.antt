-- The file that is written of a table, what it reads as, and what a call that writes it leaves behind what was there (Arrow IPC, "IPC File
-- Format"; File.fbs).
use Rattle.std.specs.Prelude.{◌≡◌, ◌⊎◌, ℕ, ℤ, ◌≤◌, Bool, true, false, List, [], ◌∷◌, ◌++◌, length, map, Option, Some, Result, Ok, Err}
use Rattle.std.specs.Io.KnownBytes.{Appends}
use Rattle.std.specs.declared.alloc.Global.{Global}
use Rattle.std.specs.declared.vec.Vec.{Vec}
use Rattle.ipc_format.specs.columnar_memory.declared.Error.{Error}
use Rattle.ipc_format.specs.columnar_memory.declared.Error.TheVariants as errors
use Rattle.ipc_format.specs.columnar_memory.declared.Schema.{Schema}
use Rattle.ipc_format.specs.columns.Slots.{Slot}
use Rattle.ipc_format.specs.columns.StoredColumns.{Column, slots}
use Rattle.ipc_format.specs.columns.Tables.{rows_of_batches}
use Rattle.ipc_format.specs.grammar.Limits.{file_limit}
use Rattle.ipc_format.specs.BlockPlacing.{joined_blocks, place_behind, placed_blocks}
use Rattle.ipc_format.specs.EncodedChunks.{is_batch_within}
use Rattle.ipc_format.specs.Ends.{has_room, start_bytes}
use Rattle.ipc_format.specs.FileRuns.{bytes_so_far, first_place}
use Rattle.ipc_format.specs.FooterWriting.{blocks_view}
use Rattle.ipc_format.specs.GivenDictionaries.{Given, written_after}
use Rattle.ipc_format.specs.Tables.{file, batches_in, table_of}
use Rattle.ipc_format.specs.Tracking.{Tells}
use Rattle.ipc_format.specs.WrittenFiles.{Blocks, all_given, batch_blocks, file_bytes, fits_file_limit, footer_bytes}
use Rattle.ipc_format.specs.WrittenFiles.{footer_object, is_footer, none_replaced}
use Rattle.ipc_format.specs.WrittenMessages.{Written, fits_limit, schema_written}
use Rattle.ipc_format.specs.WrittenStreams.{Batch, batch_messages, batch_of_stored, bytes_of_messages, messages_after}
use Rattle.ipc_format.specs.flatbuffers.Objects.{laid}
use Rattle.ipc_format.specs.streams.Devices.{AppendsBeginning, IsRefusedWrite}
use Rattle.tables_chunks.specs.Refusals.{StopsAtSchema}
use Rattle.tables_chunks.specs.WrittenTables.{are_within, is_table_within, table_ids, told_after, written_batches}
use Rattle.tables_chunks.specs.declared.fault.Fault.{Fault}
use Rattle.tables_chunks.specs.declared.fault.Fault.TheVariants as faults
use Rattle.tables_chunks.specs.declared.write_file.Places.{Places}

-- the file of a table
abbrev pub table_file : Schema → List (List Column) → List ℕ
table_file schema batches = file_bytes schema (table_ids schema) (written_batches schema batches)

-- its footer
abbrev pub table_footer : Schema → List (List Column) → List ℕ
table_footer schema batches = footer_bytes schema (table_ids schema) (written_batches schema batches)

-- what stands of it before further batches: its start, the schema's message, and the messages of some batches
abbrev pub file_so_far : Schema → List (List Column) → List ℕ
file_so_far schema batches = bytes_so_far schema (table_ids schema) (written_batches schema batches)

-- The messages of a table's file are within their limits, and the nodes in them; no dictionary is replaced; and the footer and the file are within
-- their limits.
pub record IsTableFile (schema : Schema) (batches : List (List Column)) : Type 0 where
  pub within : is_table_within schema batches ≡ true
  pub once : none_replaced [] (all_given (written_batches schema batches)) ≡ true
  pub footer : is_footer (table_footer schema batches) ≡ true
  pub room : fits_file_limit (table_file schema batches) ≡ true

-- ---- what it reads as

-- bytes are a file of these batches, and its table has their rows under the schema
pub record ReadsAsFile (bytes : List ℕ) (schema : Schema) (batches : List (List (List Slot))) : Type 0 where
  pub in_batches : batches_in file bytes ≡ Some batches
  pub as_table : table_of file bytes ≡ Some (record { schema = schema; rows = rows_of_batches batches })

-- bytes read as the file of a table, batch by batch
abbrev pub ReadAsTableFile : List ℕ → Schema → List (List Column) → Type 0
ReadAsTableFile bytes schema batches = ReadsAsFile bytes schema (map (λ (batch : List Column). map slots batch) batches)

-- ---- refusals

-- why a file isn't written: something is too long, a dictionary would replace another, the device refused, or memory ran out
abbrev pub IsFileRefusal : Type 0 → Type 0 → Error → Type 0
IsFileRefusal too_long replaces errors.Overflow = too_long
IsFileRefusal too_long replaces (errors.InvalidArgumentError what) = replaces
IsFileRefusal too_long replaces errors.OutOfMemory = Unit {0}
IsFileRefusal too_long replaces (errors.Io what) = Unit {0}
IsFileRefusal too_long replaces _ = ⊥

-- A message of a batch, or a node in it, is past its limit, where some dictionaries are told and so many bytes stand before it; or the file would
-- be past its own with these messages.
abbrev pub IsFilePast : List Given → Batch → ℕ → Type 0
IsFilePast told batch place = (is_batch_within told batch ≡ false) ⊎ (file_limit ≤ place_behind place (batch_messages told batch))

-- a dictionary of a batch differs from the one that was written under its id
abbrev pub ReplacesOne : List Given → Batch → ℕ → Type 0
ReplacesOne told batch place = none_replaced told batch.given ≡ false

-- Exactly the start, the schema's message and the messages of the batches before some batch were appended, of which something holds. All messages
-- of a batch are encoded before the first of them is written.
pub record StopsAtFileBatch (Why : List Given → Batch → ℕ → Type 0) (old new : Option (List ℕ)) (schema : Schema) (batches : List (List Column))
    : Type 0 where
  pub before : List (List Column)
  pub batch : List Column
  pub after : List (List Column)
  pub split : batches ≡ before ++ batch ∷ after
  pub within : is_table_within schema before ≡ true
  pub why : Why (told_after [] (written_batches schema before)) (batch_of_stored (table_ids schema) batch) (length (file_so_far schema before))
  pub written : Appends old new (file_so_far schema before)

-- the footer is past its limit, or the file is with it, and exactly the start and all messages were appended
pub record StopsAtFooter (old new : Option (List ℕ)) (schema : Schema) (batches : List (List Column)) : Type 0 where
  pub past : (is_footer (table_footer schema batches) ≡ false) ⊎ (fits_file_limit (table_file schema batches) ≡ false)
  pub written : Appends old new (file_so_far schema batches)

abbrev pub StopsAtLongFile : Option (List ℕ) → Option (List ℕ) → Schema → List (List Column) → Type 0
StopsAtLongFile old new schema batches =
    StopsAtSchema old new schema ⊎ (StopsAtFileBatch IsFilePast old new schema batches ⊎ StopsAtFooter old new schema batches)

abbrev pub StopsAtReplaced : Option (List ℕ) → Option (List ℕ) → Schema → List (List Column) → Type 0
StopsAtReplaced old new schema batches = StopsAtFileBatch ReplacesOne old new schema batches

-- ---- the whole

-- the file of a table was appended, and all of it is within its limits; or a beginning of it was appended
abbrev pub PutsFile : Result (Unit {0}) Error → Option (List ℕ) → Option (List ℕ) → Schema → List (List Column) → Type 0
PutsFile (Ok _) old new schema batches = IsTableFile schema batches × Appends old new (table_file schema batches)
PutsFile (Err error) old new schema batches = AppendsBeginning old new (table_file schema batches)
    × IsFileRefusal (StopsAtLongFile old new schema batches) (StopsAtReplaced old new schema batches) error

-- The same of a device that is memory alone or is not, had failed so often before the call, and so often after it: `Io` says that it failed in the
-- call, `OutOfSpec` that it took nothing or refused without a failure, or that its count fell, and `OutOfMemory` that it or the call had no memory.
-- Memory says neither of the first two.
abbrev pub IsFileError : Type 0 → Type 0 → Bool → ℕ → ℕ → Error → Type 0
IsFileError too_long replaces in_memory before after errors.Overflow = too_long
IsFileError too_long replaces in_memory before after (errors.InvalidArgumentError what) = replaces
IsFileError too_long replaces in_memory before after errors.OutOfMemory = Unit {0}
IsFileError too_long replaces in_memory before after (errors.Io what) = IsRefusedWrite in_memory before after (errors.Io what)
IsFileError too_long replaces in_memory before after (errors.OutOfSpec what) = IsRefusedWrite in_memory before after (errors.OutOfSpec what)
IsFileError too_long replaces in_memory before after _ = ⊥

abbrev pub WritesWhole : Result (Unit {0}) Error → Schema → List (List Column) → Bool → ℕ → ℕ → Option (List ℕ) → Option (List ℕ) → Type 0
WritesWhole (Ok _) schema batches in_memory before after old new =
    IsTableFile schema batches × Appends old new (table_file schema batches) × (after ≡ before)
WritesWhole (Err error) schema batches in_memory before after old new = AppendsBeginning old new (table_file schema batches)
    × IsFileError (StopsAtLongFile old new schema batches) (StopsAtReplaced old new schema batches) in_memory before after error

-- `Memory` is want of memory, here or in the device; every other error is `Ipc`
abbrev pub IsFileFault : Type 0 → Type 0 → Bool → ℕ → ℕ → Fault → Type 0
IsFileFault too_long replaces in_memory before after faults.Memory = Unit {0}
IsFileFault too_long replaces in_memory before after (faults.Ipc errors.OutOfMemory) = ⊥
IsFileFault too_long replaces in_memory before after (faults.Ipc error) = IsFileError too_long replaces in_memory before after error
IsFileFault too_long replaces in_memory before after _ = ⊥

-- What was written of a table's file to a device, by whether it is memory alone, how often it had failed before the call and after it, and what it
-- held. Where the call succeeds, all of the file, which is within its limits, and the device has failed as often as before; where it is refused, a
-- beginning of it.
abbrev pub WritesFile : Result (Unit {0}) Fault → Schema → List (List Column) → Bool → ℕ → ℕ → Option (List ℕ) → Option (List ℕ) → Type 0
WritesFile (Ok _) schema batches in_memory before after old new =
    IsTableFile schema batches × Appends old new (table_file schema batches) × (after ≡ before)
WritesFile (Err fault) schema batches in_memory before after old new = AppendsBeginning old new (table_file schema batches)
    × IsFileFault (StopsAtLongFile old new schema batches) (StopsAtReplaced old new schema batches) in_memory before after fault

-- ---- steps

-- where the messages of a file stand, and where the next one does
pub record FilePlaces : Type 0 where
  pub next : ℕ
  pub blocks : Blocks

abbrev pub places_of : Places → FilePlaces
places_of places = record { next = places.next; blocks = blocks_view places.dictionaries.items places.record_batches.items }

-- the messages of dictionaries, and of a batch behind them, are placed; or the file would be too long; or memory ran out
abbrev pub PlacesMessages : FilePlaces → FilePlaces → List Written → Written → Result (Unit {0}) Error → Type 0
PlacesMessages old new dictionaries own (Ok _) = (new.next ≡ place_behind old.next (dictionaries ++ own ∷ []))
    × (new.blocks ≡ joined_blocks old.blocks (placed_blocks old.next dictionaries own))
PlacesMessages old new dictionaries own (Err errors.Overflow) = file_limit ≤ place_behind old.next (dictionaries ++ own ∷ [])
PlacesMessages old new dictionaries own (Err errors.OutOfMemory) = Unit {0}
PlacesMessages old new dictionaries own (Err _) = ⊥

-- the start and the schema's message were appended, which is within its limit; or a beginning of them was
abbrev pub PutsFileStart : Result ℕ Error → Option (List ℕ) → Option (List ℕ) → Schema → Type 0
PutsFileStart (Ok place) old new schema = (fits_limit (schema_written schema (table_ids schema)) ≡ true)
    × Appends old new (start_bytes schema (table_ids schema)) × (place ≡ first_place schema (table_ids schema))
PutsFileStart (Err error) old new schema =
    AppendsBeginning old new (start_bytes schema (table_ids schema)) × IsFileRefusal (StopsAtSchema old new schema) ⊥ error

-- the messages of a batch were appended, where some dictionaries were told, its dictionaries are told, and the messages are placed
pub record IsFilePut (old new : Option (List ℕ)) (entries : List (ℤ × Column) × Bool) (before after : FilePlaces) (told : List Given)
    (batch : Batch) : Type 0 where
  pub within : is_batch_within told batch ≡ true
  pub once : none_replaced told batch.given ≡ true
  pub written : Appends old new (bytes_of_messages (batch_messages told batch))
  pub tells : Tells entries.0 (written_after told batch.given)
  pub kind : entries.1 ≡ true
  pub next : after.next ≡ place_behind before.next (batch_messages told batch)
  pub blocks : after.blocks ≡ joined_blocks before.blocks (batch_blocks before.next told (batch ∷ []))

-- nothing was appended, for a reason
abbrev pub AppendsNone : Option (List ℕ) → Option (List ℕ) → Type 0 → Type 0
AppendsNone old new why = why × Appends old new []

abbrev pub PutsFileAfter : Result (Unit {0}) Error → Option (List ℕ) → Option (List ℕ) → List (ℤ × Column) × Bool → FilePlaces → FilePlaces
    → List Given → Batch → Type 0
PutsFileAfter (Ok _) old new entries before after told batch = IsFilePut old new entries before after told batch
PutsFileAfter (Err error) old new entries before after told batch = AppendsBeginning old new (bytes_of_messages (batch_messages told batch))
    × IsFileRefusal (AppendsNone old new (IsFilePast told batch before.next)) (AppendsNone old new (ReplacesOne told batch before.next)) error

-- the same wherever the tracker, which replaces no dictionary, tells what was told
abbrev pub PutsFileBatch : Result (Unit {0}) Error → Option (List ℕ) → Option (List ℕ) → List (ℤ × Column) × Bool → List (ℤ × Column) × Bool
    → FilePlaces → FilePlaces → Batch → Type 0
PutsFileBatch result old new entries now before after batch =
    (told : List Given) → Tells entries.0 told → entries.1 ≡ true → PutsFileAfter result old new now before after told batch

-- the messages of batches were appended, and are placed from a place on
pub record AreFilePut (first : ℕ) (old new : Option (List ℕ)) (places : FilePlaces) (batches : List Batch) : Type 0 where
  pub within : are_within [] batches ≡ true
  pub once : none_replaced [] (all_given batches) ≡ true
  pub written : Appends old new (bytes_of_messages (messages_after [] batches))
  pub next : places.next ≡ place_behind first (messages_after [] batches)
  pub blocks : places.blocks ≡ batch_blocks first [] batches

-- exactly the messages of the batches before some batch were appended, of which something holds
pub record StopsAmongFile (Why : List Given → Batch → ℕ → Type 0) (first : ℕ) (old new : Option (List ℕ)) (schema : Schema)
    (batches : List (List Column)) : Type 0 where
  pub before : List (List Column)
  pub batch : List Column
  pub after : List (List Column)
  pub split : batches ≡ before ++ batch ∷ after
  pub within : are_within [] (written_batches schema before) ≡ true
  pub why : Why (told_after [] (written_batches schema before)) (batch_of_stored (table_ids schema) batch)
      (place_behind first (messages_after [] (written_batches schema before)))
  pub written : Appends old new (bytes_of_messages (messages_after [] (written_batches schema before)))

-- the messages of batches were appended, from a place on; or a beginning of them was
abbrev pub PutsFileBatches : Result Places Error → ℕ → Option (List ℕ) → Option (List ℕ) → Schema → List (List Column) → Type 0
PutsFileBatches (Ok places) first old new schema batches = AreFilePut first old new (places_of places) (written_batches schema batches)
PutsFileBatches (Err error) first old new schema batches =
    AppendsBeginning old new (bytes_of_messages (messages_after [] (written_batches schema batches)))
    × IsFileRefusal (StopsAmongFile IsFilePast first old new schema batches) (StopsAmongFile ReplacesOne first old new schema batches) error

-- the footer of placed messages, with which the file is within its limit; or it is too long, or the file with it; or memory ran out
abbrev pub placed_footer : Schema → FilePlaces → List ℕ
placed_footer schema places = laid (footer_object schema (table_ids schema) places.blocks)

abbrev pub GivesTableFooter : Result (Vec ℕ Global) Error → Schema → FilePlaces → Type 0
GivesTableFooter (Ok footer) schema places = (footer.items ≡ placed_footer schema places) × (is_footer footer.items ≡ true)
    × (has_room places.next footer.items ≡ true)
GivesTableFooter (Err errors.Overflow) schema places =
    (is_footer (placed_footer schema places) ≡ false) ⊎ (has_room places.next (placed_footer schema places) ≡ false)
GivesTableFooter (Err errors.OutOfMemory) schema places = Unit {0}
GivesTableFooter (Err _) schema places = ⊥
