-- Batches that are encoded, and placed in a file.
use Rattle.std.proofs.Common.{◌≡◌, ◌∙◌, ℕ, true, List, [], ◌∷◌, ◌++◌, map, refl, sym, ap, subst, inl, inr}
use Rattle.std.proofs.Math.Nat.{add-zero}
use Rattle.std.specs.Prelude.{ℤ, Bool, None, Ok, Err}
use Rattle.std.specs.List.{list_all}
use Rattle.std.proofs.lemmas.List.{append-nil, same_from_push}
use Rattle.ipc_format_readers.specs.chunk_writing.Objections.{IsNotWritten}
use Rattle.ipc_format_readers.specs.chunk_writing.Streams.{EncodesBatch}
use Rattle.ipc_format_readers.specs.chunk_writing.Tracking.{Tells, form_by, told_by}
use Rattle.ipc_format_readers.specs.chunk_writing.columnar_memory.declared.Error.{Error}
use Rattle.ipc_format_readers.specs.chunk_writing.columnar_memory.declared.Error.TheVariants as errors
use Rattle.ipc_format_readers.specs.chunk_writing.columnar_memory.declared.Schema.{Schema}
use Rattle.ipc_format_readers.specs.chunk_writing.columns.StoredColumns.{Column}
use Rattle.ipc_format_readers.specs.chunk_writing.grammar.GivenDictionaries.{Given, to_write, written_after}
use Rattle.ipc_format_readers.specs.chunk_writing.grammar.Schemas.{IdsList}
use Rattle.ipc_format_readers.specs.chunk_writing.grammar.Tables.{file}
use Rattle.ipc_format_readers.specs.chunk_writing.grammar.WriterRuns.{write_bar}
use Rattle.ipc_format_readers.specs.chunk_writing.grammar.WrittenFiles.{Blocks, batch_blocks, block_of, dictionary_blocks, place_after}
use Rattle.ipc_format_readers.specs.chunk_writing.grammar.WrittenFiles.{with_dictionary, with_record_batch}
use Rattle.ipc_format_readers.specs.chunk_writing.grammar.WrittenMessages.{Written, dictionary_message, fits_limit, record_message}
use Rattle.ipc_format_readers.specs.chunk_writing.grammar.WrittenStreams.{Batch, batch_messages, batch_of_stored, stored_columns}
use Rattle.ipc_format.specs.Adding.{AddsAfter, AddsBatch, IsBehind, IsNotAdded, with_batch}
use Rattle.ipc_format.specs.FilePhases.{Progress}
use Rattle.ipc_format.specs.BlockPlacing.{IsPastLimits, IsWithinLimits, PlacesBatch, blocks_of, joined_blocks, no_blocks, place_behind}
use Rattle.ipc_format.specs.BlockPlacing.{placed_blocks}
use Rattle.ipc_format.specs.BlockPlacing.{with_messages}
use Rattle.ipc_format.proofs.FilePlaced.{place_next}

-- ---- blocks of a batch

-- the blocks of dictionaries, and then those that come of the place behind them
pub dictionaries_are : (place : ℕ) (given : List Given) (rest : ℕ → Blocks)
    → dictionary_blocks place given rest
    ≡ joined_blocks (record { dictionaries = blocks_of place (map dictionary_message given); record_batches = [] })
    (rest (place_behind place (map dictionary_message given)))
dictionaries_are place [] rest = ap rest (sym (add-zero place))
dictionaries_are place (next ∷ given) rest =
    let here = place_after place (dictionary_message next) in
    let blocks = blocks_of place (map dictionary_message (next ∷ given)) in
    ap (with_dictionary (block_of place (dictionary_message next))) (dictionaries_are here given rest)
    ∙ ap (λ (behind : ℕ). joined_blocks (record { dictionaries = blocks; record_batches = [] }) (rest behind))
    (sym (place_next place (dictionary_message next) (map dictionary_message given)))

-- the blocks of one batch
pub blocks_are : (place : ℕ) (told : List Given) (batch : Batch)
    → batch_blocks place told (batch ∷ [])
    ≡ placed_blocks place (map dictionary_message (to_write told batch.given)) (record_message batch.rows batch.columns)
blocks_are place told batch =
    let given = to_write told batch.given in
    dictionaries_are place given (λ here. with_record_batch (block_of here (record_message batch.rows batch.columns)) no_blocks)
    ∙ (λ j. record {
      dictionaries = append-nil (blocks_of place (map dictionary_message given)) j;
      record_batches = block_of (place_behind place (map dictionary_message given)) (record_message batch.rows batch.columns) ∷ [];
    })

-- so are those of its messages
pub message_blocks : (place : ℕ) (told : List Given) (batch : Batch) (messages : List Written) (own : Written)
    → messages ++ own ∷ [] ≡ batch_messages told batch
    → placed_blocks place messages own ≡ batch_blocks place told (batch ∷ [])
message_blocks place told batch messages own sent =
    let parts = same_from_push messages (map dictionary_message (to_write told batch.given)) own (record_message batch.rows batch.columns) sent in
    (λ j. placed_blocks place (parts.0 j) (parts.1 j)) ∙ sym (blocks_are place told batch)

-- ---- a batch

-- what is written of a file with the messages of a batch is that with the batch
pub with_them : (old : Progress) (told : List Given) (batch : Batch) (messages : List Written) (own : Written)
    → messages ++ own ∷ [] ≡ batch_messages told batch → with_messages old messages own ≡ with_batch old told batch
with_them old told batch messages own sent = λ j. record old {
  place = place_behind old.place (sent j);
  blocks = joined_blocks old.blocks (message_blocks old.place told batch messages own sent j);
}

-- messages that are placed and told are those of a batch behind what was written
batch_behind : (old middle new : Progress) (told : List Given) (batch : Batch) (entries : List (ℤ × Column)) (messages : List Written) (own : Written)
    → middle ≡ with_messages old messages own → IsWithinLimits middle → new ≡ record middle { told = entries }
    → messages ++ own ∷ [] ≡ batch_messages told batch → Tells entries (written_after told batch.given) → IsBehind old new told batch
batch_behind old middle new told batch entries messages own placed within is sent tells =
    let same : middle ≡ with_batch old told batch = placed ∙ with_them old told batch messages own sent in
    record {
      tells = subst (λ (them : List (ℤ × Column)). Tells them (written_after told batch.given)) (sym (λ j. (is j).told)) tells;
      place = (λ j. (is j).place) ∙ (λ j. (same j).place);
      size = (λ j. (is j).size) ∙ (λ j. (same j).size);
      blocks = (λ j. (is j).blocks) ∙ (λ j. (same j).blocks);
      within = subst IsWithinLimits (sym is) within;
    }

pub batch_added : (schema : Schema) (old middle new : Progress) (before after : List (ℤ × Column) × Bool) (ids : IdsList) (columns : List Column)
    (messages : List Written) (own : Written) → before ≡ (old.told, true) → EncodesBatch schema before after ids columns (Ok messages) own
    → PlacesBatch old middle messages own (Ok tt) → new ≡ record middle { told = after.0 } → AddsBatch schema old new ids columns (Ok messages) own
batch_added schema old middle new before after ids columns messages own was encodes placed is told tells =
    let here = encodes told (subst (λ (entries : List (ℤ × Column)). Tells entries told) (sym (λ j. (was j).0)) tells) in
    record {
      fit = here.fit;
      bar = subst (λ (b : Bool). write_bar (form_by b) schema ids told (stored_columns columns) ≡ None) (λ j. (was j).1) here.bar;
      sent = here.sent;
      limits = here.limits;
      behind = batch_behind old middle new told (batch_of_stored ids columns) after.0 messages own placed.0 placed.1 is here.sent here.tells;
    }

-- a batch that is not encoded is not added
barred : (error : Error) (schema : Schema) (ids : IdsList) (told : List Given) (columns : List Column) (before : Progress)
    → IsNotWritten file error schema ids told columns → IsNotAdded error schema ids told columns before
barred errors.Overflow schema ids told columns before why = inl why
barred (errors.InvalidArgumentError what) schema ids told columns before why = why
barred errors.OutOfMemory schema ids told columns before why = tt
barred _ schema ids told columns before why = absurd why

pub not_encoded : (schema : Schema) (old : Progress) (before after : List (ℤ × Column) × Bool) (ids : IdsList) (columns : List Column)
    (error : Error) (own : Written) → before ≡ (old.told, true) → EncodesBatch schema before after ids columns (Err error) own
    → AddsBatch schema old old ids columns (Err error) own
not_encoded schema old before after ids columns error own was encodes told tells =
    let here = encodes told (subst (λ (entries : List (ℤ × Column)). Tells entries told) (sym (λ j. (was j).0)) tells) in (
      barred error schema ids told columns old
          (subst (λ (b : Bool). IsNotWritten (form_by b) error schema ids told columns) (λ j. (was j).1) here.0),
      refl,
    )

-- one that may be written and is encoded, but not placed, is not added
unplaced : (error : Error) (schema : Schema) (old new : Progress) (ids : IdsList) (told : List Given) (columns : List Column)
    (messages : List Written) (own : Written) → write_bar file schema ids told (stored_columns columns) ≡ None
    → messages ++ own ∷ [] ≡ batch_messages told (batch_of_stored ids columns) → PlacesBatch old new messages own (Err error)
    → AddsAfter schema old new told ids columns (Err error) own
unplaced errors.Overflow schema old new ids told columns messages own bar sent placed =
    (inr (bar, subst IsPastLimits (with_them old told (batch_of_stored ids columns) messages own sent) placed.0), placed.1)
unplaced errors.OutOfMemory schema old new ids told columns messages own bar sent placed = (tt, placed)
unplaced _ schema old new ids told columns messages own bar sent placed = absurd placed

pub not_placed : (schema : Schema) (old new : Progress) (before after : List (ℤ × Column) × Bool) (ids : IdsList) (columns : List Column)
    (messages : List Written) (own : Written) (error : Error) → before ≡ (old.told, true)
    → EncodesBatch schema before after ids columns (Ok messages) own → PlacesBatch old new messages own (Err error)
    → AddsBatch schema old new ids columns (Err error) own
not_placed schema old new before after ids columns messages own error was encodes placed told tells =
    let here = encodes told (subst (λ (entries : List (ℤ × Column)). Tells entries told) (sym (λ j. (was j).0)) tells) in
    unplaced error schema old new ids told columns messages own
    (subst (λ (b : Bool). write_bar (form_by b) schema ids told (stored_columns columns) ≡ None) (λ j. (was j).1) here.bar) here.sent placed

-- ---- what follows of an added batch

-- its messages are within their limits
pub limits_of : (schema : Schema) (old new : Progress) (ids : IdsList) (columns : List Column) (messages : List Written) (own : Written)
    → AddsBatch schema old new ids columns (Ok messages) own → list_all fits_limit (messages ++ own ∷ []) ≡ true
limits_of schema old new ids columns messages own adds = (adds (told_by old.told) (λ id. refl)).limits
