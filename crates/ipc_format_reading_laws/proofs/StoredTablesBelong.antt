-- What is known of batches of stored columns that belong to a schema.
use Rattle.std.proofs.Common.{◌≡◌, List, [], ◌∷◌, map, refl, ap, true}
use Rattle.std.specs.Prelude.{◌&&◌}
use Rattle.std.specs.List.{All, list_all}
use Rattle.std.proofs.lemmas.Bool.{and_parts}
use Rattle.std.proofs.lemmas.List.Elements.{All-nil, All-cons}
use Rattle.ipc_format_laws.specs.columnar_memory.declared.Schema.{Schema}
use Rattle.ipc_format_laws.specs.columns.StoredColumns.{Column}
use Rattle.ipc_format_laws.specs.grammar.Schemas.{IdsList}
use Rattle.ipc_format_laws.specs.grammar.Writable.{is_writable}
use Rattle.ipc_format_laws.specs.grammar.Ids.{ids_fit_fields, all_are_ids}
use Rattle.ipc_format_laws.specs.grammar.WrittenStreams.{Batch, Chunk, stored_columns, batch_of_stored, batch_of, batches_written}
use Rattle.ipc_format_laws.specs.grammar.WrittenStreams.{are_columns_of, chunk_lengths, are_equal, is_in_room, belongs, is_written_with}
use Rattle.ipc_format_laws.specs.Contents.{BringsFew}
use Rattle.ipc_format_reading_laws.specs.StoredTables.{stored_chunks}
use Rattle.ipc_format_reading_laws.proofs.StoredGivenLists.{Each}
use Rattle.ipc_format_reading_laws.proofs.StoredGivenReady.{AreColumns, are_columns, given_few}
use Rattle.ipc_format_reading_laws.proofs.StoredTablesBatches.{IsBatch}

-- a schema that is written with some ids, which fit it
pub record IsAsked (schema : Schema) (below : IdsList) : Type 0 where
  pub writable : is_writable schema ≡ true
  pub fit : ids_fit_fields schema.fields below ≡ true

pub asked_of : (schema : Schema) (below : IdsList) → is_written_with schema below ≡ true → IsAsked schema below
asked_of schema below h =
    let parts = and_parts (is_writable schema && ids_fit_fields schema.fields below) (all_are_ids below) h in
    let first = and_parts (is_writable schema) (ids_fit_fields schema.fields below) parts.0 in
    record { writable = first.0; fit = first.1 }

-- the batches of stored columns
pub batches_same : (schema : Schema) (below : IdsList) (batches : List (List Column))
    → batches_written schema below (stored_chunks batches) ≡ map (batch_of_stored below) batches
batches_same schema below [] = refl
batches_same schema below (cs ∷ batches) = ap (λ (others : List Batch). batch_of_stored below cs ∷ others) (batches_same schema below batches)

is_batch : (schema : Schema) (below : IdsList) (cs : List Column) → ids_fit_fields schema.fields below ≡ true
    → belongs schema below (stored_columns cs) ≡ true → IsBatch schema.fields below cs
unfolding belongs
is_batch schema below cs fit h =
    let chunk : Chunk = stored_columns cs in
    let parts = and_parts (are_columns_of schema.fields chunk && are_equal (chunk_lengths chunk))
    (is_in_room (batch_of schema.fields below chunk)) h in
    let tests = and_parts (are_columns_of schema.fields chunk) (are_equal (chunk_lengths chunk)) parts.0 in
    record { columns = are_columns schema.fields below cs tests.0 fit; lengths = tests.1 }

pub are_batches : (schema : Schema) (below : IdsList) (batches : List (List Column)) → ids_fit_fields schema.fields below ≡ true
    → list_all (belongs schema below) (stored_chunks batches) ≡ true → Each (IsBatch schema.fields below) batches
are_batches schema below [] fit h = tt
are_batches schema below (cs ∷ batches) fit h =
    let parts = and_parts (belongs schema below (stored_columns cs)) (list_all (belongs schema below) (stored_chunks batches)) h in
    (is_batch schema below cs fit parts.0, are_batches schema below batches fit parts.1)

brings_few : (schema : Schema) (below : IdsList) (cs : List Column) → is_writable schema ≡ true → AreColumns schema.fields below cs
    → BringsFew (batch_of_stored below cs)
unfolding batch_of_stored
brings_few schema below cs writable are = given_few schema below cs writable are

-- each batch brings few dictionaries
pub all_bring_few : (schema : Schema) (below : IdsList) (batches : List (List Column)) → is_writable schema ≡ true
    → Each (IsBatch schema.fields below) batches → All BringsFew (map (batch_of_stored below) batches)
all_bring_few schema below [] writable all = All-nil BringsFew
all_bring_few schema below (cs ∷ batches) writable all =
    All-cons BringsFew (batch_of_stored below cs) (map (batch_of_stored below) batches) (brings_few schema below cs writable all.0.columns)
    (all_bring_few schema below batches writable all.1)
