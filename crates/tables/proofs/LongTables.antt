-- A table whose writing stops at a message past its limit is too long.
use Rattle.std.proofs.Common.{◌≡◌, ◌∙◌, inl, inr, ℕ, Bool, true, false, ◌&&◌, List, [], ◌∷◌, ◌++◌, map, refl, ap}
use Rattle.std.specs.Prelude.{Option}
use Rattle.std.proofs.lemmas.List.{map-append}
use Rattle.tables_rows.specs.chunks.ipc_format.columns.StoredColumns.{Column}
use Rattle.tables_rows.specs.chunks.ipc_format.grammar.GivenDictionaries.{Given, written_after}
use Rattle.tables_rows.specs.chunks.ipc_format.grammar.WrittenMessages.{fits_limit, schema_written}
use Rattle.tables_rows.specs.chunks.ipc_format.grammar.WrittenStreams.{Batch, batch_of_stored}
use Rattle.tables_rows.specs.chunks.Refusals.{StopsAtTooLong}
use Rattle.tables_rows.specs.chunks.StoredTables.{Stored}
use Rattle.tables_rows.specs.chunks.WrittenTables.{are_within, table_ids, told_after, written_batches}
use Rattle.tables.specs.Made.{IsLong}

and_false : (a b : Bool) → b ≡ false → (a && b) ≡ false
and_false true b e = e
and_false false b e = refl

first_false : (a b : Bool) → a ≡ false → (a && b) ≡ false
first_false true b e = cc
first_false false b e = refl

-- a batch that is past a limit is so behind those before it
past_behind : (told : List Given) (before : List Batch) (batch : Batch) (after : List Batch)
    → are_within (told_after told before) (batch ∷ after) ≡ false → are_within told (before ++ batch ∷ after) ≡ false
past_behind told [] batch after past = past
past_behind told (first ∷ before) batch after past =
    and_false _ (are_within (written_after told first.given) (before ++ batch ∷ after))
    (past_behind (written_after told first.given) before batch after past)

pub is_long : (old new : Option (List ℕ)) (table : Stored) → StopsAtTooLong old new table.schema table.batches → IsLong table
is_long old new table (inl stops) =
    first_false (fits_limit (schema_written table.schema (table_ids table.schema))) (are_within [] (written_batches table.schema table.batches))
    stops.past
is_long old new table (inr stops) =
    let as_written : List Column → Batch = batch_of_stored (table_ids table.schema) in
    let split : written_batches table.schema table.batches
    ≡ written_batches table.schema stops.before ++ as_written stops.batch ∷ map as_written stops.after =
    ap (map as_written) stops.split ∙ map-append as_written stops.before (stops.batch ∷ stops.after) in
    and_false (fits_limit (schema_written table.schema (table_ids table.schema))) (are_within [] (written_batches table.schema table.batches))
    (ap (are_within []) split
    ∙ past_behind [] (written_batches table.schema stops.before) (as_written stops.batch) (map as_written stops.after)
    (first_false _ _ stops.past))
