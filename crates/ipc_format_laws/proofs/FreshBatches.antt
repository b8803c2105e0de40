-- What is written of rows is what is written of the columns that a batch of them becomes.
use Rattle.std.proofs.Common.{◌≡◌, ℕ, ◌+◌, true, List, [], ◌∷◌, ◌++◌, length, map, refl}
use Rattle.std.proofs.lemmas.Bool.{and_parts}
use Rattle.ipc_format_grammar.specs.columnar_memory.declared.Field.{Field}
use Rattle.ipc_format_grammar.specs.columns.FreshLaws.{is_buildable, are_buildable}
use Rattle.ipc_format_grammar.specs.columns.OpenBatch.{fits}
use Rattle.ipc_format_grammar.specs.columns.Rows.{column_of_rows, columns_fit, fresh_columns}
use Rattle.ipc_format_grammar.specs.columns.Slots.{Slot, window}
use Rattle.ipc_format_grammar.proofs.columns_lemmas.FreshSlots.{fresh_lengths}
use Rattle.ipc_format_grammar.specs.Columns.{first_ids, other_ids}
use Rattle.ipc_format_grammar.specs.Schemas.{IdsList}
use Rattle.ipc_format_grammar.specs.StoredEncoding.{encode_stored}
use Rattle.ipc_format_grammar.specs.WrittenStreams.{columns_of_slots, given_of_slots, rows_of_slots, batch_of_slots, given_of_stored}
use Rattle.ipc_format_grammar.specs.WrittenStreams.{rows_of_stored, batch_of_stored}
use Rattle.ipc_format_laws.specs.FreshEncodings.{RowsEncode}
use Rattle.ipc_format_laws.proofs.FreshDictionaries.{fresh_gives}
use Rattle.ipc_format_laws.proofs.FreshEncodings.{fresh_encodes}

-- the parts of a batch of columns are those of a batch of their slots
record SameBatch (us : List Field) (below : IdsList) (columns : List (List Slot)) : Type 0 where
  rows : rows_of_stored (fresh_columns us columns) ≡ rows_of_slots columns
  encoded : map (encode_stored true) (fresh_columns us columns) ≡ columns_of_slots us columns
  given : given_of_stored below (fresh_columns us columns) ≡ given_of_slots us below columns

same_batch : (us : List Field) (below : IdsList) (column : ℕ → List Slot) (k : ℕ) → are_buildable us ≡ true
    → columns_fit us (window column k (length us)) ≡ true → SameBatch us below (window column k (length us))
same_batch [] below column k can fit = record { rows = refl; encoded = refl; given = refl }
same_batch (u ∷ us) below column k can fit =
    let cans = and_parts (is_buildable u.data_type) (are_buildable us) can in
    let fitting = and_parts (fits u.data_type (column k)) (columns_fit us (window column (k + 1) (length us))) fit in
    let rest = same_batch us (other_ids below) column (k + 1) cans.1 fitting.1 in
    record {
      rows = fresh_lengths u.data_type (column k) cans.0 fitting.0;
      encoded = λ j. fresh_encodes u.data_type (column k) cans.0 fitting.0 j ∷ rest.encoded j;
      given = λ j. fresh_gives u.data_type (first_ids below) (column k) cans.0 fitting.0 j ++ rest.given j;
    }

pub rows_encode : RowsEncode
unfolding batch_of_stored batch_of_slots
rows_encode us below rows can fit =
    let same = same_batch us below (column_of_rows rows) 0 can fit in
    λ j. record { rows = same.rows j; columns = same.encoded j; given = same.given j }
