-- The columns that a batch of rows becomes have the slots of the rows, and are sound.
use Rattle.std.proofs.Common.{◌≡◌, ℕ, ◌+◌, true, List, [], ◌∷◌, length, map, refl}
use Rattle.std.specs.List.{list_all}
use Rattle.std.proofs.lemmas.Bool.{and_parts, and_from}
use Rattle.columnar_memory_core.specs.declared.Field.{Field}
use Rattle.nested_arrays_columns.specs.FreshColumns.{fresh}
use Rattle.nested_arrays_columns.specs.FreshLaws.{is_buildable, are_buildable, BatchesOfRows}
use Rattle.nested_arrays_columns.specs.OpenBatch.{fits}
use Rattle.nested_arrays_columns.specs.Rows.{column_of_rows, columns_fit, fresh_columns}
use Rattle.nested_arrays_columns.specs.Slots.{Slot, window}
use Rattle.nested_arrays_columns.specs.SoundColumns.{is_sound}
use Rattle.nested_arrays_columns.specs.StoredColumns.{slots}
use Rattle.nested_arrays_columns.proofs.FreshSlots.{fresh_slots}
use Rattle.nested_arrays_columns.proofs.FreshSound.{fresh_is_sound}

columns_from : (us : List Field) (column : ℕ → List Slot) (k : ℕ) → are_buildable us ≡ true → columns_fit us (window column k (length us)) ≡ true
    → (map slots (fresh_columns us (window column k (length us))) ≡ window column k (length us))
    × (list_all is_sound (fresh_columns us (window column k (length us))) ≡ true)
columns_from [] column k can fit = (refl, refl)
columns_from (u ∷ us) column k can fit =
    let cans = and_parts (is_buildable u.data_type) (are_buildable us) can in
    let fitting = and_parts (fits u.data_type (column k)) (columns_fit us (window column (k + 1) (length us))) fit in
    let rest = columns_from us column (k + 1) cans.1 fitting.1 in (
      (λ j. fresh_slots u.data_type (column k) cans.0 fitting.0 j ∷ rest.0 j),
      and_from (is_sound (fresh u.data_type (column k))) (list_all is_sound (fresh_columns us (window column (k + 1) (length us))))
          (fresh_is_sound u.data_type (column k) cans.0 fitting.0) rest.1,
    )

pub batches_of_rows : BatchesOfRows
batches_of_rows us rows can fit = columns_from us (column_of_rows rows) 0 can fit
