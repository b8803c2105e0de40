-- No two dictionaries of a table's batch have one id, so that they agree.
use Rattle.std.proofs.Common.{◌≡◌, ℕ, ◌+◌, ◌≤◌, ℤ, true, List, [], ◌∷◌, ap, arith}
use Rattle.std.specs.Prelude.{Some, None}
use Rattle.std.specs.Ordering.{int_eq}
use Rattle.std.proofs.lemmas.Bool.{and_parts}
use Rattle.ipc_format.specs.columnar_memory.declared.Field.{Field}
use Rattle.ipc_format.specs.columnar_memory.declared.Schema.{Schema}
use Rattle.ipc_format.specs.columns.SoundColumns.{is_sound, are_sound}
use Rattle.ipc_format.specs.columns.StoredColumns.{Column, Columns, nulls, flat, lists, fixed_lists, records, unions}
use Rattle.ipc_format.specs.columns.StoredColumns.{dictionary}
use Rattle.ipc_format.specs.columns.StoredColumns.{no_column, column_then, column_type, slots}
use Rattle.ipc_format.specs.Columns.{first_ids, other_ids, ids_below, own_id}
use Rattle.ipc_format.specs.GivenDictionaries.{Given, agree, given_each, given_stored, id_or_0}
use Rattle.ipc_format.specs.Schemas.{Ids, IdsList, ids, no_ids, ids_then}
use Rattle.ipc_format.specs.StoredEncoding.{encode_stored}
use Rattle.ipc_format.specs.Writable.{is_writable}
use Rattle.ipc_format.specs.WrittenStreams.{given_of_stored}
use Rattle.ipc_format.specs.reading_laws.laws.DefaultIds.{ids_in_order, all_in_order, ids_from, dictionary_count}
use Rattle.ipc_format.proofs.DefaultIds.{defaults_count}
use Rattle.ipc_format.proofs.SealedIds.{agree_apart, below_within, brought, brought-append, child_within, once, one_if}
use Rattle.ipc_format.proofs.SealedIds.{times, times-append}
use Rattle.ipc_format.proofs.StoredGivenBrought.{sound_children, sound_fields, sound_fixed_item, sound_item}
use Rattle.ipc_format.proofs.StoredGivenBrought.{sound_values}
use Rattle.ipc_format.proofs.StoredGivenFits.{FitsColumn, FitColumns, fits_children, fits_fields, fits_fixed_item}
use Rattle.ipc_format.proofs.StoredGivenFits.{fits_item, fits_values}
use Rattle.ipc_format.proofs.StoredGivenReady.{AreColumns}
use Rattle.tables_chunks.specs.WrittenTables.{table_ids}

-- the ids of the first field and of the others
both_within : (z : ℤ) (below : IdsList)
    → times z (ids_in_order (first_ids below)) + times z (all_in_order (other_ids below)) ≤ times z (all_in_order below)
both_within z no_ids = omega arith
both_within z (ids_then first others) = omega (arith, times-append z (ids_in_order first) (all_in_order others))

-- ---- a column brings each id no more often than it stands beside its field

-- a dictionary's own id, behind those within its values
own_more : (z id : ℤ) (here : Ids) (few : ℕ) → own_id here ≡ Some id → few ≤ times z (ids_in_order (ids None (ids_below here)))
    → few + one_if (int_eq z (id_or_0 (own_id here))) ≤ times z (ids_in_order here)
own_more z id (ids None below) few own h = absurd cc
own_more z id (ids (Some same) below) few own h = omega (arith, h)

mutual
  column_few : (z : ℤ) (here : Ids) (c : Column) → is_sound c ≡ true → FitsColumn here c
      → brought z (given_stored here c) ≤ times z (ids_in_order here)
  column_few z here (nulls t n) h fit = omega arith
  column_few z here (flat t mask stored) h fit = omega arith
  column_few z here (lists t mask offsets child) h fit = omega (
    arith,
    child_within z here,
    column_few z (first_ids (ids_below here)) child (sound_item t mask offsets child h).1 (fits_item here t mask offsets child h fit),
  )
  column_few z here (fixed_lists t mask size child) h fit = omega (
    arith,
    child_within z here,
    column_few z (first_ids (ids_below here)) child (sound_fixed_item t mask size child h).1 (fits_fixed_item here t mask size child h fit),
  )
  column_few z here (records t mask n cs) h fit = omega (
    arith,
    below_within z here,
    columns_few z (ids_below here) cs (sound_fields t mask n cs h).1 (fits_fields here t mask n cs h fit),
  )
  column_few z here (unions t own offsets cs) h fit = omega (
    arith,
    below_within z here,
    columns_few z (ids_below here) cs (sound_children t own offsets cs h).1 (fits_children here t own offsets cs h fit),
  )
  column_few z here (dictionary t mask keys values) h fit =
      let fits = fits_values here t mask keys values h fit in
      let inner = given_stored (ids None (ids_below here)) values in
      let last : Given = record {
        id = id_or_0 (own_id here);
        data_type = column_type values;
        slots = slots values;
        column = encode_stored true values;
      } in
      let few = column_few z (ids None (ids_below here)) values (sound_values t mask keys values h).1 fits.below in
      omega (arith, brought-append z inner (last ∷ []), own_more z fits.id here (brought z inner) fits.own few)

  columns_few : (z : ℤ) (below : IdsList) (cs : Columns) → are_sound cs ≡ true → FitColumns below cs
      → brought z (given_each below cs) ≤ times z (all_in_order below)
  columns_few z below no_column h fit = omega arith
  columns_few z below (column_then c cs) h fit =
      let parts = and_parts (is_sound c) (are_sound cs) h in
      omega (
        arith,
        column_few z (first_ids below) c parts.0 fit.0,
        columns_few z (other_ids below) cs parts.1 fit.1,
        brought-append z (given_stored (first_ids below) c) (given_each (other_ids below) cs),
        both_within z below,
      )

batch_few : (z : ℤ) (us : List Field) (below : IdsList) (cs : List Column) → AreColumns us below cs
    → brought z (given_of_stored below cs) ≤ times z (all_in_order below)
batch_few z [] below [] are = omega arith
batch_few z [] below (c ∷ cs) are = absurd are
batch_few z (u ∷ us) below [] are = absurd are
batch_few z (u ∷ us) below (c ∷ cs) are = omega (
  arith,
  column_few z (first_ids below) c are.0.sound are.0.fit,
  batch_few z us (other_ids below) cs are.1,
  brought-append z (given_stored (first_ids below) c) (given_of_stored (other_ids below) cs),
  both_within z below,
)

-- no two dictionaries of a batch have one of the default ids
pub columns_agree : (schema : Schema) (cs : List Column) → is_writable schema ≡ true → AreColumns schema.fields (table_ids schema) cs
    → agree (given_of_stored (table_ids schema) cs) ≡ true
columns_agree schema cs h are =
    let below = table_ids schema in
    agree_apart (given_of_stored below cs) (λ z.
    let order : times z (all_in_order below) ≡ times z (ids_from 0 (dictionary_count schema)) = ap (times z) (defaults_count schema h) in
    omega (arith, batch_few z schema.fields below cs are, order, once z 0 (dictionary_count schema)))
