-- What is written of a seal is the stream of the columns that its groups of rows become.
use Rattle.std.proofs.Common.{◌≡◌, ◌∙◌, ℕ, zero, suc, ◌+◌, ◌<◌, ◌^◌, Bool, true, List, [], ◌∷◌, length, map, refl, sym, ap, subst}
use Rattle.std.specs.Prelude.{◌&&◌, ◌==◌, nat_lt, replicate, Option, Some, None}
use Rattle.std.specs.List.{list_all}
use Rattle.std.proofs.lemmas.Bool.{and_parts, and_from, eq-eqb}
use Rattle.std.proofs.lemmas.List.{length-map}
use Rattle.columnar_memory_types.specs.Equality.{same_type, same_type-Decides}
use Rattle.ipc_format_laws.specs.columnar_memory.declared.DataType.{DataType}
use Rattle.ipc_format_laws.specs.columnar_memory.declared.Field.{Field}
use Rattle.ipc_format_laws.specs.columnar_memory.declared.Schema.{Schema}
use Rattle.ipc_format_laws.specs.columns.FreshColumns.{fresh}
use Rattle.ipc_format_laws.specs.columns.FreshLaws.{is_buildable, are_buildable}
use Rattle.ipc_format_laws.specs.columns.OpenBatch.{fits}
use Rattle.ipc_format_laws.specs.columns.Rows.{column_of_rows, columns_of_rows, columns_fit, fresh_columns, batch_of_rows}
use Rattle.ipc_format_laws.specs.columns.Slots.{Slot, window}
use Rattle.ipc_format_laws.specs.columns.SoundColumns.{is_sound}
use Rattle.ipc_format_laws.specs.columns.StoredColumns.{Column, column_len, column_type}
use Rattle.ipc_format_laws.specs.columns.Tables.{rows_of_batches}
use Rattle.ipc_format_laws.proofs.columns_lemmas.FreshSlots.{fresh_lengths}
use Rattle.ipc_format_laws.proofs.columns_lemmas.FreshSound.{fresh_is_sound}
use Rattle.ipc_format_laws.proofs.columns_lemmas.FreshTypes.{fresh_type}
use Rattle.ipc_format_laws.specs.grammar.Encoding.{joined_columns}
use Rattle.ipc_format_laws.specs.grammar.GivenDictionaries.{Given, agree}
use Rattle.ipc_format_laws.specs.grammar.Ids.{default_ids, ids_fit_fields, all_are_ids}
use Rattle.ipc_format_laws.specs.grammar.Limits.{length_limit}
use Rattle.ipc_format_laws.specs.grammar.Schemas.{IdsList}
use Rattle.ipc_format_laws.specs.grammar.Seals.{groups_of, seal_batches, seal_bytes, are_rows_of, is_batch_size, is_sealable, groups_fit}
use Rattle.ipc_format_laws.specs.grammar.Seals.{messages_fit, sealed}
use Rattle.ipc_format_laws.specs.grammar.Writable.{normalised_type, is_writable}
use Rattle.ipc_format_laws.specs.grammar.WrittenMessages.{fits_limit}
use Rattle.ipc_format_laws.specs.grammar.WrittenStreams.{Batch, Chunk, stored_columns, batch_of_slots, rows_of_slots, columns_of_slots}
use Rattle.ipc_format_laws.specs.grammar.WrittenStreams.{given_of_slots, batch_of, batches_written, stream_messages, stream_bytes, is_column_of}
use Rattle.ipc_format_laws.specs.grammar.WrittenStreams.{pass_each, are_columns_of, chunk_lengths, are_equal, has_nodes_in_room, is_in_room}
use Rattle.ipc_format_laws.specs.grammar.WrittenStreams.{belongs, is_written_with, written_stream}
use Rattle.ipc_format_laws.proofs.DefaultIds.{defaults_fit}
use Rattle.ipc_format_laws.proofs.FreshBatches.{rows_encode}
use Rattle.ipc_format_laws.proofs.StreamReaders.{passed}
use Rattle.ipc_format_reading_laws.specs.SealLaws.{SealsReadBack, SealsTellTablesApart}
use Rattle.ipc_format_reading_laws.specs.StoredTables.{stored_chunks, read_batches, StoredStreamsReadBack}
use Rattle.ipc_format_reading_laws.proofs.SealedIds.{defaults_agree, defaults_signed}
use Rattle.ipc_format_reading_laws.proofs.SealedRoom.{columns_room, fitting_length}
use Rattle.ipc_format_reading_laws.proofs.SealedRows.{rows_of_groups}
use Rattle.ipc_format_reading_laws.proofs.SealedSlots.{batches_read}
use Rattle.ipc_format_reading_laws.proofs.SealedTypes.{storable}

-- ---- what is known of a schema and rows of which a seal is made

record IsSealed (schema : Schema) (rows : List (List Slot)) (n : ℕ) (bytes : List ℕ) : Type 0 where
  sealable : is_sealable schema ≡ true
  size : is_batch_size n ≡ true
  widths : are_rows_of schema.fields rows ≡ true
  fitting : groups_fit schema rows n ≡ true
  limits : messages_fit schema rows n ≡ true
  bytes_are : seal_bytes schema rows n ≡ bytes

some_of : {A : Type 0} → A → Option A → A
some_of other None = other
some_of other (Some x) = x

same_some : {A : Type 0} (x y : A) → Some x ≡ Some y → x ≡ y
unfolding some_of
same_some x y e = ap (some_of x) e

was_sealed : (schema : Schema) (rows : List (List Slot)) (n : ℕ) (bytes : List ℕ) → sealed schema rows n ≡ Some bytes → IsSealed schema rows n bytes
unfolding sealed
was_sealed schema rows n bytes e =
    let first = passed (is_sealable schema) _ bytes e in
    let second = passed (is_batch_size n && are_rows_of schema.fields rows) _ bytes first.1 in
    let third = passed (groups_fit schema rows n) _ bytes second.1 in
    let fourth = passed (messages_fit schema rows n) _ bytes third.1 in
    let sizes = and_parts (is_batch_size n) (are_rows_of schema.fields rows) second.0 in record {
      sealable = first.0;
      size = sizes.0;
      widths = sizes.1;
      fitting = third.0;
      limits = fourth.0;
      bytes_are = same_some (seal_bytes schema rows n) bytes fourth.1;
    }

-- ---- the batch of a group belongs to its schema

fresh_passes : (u : Field) (xs : List Slot) → is_buildable u.data_type ≡ true → fits u.data_type xs ≡ true
    → is_column_of u (fresh u.data_type xs) ≡ true
fresh_passes u xs can fit =
    let t = u.data_type in
    and_from (is_sound (fresh t xs)) (same_type (normalised_type (column_type (fresh t xs))) (normalised_type t)) (fresh_is_sound t xs can fit)
    (ap (λ (s : DataType). same_type (normalised_type s) (normalised_type t)) (fresh_type t t xs)
    ∙ (same_type-Decides (normalised_type t) (normalised_type t)).1 refl)

columns_pass : (us : List Field) (column : ℕ → List Slot) (k : ℕ) → are_buildable us ≡ true → columns_fit us (window column k (length us)) ≡ true
    → pass_each is_column_of us (fresh_columns us (window column k (length us))) ≡ true
columns_pass [] column k can fit = refl
columns_pass (u ∷ us) column k can fit =
    let cans = and_parts (is_buildable u.data_type) (are_buildable us) can in
    let fitting = and_parts (fits u.data_type (column k)) (columns_fit us (window column (k + 1) (length us))) fit in
    and_from (is_column_of u (fresh u.data_type (column k))) (pass_each is_column_of us (fresh_columns us (window column (k + 1) (length us))))
    (fresh_passes u (column k) cans.0 fitting.0) (columns_pass us column (k + 1) cans.1 fitting.1)

lengths_are : (us : List Field) (rows : List (List Slot)) (k : ℕ) → are_buildable us ≡ true
    → columns_fit us (window (column_of_rows rows) k (length us)) ≡ true
    → map column_len (fresh_columns us (window (column_of_rows rows) k (length us))) ≡ replicate (length us) (length rows)
lengths_are [] rows k can fit = refl
lengths_are (u ∷ us) rows k can fit =
    let column = column_of_rows rows in
    let cans = and_parts (is_buildable u.data_type) (are_buildable us) can in
    let fitting = and_parts (fits u.data_type (column k)) (columns_fit us (window column (k + 1) (length us))) fit in
    let here = fresh_lengths u.data_type (column k) cans.0 fitting.0 ∙ length-map rows _ in
    let rest = lengths_are us rows (k + 1) cans.1 fitting.1 in
    λ j. here j ∷ rest j

all_same : (k n : ℕ) → list_all (λ other. other == n) (replicate k n) ≡ true
all_same zero n = refl
all_same (suc k) n = and_from (n == n) (list_all (λ other. other == n) (replicate k n)) (eq-eqb n n refl) (all_same k n)

are_equal_numbers : (k n : ℕ) → are_equal (replicate k n) ≡ true
are_equal_numbers zero n = refl
are_equal_numbers (suc k) n = all_same k n

rows_within : (us : List Field) (column : ℕ → List Slot) (k : ℕ) → columns_fit us (window column k (length us)) ≡ true
    → nat_lt (rows_of_slots (window column k (length us))) length_limit ≡ true
rows_within [] column k fit = refl
rows_within (u ∷ us) column k fit =
    fitting_length u.data_type (column k) (and_parts (fits u.data_type (column k)) (columns_fit us (window column (k + 1) (length us))) fit).0

-- the batch of a group
abbrev batch_of_group : List Field → IdsList → List (List Slot) → Batch
batch_of_group us below group = batch_of_slots us below (columns_of_rows us group)

group_in_room : (us : List Field) (below : IdsList) (group : List (List Slot)) → columns_fit us (columns_of_rows us group) ≡ true
    → is_in_room (batch_of_group us below group) ≡ true
unfolding batch_of_slots
group_in_room us below group fit =
    let columns = columns_of_rows us group in
    let room = columns_room us below columns fit in
    let small = rows_within us (column_of_rows group) 0 fit in
    and_from (nat_lt (rows_of_slots columns) length_limit && has_nodes_in_room (joined_columns (columns_of_slots us columns)))
    (list_all (λ (given : Given). has_nodes_in_room given.column && nat_lt (length given.slots) length_limit) (given_of_slots us below columns))
    (and_from (nat_lt (rows_of_slots columns) length_limit) (has_nodes_in_room
    (joined_columns (columns_of_slots us columns))) small room.nodes) room.brings

group_belongs : (schema : Schema) (below : IdsList) (group : List (List Slot)) → are_buildable schema.fields ≡ true
    → columns_fit schema.fields (columns_of_rows schema.fields group) ≡ true
    → belongs schema below (stored_columns (batch_of_rows schema.fields group)) ≡ true
unfolding belongs
group_belongs schema below group can fit =
    let us = schema.fields in
    let chunk = stored_columns (batch_of_rows us group) in
    and_from (are_columns_of us chunk && are_equal (chunk_lengths chunk)) (is_in_room (batch_of us below chunk))
    (and_from (are_columns_of us chunk) (are_equal (chunk_lengths chunk)) (columns_pass us (column_of_rows group) 0 can fit)
    (ap are_equal (lengths_are us group 0 can fit) ∙ are_equal_numbers (length us) (length group)))
    (ap is_in_room (rows_encode us below group can fit) ∙ group_in_room us below group fit)

-- ---- all groups

abbrev all_fit : Schema → List (List (List Slot)) → Bool
all_fit schema groups = list_all (λ group. columns_fit schema.fields (columns_of_rows schema.fields group)) groups

-- the columns that groups of rows become
abbrev pub batches_of_groups : Schema → List (List (List Slot)) → List (List Column)
batches_of_groups schema groups = map (batch_of_rows schema.fields) groups

fit_parts : (schema : Schema) (group : List (List Slot)) (groups : List (List (List Slot))) → all_fit schema (group ∷ groups) ≡ true
    → (columns_fit schema.fields (columns_of_rows schema.fields group) ≡ true) × (all_fit schema groups ≡ true)
fit_parts schema group groups fit = and_parts (columns_fit schema.fields (columns_of_rows schema.fields group)) (all_fit schema groups) fit

groups_belong : (schema : Schema) (below : IdsList) (groups : List (List (List Slot))) → are_buildable schema.fields ≡ true
    → all_fit schema groups ≡ true → list_all (belongs schema below) (stored_chunks (batches_of_groups schema groups)) ≡ true
groups_belong schema below [] can fit = refl
groups_belong schema below (group ∷ groups) can fit =
    let parts = fit_parts schema group groups fit in
    and_from (belongs schema below (stored_columns (batch_of_rows schema.fields group)))
    (list_all (belongs schema below) (stored_chunks (batches_of_groups schema groups))) (group_belongs schema below group can parts.0)
    (groups_belong schema below groups can parts.1)

groups_written : (schema : Schema) (below : IdsList) (groups : List (List (List Slot))) → are_buildable schema.fields ≡ true
    → all_fit schema groups ≡ true
    → batches_written schema below (stored_chunks (batches_of_groups schema groups)) ≡ map (batch_of_group schema.fields below) groups
groups_written schema below [] can fit = refl
groups_written schema below (group ∷ groups) can fit =
    let parts = fit_parts schema group groups fit in
    λ j. rows_encode schema.fields below group can parts.0 j ∷ groups_written schema below groups can parts.1 j

groups_agree : (schema : Schema) (groups : List (List (List Slot))) → is_writable schema ≡ true
    → list_all (λ (batch : Batch). agree batch.given) (map (batch_of_group schema.fields (default_ids schema.fields)) groups) ≡ true
unfolding batch_of_slots
groups_agree schema [] h = refl
groups_agree schema (group ∷ groups) h =
    let below = default_ids schema.fields in
    and_from (agree (given_of_slots schema.fields below (columns_of_rows schema.fields group)))
    (list_all (λ (batch : Batch). agree batch.given) (map (batch_of_group schema.fields below) groups))
    (defaults_agree schema (columns_of_rows schema.fields group) h) (groups_agree schema groups h)

-- ---- the stream

ids_written : (schema : Schema) → is_writable schema ≡ true → is_written_with schema (default_ids schema.fields) ≡ true
ids_written schema h =
    let below = default_ids schema.fields in
    and_from (is_writable schema && ids_fit_fields schema.fields below) (all_are_ids below)
    (and_from (is_writable schema) (ids_fit_fields schema.fields below) h (defaults_fit schema h)) (defaults_signed schema h)

-- where chunks are written as some batches
stream_of : (schema : Schema) (below : IdsList) (chunks : List Chunk) (batches : List Batch) (bytes : List ℕ) → is_written_with schema below ≡ true
    → list_all (belongs schema below) chunks ≡ true → batches_written schema below chunks ≡ batches
    → list_all (λ (batch : Batch). agree batch.given) batches ≡ true → list_all fits_limit (stream_messages schema below batches) ≡ true
    → stream_bytes schema below batches ≡ bytes → written_stream schema below chunks ≡ Some bytes
unfolding written_stream
stream_of schema below chunks batches bytes known belong same agreed limits is =
    let agreed_chunks = ap (λ (bs : List Batch). list_all (λ (batch : Batch). agree batch.given) bs) same ∙ agreed in
    let limits_chunks = ap (λ (bs : List Batch). list_all fits_limit (stream_messages schema below bs)) same ∙ limits in
    rw (known, belong, agreed_chunks, limits_chunks) (ap Some (ap (stream_bytes schema below) same ∙ is))

-- a seal is the stream of the columns that its groups of rows become
seal_is_stream : (schema : Schema) (rows : List (List Slot)) (n : ℕ) (bytes : List ℕ) → IsSealed schema rows n bytes
    → written_stream schema (default_ids schema.fields) (stored_chunks (batches_of_groups schema (groups_of n rows))) ≡ Some bytes
unfolding seal_bytes
seal_is_stream schema rows n bytes is =
    let below = default_ids schema.fields in
    let groups = groups_of n rows in
    let stores = storable schema is.sealable in
    stream_of schema below (stored_chunks (batches_of_groups schema groups)) (seal_batches schema rows n) bytes (ids_written schema stores.written)
    (groups_belong schema below groups stores.builds is.fitting) (groups_written schema below groups stores.builds is.fitting)
    (groups_agree schema groups stores.written) is.limits is.bytes_are

-- ---- the laws

-- seals read back where streams of stored columns do
pub seals_read_back_from : StoredStreamsReadBack → SealsReadBack
seals_read_back_from law table n bytes behind its e =
    let schema = table.schema in
    let rows = table.rows in
    let is = was_sealed schema rows n bytes e in
    let groups = groups_of n rows in
    let batches = batches_of_groups schema groups in
    let stores = storable schema is.sealable in
    let read : read_batches batches ≡ map (columns_of_rows schema.fields) groups = batches_read schema.fields groups stores.builds is.fitting in
    let back : rows_of_batches (read_batches batches) ≡ rows = ap rows_of_batches read ∙ rows_of_groups schema.fields n rows is.size is.widths in
    let few : length (rows_of_batches (read_batches batches)) < 2 ^ 64 =
    subst (λ (some : List (List Slot)). length some < 2 ^ 64) (sym back) its.is_table.fits in
    let holds = law schema (default_ids schema.fields) batches bytes behind (seal_is_stream schema rows n bytes is) its.texts few in
    record {
      in_batches = holds.in_batches ∙ ap Some read;
      as_table = holds.as_table ∙ (λ j. Some (record { schema = its.is_table.normal j; rows = back j }));
    }

-- where seals read back, they tell tables apart
pub seals_tell_apart_from : SealsReadBack → SealsTellTablesApart
seals_tell_apart_from law a b n m bytes its_a its_b sealed_a sealed_b =
    let first = (law a n bytes [] its_a sealed_a).as_table in
    let second = (law b m bytes [] its_b sealed_b).as_table in
    same_some a b (sym first ∙ second)
