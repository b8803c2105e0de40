-- The stream of the batches of groups is the seal, and its messages are within their limits exactly where those of the seal are.
use Rattle.std.proofs.Common.{◌≡◌, ◌∙◌, ℕ, ◌+◌, ◌^◌, Bool, true, false, ◌&&◌, List, [], ◌∷◌, ◌++◌, length, map}
use Rattle.std.proofs.Common.{refl, sym, ap, inl, inr, if◌then◌else◌}
use Rattle.std.specs.Prelude.{nat_lt, Option, Some}
use Rattle.std.specs.List.{list_all}
use Rattle.std.proofs.lemmas.Bool.{and_parts, and_from, false≢true}
use Rattle.std.proofs.lemmas.List.{map-append}
use Rattle.std.proofs.lemmas.List.Folds.{list_all-append}
use Rattle.tables_chunks.specs.ipc_format.columnar_memory.declared.Schema.{Schema}
use Rattle.tables_chunks.specs.ipc_format.columns.FreshLaws.{are_buildable}
use Rattle.tables_chunks.specs.ipc_format.columns.OpenBatch.{fits}
use Rattle.tables_chunks.specs.ipc_format.columns.Rows.{columns_of_rows, columns_fit, batch_of_rows}
use Rattle.tables_chunks.specs.ipc_format.columns.Slots.{Slot}
use Rattle.tables_chunks.specs.ipc_format.columns.StoredColumns.{Column}
use Rattle.tables_chunks.specs.ipc_format.EncodedChunks.{is_batch_within, is_given_within}
use Rattle.tables_chunks.specs.ipc_format.Encoding.{joined_columns}
use Rattle.tables_chunks.specs.ipc_format.GivenDictionaries.{Given, last_under, stands_for, to_write, written_after}
use Rattle.tables_chunks.specs.ipc_format.Seals.{groups_of, seal_batches, seal_bytes, are_rows_of, is_batch_size, is_sealable}
use Rattle.tables_chunks.specs.ipc_format.Seals.{groups_fit, messages_fit, sealed}
use Rattle.tables_chunks.specs.ipc_format.WrittenMessages.{dictionary_message, fits_limit, record_message, schema_written}
use Rattle.tables_chunks.specs.ipc_format.WrittenStreams.{Batch, batch_messages, batch_of_slots, batch_of_stored, given_of_slots, has_nodes_in_room}
use Rattle.tables_chunks.specs.ipc_format.WrittenStreams.{messages_after, stream_bytes, stream_messages}
use Rattle.tables_chunks.specs.Refusals.{StopsAtTooLong}
use Rattle.tables_chunks.specs.WrittenTables.{table_ids, written_batches, table_bytes, told_after, are_within, is_table_within}
use Rattle.tables_chunks.proofs.WithinLimits.{all_fit}
use Rattle.tables_chunks.proofs.ipc_format_lemmas.FreshBatches.{rows_encode}
use Rattle.tables_chunks.proofs.ipc_format_lemmas.SealedRoom.{columns_room}
use Rattle.tables_chunks.proofs.ipc_format_lemmas.SealedTypes.{storable}

-- the batches of groups
abbrev pub group_batches : Schema → List (List (List Slot)) → List (List Column)
group_batches schema groups = map (batch_of_rows schema.fields) groups

abbrev pub are_fitting : Schema → List (List (List Slot)) → Bool
are_fitting schema groups = list_all (λ group. columns_fit schema.fields (columns_of_rows schema.fields group)) groups

-- the batch of a group, from its slots
abbrev slots_batch : Schema → List (List Slot) → Batch
slots_batch schema group = batch_of_slots schema.fields (table_ids schema) (columns_of_rows schema.fields group)

fit_parts : (schema : Schema) (group : List (List Slot)) (groups : List (List (List Slot))) → are_fitting schema (group ∷ groups) ≡ true
    → (columns_fit schema.fields (columns_of_rows schema.fields group) ≡ true) × (are_fitting schema groups ≡ true)
fit_parts schema group groups fit = and_parts (columns_fit schema.fields (columns_of_rows schema.fields group)) (are_fitting schema groups) fit

-- what is written of the batches is what is written of the slots
written_are : (schema : Schema) (groups : List (List (List Slot))) → are_buildable schema.fields ≡ true → are_fitting schema groups ≡ true
    → written_batches schema (group_batches schema groups) ≡ map (slots_batch schema) groups
written_are schema [] can fit = refl
written_are schema (group ∷ groups) can fit =
    let parts = fit_parts schema group groups fit in
    λ j. rows_encode schema.fields (table_ids schema) group can parts.0 j ∷ written_are schema groups can parts.1 j

-- ---- messages within their limits

-- a batch whose nodes have room, and those of its dictionaries
record HasRoom (batch : Batch) : Type 0 where
  nodes : has_nodes_in_room (joined_columns batch.columns) ≡ true
  brings : list_all (λ (given : Given). has_nodes_in_room given.column) batch.given ≡ true

abbrev have_nodes : List Given → Bool
have_nodes given = list_all (λ (g : Given). has_nodes_in_room g.column) given

written_nodes_if : (test : Bool) (a b : List Given) → have_nodes a ≡ true → have_nodes b ≡ true → have_nodes (if test then a else b) ≡ true
written_nodes_if true a b h k = h
written_nodes_if false a b h k = k

written_nodes : (told given : List Given) → have_nodes given ≡ true → have_nodes (to_write told given) ≡ true
written_nodes told [] h = refl
written_nodes told (g ∷ given) h =
    let parts = and_parts (has_nodes_in_room g.column) (have_nodes given) h in
    written_nodes_if (stands_for g (last_under g.id told)) (to_write told given) (g ∷ to_write (g ∷ told) given) (written_nodes told given parts.1)
    (and_from (has_nodes_in_room g.column) (have_nodes (to_write (g ∷ told) given)) parts.0 (written_nodes (g ∷ told) given parts.1))

given_within : (given : List Given) → have_nodes given ≡ true → list_all fits_limit (map dictionary_message given) ≡ true
    → list_all is_given_within given ≡ true
given_within [] nodes fit = refl
given_within (g ∷ given) nodes fit =
    let has = and_parts (has_nodes_in_room g.column) (have_nodes given) nodes in
    let fits = and_parts (fits_limit (dictionary_message g)) (list_all fits_limit (map dictionary_message given)) fit in
    and_from (is_given_within g) (list_all is_given_within given)
    (and_from (has_nodes_in_room g.column) (fits_limit (dictionary_message g)) has.0 fits.0) (given_within given has.1 fits.1)

batch_within : (told : List Given) (batch : Batch) → HasRoom batch → list_all fits_limit (batch_messages told batch) ≡ true
    → is_batch_within told batch ≡ true
batch_within told batch room fit =
    let before = map dictionary_message (to_write told batch.given) in
    let own = record_message batch.rows batch.columns in
    let parts = and_parts (list_all fits_limit before) (fits_limit own && true) (sym (list_all-append fits_limit before (own ∷ [])) ∙ fit) in
    let last = and_parts (fits_limit own) true parts.1 in
    and_from (list_all is_given_within (to_write told batch.given)) (has_nodes_in_room (joined_columns batch.columns) && fits_limit own)
    (given_within (to_write told batch.given) (written_nodes told batch.given room.brings) parts.0)
    (and_from (has_nodes_in_room (joined_columns batch.columns)) (fits_limit own) room.nodes last.0)

-- the batches of groups that fit have room
group_room : (schema : Schema) (group : List (List Slot)) → columns_fit schema.fields (columns_of_rows schema.fields group) ≡ true
    → HasRoom (slots_batch schema group)
unfolding batch_of_slots
group_room schema group fit =
    let room = columns_room schema.fields (table_ids schema) (columns_of_rows schema.fields group) fit in
    let given = given_of_slots schema.fields (table_ids schema) (columns_of_rows schema.fields group) in
    record { nodes = room.nodes; brings = first_tests given room.brings }
  where
    first_tests : (given : List Given) → list_all (λ (g : Given). has_nodes_in_room g.column && nat_lt (length g.slots) (2 ^ 63)) given ≡ true
        → have_nodes given ≡ true
    first_tests [] h = refl
    first_tests (g ∷ given) h =
        let parts = and_parts (has_nodes_in_room g.column && nat_lt (length g.slots) (2 ^ 63))
        (list_all (λ (g : Given). has_nodes_in_room g.column && nat_lt (length g.slots) (2 ^ 63)) given) h in
        and_from (has_nodes_in_room g.column) (have_nodes given)
        (and_parts (has_nodes_in_room g.column) (nat_lt (length g.slots) (2 ^ 63)) parts.0).0 (first_tests given parts.1)

-- where their messages fit, they are within their limits
groups_within_limits : (schema : Schema) (told : List Given) (groups : List (List (List Slot))) → are_fitting schema groups ≡ true
    → list_all fits_limit (messages_after told (map (slots_batch schema) groups)) ≡ true → are_within told (map (slots_batch schema) groups) ≡ true
groups_within_limits schema told [] fit messages = refl
groups_within_limits schema told (group ∷ groups) fit messages =
    let parts = fit_parts schema group groups fit in
    let batch = slots_batch schema group in
    let others = map (slots_batch schema) groups in
    let after = written_after told batch.given in
    let each = and_parts (list_all fits_limit (batch_messages told batch)) (list_all fits_limit (messages_after after others))
    (sym (list_all-append fits_limit (batch_messages told batch) (messages_after after others)) ∙ messages) in
    and_from (is_batch_within told batch) (are_within after others) (batch_within told batch (group_room schema group parts.0) each.0)
    (groups_within_limits schema after groups parts.1 each.1)

-- of batches within their limits each is, behind those before it
one_within : (told : List Given) (before : List Batch) (batch : Batch) (after : List Batch) → are_within told (before ++ batch ∷ after) ≡ true
    → is_batch_within (told_after told before) batch ≡ true
one_within told [] batch after within = (and_parts (is_batch_within told batch) (are_within (written_after told batch.given) after) within).0
one_within told (first ∷ before) batch after within =
    one_within (written_after told first.given) before batch after
    (and_parts (is_batch_within told first) (are_within (written_after told first.given) (before ++ batch ∷ after)) within).1

-- ---- the seal

module _ (schema : Schema) (rows : List (List Slot)) (n : ℕ) (can : is_sealable schema ≡ true) (fit : groups_fit schema rows n ≡ true) where
  abbrev batches : List (List Column)
  batches = group_batches schema (groups_of n rows)

  seal_written : written_batches schema batches ≡ seal_batches schema rows n
  seal_written = written_are schema (groups_of n rows) (storable schema can).builds fit

  bytes_are : table_bytes schema batches ≡ seal_bytes schema rows n
  unfolding seal_bytes
  bytes_are = ap (stream_bytes schema (table_ids schema)) seal_written

  messages_are : messages_fit schema rows n
      ≡ (fits_limit (schema_written schema (table_ids schema)) && list_all fits_limit (messages_after [] (written_batches schema batches)))
  unfolding stream_messages
  messages_are = ap (λ (bs : List Batch). fits_limit (schema_written schema (table_ids schema)) && list_all fits_limit (messages_after [] bs))
      (sym seal_written)

  -- a stream within its limits has messages that fit
  pub within_fits : is_table_within schema batches ≡ true → messages_fit schema rows n ≡ true
  within_fits within =
      let own = fits_limit (schema_written schema (table_ids schema)) in
      let parts = and_parts own (are_within [] (written_batches schema batches)) within in
      messages_are ∙ and_from own (list_all fits_limit (messages_after [] (written_batches schema batches))) parts.0
      (all_fit [] (written_batches schema batches) parts.1)

  fits_within : messages_fit schema rows n ≡ true
      → (fits_limit (schema_written schema (table_ids schema)) ≡ true) × (are_within [] (written_batches schema batches) ≡ true)
  fits_within messages =
      let own = fits_limit (schema_written schema (table_ids schema)) in
      let parts = and_parts own (list_all fits_limit (messages_after [] (written_batches schema batches))) (sym messages_are ∙ messages) in (
        parts.0,
        ap (are_within []) seal_written
            ∙ groups_within_limits schema [] (groups_of n rows) fit (ap (λ (bs : List Batch). list_all fits_limit (messages_after [] bs))
            (sym seal_written) ∙ parts.1),
      )

  too_long_refutes : (old new : Option (List ℕ)) → StopsAtTooLong old new schema batches → messages_fit schema rows n ≡ true → ⊥
  too_long_refutes old new (inl stops) messages = false≢true (sym stops.past ∙ (fits_within messages).0)
  too_long_refutes old new (inr stops) messages =
      let below = table_ids schema in
      let split : written_batches schema batches
      ≡ written_batches schema stops.before ++ batch_of_stored below stops.batch ∷ written_batches schema stops.after =
      ap (written_batches schema) stops.split ∙ map-append (batch_of_stored below) stops.before (stops.batch ∷ stops.after) in
      false≢true (sym stops.past
      ∙ one_within [] (written_batches schema stops.before) (batch_of_stored below stops.batch) (written_batches schema stops.after)
      (ap (are_within []) (sym split) ∙ (fits_within messages).1))

  -- where the stream stops at what is too long, a message of the seal doesn't fit
  pub too_long : (old new : Option (List ℕ)) → StopsAtTooLong old new schema batches → messages_fit schema rows n ≡ false
  too_long old new stops = by_test (messages_fit schema rows n) refl
    where
      by_test : (test : Bool) → messages_fit schema rows n ≡ test → messages_fit schema rows n ≡ false
      by_test true is = absurd (too_long_refutes old new stops is)
      by_test false is = is

  -- the stream is the seal
  pub stream_is_seal : (bytes : List ℕ) → is_batch_size n ≡ true → are_rows_of schema.fields rows ≡ true → is_table_within schema batches ≡ true
      → bytes ≡ table_bytes schema batches → sealed schema rows n ≡ Some bytes
  unfolding sealed
  stream_is_seal bytes size wide within is =
      let messages = within_fits within in
      let both : (is_batch_size n && are_rows_of schema.fields rows) ≡ true =
      and_from (is_batch_size n) (are_rows_of schema.fields rows) size wide in
      rw (can, both, fit, messages) (ap Some (sym bytes_are ∙ sym is))
