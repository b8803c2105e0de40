-- The messages of a schema and of a batch, put one after another.
use Rattle.std.proofs.Common.{◌≡◌, ◌∙◌, ℕ, ◌+◌, ◌≤◌, ◌<◌, ℤ, Bool, true, false, List, [], ◌∷◌, ◌++◌, length, map}
use Rattle.std.proofs.Common.{take, drop, get_or, refl, sym, ap, subst, append_assoc}
use Rattle.std.specs.Prelude.{Option, Result, Ok, Err, nat_le, nat_lt}
use Rattle.std.specs.List.{list_all}
use Rattle.std.specs.Io.KnownBytes.{Appends}
use Rattle.std.proofs.lemmas.Bool.{and_from, and_parts, false≢true, leb-true}
use Rattle.std.proofs.lemmas.Grind.{flat_map-append, take_at_read}
use Rattle.std.proofs.lemmas.List.{append-nil, map-append, take-append-drop}
use Rattle.std.proofs.lemmas.List.Folds.{list_all-append}
use Rattle.columnar_memory_types.specs.Error.{IsIo}
use Rattle.ipc_format.specs.columnar_memory.declared.Error.{Error}
use Rattle.ipc_format.specs.columnar_memory.declared.Error.TheVariants as errors
use Rattle.ipc_format.specs.columnar_memory.declared.Schema.{Schema}
use Rattle.ipc_format.specs.columns.StoredColumns.{Column}
use Rattle.ipc_format.specs.GivenDictionaries.{Given, agree, to_write}
use Rattle.ipc_format.specs.Ids.{ids_fit_fields}
use Rattle.ipc_format.specs.Schemas.{IdsList}
use Rattle.ipc_format.specs.Writable.{is_writable}
use Rattle.ipc_format.specs.WriterRuns.{may_tell}
use Rattle.ipc_format.specs.WrittenMessages.{Written, body_limit, dictionary_message, fits_limit, framed, message_bytes}
use Rattle.ipc_format.specs.WrittenMessages.{most_metadata, prefix_size, record_message, schema_written}
use Rattle.ipc_format.specs.WrittenStreams.{Batch, batch_messages, bytes_of_messages}
use Rattle.ipc_format.proofs.PutMessages.{prefix_fits}
use Rattle.ipc_format.proofs.DefaultIds.{defaults_fit}
use Rattle.ipc_format.specs.EncodedChunks.{Encodes, IsBarred, IsEncoded}
use Rattle.ipc_format.specs.Tracking.{form_by, told_by}
use Rattle.ipc_format.specs.streams.Devices.{AppendsBeginning, Puts}
use Rattle.ipc_format.specs.writing.Floats.{has_float}
use Rattle.ipc_format.specs.writing.Writing.{WritesSchema, may_write}
use Rattle.ipc_format.proofs.Appending.{appends_both, appends_nothing, begins_behind}
use Rattle.ipc_format.proofs.Appending.{begins_first, begins_nothing, begins_same}
use Rattle.tables_chunks.specs.PutMessages.{IsPast, PutsBatch, PutsSchema}
use Rattle.tables_chunks.specs.Refusals.{IsRefusal, StopsAtSchema}
use Rattle.tables_chunks.specs.WrittenTables.{table_ids}
use Rattle.ipc_format.proofs.NoFloats.{no_float}
use Rattle.tables_chunks.proofs.RefusedWrites.{io_refused}
use Rattle.tables_chunks.proofs.WithinLimits.{dictionaries_fit, has_limits}

-- ---- a schema

pub not_both : (b : Bool) → b ≡ true → b ≡ false → ⊥
not_both true h k = absurd (false≢true (sym k))
not_both false h k = absurd (false≢true h)

-- its metadata isn't made
pub schema_unwritten : (error : Error) (contents : Option (List ℕ)) (schema : Schema) (ids : IdsList) → is_writable schema ≡ true
    → ids ≡ table_ids schema → WritesSchema (Err error) schema ids → PutsSchema (Err error) contents contents schema
schema_unwritten error contents schema ids writable same refused =
    (begins_nothing contents _, why error (subst (λ (some : IdsList). WritesSchema (Err error) schema some) same refused))
  where
    may : may_write schema (table_ids schema) ≡ true
    may = and_from (is_writable schema) (ids_fit_fields schema.fields (table_ids schema)) writable (defaults_fit schema writable)

    why : (error : Error) → WritesSchema (Err error) schema (table_ids schema) → IsRefusal (StopsAtSchema contents contents schema) error
    why errors.Overflow refused = record { past = refused.1; written = appends_nothing contents }
    why errors.OutOfMemory refused = tt
    why (errors.NotYetImplemented what) refused = absurd (not_both (has_float schema) refused (no_float schema writable))
    why (errors.InvalidArgumentError what) refused = absurd (not_both (may_write schema (table_ids schema)) may refused.1)
    why (errors.ExternalFormat what) refused = absurd refused
    why (errors.OutOfSpec what) refused = absurd refused
    why (errors.External from what) refused = absurd refused
    why (errors.Io what) refused = absurd refused

-- its metadata is made
abbrev pub HasMetadata : Schema → IdsList → List ℕ → Type 0
HasMetadata schema ids metadata = (may_write schema ids ≡ true) × (fits_limit (schema_written schema ids) ≡ true)
    × (metadata ≡ (schema_written schema ids).metadata)

pub schema_prefix : (schema : Schema) (ids : IdsList) (metadata : List ℕ) → HasMetadata schema ids metadata
    → prefix_size + length metadata ≤ most_metadata
schema_prefix schema ids metadata made = prefix_fits (schema_written schema ids) metadata made.2 made.1

schema_framed : (schema : Schema) (ids : IdsList) (metadata body : List ℕ) → metadata ≡ (schema_written schema ids).metadata → body ≡ []
    → framed metadata body ≡ message_bytes (schema_written schema ids)
unfolding schema_written
schema_framed schema ids metadata body same none = λ j. framed (same j) (none j)

-- its message, or a beginning of it, is put
pub schema_put : (result : Result (Unit {0}) Error) (old new : Option (List ℕ)) (schema : Schema) (ids : IdsList) (metadata body : List ℕ)
    → ids ≡ table_ids schema → HasMetadata schema ids metadata → body ≡ [] → Puts result old new (framed metadata body)
    → PutsSchema result old new schema
schema_put (Ok _) old new schema ids metadata body same made none put =
    subst (λ (some : IdsList). (fits_limit (schema_written schema some) ≡ true) × Appends old new (message_bytes (schema_written schema some))) same
    (made.1, subst (λ (bytes : List ℕ). Appends old new bytes) (schema_framed schema ids metadata body made.2 none) put)
schema_put (Err error) old new schema ids metadata body same made none put = (
  subst (λ (some : IdsList). AppendsBeginning old new (message_bytes (schema_written schema some))) same
      (begins_same old new _ _ (schema_framed schema ids metadata body made.2 none) put.1),
  io_refused (StopsAtSchema old new schema) error put.0,
)

-- ---- a batch

-- the messages of the dictionaries that go before it fit their limits
pub sent_fit : (before after : List (ℤ × Column) × Bool) (batch : Batch) (messages : List Written) (own : Written)
    → Encodes before after batch (Ok messages) own → list_all fits_limit messages ≡ true
sent_fit before after batch messages own encodes =
    let is = encodes (told_by before.0) (λ id. refl) in
    ap (list_all fits_limit) is.sent
    ∙ dictionaries_fit (to_write (told_by before.0) batch.given) (has_limits (told_by before.0) batch is.within).given

-- so does its own
pub own_fits : (before after : List (ℤ × Column) × Bool) (batch : Batch) (messages : List Written) (own : Written)
    → Encodes before after batch (Ok messages) own → fits_limit own ≡ true
own_fits before after batch messages own encodes =
    let is = encodes (told_by before.0) (λ id. refl) in
    ap fits_limit is.own ∙ (has_limits (told_by before.0) batch is.within).fits

-- it isn't encoded
pub batch_unwritten : (error : Error) (contents : Option (List ℕ)) (before after new : List (ℤ × Column) × Bool) (batch : Batch) (own : Written)
    → agree batch.given ≡ true → Encodes before after batch (Err error) own → PutsBatch (Err error) contents contents before new batch
batch_unwritten error contents before after new batch own agreed encodes told tells kind =
    (begins_nothing contents _, why error (encodes told tells).0)
  where
    may : may_tell (form_by before.1) told batch.given ≡ true
    may = ap (λ (b : Bool). may_tell (form_by b) told batch.given) kind ∙ agreed

    why : (error : Error) → IsBarred error before.1 told batch → IsRefusal (IsPast contents contents told batch) error
    why errors.Overflow refused = record { past = refused.1; written = appends_nothing contents }
    why errors.OutOfMemory refused = tt
    why (errors.InvalidArgumentError what) refused = absurd (not_both (may_tell (form_by before.1) told batch.given) may refused)
    why (errors.NotYetImplemented what) refused = absurd refused
    why (errors.ExternalFormat what) refused = absurd refused
    why (errors.OutOfSpec what) refused = absurd refused
    why (errors.External from what) refused = absurd refused
    why (errors.Io what) refused = absurd refused

-- the bytes of its messages
batch_bytes : (before after : List (ℤ × Column) × Bool) (told : List Given) (batch : Batch) (messages : List Written) (own : Written)
    → IsEncoded before after told batch messages own
    → bytes_of_messages messages ++ message_bytes own ≡ bytes_of_messages (batch_messages told batch)
batch_bytes before after told batch messages own is =
    let dictionaries = map dictionary_message (to_write told batch.given) in
    let last = record_message batch.rows batch.columns in
    (λ j. bytes_of_messages (is.sent j) ++ message_bytes (is.own j))
    ∙ ap (λ (bytes : List ℕ). bytes_of_messages dictionaries ++ bytes) (sym (append-nil (message_bytes last)))
    ∙ sym (flat_map-append message_bytes dictionaries (last ∷ []))

-- the messages of its dictionaries are refused
pub sent_refused : (error : Error) (old new : Option (List ℕ)) (before after : List (ℤ × Column) × Bool) (batch : Batch) (messages : List Written)
    (own : Written) → Encodes before after batch (Ok messages) own → IsIo error × AppendsBeginning old new (bytes_of_messages messages)
    → PutsBatch (Err error) old new before after batch
sent_refused error old new before after batch messages own encodes refused told tells kind = (
  begins_same old new _ _ (batch_bytes before after told batch messages own (encodes told tells))
      (begins_first old new (bytes_of_messages messages) (message_bytes own) refused.1),
  io_refused (IsPast old new told batch) error refused.0,
)

-- its own message, or a beginning of it, is put behind them
pub batch_put : (result : Result (Unit {0}) Error) (old between new : Option (List ℕ)) (before after : List (ℤ × Column) × Bool) (batch : Batch)
    (messages : List Written) (own : Written) → Encodes before after batch (Ok messages) own → Appends old between (bytes_of_messages messages)
    → Puts result between new (message_bytes own) → PutsBatch result old new before after batch
batch_put (Ok _) old between new before after batch messages own encodes first put told tells kind =
    let is = encodes told tells in
    record {
      within = is.within;
      written = subst (λ (bytes : List ℕ). Appends old new bytes) (batch_bytes before after told batch messages own is)
          (appends_both old between new (bytes_of_messages messages) (message_bytes own) first put);
      tells = is.tells;
      kind = is.kind ∙ kind;
    }
batch_put (Err error) old between new before after batch messages own encodes first put told tells kind = (
  begins_same old new _ _ (batch_bytes before after told batch messages own (encodes told tells))
      (begins_behind old between new (bytes_of_messages messages) (message_bytes own) first put.1),
  io_refused (IsPast old new told batch) error put.0,
)
