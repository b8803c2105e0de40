-- Why a batch is not written under a schema.
use Rattle.std.proofs.Common.{◌≡◌, ◌∙◌, ℕ, Bool, true, false, not, ◌&&◌, List, [], ◌∷◌, ◌++◌, map, refl, sym, ap, subst, length}
use Rattle.std.specs.Prelude.{Option, Some, None, nat_lt, if◌then◌else◌}
use Rattle.std.specs.List.{list_all}
use Rattle.std.proofs.lemmas.Bool.{and_cases, and_from, and_left, and_parts, and_right, both_ways, false_from_ne_true, false≢true}
use Rattle.std.proofs.lemmas.List.Folds.{list_all-append}
use Rattle.ipc_format_batch_reading.specs.columnar_memory.declared.Schema.{Schema}
use Rattle.ipc_format_batch_reading.specs.columnar_memory.Equality.{same_type}
use Rattle.ipc_format_batch_reading.specs.columnar_memory.declared.Field.{Field}
use Rattle.ipc_format_batch_reading.specs.columns.SoundColumns.{is_sound}
use Rattle.ipc_format_batch_reading.specs.columns.StoredColumns.{Column, column_len, column_type}
use Rattle.ipc_format_batch_reading.specs.grammar.Encoding.{Encoded, joined_columns}
use Rattle.ipc_format_batch_reading.specs.grammar.GivenDictionaries.{Given, to_write, last_under, stands_for}
use Rattle.ipc_format_batch_reading.specs.grammar.Limits.{length_limit}
use Rattle.ipc_format_batch_reading.specs.grammar.Schemas.{IdsList}
use Rattle.ipc_format_batch_reading.specs.grammar.Tables.{Form}
use Rattle.ipc_format_batch_reading.specs.grammar.Writable.{normalised_type}
use Rattle.ipc_format_batch_reading.specs.grammar.WriterRuns.{WriteBar, another_schema, another_dictionary, long_message, may_tell}
use Rattle.ipc_format_batch_reading.specs.grammar.WriterRuns.{write_bar}
use Rattle.ipc_format_batch_reading.specs.grammar.WrittenMessages.{Written, dictionary_message, record_message, fits_limit}
use Rattle.ipc_format_batch_reading.specs.grammar.WrittenStreams.{Batch, batch_messages, batch_of_stored, belongs, has_nodes_in_room}
use Rattle.ipc_format_batch_reading.specs.grammar.WrittenStreams.{is_column_of, is_in_room, stored_columns}
use Rattle.ipc_format_batch_reading.specs.grammar.WrittenStreams.{pass_each, are_equal}
use Rattle.ipc_format_chunk_writing.specs.EncodedChunks.{is_batch_within, is_given_within}
use Rattle.ipc_format_batch_reading.specs.Placing.{is_within}
use Rattle.ipc_format_chunk_writing.proofs.Told.{by_answer}
use Rattle.ipc_format_chunk_writing.specs.Streams.{have_forms}

-- ---- limits

abbrev given_fits : Given → Bool
given_fits given = has_nodes_in_room given.column && nat_lt (length given.slots) length_limit

given_within_fit : (given : List Given) → list_all is_given_within given ≡ true → list_all fits_limit (map dictionary_message given) ≡ true
given_within_fit [] within = refl
given_within_fit (next ∷ given) within =
    let parts = and_parts (is_given_within next) (list_all is_given_within given) within in
    and_from (fits_limit (dictionary_message next)) (list_all fits_limit (map dictionary_message given))
    (and_parts (has_nodes_in_room next.column) (fits_limit (dictionary_message next)) parts.0).1 (given_within_fit given parts.1)

given_fit_within : (given : List Given) → list_all given_fits given ≡ true → list_all fits_limit (map dictionary_message given) ≡ true
    → list_all is_given_within given ≡ true
given_fit_within [] room fit = refl
given_fit_within (next ∷ given) room fit =
    let rooms = and_parts (given_fits next) (list_all given_fits given) room in
    let fits = and_parts (fits_limit (dictionary_message next)) (list_all fits_limit (map dictionary_message given)) fit in
    and_from (is_given_within next) (list_all is_given_within given)
    (and_from (has_nodes_in_room next.column) (fits_limit (dictionary_message next))
    (and_parts (has_nodes_in_room next.column) (nat_lt (length next.slots) length_limit) rooms.0).0 fits.0)
    (given_fit_within given rooms.1 fits.1)

-- those that are written are some of those that are given
written_fits : (told given : List Given) → list_all given_fits given ≡ true → list_all given_fits (to_write told given) ≡ true
written_fits told [] room = refl
written_fits told (next ∷ given) room =
    let rooms = and_parts (given_fits next) (list_all given_fits given) room in
    by_answer (λ (answer : Bool). list_all given_fits (if answer then to_write told given else next ∷ to_write (next ∷ told) given) ≡ true)
    (stands_for next (last_under next.id told)) (λ is. written_fits told given rooms.1)
    (λ is. and_from (given_fits next) (list_all given_fits (to_write (next ∷ told) given)) rooms.0 (written_fits (next ∷ told) given rooms.1))

messages_are : (told : List Given) (batch : Batch) → list_all fits_limit (batch_messages told batch)
    ≡ (list_all fits_limit (map dictionary_message (to_write told batch.given)) && (fits_limit (record_message batch.rows batch.columns) && true))
messages_are told batch =
    list_all-append fits_limit (map dictionary_message (to_write told batch.given)) (record_message batch.rows batch.columns ∷ [])

pub within_fit : (told : List Given) (batch : Batch) → is_batch_within told batch ≡ true → list_all fits_limit (batch_messages told batch) ≡ true
within_fit told batch within =
    let own = record_message batch.rows batch.columns in
    let parts = and_parts (list_all is_given_within (to_write told batch.given)) (is_within (joined_columns batch.columns) own) within in
    messages_are told batch
    ∙ and_from (list_all fits_limit (map dictionary_message (to_write told batch.given))) (fits_limit own && true)
    (given_within_fit (to_write told batch.given) parts.0)
    (and_from (fits_limit own) true (and_parts (has_nodes_in_room (joined_columns batch.columns)) (fits_limit own) parts.1).1 refl)

fit_within : (told : List Given) (batch : Batch) → is_in_room batch ≡ true → list_all fits_limit (batch_messages told batch) ≡ true
    → is_batch_within told batch ≡ true
fit_within told batch room fit =
    let own = record_message batch.rows batch.columns in
    let rooms = and_parts (nat_lt batch.rows length_limit && has_nodes_in_room (joined_columns batch.columns))
    (list_all given_fits batch.given) room in
    let columns = and_parts (nat_lt batch.rows length_limit) (has_nodes_in_room (joined_columns batch.columns)) rooms.0 in
    let fits = and_parts (list_all fits_limit (map dictionary_message (to_write told batch.given))) (fits_limit own && true)
    (sym (messages_are told batch) ∙ fit) in
    and_from (list_all is_given_within (to_write told batch.given)) (is_within (joined_columns batch.columns) own)
    (given_fit_within (to_write told batch.given) (written_fits told batch.given rooms.1) fits.0)
    (and_from (has_nodes_in_room (joined_columns batch.columns)) (fits_limit own) columns.1 (and_parts (fits_limit own) true fits.1).0)

pub not_fit : (told : List Given) (batch : Batch) → is_in_room batch ≡ true → is_batch_within told batch ≡ false
    → list_all fits_limit (batch_messages told batch) ≡ false
not_fit told batch room past =
    false_from_ne_true (list_all fits_limit (batch_messages told batch)) (λ fit. both_ways (is_batch_within told batch) past
    (fit_within told batch room fit))

-- ---- bars

abbrev pub bar_by : (b m f : Bool) → Option WriteBar
bar_by b m f = if not b then Some another_schema else if not m then Some another_dictionary else if not f then Some long_message else None

pub bar_is : (form : Form) (schema : Schema) (ids : IdsList) (told : List Given) (columns : List Column)
    → write_bar form schema ids told (stored_columns columns)
    ≡ bar_by (belongs schema ids (stored_columns columns)) (may_tell form told (batch_of_stored ids columns).given)
    (list_all fits_limit (batch_messages told (batch_of_stored ids columns)))
unfolding write_bar
bar_is form schema ids told columns = refl

pub no_bar : (form : Form) (schema : Schema) (ids : IdsList) (told : List Given) (columns : List Column)
    → belongs schema ids (stored_columns columns) ≡ true → may_tell form told (batch_of_stored ids columns).given ≡ true
    → list_all fits_limit (batch_messages told (batch_of_stored ids columns)) ≡ true
    → write_bar form schema ids told (stored_columns columns) ≡ None
no_bar form schema ids told columns b m f = bar_is form schema ids told columns ∙ (λ i. bar_by (b i) (m i) (f i))

pub schema_bar : (form : Form) (schema : Schema) (ids : IdsList) (told : List Given) (columns : List Column)
    → belongs schema ids (stored_columns columns) ≡ false → write_bar form schema ids told (stored_columns columns) ≡ Some another_schema
schema_bar form schema ids told columns b = bar_is form schema ids told columns
    ∙ ap (λ (it : Bool). bar_by it (may_tell form told (batch_of_stored ids columns).given)
    (list_all fits_limit (batch_messages told (batch_of_stored ids columns)))) b

pub dictionary_bar : (form : Form) (schema : Schema) (ids : IdsList) (told : List Given) (columns : List Column)
    → belongs schema ids (stored_columns columns) ≡ true → may_tell form told (batch_of_stored ids columns).given ≡ false
    → write_bar form schema ids told (stored_columns columns) ≡ Some another_dictionary
dictionary_bar form schema ids told columns b m = bar_is form schema ids told columns
    ∙ (λ i. bar_by (b i) (m i) (list_all fits_limit (batch_messages told (batch_of_stored ids columns))))

pub message_bar : (form : Form) (schema : Schema) (ids : IdsList) (told : List Given) (columns : List Column)
    → belongs schema ids (stored_columns columns) ≡ true → may_tell form told (batch_of_stored ids columns).given ≡ true
    → list_all fits_limit (batch_messages told (batch_of_stored ids columns)) ≡ false
    → write_bar form schema ids told (stored_columns columns) ≡ Some long_message
message_bar form schema ids told columns b m f = bar_is form schema ids told columns ∙ (λ i. bar_by (b i) (m i) (f i))

-- ---- columns

-- sound columns are those of fields where they have the forms of these
pub forms_are : (fields : List Field) (columns : List Column) → list_all is_sound columns ≡ true
    → pass_each is_column_of fields columns ≡ have_forms fields columns
forms_are [] [] sound = refl
forms_are [] (column ∷ columns) sound = refl
forms_are (field ∷ fields) [] sound = refl
forms_are (field ∷ fields) (column ∷ columns) sound =
    let sounds = and_parts (is_sound column) (list_all is_sound columns) sound in
    ap (λ (b : Bool). (b && same_type (normalised_type (column_type column)) (normalised_type field.data_type))
    && pass_each is_column_of fields columns) sounds.0
    ∙ ap (λ (b : Bool). same_type (normalised_type (column_type column)) (normalised_type field.data_type) && b) (forms_are fields columns sounds.1)

pub belongs_by : (schema : Schema) (ids : IdsList) (columns : List Column) → list_all is_sound columns ≡ true
    → are_equal (map column_len columns) ≡ true → is_in_room (batch_of_stored ids columns) ≡ true
    → belongs schema ids (stored_columns columns) ≡ have_forms schema.fields columns
unfolding belongs
belongs_by schema ids columns sound long room =
    ap (λ (b : Bool). b && are_equal (map column_len columns) && is_in_room (batch_of_stored ids columns)) (forms_are schema.fields columns sound)
    ∙ (λ i. have_forms schema.fields columns && long i && room i) ∙ all_true (have_forms schema.fields columns)
  where
    all_true : (b : Bool) → (b && true && true) ≡ b
    all_true true = refl
    all_true false = refl
