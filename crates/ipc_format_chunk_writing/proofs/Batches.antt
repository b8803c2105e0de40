-- Batches that are encoded under a schema.
use Rattle.std.proofs.Common.{◌≡◌, ◌∙◌, ℕ, suc, Bool, true, false, ◌&&◌, List, [], ◌∷◌, ◌++◌, map, refl, sym, ap, subst, inl, inr}
use Rattle.std.specs.Prelude.{ℤ, ◌⊎◌, ◌==◌, Some, Result, Ok, Err, slice_get}
use Rattle.std.specs.List.{list_all}
use Rattle.std.proofs.lemmas.Bool.{and_from, and_parts, eq-eqb}
use Rattle.ipc_format_chunk_writing.specs.EncodedChunks.{Encodes, IsBarred, IsEncoded, is_batch_within}
use Rattle.ipc_format_chunk_writing.specs.Tracking.{Tells, form_by, told_by}
use Rattle.ipc_format_batch_reading.specs.Chunks.{AreAsLong, HaveLength, rows_of}
use Rattle.ipc_format_batch_reading.specs.columnar_memory.declared.Error.{Error}
use Rattle.ipc_format_batch_reading.specs.columnar_memory.declared.Error.TheVariants as errors
use Rattle.ipc_format_batch_reading.specs.columnar_memory.declared.Schema.{Schema}
use Rattle.ipc_format_batch_reading.specs.columns.SoundColumns.{is_sound}
use Rattle.ipc_format_batch_reading.specs.columns.StoredColumns.{Column, column_len, in_columns}
use Rattle.ipc_format_batch_reading.specs.grammar.GivenDictionaries.{Given}
use Rattle.ipc_format_batch_reading.specs.grammar.Ids.{ids_fit_fields}
use Rattle.ipc_format_batch_reading.specs.grammar.Schemas.{IdsList}
use Rattle.ipc_format_batch_reading.specs.grammar.Tables.{Form}
use Rattle.ipc_format_batch_reading.specs.grammar.WrittenMessages.{Written, fits_limit}
use Rattle.ipc_format_batch_reading.specs.grammar.WrittenStreams.{are_columns_of, are_equal, batch_messages, batch_of}
use Rattle.ipc_format_batch_reading.specs.grammar.WrittenStreams.{batch_of_stored, belongs}
use Rattle.ipc_format_batch_reading.specs.grammar.WrittenStreams.{chunk_lengths, is_in_room, stored_columns}
use Rattle.ipc_format_chunk_writing.specs.Objections.{IsNotWritten, Objection, long_array, other_dictionary, other_ids, other_schema}
use Rattle.ipc_format_chunk_writing.specs.ShortColumns.{are_short, is_short}
use Rattle.ipc_format_chunk_writing.specs.Streams.{Admits, EncodesBatch, EncodesIn, IsEncodedIn, IsOther, have_forms}
use Rattle.ipc_format_chunk_writing.proofs.Bars.{belongs_by, dictionary_bar, message_bar, no_bar, not_fit, schema_bar, within_fit}
use Rattle.ipc_format_chunk_writing.proofs.ShortColumns.{all_short, batch_in_room}

-- ---- lengths

all_long : (columns : List Column) (n : ℕ) → HaveLength (λ (column : Column). column) n columns
    → list_all (λ (other : ℕ). other == n) (map column_len columns) ≡ true
all_long [] n long = refl
all_long (column ∷ columns) n long =
    and_from (column_len column == n) (list_all (λ (other : ℕ). other == n) (map column_len columns))
    (eq-eqb (column_len column) n (long 0 column refl)) (all_long columns n (λ k array is. long (suc k) array is))

long_equal : (columns : List Column) → AreAsLong (λ (column : Column). column) columns → are_equal (map column_len columns) ≡ true
long_equal [] long = refl
long_equal (column ∷ columns) long = all_long columns (column_len column) (λ k array is. long (suc k) array is)

-- ---- whether a batch belongs

belongs_is : (schema : Schema) (ids : IdsList) (columns : List Column) (short : Bool) → list_all is_sound columns ≡ true
    → AreAsLong (λ (column : Column). column) columns → short ≡ are_short (in_columns columns) → short ≡ true
    → belongs schema ids (stored_columns columns) ≡ have_forms schema.fields columns
belongs_is schema ids columns short sound long is holds =
    belongs_by schema ids columns sound (long_equal columns long)
    (batch_in_room ids columns sound (sym (all_short columns) ∙ sym is ∙ holds))

pub admitted : (schema : Schema) (ids : IdsList) (columns : List Column) (fit short forms : Bool) → list_all is_sound columns ≡ true
    → AreAsLong (λ (column : Column). column) columns → fit ≡ ids_fit_fields schema.fields ids → fit ≡ true
    → short ≡ are_short (in_columns columns) → short ≡ true → forms ≡ have_forms schema.fields columns → forms ≡ true
    → Admits (Ok tt) schema ids columns
admitted schema ids columns fit short forms sound long fit_is fits short_is shorts forms_is formed =
    (sym fit_is ∙ fits, belongs_is schema ids columns short sound long short_is shorts ∙ sym forms_is ∙ formed)

pub other_forms : (schema : Schema) (ids : IdsList) (columns : List Column) (short forms : Bool) → list_all is_sound columns ≡ true
    → AreAsLong (λ (column : Column). column) columns → short ≡ are_short (in_columns columns) → short ≡ true
    → forms ≡ have_forms schema.fields columns → forms ≡ false → belongs schema ids (stored_columns columns) ≡ false
other_forms schema ids columns short forms sound long short_is shorts forms_is other =
    belongs_is schema ids columns short sound long short_is shorts ∙ sym forms_is ∙ other

-- ---- batches that are encoded

room_in : (schema : Schema) (ids : IdsList) (columns : List Column) → belongs schema ids (stored_columns columns) ≡ true
    → is_in_room (batch_of_stored ids columns) ≡ true
unfolding belongs
room_in schema ids columns belong =
    (and_parts (are_columns_of schema.fields (stored_columns columns) && are_equal (chunk_lengths (stored_columns columns)))
    (is_in_room (batch_of schema.fields ids (stored_columns columns))) belong).1

pub encoded_in : (schema : Schema) (old new : List (ℤ × Column) × Bool) (ids : IdsList) (columns : List Column) (messages : List Written)
    (own : Written) → Admits (Ok tt) schema ids columns → Encodes old new (batch_of_stored ids columns) (Ok messages) own
    → EncodesBatch schema old new ids columns (Ok messages) own
encoded_in schema old new ids columns messages own admits encodes told tells =
    let batch = batch_of_stored ids columns in
    let here = encodes told tells in
    let fit = within_fit told batch here.within in
    let sent : messages ++ own ∷ [] ≡ batch_messages told batch = λ i. here.sent i ++ here.own i ∷ [] in
    record {
      fit = admits.0;
      bar = no_bar (form_by old.1) schema ids told columns admits.1 here.may fit;
      sent = sent;
      limits = ap (list_all fits_limit) sent ∙ fit;
      tells = here.tells;
      kind = here.kind;
    }

pub not_encoded : (schema : Schema) (old new : List (ℤ × Column) × Bool) (ids : IdsList) (columns : List Column) (error : Error) (own : Written)
    → Admits (Ok tt) schema ids columns → Encodes old new (batch_of_stored ids columns) (Err error) own
    → EncodesBatch schema old new ids columns (Err error) own
not_encoded schema old new ids columns error own admits encodes told tells =
    let here = encodes told tells in
    (barred error here.0, here.1)
  where
    form : Form
    form = form_by old.1

    barred : (e : Error) → IsBarred e old.1 told (batch_of_stored ids columns) → IsNotWritten form e schema ids told columns
    barred (errors.InvalidArgumentError what) h = other_dictionary (dictionary_bar form schema ids told columns admits.1 h)
    barred errors.Overflow h = message_bar form schema ids told columns admits.1 h.0
        (not_fit told (batch_of_stored ids columns) (room_in schema ids columns admits.1) h.1)
    barred errors.OutOfMemory h = tt
    barred _ h = absurd h

pub encoded_by : (schema : Schema) (old new : List (ℤ × Column) × Bool) (ids : IdsList) (columns : List Column)
    (result : Result (List Written) Error) (own : Written) → Admits (Ok tt) schema ids columns
    → Encodes old new (batch_of_stored ids columns) result own → EncodesBatch schema old new ids columns result own
encoded_by schema old new ids columns (Ok messages) own admits encodes = encoded_in schema old new ids columns messages own admits encodes
encoded_by schema old new ids columns (Err error) own admits encodes = not_encoded schema old new ids columns error own admits encodes

pub not_admitted : (schema : Schema) (old new : List (ℤ × Column) × Bool) (ids : IdsList) (columns : List Column) (error : Error) (own : Written)
    → Admits (Err error) schema ids columns → new ≡ old → EncodesBatch schema old new ids columns (Err error) own
not_admitted schema old new ids columns (errors.InvalidArgumentError what) own other kept told tells = (why other, kept)
  where
    form : Form
    form = form_by old.1

    why : IsOther (errors.InvalidArgumentError what) schema ids columns → Objection form schema ids told columns
    why (inl fit) = other_ids fit
    why (inr (inl belong)) = other_schema (schema_bar form schema ids told columns belong)
    why (inr (inr short)) = long_array short
not_admitted schema old new ids columns errors.OutOfMemory own other kept told tells = (tt, kept)
not_admitted schema old new ids columns _ own other kept told tells = absurd other

-- ---- what follows of an encoded batch

-- a tracker that replaces dictionaries goes on to
pub kind_stays : (schema : Schema) (old new : List (ℤ × Column) × Bool) (ids : IdsList) (columns : List Column)
    (result : Result (List Written) Error) (own : Written) → EncodesBatch schema old new ids columns result own → new.1 ≡ old.1
kind_stays schema old new ids columns (Ok messages) own encodes = (encodes (told_by old.0) (λ id. refl)).kind
kind_stays schema old new ids columns (Err error) own encodes = λ j. ((encodes (told_by old.0) (λ id. refl)).1 j).1

-- its messages are within their limits
pub limits_hold : (schema : Schema) (old new : List (ℤ × Column) × Bool) (ids : IdsList) (columns : List Column) (messages : List Written)
    (own : Written) → EncodesBatch schema old new ids columns (Ok messages) own → list_all fits_limit (messages ++ own ∷ []) ≡ true
limits_hold schema old new ids columns messages own encodes = (encodes (told_by old.0) (λ id. refl)).limits
