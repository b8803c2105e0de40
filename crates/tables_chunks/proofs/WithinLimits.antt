-- Of batches that are within their limits each message is, and what is written of them has room. A dictionary that isn't written, since the last
-- one under its id says the same, is not asked.
use Rattle.std.proofs.Common.{◌≡◌, ◌∙◌, ℕ, ◌+◌, ◌≤◌, Bool, true, false, ◌&&◌, List, [], ◌∷◌, ◌++◌, length, map, refl, sym, ap}
use Rattle.std.proofs.Common.{subst, arith}
use Rattle.std.specs.Prelude.{nat_lt, Some, None, if◌then◌else◌}
use Rattle.std.specs.List.{All, list_all}
use Rattle.std.proofs.lemmas.Bool.{and_parts, and_from}
use Rattle.std.proofs.lemmas.List.{map-append}
use Rattle.std.proofs.lemmas.List.Elements.{All-head, All-tail, All-nil, All-cons}
use Rattle.std.proofs.lemmas.List.Folds.{list_all-append}
use Rattle.ipc_format.specs.columnar_memory.declared.Schema.{Schema}
use Rattle.ipc_format.specs.columns.StoredColumns.{Column, nulls, flat, lists, fixed_lists, records, unions, dictionary}
use Rattle.ipc_format.specs.columns.StoredColumns.{column_len, slot_at}
use Rattle.ipc_format.proofs.Windows.{length-window}
use Rattle.ipc_format.specs.Encoding.{joined_columns}
use Rattle.ipc_format.specs.GivenDictionaries.{Given, last_under, stands_for, to_write, written_after}
use Rattle.ipc_format.specs.Ids.{all_are_ids}
use Rattle.ipc_format.specs.grammar.Limits.{length_limit}
use Rattle.ipc_format.specs.Schemas.{IdsList}
use Rattle.ipc_format.specs.StoredEncoding.{encode_range, encode_stored}
use Rattle.ipc_format.specs.Writable.{is_writable}
use Rattle.ipc_format.specs.WrittenMessages.{Written, dictionary_message, fits_limit, record_message}
use Rattle.ipc_format.specs.WrittenStreams.{Batch, stored_columns, batch_messages, batch_of_stored, given_of_stored}
use Rattle.ipc_format.specs.WrittenStreams.{has_nodes_in_room, is_in_room, is_node, messages_after, rows_of_stored}
use Rattle.ipc_format.specs.reading_laws.laws.Contents.{AreThoseOf, IsOfSent, Sent, sent_after}
use Rattle.ipc_format.specs.reading_laws.laws.Contents as contents
use Rattle.ipc_format.proofs.GivenIds.{batch_ids}
use Rattle.ipc_format.proofs.LaterMessages.{ReadLater}
use Rattle.ipc_format.proofs.LimitsOfRoom.{HasId, HasRoomForColumns, has_room_for_columns}
use Rattle.ipc_format.proofs.SentMessages.{sent_read}
use Rattle.ipc_format.specs.Framing.{Framed}
use Rattle.ipc_format.proofs.StoredGivenBrought.{Brought, given_of}
use Rattle.ipc_format.proofs.StoredGivenLists.{Each, by_answer}
use Rattle.ipc_format.proofs.StoredGivenReady.{AreColumns, brought_of, given_brought_of, given_few}
use Rattle.ipc_format.proofs.StoredTablesBatches.{IsBatch}
use Rattle.ipc_format.specs.EncodedChunks.{is_batch_within, is_given_within}
use Rattle.tables_chunks.specs.WrittenTables.{are_within}

-- ---- each message fits its limit

pub dictionaries_fit : (given : List Given) → list_all is_given_within given ≡ true → list_all fits_limit (map dictionary_message given) ≡ true
dictionaries_fit [] h = refl
dictionaries_fit (g ∷ given) h =
    let parts = and_parts (is_given_within g) (list_all is_given_within given) h in
    let here = and_parts (has_nodes_in_room g.column) (fits_limit (dictionary_message g)) parts.0 in
    and_from (fits_limit (dictionary_message g)) (list_all fits_limit (map dictionary_message given)) here.1 (dictionaries_fit given parts.1)

-- the parts of a batch that is within its limits
pub record HasLimits (told : List Given) (batch : Batch) : Type 0 where
  pub given : list_all is_given_within (to_write told batch.given) ≡ true
  pub nodes : has_nodes_in_room (joined_columns batch.columns) ≡ true
  pub fits : fits_limit (record_message batch.rows batch.columns) ≡ true

pub has_limits : (told : List Given) (batch : Batch) → is_batch_within told batch ≡ true → HasLimits told batch
has_limits told batch h =
    let message = record_message batch.rows batch.columns in
    let parts = and_parts (list_all is_given_within (to_write told batch.given))
    (has_nodes_in_room (joined_columns batch.columns) && fits_limit message) h in
    let own = and_parts (has_nodes_in_room (joined_columns batch.columns)) (fits_limit message) parts.1 in
    record { given = parts.0; nodes = own.0; fits = own.1 }

pub batch_fits : (told : List Given) (batch : Batch) → is_batch_within told batch ≡ true → list_all fits_limit (batch_messages told batch) ≡ true
batch_fits told batch h =
    let limits = has_limits told batch h in
    let before = map dictionary_message (to_write told batch.given) in
    list_all-append fits_limit before (record_message batch.rows batch.columns ∷ [])
    ∙ and_from (list_all fits_limit before) (fits_limit (record_message batch.rows batch.columns) && true)
    (dictionaries_fit (to_write told batch.given) limits.given)
    (and_from (fits_limit (record_message batch.rows batch.columns)) true limits.fits refl)

pub all_fit : (told : List Given) (batches : List Batch) → are_within told batches ≡ true → list_all fits_limit (messages_after told batches) ≡ true
all_fit told [] h = refl
all_fit told (batch ∷ batches) h =
    let after = written_after told batch.given in
    let parts = and_parts (is_batch_within told batch) (are_within after batches) h in
    list_all-append fits_limit (batch_messages told batch) (messages_after after batches)
    ∙ and_from (list_all fits_limit (batch_messages told batch)) (list_all fits_limit (messages_after after batches))
    (batch_fits told batch parts.0) (all_fit after batches parts.1)

-- ---- what is written of what is written

pub write_again : (told given : List Given) → to_write told (to_write told given) ≡ to_write told given
write_again told [] = refl
write_again told (g ∷ given) =
    let more = to_write (g ∷ told) given in
    by_answer (λ (answer : Bool). stands_for g (last_under g.id told) ≡ answer
    → to_write told (if answer then to_write told given else g ∷ more) ≡ (if answer then to_write told given else g ∷ more))
    (stands_for g (last_under g.id told)) (λ is _. write_again told given)
    (λ is stands. ap (λ (answer : Bool). if answer then to_write told more else g ∷ to_write (g ∷ told) more) stands
    ∙ ap (λ (others : List Given). g ∷ others) (write_again (g ∷ told) given)) refl

pub after_again : (told given : List Given) → written_after told (to_write told given) ≡ written_after told given
after_again told [] = refl
after_again told (g ∷ given) =
    let more = to_write (g ∷ told) given in
    by_answer (λ (answer : Bool). stands_for g (last_under g.id told) ≡ answer
    → written_after told (if answer then to_write told given else g ∷ more)
    ≡ (if answer then written_after told given else written_after (g ∷ told) given))
    (stands_for g (last_under g.id told)) (λ is _. after_again told given)
    (λ is stands. ap (λ (answer : Bool). if answer then written_after told more else written_after (g ∷ told) more) stands
    ∙ after_again (g ∷ told) given) refl

-- a batch with those of its dictionaries alone that are written
abbrev pub thin : List Given → Batch → Batch
thin told batch = record { rows = batch.rows; columns = batch.columns; given = to_write told batch.given }

abbrev pub thinned : List Given → List Batch → List Batch
thinned told [] = []
thinned told (batch ∷ batches) = thin told batch ∷ thinned (written_after told batch.given) batches

pub messages_thinned : (told : List Given) (batches : List Batch) → messages_after told (thinned told batches) ≡ messages_after told batches
messages_thinned told [] = refl
messages_thinned told (batch ∷ batches) =
    let after = written_after told batch.given in
    (λ j. (map dictionary_message (write_again told batch.given j) ++ record_message batch.rows batch.columns ∷ [])
    ++ messages_after (after_again told batch.given j) (thinned after batches))
    ∙ ap (λ (others : List Written). batch_messages told batch ++ others) (messages_thinned after batches)

-- what is sent, without the dictionaries that a batch brings
bare : Sent → Sent
bare (contents.dictionary given) = contents.dictionary given
bare (contents.batch its_batch) = contents.batch (record { rows = its_batch.rows; columns = its_batch.columns; given = [] })

into_bare : (sent : List Sent) (messages : List Framed) → AreThoseOf IsOfSent sent messages → AreThoseOf IsOfSent (map bare sent) messages
unfolding bare
into_bare [] [] are = tt
into_bare [] (message ∷ messages) are = absurd are
into_bare (next ∷ sent) [] are = absurd are
into_bare (contents.dictionary given ∷ sent) (message ∷ messages) are = (are.0, into_bare sent messages are.1)
into_bare (contents.batch its_batch ∷ sent) (message ∷ messages) are = (are.0, into_bare sent messages are.1)

out_of_bare : (sent : List Sent) (messages : List Framed) → AreThoseOf IsOfSent (map bare sent) messages → AreThoseOf IsOfSent sent messages
unfolding bare
out_of_bare [] [] are = tt
out_of_bare [] (message ∷ messages) are = absurd are
out_of_bare (next ∷ sent) [] are = absurd are
out_of_bare (contents.dictionary given ∷ sent) (message ∷ messages) are = (are.0, out_of_bare sent messages are.1)
out_of_bare (contents.batch its_batch ∷ sent) (message ∷ messages) are = (are.0, out_of_bare sent messages are.1)

sent_thinned : (told : List Given) (batches : List Batch) → map bare (sent_after told (thinned told batches)) ≡ map bare (sent_after told batches)
unfolding bare
sent_thinned told [] = refl
sent_thinned told (batch ∷ batches) =
    let after = written_after told batch.given in
    let given = map contents.dictionary (to_write told batch.given) in
    let own = contents.batch (record { rows = batch.rows; columns = batch.columns; given = [] }) in
    (λ j. map bare (map contents.dictionary (write_again told batch.given j)
    ++ (contents.batch (thin told batch) ∷ sent_after (after_again told batch.given j) (thinned after batches))))
    ∙ map-append bare given (contents.batch (thin told batch) ∷ sent_after after (thinned after batches))
    ∙ ap (λ (others : List Sent). map bare given ++ (own ∷ others)) (sent_thinned after batches)
    ∙ sym (map-append bare given (contents.batch batch ∷ sent_after after batches))

-- ---- room

-- how many slots the first node states
abbrev first_slots : List (ℕ × ℕ) → ℕ
first_slots [] = 0
first_slots (node ∷ others) = node.0

first_small : (nodes : List (ℕ × ℕ)) → list_all is_node nodes ≡ true → nat_lt (first_slots nodes) length_limit ≡ true
first_small [] h = refl
first_small (node ∷ others) h =
    (and_parts (nat_lt node.0 length_limit) (nat_lt node.1 length_limit) (and_parts (is_node node) (list_all is_node others) h).0).0

range_slots : (c : Column) (o n : ℕ) → first_slots (encode_range true c o n).nodes ≡ n
range_slots (nulls t count) o n = refl
range_slots (flat t mask stored) o n = refl
range_slots (lists t mask offsets child) o n = refl
range_slots (fixed_lists t mask size child) o n = refl
range_slots (records t mask count children) o n = refl
range_slots (unions t own None children) o n = refl
range_slots (unions t own (Some offsets) children) o n = refl
range_slots (dictionary t mask keys values) o n = refl

range_small : (c : Column) (o n : ℕ) → has_nodes_in_room (encode_range true c o n) ≡ true → nat_lt n length_limit ≡ true
range_small c o n h = ap (λ k. nat_lt k length_limit) (sym (range_slots c o n)) ∙ first_small (encode_range true c o n).nodes h

rows_small : (cs : List Column) → has_nodes_in_room (joined_columns (map (encode_stored true) cs)) ≡ true → nat_lt (rows_of_stored cs) length_limit
    ≡ true
rows_small [] h = refl
rows_small (c ∷ cs) h =
    let first = (encode_stored true c).nodes in
    let others = (joined_columns (map (encode_stored true) cs)).nodes in
    range_small c 0 (column_len c) (and_parts (list_all is_node first) (list_all is_node others) (sym (list_all-append is_node first others) ∙ h)).0

-- a dictionary whose nodes have room has room for its values
abbrev HasValuesWithin : Given → Type 0
HasValuesWithin given = has_nodes_in_room given.column ≡ true → nat_lt (length given.slots) length_limit ≡ true

brought_within : (bs : List Brought) → All HasValuesWithin (map given_of bs)
brought_within [] = All-nil HasValuesWithin
brought_within (b ∷ bs) =
    All-cons HasValuesWithin (given_of b) (map given_of bs)
    (λ h. ap (λ n. nat_lt n length_limit) (length-window (slot_at b.values) 0 (column_len b.values))
    ∙ range_small b.values 0 (column_len b.values) h)
    (brought_within bs)

given_within : (below : IdsList) (cs : List Column) → All HasValuesWithin (given_of_stored below cs)
given_within below cs = subst (λ (given : List Given). All HasValuesWithin given) (given_brought_of below cs) (brought_within (brought_of below cs))

all_if : (P : Given → Type 0) (test : Bool) (a b : List Given) → All P a → All P b → All P (if test then a else b)
all_if P true a b h k = h
all_if P false a b h k = k

all_written : (P : Given → Type 0) (told given : List Given) → All P given → All P (to_write told given)
all_written P told [] all = all
all_written P told (g ∷ given) all =
    let others = All-tail P g given all in
    all_if P (stands_for g (last_under g.id told)) (to_write told given) (g ∷ to_write (g ∷ told) given) (all_written P told given others)
    (All-cons P g (to_write (g ∷ told) given) (All-head P g given all) (all_written P (g ∷ told) given others))

few_if : (test : Bool) (a b : List Given) (n : ℕ) → length a ≤ n → length b ≤ n → length (if test then a else b) ≤ n
few_if true a b n h k = h
few_if false a b n h k = k

few_written : (told given : List Given) → length (to_write told given) ≤ length given
few_written told [] = omega arith
few_written told (g ∷ given) =
    few_if (stands_for g (last_under g.id told)) (to_write told given) (g ∷ to_write (g ∷ told) given) (length (g ∷ given))
    (omega (arith, few_written told given)) (omega (arith, few_written (g ∷ told) given))

abbrev has_room : Given → Bool
has_room given = has_nodes_in_room given.column && nat_lt (length given.slots) length_limit

values_in_room : (given : List Given) → list_all is_given_within given ≡ true → All HasValuesWithin given → list_all has_room given ≡ true
values_in_room [] h all = refl
values_in_room (g ∷ given) h all =
    let parts = and_parts (is_given_within g) (list_all is_given_within given) h in
    let nodes = (and_parts (has_nodes_in_room g.column) (fits_limit (dictionary_message g)) parts.0).0 in
    and_from (has_room g) (list_all has_room given)
    (and_from (has_nodes_in_room g.column) (nat_lt (length g.slots) length_limit) nodes (All-head HasValuesWithin g given all nodes))
    (values_in_room given parts.1 (All-tail HasValuesWithin g given all))

thin_in_room : (told : List Given) (below : IdsList) (cs : List Column) → is_batch_within told (batch_of_stored below cs) ≡ true
    → is_in_room (thin told (batch_of_stored below cs)) ≡ true
unfolding batch_of_stored
thin_in_room told below cs h =
    let limits = has_limits told (batch_of_stored below cs) h in
    let columns = joined_columns (map (encode_stored true) cs) in
    let written = to_write told (given_of_stored below cs) in
    and_from (nat_lt (rows_of_stored cs) length_limit && has_nodes_in_room columns) (list_all has_room written)
    (and_from (nat_lt (rows_of_stored cs) length_limit) (has_nodes_in_room columns) (rows_small cs limits.nodes) limits.nodes)
    (values_in_room written limits.given (all_written HasValuesWithin told (given_of_stored below cs) (given_within below cs)))

thin_room : (schema : Schema) (told : List Given) (below : IdsList) (cs : List Column) → is_writable schema ≡ true → all_are_ids below ≡ true
    → AreColumns schema.fields below cs → is_batch_within told (batch_of_stored below cs) ≡ true
    → HasRoomForColumns (thin told (batch_of_stored below cs))
unfolding batch_of_stored
thin_room schema told below cs writable ids are h =
    has_room_for_columns (thin told (batch_of_stored below cs)) (thin_in_room told below cs h)
    (all_written HasId told (given_of_stored below cs) (batch_ids schema.fields below (stored_columns cs) ids))
    (omega (arith, few_written told (given_of_stored below cs), given_few schema below cs writable are))

pub rooms : (schema : Schema) (told : List Given) (below : IdsList) (batches : List (List Column)) → is_writable schema ≡ true
    → all_are_ids below ≡ true → Each (IsBatch schema.fields below) batches → are_within told (map (batch_of_stored below) batches) ≡ true
    → All HasRoomForColumns (thinned told (map (batch_of_stored below) batches))
rooms schema told below [] writable ids its h = All-nil HasRoomForColumns
rooms schema told below (cs ∷ batches) writable ids its h =
    let batch = batch_of_stored below cs in
    let after = written_after told batch.given in
    let others = map (batch_of_stored below) batches in
    let parts = and_parts (is_batch_within told batch) (are_within after others) h in
    All-cons HasRoomForColumns (thin told batch) (thinned after others) (thin_room schema told below cs writable ids its.0.columns parts.0)
    (rooms schema after below batches writable ids its.1 parts.1)

-- ---- the messages behind a schema's are read

pub within_read : (schema : Schema) (below : IdsList) (batches : List (List Column)) → is_writable schema ≡ true → all_are_ids below ≡ true
    → Each (IsBatch schema.fields below) batches → are_within [] (map (batch_of_stored below) batches) ≡ true
    → ReadLater 0 (messages_after [] (map (batch_of_stored below) batches))
    (AreThoseOf IsOfSent (sent_after [] (map (batch_of_stored below) batches)))
within_read schema below batches writable ids its h =
    let all = map (batch_of_stored below) batches in
    let same = messages_thinned [] all in
    let read = sent_read [] (thinned [] all) (rooms schema [] below batches writable ids its h)
    (ap (list_all fits_limit) same ∙ all_fit [] all h) in
    record {
      messages = read.messages;
      are_written = read.are_written ∙ same;
      readable = read.readable;
      follow = read.follow;
      are_later = out_of_bare (sent_after [] all) read.messages (subst (λ (sent : List Sent). AreThoseOf IsOfSent sent read.messages)
          (sent_thinned [] all) (into_bare (sent_after [] (thinned [] all)) read.messages read.are_later));
    }
