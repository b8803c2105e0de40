-- The messages of batches, and of the dictionaries that they bring, of columns of any type.
use Rattle.std.proofs.Common.{◌≡◌, ℕ, zero, suc, ◌+◌, ◌<◌, ◌≤◌, ◌^◌, true, false, Bool, List, [], ◌∷◌, ◌++◌, length, map, sym, subst, ◌∙◌}
use Rattle.std.proofs.Common.{arith, length-append, append_assoc}
use Rattle.std.specs.Prelude.{if◌then◌else◌}
use Rattle.std.specs.List.{All, list_all}
use Rattle.std.proofs.lemmas.List.Elements.{All-head, All-tail, All-cons}
use Rattle.std.proofs.lemmas.List.Folds.{list_all-append}
use Rattle.ipc_format_grammar.specs.Messages as grammar
use Rattle.ipc_format_grammar.specs.Limits.{most_dictionaries}
use Rattle.ipc_format_grammar.specs.Encoding.{joined_columns}
use Rattle.ipc_format_grammar.specs.GivenDictionaries.{Given, stands_for, last_under, to_write, written_after}
use Rattle.ipc_format_grammar.specs.WrittenMessages.{Written, padded_buffer, buffer_places, body_bytes, fits_limit, record_message}
use Rattle.ipc_format_grammar.specs.WrittenMessages.{dictionary_message}
use Rattle.ipc_format_grammar.specs.WrittenStreams.{Batch, messages_after}
use Rattle.ipc_format_laws.specs.BatchMessages.{AreSigned}
use Rattle.ipc_format_laws.proofs.SchemaParts.{both}
use Rattle.ipc_format_laws.proofs.BatchMessages.{record_batches_read_back, dictionary_batches_read_back}
use Rattle.ipc_format_laws.specs.Contents.{AreThoseOf, Sent, dictionary, batch, IsOfSent, sent_after, HasColumns, HasValues}
use Rattle.ipc_format_laws.specs.Contents.{batch_message}
use Rattle.ipc_format_laws.proofs.Room.{HasRoomForValues, HasRoomForColumns}
use Rattle.ipc_format_laws.proofs.LaterMessages.{has_room, ReadsBack, is_message_of, ReadLater, no_more, batch_more, dictionary_more}

-- ---- what is written of a batch reads back

-- the places of buffers have room where their body has
places_signed : (offset : ℕ) (buffers : List (List ℕ)) → offset + length (body_bytes buffers) < 2 ^ 63 → AreSigned (buffer_places offset buffers)
places_signed offset [] small k d inside = absurd (omega arith)
places_signed offset (bytes ∷ buffers) small zero d inside =
    let sizes = length-append (padded_buffer bytes) (body_bytes buffers) in
    let padded : length bytes ≤ length (padded_buffer bytes) = omega (arith, length-append {A = ℕ}) in
    (omega arith, omega arith)
places_signed offset (bytes ∷ buffers) small (suc k) d inside =
    places_signed (offset + length (padded_buffer bytes)) buffers
    (omega (arith, length-append (padded_buffer bytes) (body_bytes buffers))) k d (omega arith)

batch_reads_back : (its_batch : Batch) → HasRoomForColumns its_batch → fits_limit (batch_message its_batch) ≡ true
    → ReadsBack (batch_message its_batch) grammar.record_batch (HasColumns its_batch)
unfolding record_message
batch_reads_back its_batch is fits =
    let room = has_room (batch_message its_batch) fits in
    let columns = joined_columns its_batch.columns in
    record_batches_read_back its_batch.rows columns.nodes (buffer_places 0 columns.buffers) (length (body_bytes columns.buffers)) is.rows is.nodes
    (places_signed 0 columns.buffers (omega (arith, room.body))) room.body (omega (arith, room.metadata))

dictionary_reads_back : (given : Given) → HasRoomForValues given → fits_limit (dictionary_message given) ≡ true
    → ReadsBack (dictionary_message given) grammar.dictionary_batch (HasValues given)
unfolding dictionary_message
dictionary_reads_back given is fits =
    let room = has_room (dictionary_message given) fits in
    let column = given.column in
    dictionary_batches_read_back given.id (length given.slots) column.nodes (buffer_places 0 column.buffers) (length (body_bytes column.buffers))
    is.id is.rows is.nodes (places_signed 0 column.buffers (omega (arith, room.body))) room.body (omega (arith, room.metadata))

-- ---- the dictionaries that are written are among those that are brought

few_if : (test : Bool) (a b : List Given) (n : ℕ) → length a ≤ n → length b ≤ n → length (if test then a else b) ≤ n
few_if true a b n h k = h
few_if false a b n h k = k

few_written : (written given : List Given) → length (to_write written given) ≤ length given
few_written written [] = omega arith
few_written written (next ∷ given) =
    few_if (stands_for next (last_under next.id written)) (to_write written given) (next ∷ to_write (next ∷ written) given) (length (next ∷ given))
    (omega (arith, few_written written given)) (omega (arith, few_written (next ∷ written) given))

all_if : (test : Bool) (a b : List Given) → All HasRoomForValues a → All HasRoomForValues b → All HasRoomForValues (if test then a else b)
all_if true a b h k = h
all_if false a b h k = k

all_written_have_room : (written given : List Given) → All HasRoomForValues given → All HasRoomForValues (to_write written given)
all_written_have_room written [] all = all
all_written_have_room written (next ∷ given) all =
    let here = All-head HasRoomForValues next given all in
    let others = All-tail HasRoomForValues next given all in
    all_if (stands_for next (last_under next.id written)) (to_write written given) (next ∷ to_write (next ∷ written) given)
    (all_written_have_room written given others)
    (All-cons HasRoomForValues next (to_write (next ∷ written) given) here (all_written_have_room (next ∷ written) given others))

-- ---- dictionaries, and batches

-- dictionaries before what may stand behind any of them
dictionaries_read : (before : ℕ) (given : List Given) (others : List Written) (sent : List Sent) → before + length given ≤ most_dictionaries
    → All HasRoomForValues given → list_all fits_limit (map dictionary_message given) ≡ true
    → ((after : ℕ) → ReadLater after others (AreThoseOf IsOfSent sent))
    → ReadLater before (map dictionary_message given ++ others) (AreThoseOf IsOfSent (map dictionary given ++ sent))
dictionaries_read before [] others sent few all fit rest = rest before
dictionaries_read before (next ∷ given) others sent few all fit rest =
    let tests = both (fits_limit (dictionary_message next)) (list_all fits_limit (map dictionary_message given)) fit in
    let found = dictionary_reads_back next (All-head HasRoomForValues next given all) tests.0 in
    dictionary_more IsOfSent before (dictionary next) (map dictionary given ++ sent) (dictionary_message next) (HasValues next)
    (map dictionary_message given ++ others) found tests.0
    (is_message_of (dictionary_message next) grammar.dictionary_batch (HasValues next) found) (omega arith)
    (dictionaries_read (before + 1) given others sent (omega arith) (All-tail HasRoomForValues next given all) tests.1 rest)

pub sent_read : (written : List Given) (batches : List Batch) → All HasRoomForColumns batches
    → list_all fits_limit (messages_after written batches) ≡ true
    → ReadLater 0 (messages_after written batches) (AreThoseOf IsOfSent (sent_after written batches))
sent_read written [] all fit = no_more IsOfSent 0
sent_read written (next ∷ batches) all fit =
    let here = All-head HasRoomForColumns next batches all in
    let given = to_write written next.given in
    let before : List Written = map dictionary_message given in
    let after = written_after written next.given in
    let behind : List Written = batch_message next ∷ messages_after after batches in
    let joins : (before ++ batch_message next ∷ []) ++ messages_after after batches ≡ before ++ behind =
    append_assoc before (batch_message next ∷ []) (messages_after after batches) in
    let joined_fit : list_all fits_limit (before ++ behind) ≡ true =
    subst (λ (messages : List Written). list_all fits_limit messages ≡ true) joins fit in
    let split = both (list_all fits_limit before) (list_all fits_limit behind) (sym (list_all-append fits_limit before behind) ∙ joined_fit) in
    let tests = both (fits_limit (batch_message next)) (list_all fits_limit (messages_after after batches)) split.1 in
    let found = batch_reads_back next here tests.0 in
    let rest = sent_read after batches (All-tail HasRoomForColumns next batches all) tests.1 in
    let few : 0 + length given ≤ most_dictionaries = omega (arith, few_written written next.given, here.few) in
    subst (λ (messages : List Written). ReadLater 0 messages (AreThoseOf IsOfSent (map dictionary given ++ (batch next ∷ sent_after after batches))))
    (sym joins)
    (dictionaries_read 0 given behind (batch next ∷ sent_after after batches) few (all_written_have_room written next.given here.given) split.0
    (λ (k : ℕ). batch_more IsOfSent k (batch next) (sent_after after batches) (batch_message next) (HasColumns next) (messages_after after batches)
    found tests.0 (is_message_of (batch_message next) grammar.record_batch (HasColumns next) found) rest))
