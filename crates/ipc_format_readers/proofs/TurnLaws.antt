-- The batches of a stream are those of its turns.
use Rattle.std.proofs.Common.{◌≡◌, ◌∙◌, ℕ, zero, suc, ◌+◌, ◌-◌, ◌≤◌, ◌<◌, Bool, true, false, List, [], ◌∷◌, length, map, drop, refl, sym, ap, arith}
use Rattle.std.proofs.Common.{nat_lt}
use Rattle.std.specs.Prelude.{Option, Some, None}
use Rattle.std.proofs.lemmas.Bool.{leb-true}
use Rattle.ipc_format_chunk_writing.specs.BatchReads.{asked_arrays}
use Rattle.ipc_format_chunk_writing.specs.DictionaryReads.{dictionary_array}
use Rattle.ipc_format_chunk_writing.specs.Readable.{HasArrays}
use Rattle.ipc_format_chunk_writing.specs.columns.Slots.{Slot}
use Rattle.ipc_format_chunk_writing.specs.flatbuffers.Reading.{◌>>=◌, guard}
use Rattle.ipc_format_chunk_writing.specs.flatbuffers.FlatBuffers.{TablePlace}
use Rattle.ipc_format_chunk_writing.specs.grammar.Messages as grammar
use Rattle.ipc_format_chunk_writing.specs.grammar.Messages.{Header, Version}
use Rattle.ipc_format_chunk_writing.specs.grammar.Columns.{Dictionary}
use Rattle.ipc_format_chunk_writing.specs.grammar.Dictionaries.{Entry, Layout, dictionary_in}
use Rattle.ipc_format_chunk_writing.specs.grammar.Framing.{Framed, Next, nothing_whole, at_end}
use Rattle.ipc_format_chunk_writing.specs.grammar.Framing.{message_then, next_at, by_next, dictionaries_after, later_messages}
use Rattle.ipc_format_chunk_writing.specs.grammar.Limits.{most_dictionaries}
use Rattle.ipc_format_chunk_writing.specs.grammar.Tables.{batch_in, chosen_batch_in, stream_entry}
use Rattle.ipc_format_readers.specs.Laws.{StreamsAreReadByTurns, asked_batches, batches_from, batches_by_turn}
use Rattle.ipc_format_readers.specs.Turns.{Said, dictionary_stands, columns_come, said_by, heard}
use Rattle.ipc_format_readers.specs.Turns.{waits, ends, gives, turn_with, turn_within, next_turn}
use Rattle.ipc_format_readers.proofs.Dropped.{then_later, later_by, bind_nothing, bind_twice}
use Rattle.ipc_format_readers.proofs.Dropped.{bind_same, drop_size, reaches, later_dropped, enough}

abbrev Batches : Type 0
Batches = List (List (List Slot))

-- ---- messages, of all columns or of those that are asked for

-- the columns of a record batch that are asked for
abbrev asked_batch_in : Option (List ℕ) → Layout → List Dictionary → Entry → TablePlace → Option (List (List Slot))
asked_batch_in None layout standing entry table = batch_in layout standing entry table
asked_batch_in (Some columns) layout standing entry table = chosen_batch_in layout standing entry None columns table

-- what a message and those after it give of them
abbrev asked_with : Option (List ℕ) → Layout → List Dictionary → Entry → (List Dictionary → Option Batches) → Header → Option Batches
asked_with asked layout standing entry rest (grammar.schema table) = None
asked_with asked layout standing entry rest (grammar.dictionary_batch table) = do
  dictionary ← dictionary_in layout standing entry table
  rest (dictionary ∷ standing)
asked_with asked layout standing entry rest (grammar.record_batch table) = do
  columns ← asked_batch_in asked layout standing entry table
  batches ← rest standing
  Some (columns ∷ batches)

none_asked : (asked : Option (List ℕ)) (layout : Layout) (standing : List Dictionary) → asked_batches asked layout standing [] ≡ Some []
none_asked None layout standing = refl
none_asked (Some columns) layout standing = refl

headed : (asked : Option (List ℕ)) (layout : Layout) (standing : List Dictionary) (metadata : List ℕ) (version : Version) (room : List ℕ)
    (origin : ℕ) (header : Header) (others : List Entry)
    → asked_batches asked layout standing
    (record { metadata = metadata; header = header; version = version; room = room; origin = origin } ∷ others)
    ≡ asked_with asked layout standing (record { metadata = metadata; header = header; version = version; room = room; origin = origin })
    (λ now. asked_batches asked layout now others) header
headed None layout standing metadata version room origin (grammar.schema table) others = refl
headed None layout standing metadata version room origin (grammar.dictionary_batch table) others = refl
headed None layout standing metadata version room origin (grammar.record_batch table) others = refl
headed (Some columns) layout standing metadata version room origin (grammar.schema table) others = refl
headed (Some columns) layout standing metadata version room origin (grammar.dictionary_batch table) others = refl
headed (Some columns) layout standing metadata version room origin (grammar.record_batch table) others = refl

-- what is read of a record batch is what the format gives
arrays_asked : (asked : Option (List ℕ)) (layout : Layout) → HasArrays layout
    → (standing : List Dictionary) (entry : Entry) (table : TablePlace)
    → asked_arrays asked layout standing None entry table ≡ asked_batch_in asked layout standing entry table
arrays_asked None layout has standing entry table = has.batches standing entry table
arrays_asked (Some columns) layout has standing entry table = has.choices standing None columns entry table

module _ (asked : Option (List ℕ)) (layout : Layout) (version : Version) (has : HasArrays layout) where
  -- the batches of some messages
  abbrev of_messages : List Dictionary → Option (List Framed) → Option Batches
  of_messages standing later =
      later >>= (λ (messages : List Framed). asked_batches asked layout standing (map (stream_entry version) messages))

  -- a message's batches, and those of the messages behind it
  abbrev of_message : List Dictionary → Framed → Header → Option (List Framed) → Option Batches
  of_message standing message header later =
      later >>= (λ (others : List Framed). asked_with asked layout standing (stream_entry version message)
      (λ now. asked_batches asked layout now (map (stream_entry version) others)) header)

  -- what comes of what a message says
  abbrev by_said : List ℕ → List Dictionary → ℕ → ℕ → Option Said → Option Batches
  by_said rest standing most row said =
      said >>= (λ (it : Said). turn_with (λ now stand. turn_within asked layout version most rest stand now) rest standing (row, it)
      >>= batches_by_turn asked layout version)

  -- behind a message that is heard of
  dictionary_first : (message : Framed) (table : TablePlace) (rest : List ℕ) (standing : List Dictionary) (most row : ℕ)
      (later : Option (List Framed))
      (found : Option Dictionary)
      → ((stand : List Dictionary) → of_messages stand later ≡ (turn_within asked layout version most rest stand row
      >>= batches_by_turn asked layout version))
      → (later >>= (λ (others : List Framed). found
      >>= (λ (dictionary : Dictionary). asked_batches asked layout (dictionary ∷ standing) (map (stream_entry version) others))))
      ≡ by_said rest standing most row (found >>= (λ (dictionary : Dictionary). Some (dictionary_stands dictionary)))
  dictionary_first message table rest standing most row later None each = bind_nothing later
  dictionary_first message table rest standing most row later (Some dictionary) each = each (dictionary ∷ standing)

  columns_first : (rest : List ℕ) (standing : List Dictionary) (most : ℕ) (later : Option (List Framed)) (found : Option (List (List Slot)))
      → of_messages standing later ≡ batches_from asked layout version rest standing 0
      → (later >>= (λ (others : List Framed). found >>= (λ (columns : List (List Slot)).
      asked_batches asked layout standing (map (stream_entry version) others) >>= (λ (batches : Batches). Some (columns ∷ batches)))))
      ≡ by_said rest standing most 0 (found >>= (λ (columns : List (List Slot)). Some (columns_come columns)))
  columns_first rest standing most later None same = bind_nothing later
  columns_first rest standing most later (Some columns) same =
      sym (bind_twice later (λ (others : List Framed). asked_batches asked layout standing (map (stream_entry version) others))
      (λ (batches : Batches). Some (columns ∷ batches)))
      ∙ ap (λ (batches : Option Batches). batches >>= (λ (others : Batches). Some (columns ∷ others))) same

  -- ---- by the header of the first message

  heard_then : {A B C : Type 0} (said : Option A) (row : ℕ) (f : ℕ × A → Option B) (g : B → Option C)
      → (((said >>= (λ (it : A). Some (row, it))) >>= f) >>= g) ≡ (said >>= (λ (it : A). f (row, it) >>= g))
  heard_then None row f g = refl
  heard_then (Some it) row f g = refl

  flatten : (standing : List Dictionary) (message : Framed) (later : ℕ → Option (List Framed)) (found : Option ℕ)
      → of_messages standing (then_later later message found)
      ≡ (found >>= (λ (row : ℕ). of_message standing message message.header (later row)))
  flatten standing message later None = refl
  flatten standing message later (Some row) =
      bind_twice (later row) (λ (others : List Framed). Some (message ∷ others))
      (λ (messages : List Framed). asked_batches asked layout standing (map (stream_entry version) messages))
      ∙ bind_same (later row) _ _ (λ (others : List Framed) is.
      headed asked layout standing message.metadata version message.body 0 message.header (map (stream_entry version) others))

  -- what is heard of a message with some header
  abbrev heard_by : List Dictionary → ℕ → Framed → Header → Option (ℕ × Said)
  heard_by standing row message header =
      dictionaries_after row header
      >>= (λ (in_a_row : ℕ). said_by asked layout standing (stream_entry version message) header >>= (λ (said : Said). Some (in_a_row, said)))

  abbrev turned : List ℕ → List Dictionary → ℕ → Option (ℕ × Said) → Option Batches
  turned rest standing most found =
      (found >>= turn_with (λ now stand. turn_within asked layout version most rest stand now) rest standing) >>= batches_by_turn asked layout version

  module _ (message : Framed) (rest : List ℕ) (standing : List Dictionary) (most row : ℕ) (later : ℕ → Option (List Framed))
      (behind_dictionary : row < most_dictionaries → (stand : List Dictionary) → of_messages stand (later (row + 1))
      ≡ (turn_within asked layout version most rest stand (row + 1) >>= batches_by_turn asked layout version))
      (behind_batch : of_messages standing (later 0) ≡ batches_from asked layout version rest standing 0) where
    at_dictionary : (table : TablePlace) (few : Bool) → nat_lt row most_dictionaries ≡ few
        → ((guard few >>= (λ (ok : Bool). Some (row + 1)))
        >>= (λ (in_a_row : ℕ). of_message standing message (grammar.dictionary_batch table) (later in_a_row)))
        ≡ turned rest standing most ((guard few >>= (λ (ok : Bool). Some (row + 1)))
        >>= (λ (in_a_row : ℕ). said_by asked layout standing (stream_entry version message) (grammar.dictionary_batch table)
        >>= (λ (said : Said). Some (in_a_row, said))))
    at_dictionary table false is = refl
    at_dictionary table true is =
        let few : row < most_dictionaries = leb-true (suc row) most_dictionaries is in
        ap (λ (found : Option Dictionary). later (row + 1) >>= (λ (others : List Framed). found
        >>= (λ (dictionary : Dictionary). asked_batches asked layout (dictionary ∷ standing) (map (stream_entry version) others))))
        (sym (has.dictionaries standing (stream_entry version message) table))
        ∙ dictionary_first message table rest standing most (row + 1) (later (row + 1))
        (dictionary_array layout standing (stream_entry version message) table) (behind_dictionary few)
        ∙ sym (heard_then (said_by asked layout standing (stream_entry version message) (grammar.dictionary_batch table)) (row + 1)
        (turn_with (λ now stand. turn_within asked layout version most rest stand now) rest standing) (batches_by_turn asked layout version))

    at_header : (header : Header) → (dictionaries_after row header
        >>= (λ (in_a_row : ℕ). of_message standing message header (later in_a_row)))
        ≡ turned rest standing most (heard_by standing row message header)
    at_header (grammar.schema table) = refl
    at_header (grammar.dictionary_batch table) = at_dictionary table (nat_lt row most_dictionaries) refl
    at_header (grammar.record_batch table) =
        ap (λ (found : Option (List (List Slot))). later 0 >>= (λ (others : List Framed). found >>= (λ (columns : List (List Slot)).
        asked_batches asked layout standing (map (stream_entry version) others) >>= (λ (batches : Batches). Some (columns ∷ batches)))))
        (sym (arrays_asked asked layout has standing (stream_entry version message) table))
        ∙ columns_first rest standing most (later 0) (asked_arrays asked layout standing None (stream_entry version message) table) behind_batch
        ∙ sym (heard_then (said_by asked layout standing (stream_entry version message) (grammar.record_batch table)) 0
        (turn_with (λ now stand. turn_within asked layout version most rest stand now) rest standing) (batches_by_turn asked layout version))

    at_message : of_messages standing (then_later later message (dictionaries_after row message.header))
        ≡ turned rest standing most (heard asked layout version standing row message)
    at_message = flatten standing message later (dictionaries_after row message.header) ∙ at_header message.header

  -- ---- one turn

  abbrev TurnsRead : ℕ → Type 0
  TurnsRead k = (bytes : List ℕ) (standing : List Dictionary) (row : ℕ) → row ≤ most_dictionaries → most_dictionaries < row + k
      → batches_from asked layout version bytes standing row
      ≡ (turn_within asked layout version k bytes standing row >>= batches_by_turn asked layout version)

  -- the messages behind one are those of the bytes behind it
  later_is : (bytes : List ℕ) (message : Framed) (after row : ℕ) → next_at bytes 0 ≡ Some (message_then message after)
      → later_messages (length bytes) bytes after row ≡ later_messages (length (drop after bytes)) (drop after bytes) 0 row
  later_is bytes message after row e =
      let within = reaches bytes 0 message after e in
      let size = drop_size after bytes within.1 in
      later_dropped (length bytes) bytes after row within.1
      ∙ enough (length bytes) (length (drop after bytes)) (drop after bytes) row (omega (arith, size)) (omega arith)

  at_next : (k : ℕ) → TurnsRead k → (bytes : List ℕ) (standing : List Dictionary) (row : ℕ) → row ≤ most_dictionaries
      → most_dictionaries < row + suc k → (next : Option Next) → next_at bytes 0 ≡ next
      → of_messages standing (later_by (length bytes) bytes row next)
      ≡ ((next >>= by_next (Some (waits bytes standing row)) (Some ends) (λ message after. heard asked layout version standing row message
      >>= turn_with (λ now stand. turn_within asked layout version k (drop after bytes) stand now) (drop after bytes) standing))
      >>= batches_by_turn asked layout version)
  at_next k turns bytes standing row few enough_left None e = refl
  at_next k turns bytes standing row few enough_left (Some nothing_whole) e = refl
  at_next k turns bytes standing row few enough_left (Some at_end) e = none_asked asked layout standing
  at_next k turns bytes standing row few enough_left (Some (message_then message after)) e =
      at_message message (drop after bytes) standing k row (later_messages (length bytes) bytes after)
      (λ (less : row < most_dictionaries) (stand : List Dictionary).
      ap (of_messages stand) (later_is bytes message after (row + 1) e)
      ∙ turns (drop after bytes) stand (row + 1) (omega (arith, less)) (omega (arith, enough_left)))
      (ap (of_messages standing) (later_is bytes message after 0 e))

  turns_read : (k : ℕ) → TurnsRead k
  turns_read zero bytes standing row few enough_left = absurd (omega (arith, few, enough_left))
  turns_read (suc k) bytes standing row few enough_left =
      ap (of_messages standing) (enough (length bytes) (suc (length bytes)) bytes row (omega arith) (omega arith))
      ∙ at_next k (turns_read k) bytes standing row few enough_left (next_at bytes 0) refl

pub streams_are_read_by_turns : StreamsAreReadByTurns
unfolding next_turn
streams_are_read_by_turns asked layout version bytes standing row has few =
    turns_read asked layout version has (suc (most_dictionaries - row)) bytes standing row few (omega (arith, few))
