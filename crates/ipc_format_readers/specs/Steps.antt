-- What stands at each place of a stream behind its schema, under the dictionaries that stand there (Arrow IPC, "IPC Streaming Format",
-- "Dictionary Messages").
use Rattle.std.specs.Prelude.{ℕ, List, [], ◌∷◌, ◌++◌, map, Option, Some, None}
use Rattle.std.specs.Option.{option_map}
use Rattle.ipc_format_chunk_writing.specs.columns.Slots.{Slot}
use Rattle.ipc_format_chunk_writing.specs.flatbuffers.Reading.{◌>>=◌}
use Rattle.ipc_format_chunk_writing.specs.grammar.Columns.{Dictionary}
use Rattle.ipc_format_chunk_writing.specs.grammar.Dictionaries.{Layout, dictionary_in}
use Rattle.ipc_format_chunk_writing.specs.grammar.Framing as framing
use Rattle.ipc_format_chunk_writing.specs.grammar.Framing.{Framed, Next, next_at}
use Rattle.ipc_format_chunk_writing.specs.grammar.Messages as message
use Rattle.ipc_format_chunk_writing.specs.grammar.Messages.{Version}
use Rattle.ipc_format_chunk_writing.specs.grammar.Refusals.{first_messages}
use Rattle.ipc_format_chunk_writing.specs.grammar.Tables.{batch_in, batches_of, stream_entry}

-- the slots of batches, column by column
abbrev pub Batches : Type 0
Batches = List (List (List Slot))

-- what stands at a place: fewer than four bytes, the end mark, a dictionary, or a batch, with the place of the next message
pub data Step : Type 0 where
  cut_off : Step
  ended : Step
  dictionary_then : Dictionary → ℕ → Step
  batch_then : List (List Slot) → ℕ → Step

-- what a message behind the schema gives
abbrev pub step_by : Layout → Version → List Dictionary → Framed → ℕ → message.Header → Option Step
step_by layout version standing framed after (message.schema table) = None
step_by layout version standing framed after (message.dictionary_batch table) = do
  dictionary ← dictionary_in layout standing (stream_entry version framed) table
  Some (dictionary_then dictionary after)
step_by layout version standing framed after (message.record_batch table) = do
  columns ← batch_in layout standing (stream_entry version framed) table
  Some (batch_then columns after)

abbrev pub step_of : Layout → Version → List Dictionary → Next → Option Step
step_of layout version standing framing.nothing_whole = Some cut_off
step_of layout version standing framing.at_end = Some ended
step_of layout version standing (framing.message_then framed after) = step_by layout version standing framed after framed.header

unfoldable pub step_at : Layout → Version → List Dictionary → List ℕ → ℕ → Option Step
step_at layout version standing bytes place = do
  next ← next_at bytes place
  step_of layout version standing next

-- batches behind those that are there already
abbrev pub behind : Batches → Option Batches → Option Batches
behind before rest = option_map (λ later. before ++ later) rest

-- the batches of the first n messages from a place on, whatever stands behind them
abbrev pub first_from : Layout → Version → List Dictionary → ℕ → List ℕ → ℕ → Option Batches
first_from layout version standing n bytes place = do
  later ← first_messages n bytes place
  batches_of layout standing (map (stream_entry version) later)
