-- The step of the message that stands at a place.
use Rattle.std.proofs.Common.{◌≡◌, ◌∙◌, ℕ, List, refl, ap}
use Rattle.std.specs.Prelude.{Option, Some, None}
use Rattle.ipc_format_chunk_writing.specs.columns.Slots.{Slot}
use Rattle.ipc_format_chunk_writing.specs.flatbuffers.FlatBuffers.{TablePlace}
use Rattle.ipc_format_chunk_writing.specs.flatbuffers.Reading.{◌>>=◌}
use Rattle.ipc_format_chunk_writing.specs.grammar.Columns.{Dictionary}
use Rattle.ipc_format_chunk_writing.specs.grammar.Dictionaries.{Layout, dictionary_in}
use Rattle.ipc_format_chunk_writing.specs.grammar.Framing.{Framed, message_then, at_end, next_at}
use Rattle.ipc_format_chunk_writing.specs.grammar.Messages.{Header, Version, schema, dictionary_batch, record_batch}
use Rattle.ipc_format_chunk_writing.specs.grammar.Tables.{batch_in, stream_entry}
use Rattle.ipc_format_readers.specs.Steps.{ended, dictionary_then, batch_then, step_by, step_at}

pub no_step : (layout : Layout) (version : Version) (standing : List Dictionary) (bytes : List ℕ) (place : ℕ) → next_at bytes place ≡ None
    → step_at layout version standing bytes place ≡ None
unfolding step_at
no_step layout version standing bytes place e = rw e refl

pub ended_step : (layout : Layout) (version : Version) (standing : List Dictionary) (bytes : List ℕ) (place : ℕ) → next_at bytes place ≡ Some at_end
    → step_at layout version standing bytes place ≡ Some ended
unfolding step_at
ended_step layout version standing bytes place e = rw e refl

-- the step of a message by its header
message_step : (layout : Layout) (version : Version) (standing : List Dictionary) (bytes : List ℕ) (place after : ℕ) (framed : Framed)
    (header : Header)
    → next_at bytes place ≡ Some (message_then framed after) → framed.header ≡ header
    → step_at layout version standing bytes place ≡ step_by layout version standing framed after header
unfolding step_at
message_step layout version standing bytes place after framed header e is =
    rw e (ap (step_by layout version standing framed after) is)

pub schema_step : (layout : Layout) (version : Version) (standing : List Dictionary) (bytes : List ℕ) (place after : ℕ) (framed : Framed)
    (table : TablePlace)
    → next_at bytes place ≡ Some (message_then framed after) → framed.header ≡ schema table
    → step_at layout version standing bytes place ≡ None
schema_step layout version standing bytes place after framed table e is =
    message_step layout version standing bytes place after framed (schema table) e is

pub dictionary_step : (layout : Layout) (version : Version) (standing : List Dictionary) (bytes : List ℕ) (place after : ℕ) (framed : Framed)
    (table : TablePlace) (given : Option Dictionary) → next_at bytes place ≡ Some (message_then framed after) → framed.header ≡ dictionary_batch table
    → dictionary_in layout standing (stream_entry version framed) table ≡ given
    → step_at layout version standing bytes place ≡ (given >>= (λ dictionary. Some (dictionary_then dictionary after)))
dictionary_step layout version standing bytes place after framed table given e is read =
    message_step layout version standing bytes place after framed (dictionary_batch table) e is
    ∙ ap (λ (o : Option Dictionary). o >>= (λ dictionary. Some (dictionary_then dictionary after))) read

pub batch_step : (layout : Layout) (version : Version) (standing : List Dictionary) (bytes : List ℕ) (place after : ℕ) (framed : Framed)
    (table : TablePlace) (given : Option (List (List Slot))) → next_at bytes place ≡ Some (message_then framed after) → framed.header
    ≡ record_batch table
    → batch_in layout standing (stream_entry version framed) table ≡ given
    → step_at layout version standing bytes place ≡ (given >>= (λ columns. Some (batch_then columns after)))
batch_step layout version standing bytes place after framed table given e is read =
    message_step layout version standing bytes place after framed (record_batch table) e is
    ∙ ap (λ (o : Option (List (List Slot))). o >>= (λ columns. Some (batch_then columns after))) read
