-- What a message is refused for, said of the place where it stands.
use Rattle.std.proofs.Common.{◌≡◌, ◌∙◌, ℕ, ◌+◌, ◌≤◌, true, List, map, ap, inl, subst, sym}
use Rattle.std.proofs.lemmas.Bool.{le-ltb}
use Rattle.std.specs.Prelude.{Some, None, Result}
use Rattle.ipc_format.specs.BatchReads.{entry_in}
use Rattle.ipc_format.specs.DictionaryReads.{is_unread}
use Rattle.ipc_format.specs.columnar_memory.declared.Error.{Error}
use Rattle.ipc_format.specs.columnar_memory.declared.Error.TheVariants as errors
use Rattle.ipc_format.specs.columns.StoredColumns.{Column, slots}
use Rattle.ipc_format.specs.FlatBuffers.{TablePlace}
use Rattle.ipc_format.specs.Reading.{◌>>=◌, guard}
use Rattle.ipc_format.specs.Columns.{Dictionary}
use Rattle.ipc_format.specs.Dictionaries.{Layout, dictionary_in}
use Rattle.ipc_format.specs.Framing.{Framed, message_then, next_at, dictionaries_after}
use Rattle.ipc_format.specs.grammar.Limits.{most_dictionaries}
use Rattle.ipc_format.specs.Messages.{Header, Version, dictionary_batch, record_batch}
use Rattle.ipc_format.specs.Tables.{batch_in, stream_entry}
use Rattle.ipc_format.specs.metadata.Reading.{Reads, Refuses}
use Rattle.ipc_format.specs.streams.Queues.{is_compressed}
use Rattle.ipc_format.specs.Behind.{IsOutOfTurn}
use Rattle.tables_chunks.specs.Messages.{RefusesNext, TakesDictionary}
use Rattle.ipc_format.specs.Steps.{step_at}
use Rattle.ipc_format.proofs.StreamStepsPlaces.{dictionary_step, batch_step}
use Rattle.tables_chunks.proofs.Unread.{dictionary_unread, batch_unread}

-- a message that stands at a place, by what it carries
pub record IsDictionaryThere (bytes : List ℕ) (place after : ℕ) (framed : Framed) (table : TablePlace) : Type 0 where
  pub there : next_at bytes place ≡ Some (message_then framed after)
  pub header : framed.header ≡ dictionary_batch table

pub record IsBatchThere (bytes : List ℕ) (place after : ℕ) (framed : Framed) (table : TablePlace) : Type 0 where
  pub there : next_at bytes place ≡ Some (message_then framed after)
  pub header : framed.header ≡ record_batch table

pub dictionary_refused : (error : Error) (layout : Layout) (version : Version) (standing : List Dictionary) (bytes : List ℕ)
    (place in_a_row after : ℕ) (framed : Framed) (table : TablePlace) → IsDictionaryThere bytes place after framed table
    → Refuses (is_unread framed.metadata table ≡ true) error (dictionary_in layout standing (stream_entry version framed) table)
    → RefusesNext (step_at layout version standing bytes place) bytes place in_a_row error
dictionary_refused errors.OutOfMemory layout version standing bytes place in_a_row after framed table it refused = tt
dictionary_refused (errors.OutOfSpec what) layout version standing bytes place in_a_row after framed table it refused =
    inl (dictionary_step layout version standing bytes place after framed table None it.there it.header refused)
dictionary_refused (errors.NotYetImplemented what) layout version standing bytes place in_a_row after framed table it refused = (
  dictionary_step layout version standing bytes place after framed table None it.there it.header refused.0,
  dictionary_unread bytes place after framed table it.there it.header refused.1,
)
dictionary_refused (errors.External from what) layout version standing bytes place in_a_row after framed table it refused = absurd refused
dictionary_refused (errors.Io what) layout version standing bytes place in_a_row after framed table it refused = absurd refused
dictionary_refused (errors.InvalidArgumentError what) layout version standing bytes place in_a_row after framed table it refused = absurd refused
dictionary_refused (errors.ExternalFormat what) layout version standing bytes place in_a_row after framed table it refused = absurd refused
dictionary_refused errors.Overflow layout version standing bytes place in_a_row after framed table it refused = absurd refused

pub batch_refused : (error : Error) (layout : Layout) (version : Version) (standing : List Dictionary) (bytes : List ℕ)
    (place in_a_row after : ℕ) (framed : Framed) (table : TablePlace) → IsBatchThere bytes place after framed table
    → Refuses (is_compressed framed.metadata table ≡ true) error (batch_in layout standing (stream_entry version framed) table)
    → RefusesNext (step_at layout version standing bytes place) bytes place in_a_row error
batch_refused errors.OutOfMemory layout version standing bytes place in_a_row after framed table it refused = tt
batch_refused (errors.OutOfSpec what) layout version standing bytes place in_a_row after framed table it refused =
    inl (batch_step layout version standing bytes place after framed table None it.there it.header refused)
batch_refused (errors.NotYetImplemented what) layout version standing bytes place in_a_row after framed table it refused = (
  batch_step layout version standing bytes place after framed table None it.there it.header refused.0,
  batch_unread bytes place after framed table it.there it.header refused.1,
)
batch_refused (errors.External from what) layout version standing bytes place in_a_row after framed table it refused = absurd refused
batch_refused (errors.Io what) layout version standing bytes place in_a_row after framed table it refused = absurd refused
batch_refused (errors.InvalidArgumentError what) layout version standing bytes place in_a_row after framed table it refused = absurd refused
batch_refused (errors.ExternalFormat what) layout version standing bytes place in_a_row after framed table it refused = absurd refused
batch_refused errors.Overflow layout version standing bytes place in_a_row after framed table it refused = absurd refused

-- one dictionary more than may stand in a row
pub too_many : (bytes : List ℕ) (place in_a_row after : ℕ) (framed : Framed) (table : TablePlace) → IsDictionaryThere bytes place after framed table
    → most_dictionaries ≤ in_a_row → IsOutOfTurn bytes place in_a_row
too_many bytes place in_a_row after framed table it many =
    let none : dictionaries_after in_a_row framed.header ≡ None =
    ap (dictionaries_after in_a_row) it.header
    ∙ ap (λ b. guard b >>= (λ _. Some (in_a_row + 1))) (le-ltb in_a_row most_dictionaries many) in
    (framed, after, it.there, none)

-- ---- a message's parts, by its header

-- a dictionary's message as it was framed
pub dictionary_framed : {A : Type 0} (layout : Layout) (version : Version) (old new : List Dictionary) (metadata : List ℕ) (framed : Framed)
    (table : TablePlace) (result : Result A Error) → metadata ≡ framed.metadata → framed.header ≡ dictionary_batch table
    → TakesDictionary old new (is_unread metadata table ≡ true)
    (dictionary_in layout old (entry_in metadata (dictionary_batch table) version 0 framed.body) table) result
    → TakesDictionary old new (is_unread framed.metadata table ≡ true) (dictionary_in layout old (stream_entry version framed) table) result
dictionary_framed layout version old new metadata framed table result same is taken =
    subst (λ (h : Header). TakesDictionary old new (is_unread framed.metadata table ≡ true)
    (dictionary_in layout old (entry_in framed.metadata h version 0 framed.body) table) result) (sym is)
    (subst (λ (m : List ℕ). TakesDictionary old new (is_unread m table ≡ true)
    (dictionary_in layout old (entry_in m (dictionary_batch table) version 0 framed.body) table) result) same taken)

-- and a batch's
pub batch_framed : (layout : Layout) (version : Version) (standing : List Dictionary) (metadata : List ℕ) (framed : Framed) (table : TablePlace)
    (result : Result (List Column) Error) → metadata ≡ framed.metadata → framed.header ≡ record_batch table
    → Reads (map slots) (is_compressed metadata table ≡ true) result
    (batch_in layout standing (entry_in metadata (record_batch table) version 0 framed.body) table)
    → Reads (map slots) (is_compressed framed.metadata table ≡ true) result (batch_in layout standing (stream_entry version framed) table)
batch_framed layout version standing metadata framed table result same is read =
    subst (λ (h : Header). Reads (map slots) (is_compressed framed.metadata table ≡ true) result
    (batch_in layout standing (entry_in framed.metadata h version 0 framed.body) table)) (sym is)
    (subst (λ (m : List ℕ). Reads (map slots) (is_compressed m table ≡ true) result
    (batch_in layout standing (entry_in m (record_batch table) version 0 framed.body) table)) same read)
