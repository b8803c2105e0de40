-- The batch of a message, by its parts.
use Rattle.std.proofs.Common.{◌≡◌, ◌∙◌, ℕ, ◌<◌, ◌≤◌, ◌^◌, List, Bool, true, false, map, refl, sym, ap, arith, rules, nat_le}
use Rattle.std.specs.Prelude.{Option, Some, None, Ok, Err}
use Rattle.ipc_format_values.specs.columnar_memory.declared.Error.{Error}
use Rattle.ipc_format_values.specs.columnar_memory.declared.Error.TheVariants as errors
use Rattle.ipc_format_values.specs.grammar.Columns.{Source}
use Rattle.ipc_format_values.specs.flatbuffers.Reading.{◌>>=◌, guard}
use Rattle.ipc_format_values.specs.flatbuffers.FlatBuffers.{TablePlace}
use Rattle.ipc_format_values.specs.grammar.Dictionaries.{Entry, source_in}
use Rattle.ipc_format_values.specs.grammar.Messages.{FieldNode, RecordBatch, structs_in, as_node, as_buffer, record_batch_in, lengths_sum}
use Rattle.ipc_format_values.specs.messages.BufferLengths.{IsNoneOrLong}
use Rattle.ipc_format_streams.specs.Queues.{AreMissing, ForEntries, MakesQueues, fits_by, is_compressed, is_compressed_by, node_of, buffer_of}
use Rattle.ipc_format_streams.specs.declared.queues.BatchQueues.{BatchQueues}

-- no batch
pub source_missing : (bytes : List ℕ) (table : TablePlace) (size : ℕ) → record_batch_in bytes table ≡ None
    → ForEntries bytes size (λ little entry. source_in little entry table ≡ None)
unfolding source_in
source_missing bytes table size none little entry same sized =
    let there : record_batch_in entry.metadata table ≡ None = ap (λ b. record_batch_in b table) same ∙ none in
    rw there refl

-- a sum that is more than a size, or none
no_sum : {A : Type 0} (x : Option ℕ) (size : ℕ) (rest : Option A) → fits_by size x ≡ false
    → (x >>= (λ sum. guard (nat_le sum size) >>= (λ _. rest))) ≡ None
no_sum None size rest past = refl
no_sum (Some n) size rest past = rw past refl

-- a sum that is no more than a size
sum_fits : {A : Type 0} (x : Option ℕ) (size : ℕ) (rest : Option A) → fits_by size x ≡ true
    → (x >>= (λ sum. guard (nat_le sum size) >>= (λ _. rest))) ≡ rest
sum_fits None size rest fits = absurd cc
sum_fits (Some n) size rest fits = rw fits refl

-- no sum, or one of more than 64 bits
pub long_sum : (x : Option ℕ) (size : ℕ) → IsNoneOrLong x → size < 2 ^ 64 → false ≡ fits_by size x
long_sum None size long small = refl
long_sum (Some n) size long small =
    let past : 2 ^ 64 ≤ n = long n refl in
    let more : size < n = omega (arith, past, small) in
    search (rules, more)

-- the vectors of a batch behind its sum
abbrev vectors_of : List ℕ → RecordBatch → Bool → Entry → Option Source
vectors_of bytes batch little entry = structs_in as_node bytes batch.nodes >>= (λ nodes. structs_in as_buffer bytes batch.buffers >>= (λ buffers.
    Some (record {
      nodes = nodes;
      buffers = buffers;
      version = entry.version;
      is_little_endian = little;
      room = entry.room;
      origin = entry.origin;
    })))

source_by : (bytes : List ℕ) (table : TablePlace) (size : ℕ) (batch : RecordBatch) → record_batch_in bytes table ≡ Some batch
    → batch.is_compressed ≡ false → ForEntries bytes size (λ little entry. source_in little entry table
    ≡ (lengths_sum bytes batch.buffers >>= (λ sum. guard (nat_le sum size) >>= (λ _. vectors_of bytes batch little entry))))
unfolding source_in
source_by bytes table size batch is plain little entry same sized = rw (same, sized, is, plain) refl

-- the buffers state more bytes than the room has, or one of them states a negative number
pub source_too_long : (bytes : List ℕ) (table : TablePlace) (size : ℕ) (batch : RecordBatch) → record_batch_in bytes table ≡ Some batch
    → batch.is_compressed ≡ false → fits_by size (lengths_sum bytes batch.buffers) ≡ false
    → ForEntries bytes size (λ little entry. source_in little entry table ≡ None)
source_too_long bytes table size batch is plain past little entry same sized =
    source_by bytes table size batch is plain little entry same sized
    ∙ no_sum (lengths_sum bytes batch.buffers) size (vectors_of bytes batch little entry) past

source_then : (bytes : List ℕ) (table : TablePlace) (size : ℕ) (batch : RecordBatch) → record_batch_in bytes table ≡ Some batch
    → batch.is_compressed ≡ false → fits_by size (lengths_sum bytes batch.buffers) ≡ true
    → ForEntries bytes size (λ little entry. source_in little entry table ≡ vectors_of bytes batch little entry)
source_then bytes table size batch is plain fits little entry same sized =
    source_by bytes table size batch is plain little entry same sized
    ∙ sum_fits (lengths_sum bytes batch.buffers) size (vectors_of bytes batch little entry) fits

-- ---- what is answered

pub plainly : (bytes : List ℕ) (table : TablePlace) (batch : RecordBatch) → record_batch_in bytes table ≡ Some batch → batch.is_compressed ≡ false
    → is_compressed bytes table ≡ false
plainly bytes table batch is plain = ap is_compressed_by is ∙ plain

pub nodes_refused : (bytes : List ℕ) (table : TablePlace) (size : ℕ) (batch : RecordBatch) (read : List ℕ)
    (error : Error) → record_batch_in bytes table ≡ Some batch → batch.is_compressed ≡ false
    → fits_by size (lengths_sum bytes batch.buffers) ≡ true → read ≡ bytes
    → AreMissing (structs_in as_node read batch.nodes) error → MakesQueues bytes table size (Err error)
nodes_refused bytes table size batch read (errors.OutOfSpec text) is plain fits from none = (
  plainly bytes table batch is plain,
  λ little entry same sized. source_then bytes table size batch is plain fits little entry same sized
      ∙ rw (ap (λ b. structs_in as_node b batch.nodes) (sym from) ∙ none) refl,
)
nodes_refused bytes table size batch read errors.OutOfMemory is plain fits from none = plainly bytes table batch is plain
nodes_refused bytes table size batch read _ is plain fits from none = absurd none

pub buffers_refused : (bytes : List ℕ) (table : TablePlace) (size : ℕ) (batch : RecordBatch)
    (nodes : List FieldNode) (read : List ℕ) (error : Error) → record_batch_in bytes table ≡ Some batch → batch.is_compressed ≡ false
    → fits_by size (lengths_sum bytes batch.buffers) ≡ true → structs_in as_node bytes batch.nodes ≡ Some nodes → read ≡ bytes
    → AreMissing (structs_in as_buffer read batch.buffers) error → MakesQueues bytes table size (Err error)
buffers_refused bytes table size batch nodes read (errors.OutOfSpec text) is plain fits there from none = (
  plainly bytes table batch is plain,
  λ little entry same sized. source_then bytes table size batch is plain fits little entry same sized
      ∙ rw (there, ap (λ b. structs_in as_buffer b batch.buffers) (sym from) ∙ none) refl,
)
buffers_refused bytes table size batch nodes read errors.OutOfMemory is plain fits there from none = plainly bytes table batch is plain
buffers_refused bytes table size batch nodes read _ is plain fits there from none = absurd none

pub queues_made : (bytes : List ℕ) (table : TablePlace) (size : ℕ) (batch : RecordBatch) (queues : BatchQueues)
    → record_batch_in bytes table ≡ Some batch → batch.is_compressed ≡ false → fits_by size (lengths_sum bytes batch.buffers) ≡ true
    → structs_in as_node bytes batch.nodes ≡ Some (map node_of queues.field_nodes.items)
    → structs_in as_buffer bytes batch.buffers ≡ Some (map buffer_of queues.buffers.items) → MakesQueues bytes table size (Ok queues)
queues_made bytes table size batch queues is plain fits nodes buffers = (
  plainly bytes table batch is plain,
  λ little entry same sized. source_then bytes table size batch is plain fits little entry same sized ∙ rw (nodes, buffers) refl,
)

pub ruleset sources = (source_missing, source_too_long, plainly)
