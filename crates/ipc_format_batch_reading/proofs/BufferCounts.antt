-- How many buffers come off a queue, and which buffers a message states.
use Rattle.std.proofs.Common.{◌≡◌, ◌∙◌, ◌+◌, ◌-◌, ◌*◌, ◌≤◌, ◌<◌, ◌&&◌, ℕ, zero, suc, Bool, true, false, List, [], ◌∷◌, length, not, refl, sym}
use Rattle.std.proofs.Common.{ap, arith, map, nat_le, replicate, subst}
use Rattle.std.specs.Int.{w32}
use Rattle.std.specs.Prelude.{Option, Some, None, Result, Ok, Err, IfOk, is_some}
use Rattle.std.proofs.lemmas.Bool.{and_from, le-leb, leb-true}
use Rattle.std.proofs.lemmas.List.{length-drop, length-map, length-replicate}
use Rattle.ipc_format_reading.specs.Queues.{TakesOff}
use Rattle.ipc_format_reading.specs.columnar_memory.declared.Error.{Error}
use Rattle.ipc_format_reading.specs.array_reading.column_writing.column_reading.column_bytes.streams.Queues.{MakesQueues, buffer_of, fits_by, source_with}
use Rattle.ipc_format_reading.specs.array_reading.column_writing.column_reading.column_bytes.streams.declared.queues.BatchQueues.{BatchQueues}
use Rattle.ipc_format_reading.specs.flatbuffers.FlatBuffers.{TablePlace, Vector, if_present, number_at, reference_field, table_field, vector_at}
use Rattle.ipc_format_reading.specs.flatbuffers.FlatBuffers.{vector_field}
use Rattle.ipc_format_reading.specs.flatbuffers.Reading.{◌>>=◌, guard}
use Rattle.ipc_format_reading.specs.grammar.Columns.{Source}
use Rattle.ipc_format_reading.specs.grammar.Dictionaries.{Entry, source_in}
use Rattle.ipc_format_reading.specs.grammar.Messages.{Buffer, Pair, as_buffer, as_node, lengths_from, lengths_sum, natural, pair_at}
use Rattle.ipc_format_reading.specs.grammar.Messages.{RecordBatch, V5, record_batch, record_batch_in, structs_from, structs_in}
use Rattle.ipc_format_batch_reading.specs.BatchReads.{entry_in}
use Rattle.ipc_format_batch_reading.specs.BufferCounts.{AreStated, CountsTaken, are_within, stated_buffers}
use Rattle.ipc_format_batch_reading.proofs.CoveredSchemas.{came_of, same_value}

-- ---- off a queue

-- a step for each buffer that is off the queue
pub counts_off : {A X : Type 0} (n : ℕ) (xs ys : List X) (old new : ℕ) (r : Result A Error) → TakesOff n xs ys r
    → new ≡ old + (length xs - length ys) → CountsTaken n (length xs) old new r
counts_off n xs ys old new (Ok found) taken is =
    let left : length ys ≡ length xs - n = ap length taken.1 ∙ length-drop n xs in
    (taken.0, omega (arith, is, left, taken.0))
counts_off n xs ys old new (Err error) taken is = (omega (arith, is), omega (arith, is))

-- the same, where what is read afterwards is refused
pub counts_any : {A B : Type 0} (n had old new : ℕ) (a : A) (r : Result B Error) → CountsTaken n had old new (Ok a) → CountsTaken n had old new r
counts_any n had old new a (Ok b) counts = counts
counts_any n had old new a (Err error) counts = (omega (arith, counts.0, counts.1), omega (arith, counts.0, counts.1))

-- ---- the structs of a vector

structs_count : {A : Type 0} (make : Pair → A) (bytes : List ℕ) (place n : ℕ) (xs : List A) → structs_from make bytes place n ≡ Some xs
    → length xs ≡ n
structs_count make bytes place zero xs is = ap length (sym (same_value [] xs is))
structs_count make bytes place (suc n) xs is =
    let pair = came_of (pair_at bytes place) _ xs is in
    let others = came_of (structs_from make bytes (place + 16) n) _ xs pair.2 in
    ap length (sym (same_value (make pair.0 ∷ others.0) xs others.2)) ∙ ap suc (structs_count make bytes (place + 16) n others.0 others.1)

-- a vector lies within its message
vector_within : (bytes : List ℕ) (width place : ℕ) (v : Vector) → vector_at bytes width place ≡ Some v → v.place + v.count * width ≤ length bytes
unfolding vector_at
vector_within bytes width place v is =
    let count = came_of (number_at w32 bytes place) _ v is in
    let fits = came_of (guard (nat_le (place + 4 + count.0 * width) (length bytes))) _ v count.2 in
    subst (λ (v : Vector). v.place + v.count * width ≤ length bytes) (same_value (record { place = place + 4; count = count.0 }) v fits.2)
    (leb-true (place + 4 + count.0 * width) (length bytes) (guarded (nat_le (place + 4 + count.0 * width) (length bytes)) fits.0 fits.1))
  where
    guarded : (test : Bool) (x : Bool) → guard test ≡ Some x → test ≡ true
    guarded true x is = refl
    guarded false x is = absurd cc

vector_present : (bytes : List ℕ) (width : ℕ) (target : Option ℕ) (v : Vector) → if_present (vector_at bytes width) target ≡ Some (Some v)
    → v.place + v.count * width ≤ length bytes
vector_present bytes width None v is = absurd cc
vector_present bytes width (Some place) v is =
    let found = came_of (vector_at bytes width place) _ (Some v) is in
    vector_within bytes width place v (found.1 ∙ ap Some (same_value found.0 v (same_value (Some found.0) (Some v) found.2)))

field_within : (bytes : List ℕ) (table : TablePlace) (slot width : ℕ) (v : Vector) → vector_field bytes table slot width ≡ Some (Some v)
    → v.place + v.count * width ≤ length bytes
unfolding vector_field
field_within bytes table slot width v is =
    let target = came_of (reference_field bytes table slot) _ (Some v) is in
    vector_present bytes width target.0 v target.2

-- each of some buffers states no more bytes than all together do
within_sum : (bytes : List ℕ) (size place n sum : ℕ) (xs : List Buffer) → lengths_from bytes place n ≡ Some sum → sum ≤ size
    → structs_from as_buffer bytes place n ≡ Some xs → are_within size xs ≡ true
within_sum bytes size place zero sum xs stated small is = ap (are_within size) (sym (same_value [] xs is))
within_sum bytes size place (suc n) sum xs stated small is =
    let pair = came_of (pair_at bytes place) _ sum stated in
    let count = came_of (natural pair.0.second) _ sum pair.2 in
    let rest = came_of (lengths_from bytes (place + 16) n) _ sum count.2 in
    let total : count.0 + rest.0 ≡ sum = same_value (count.0 + rest.0) sum rest.2 in
    let same = came_of (pair_at bytes place) _ xs is in
    let first : pair.0 ≡ same.0 = same_value pair.0 same.0 (sym pair.1 ∙ same.1) in
    let others = came_of (structs_from as_buffer bytes (place + 16) n) _ xs same.2 in
    ap (are_within size) (sym (same_value (as_buffer same.0 ∷ others.0) xs others.2))
    ∙ and_from (fits_by size (natural same.0.second)) (are_within size others.0)
    (ap (λ (pair : Pair). fits_by size (natural pair.second)) (sym first) ∙ ap (fits_by size) count.1
    ∙ le-leb count.0 size (omega (arith, total, small)))
    (within_sum bytes size (place + 16) n rest.0 others.0 rest.1 (omega (arith, total, small)) others.1)

-- ---- the buffers of a batch

-- no more buffers are stated than the message has bytes
stated_count : (bytes : List ℕ) (table : TablePlace) (buffers : List Buffer) → stated_buffers bytes table ≡ Some buffers
    → length buffers ≤ length bytes
unfolding record_batch_in structs_in
stated_count bytes table buffers is =
    let batch = came_of (record_batch_in bytes table) (λ batch. structs_in as_buffer bytes batch.buffers) buffers is in
    let within = buffers_within bytes table batch.0 batch.1 in
    let count = structs_count as_buffer bytes batch.0.buffers.place batch.0.buffers.count buffers batch.2 in
    omega (arith, within, count)
  where
    buffers_within : (bytes : List ℕ) (table : TablePlace) (batch : RecordBatch) → record_batch_in bytes table ≡ Some batch
        → batch.buffers.place + batch.buffers.count * 16 ≤ length bytes
    buffers_within bytes table batch is =
        let found_nodes = came_of (vector_field bytes table 1 16) _ batch is in
        let nodes = came_of found_nodes.0 _ batch found_nodes.2 in
        let found = came_of (vector_field bytes table 2 16) _ batch nodes.2 in
        let buffers = came_of found.0 _ batch found.2 in
        let compression = came_of (table_field bytes table 3) _ batch buffers.2 in
        let same : buffers.0 ≡ batch.buffers = ap RecordBatch.buffers (same_value (record {
          nodes = nodes.0;
          buffers = buffers.0;
          is_compressed = is_some compression.0;
        }) batch compression.2) in
        subst (λ (v : Vector). v.place + v.count * 16 ≤ length bytes) same
        (field_within bytes table 2 16 buffers.0 (found.1 ∙ ap Some buffers.1))

most_of : (size most : ℕ) (stated : Option (List Buffer)) (old new : ℕ) → ((buffers : List Buffer) → stated ≡ Some buffers → length buffers ≤ most)
    → AreStated size stated old new → new ≤ old + most
most_of size most None old new few are = omega (arith, are)
most_of size most (Some buffers) old new few are =
    let few_bytes = few buffers refl in
    omega (arith, few_bytes, are.1)

-- there are no more steps than the message has bytes
pub no_more_than_bytes : (size : ℕ) (bytes : List ℕ) (table : TablePlace) (old new : ℕ) → AreStated size (stated_buffers bytes table) old new
    → new ≤ old + length bytes
no_more_than_bytes size bytes table old new are =
    most_of size (length bytes) (stated_buffers bytes table) old new (stated_count bytes table) are

-- the buffers of what is read of a batch are those that its message states, each within the room
pub source_states : (little : Bool) (entry : Entry) (table : TablePlace) (source : Source) → source_in little entry table ≡ Some source
    → (stated_buffers entry.metadata table ≡ Some source.buffers) × (are_within (length entry.room) source.buffers ≡ true)
unfolding source_in lengths_sum structs_in
source_states little entry table source is =
    let batch = came_of (record_batch_in entry.metadata table) _ source is in
    let plain = came_of (guard (not batch.0.is_compressed)) _ source batch.2 in
    let sum = came_of (lengths_sum entry.metadata batch.0.buffers) _ source plain.2 in
    let fits = came_of (guard (nat_le sum.0 (length entry.room))) _ source sum.2 in
    let nodes = came_of (structs_in as_node entry.metadata batch.0.nodes) _ source fits.2 in
    let buffers = came_of (structs_in as_buffer entry.metadata batch.0.buffers) _ source nodes.2 in
    let same : buffers.0 ≡ source.buffers = ap Source.buffers (same_value (record {
      nodes = nodes.0;
      buffers = buffers.0;
      version = entry.version;
      is_little_endian = little;
      room = entry.room;
      origin = entry.origin;
    }) source buffers.2) in (
      ap (λ (batch : Option RecordBatch). batch >>= (λ batch. structs_in as_buffer entry.metadata batch.buffers)) batch.1
          ∙ buffers.1 ∙ ap Some same,
      ap (are_within (length entry.room)) (sym same)
          ∙ within_sum entry.metadata (length entry.room) batch.0.buffers.place batch.0.buffers.count sum.0 buffers.0 sum.1
          (leb-true sum.0 (length entry.room) (guarded (nat_le sum.0 (length entry.room)) fits.0 fits.1)) buffers.1,
    )
  where
    guarded : (test : Bool) (x : Bool) → guard test ≡ Some x → test ≡ true
    guarded true x is = refl
    guarded false x is = absurd cc

-- ---- steps of a batch

-- no step, whatever is stated
pub no_step : (size : ℕ) (stated : Option (List Buffer)) (count : ℕ) → AreStated size stated count count
no_step size None count = refl
no_step size (Some buffers) count = (omega arith, omega arith, λ more. absurd (omega (arith, more)))

-- steps for buffers of a queue that holds those that are stated
pub steps_stated : {A : Type 0} (size n old new : ℕ) (stated : Option (List Buffer)) (buffers : List Buffer) (r : Result A Error)
    → stated ≡ Some buffers → are_within size buffers ≡ true → CountsTaken n (length buffers) old new r → AreStated size stated old new
steps_stated size n old new stated buffers (Ok a) are within counts =
    subst (λ (stated : Option (List Buffer)). AreStated size stated old new) (sym are)
    (omega (arith, counts.1), omega (arith, counts.0, counts.1), λ more. within)
steps_stated size n old new stated buffers (Err error) are within counts =
    subst (λ (stated : Option (List Buffer)). AreStated size stated old new) (sym are) (counts.0, counts.1, λ more. within)

-- what is read of the queues of a batch
pub queue_stated : {A : Type 0} (bytes : List ℕ) (table : TablePlace) (size : ℕ) (queues : BatchQueues) (n old new : ℕ) (r : Result A Error)
    → MakesQueues bytes table size (Ok queues) → CountsTaken n (length queues.buffers.items) old new r
    → AreStated size (stated_buffers bytes table) old new
queue_stated bytes table size queues n old new r made counts =
    let entry : Entry = entry_in bytes (record_batch table) V5 0 (replicate size 0) in
    let buffers = map buffer_of queues.buffers.items in
    let states = source_states false entry table (source_with queues false entry) (made.1 false entry refl (length-replicate size 0)) in
    steps_stated size n old new (stated_buffers bytes table) buffers r states.0
    (ap (λ most. are_within most buffers) (sym (length-replicate size 0)) ∙ states.1)
    (subst (λ (had : ℕ). CountsTaken n had old new r) (sym (length-map queues.buffers.items buffer_of)) counts)

-- a step for each of so many buffers, where nothing is refused
pub counts_ok : {A : Type 0} (n had old new : ℕ) (r : Result A Error) → CountsTaken n had old new r → IfOk r (λ _. new ≡ old + n)
counts_ok n had old new (Ok a) counts = counts.1
counts_ok n had old new (Err error) counts = tt
