-- The buffers that a written message states end where its body does.
use Rattle.std.proofs.Common.{◌≡◌, ◌∙◌, ℕ, zero, suc, ◌+◌, ◌-◌, ◌≤◌, List, [], ◌∷◌, ◌++◌, length, map, take, replicate, sym, ap, subst, arith}
use Rattle.std.proofs.Common.{append_assoc, append-nil, length-append}
use Rattle.std.specs.Prelude.{Some, slice_get}
use Rattle.std.specs.Int.{next_multiple_of}
use Rattle.std.proofs.Math.Seq.{take-append_seam}
use Rattle.ipc_format_laws.specs.flatbuffers.FlatBuffers.{TablePlace, Vector}
use Rattle.ipc_format_laws.specs.grammar.Messages as grammar
use Rattle.ipc_format_laws.specs.grammar.Messages.{Buffer, RecordBatch, DictionaryBatch, as_buffer, natural, record_batch_in, dictionary_batch_in}
use Rattle.ipc_format_laws.specs.grammar.Messages.{structs_in}
use Rattle.ipc_format_laws.specs.grammar.Encoding.{joined_columns}
use Rattle.ipc_format_laws.specs.grammar.GivenDictionaries.{Given}
use Rattle.ipc_format_laws.specs.grammar.WrittenMessages.{padded_buffer, buffer_places, body_bytes, record_message, dictionary_message}
use Rattle.ipc_format_laws.specs.grammar.WrittenStreams.{Batch}
use Rattle.ipc_format_laws.specs.BatchMessages.{IsRecordBatch, stated_buffer}
use Rattle.ipc_format_laws.specs.Contents.{HasColumns, HasValues, batch_message}
use Rattle.ipc_format_laws.proofs.Firsts.{same_value}
use Rattle.ipc_format_laws.proofs.Places.{Stands}
use Rattle.ipc_format_reading_laws.specs.StatedBodies.{BuffersEnd, BatchEnds, HeaderEnds}

-- ---- buffers

-- the places of buffers end within their body
places_end : (offset : ℕ) (contents : List (List ℕ)) (k : ℕ) (buffer : Buffer) (first stated : ℕ)
    → slice_get (map stated_buffer (buffer_places offset contents)) k ≡ Some buffer → natural buffer.offset ≡ Some first
    → natural buffer.length ≡ Some stated → first + stated ≤ offset + length (body_bytes contents)
places_end offset [] k buffer first stated at is size = absurd cc
places_end offset (bytes ∷ contents) zero buffer first stated at is size =
    let same : stated_buffer (offset, length bytes) ≡ buffer = same_value (stated_buffer (offset, length bytes)) buffer at in
    let its_offset : offset ≡ first = same_value offset first (ap (λ (b : Buffer). natural b.offset) same ∙ is) in
    let its_length : length bytes ≡ stated = same_value (length bytes) stated (ap (λ (b : Buffer). natural b.length) same ∙ size) in
    omega (
      arith,
      its_offset,
      its_length,
      length-append bytes (replicate {A = ℕ} (next_multiple_of (length bytes) 64 - length bytes) 0),
      length-append (padded_buffer bytes) (body_bytes contents),
    )
places_end offset (bytes ∷ contents) (suc k) buffer first stated at is size = omega (
  arith,
  places_end (offset + length (padded_buffer bytes)) contents k buffer first stated at is size,
  length-append (padded_buffer bytes) (body_bytes contents),
)

written_buffers_end : (origin : ℕ) (contents : List (List ℕ))
    → BuffersEnd (origin + length (body_bytes contents)) origin (map stated_buffer (buffer_places 0 contents))
written_buffers_end origin contents k buffer offset stated at is size =
    omega (arith, places_end 0 contents k buffer offset stated at is size)

-- ---- messages

batch_ends : (origin : ℕ) (metadata : List ℕ) (table : TablePlace) (nodes : List (ℕ × ℕ)) (contents : List (List ℕ))
    → IsRecordBatch metadata table nodes (buffer_places 0 contents) → BatchEnds (origin + length (body_bytes contents)) origin metadata table
batch_ends origin metadata table nodes contents is batch buffers e found =
    let whole = same_value _ batch (sym is.batch ∙ e) in
    let at : is.buffers_at ≡ batch.buffers = ap (λ (b : RecordBatch). b.buffers) whole in
    let same : map stated_buffer (buffer_places 0 contents) ≡ buffers =
    same_value (map stated_buffer (buffer_places 0 contents)) buffers
    (sym is.buffers_are ∙ ap (λ (v : Vector). structs_in as_buffer metadata v) at ∙ found) in
    subst (BuffersEnd (origin + length (body_bytes contents)) origin) same (written_buffers_end origin contents)

pub columns_state : (its_batch : Batch) (table : TablePlace) (origin : ℕ) → HasColumns its_batch table
    → HeaderEnds (origin + length (batch_message its_batch).body) origin (batch_message its_batch).metadata (grammar.record_batch table)
unfolding record_message
columns_state its_batch table origin is =
    batch_ends origin (batch_message its_batch).metadata table (joined_columns its_batch.columns).nodes (joined_columns its_batch.columns).buffers is

pub values_state : (given : Given) (table : TablePlace) (origin : ℕ) → HasValues given table
    → HeaderEnds (origin + length (dictionary_message given).body) origin (dictionary_message given).metadata (grammar.dictionary_batch table)
unfolding dictionary_message
values_state given table origin is batch e =
    let whole = same_value _ batch (sym is.batch ∙ e) in
    subst (λ (b : DictionaryBatch).
    BatchEnds (origin + length (body_bytes given.column.buffers)) origin (dictionary_message given).metadata b.values) whole
    (batch_ends origin (dictionary_message given).metadata is.values_at given.column.nodes given.column.buffers is.values)

-- ---- bytes up to an end

-- a part stands in the bytes up to its end
pub cut_stands : {bytes : List ℕ} {place : ℕ} {part : List ℕ} (end : ℕ) → end ≡ place + length part → Stands bytes place part
    → Stands (take end bytes) place part
cut_stands {bytes} {place} {part} end is s =
    let size : length (s.before ++ part) ≡ end = omega (arith, is, s.at, length-append s.before part) in
    record {
      before = s.before;
      after = [];
      whole = ap (take end) (s.whole ∙ sym (append_assoc s.before part s.after))
          ∙ ap (λ (n : ℕ). take n ((s.before ++ part) ++ s.after)) (sym size) ∙ take-append_seam (s.before ++ part) s.after
          ∙ ap (λ (them : List ℕ). s.before ++ them) (sym (append-nil part));
      at = s.at;
    }
