-- Messages and batches read back.
use Rattle.std.proofs.Common.{◌≡◌, ℕ, suc, ◌+◌, ◌*◌, ◌<◌, ◌^◌, ℤ, pos, List, [], ◌∷◌, ◌++◌, length, map, refl, sym, ap}
use Rattle.std.proofs.Common.{◌∙◌, arith, sum_by}
use Rattle.std.specs.Prelude.{Some, FitsSigned}
use Rattle.std.specs.List.{flat_map}
use Rattle.std.specs.Int.{w8, w16, w64, to_le_bytes, cast_signed, cast_unsigned}
use Rattle.std.proofs.lemmas.Int.{to_z_pos}
use Rattle.std.proofs.Math.Facts.{Fits-of_z, Fits-lt-pow}
use Rattle.std.proofs.lemmas.List.Sums.{sum_by-cons}
use Rattle.ipc_format_grammar.specs.flatbuffers.FlatBuffers.{TablePlace, Vector, signed_at, number_field, signed_field, table_field, vector_field}
use Rattle.ipc_format_grammar.specs.flatbuffers.FlatBuffers.{root_of}
use Rattle.ipc_format_grammar.specs.flatbuffers.Objects.{Object, Fields, table, laid, no_field, absent_then, number_then, refers_then}
use Rattle.ipc_format_laws.specs.Spelling.{Spells, SpellsFields, SpellsReference}
use Rattle.ipc_format_laws.specs.Theorem.{Fits, SpellsRoot}
use Rattle.ipc_format_laws.proofs.Places.{Stands, front, back}
use Rattle.ipc_format_laws.proofs.Contents.{signed_stands, stands_window}
use Rattle.ipc_format_laws.proofs.Readers.{absent_reads, numbers_read, truths_read, tables_read, elements_read, roots_read}
use Rattle.ipc_format_laws.proofs.Objects.{laid_reads_back}
use Rattle.ipc_format_grammar.specs.Messages as grammar
use Rattle.ipc_format_grammar.specs.Messages.{Header, V5, Pair, message_in, version_in, record_batch_in, dictionary_batch_in, pair_at}
use Rattle.ipc_format_grammar.specs.Messages.{as_node, as_buffer, structs_from, structs_in, lengths_from, lengths_sum}
use Rattle.ipc_format_grammar.specs.SchemaObjects.{structs_object, message_object, record_batch_object, dictionary_batch_object}
use Rattle.ipc_format_laws.specs.BatchMessages.{AreSigned, IsRecordBatch, IsDictionaryBatch, IsMessage, stated_node, stated_buffer}
use Rattle.ipc_format_laws.specs.BatchMessages.{RecordBatchesReadBack, DictionaryBatchesReadBack}

-- ---- pairs of numbers

abbrev pair_bytes : ℕ × ℕ → List ℕ
pair_bytes pair = to_le_bytes w64 pair.0 ++ to_le_bytes w64 pair.1

signed_is : {bytes : List ℕ} {place : ℕ} (n : ℕ) → n < 2 ^ 63 → Stands bytes place (to_le_bytes w64 n) → signed_at w64 bytes place ≡ Some (pos n)
signed_is n small s = signed_stands w64 n (omega arith) s ∙ ap Some (to_z_pos w64 n small)

pair_stands : {bytes : List ℕ} {place : ℕ} (pair : ℕ × ℕ) → pair.0 < 2 ^ 63 → pair.1 < 2 ^ 63 → Stands bytes place (pair_bytes pair)
    → pair_at bytes place ≡ Some (record { first = pos pair.0; second = pos pair.1 })
unfolding pair_at
pair_stands {bytes} {place} pair small small-too s =
    let first = signed_is pair.0 small (front (to_le_bytes w64 pair.0) (to_le_bytes w64 pair.1) refl s) in
    let second : signed_at w64 bytes (place + 8) ≡ Some (pos pair.1) = signed_is pair.1 small-too
    (back (to_le_bytes w64 pair.0) (to_le_bytes w64 pair.1) (place + 8) refl refl s) in
    rw (first, second) refl

pairs_length : (pairs : List (ℕ × ℕ)) → length (flat_map pair_bytes pairs) ≡ 16 * length pairs
pairs_length [] = refl
pairs_length (pair ∷ pairs) = omega (arith, pairs_length pairs)

-- the second numbers of all pairs
lengths_stand : (bytes : List ℕ) (pairs : List (ℕ × ℕ)) (place : ℕ) → AreSigned pairs → Stands bytes place (flat_map pair_bytes pairs)
    → lengths_from bytes place (length pairs) ≡ Some (sum_by (λ (pair : ℕ × ℕ). pair.1) pairs)
lengths_stand bytes [] place small s = refl
lengths_stand bytes (pair ∷ pairs) place small s =
    let here = small 0 pair (omega arith) in
    let first = pair_stands pair here.0 here.1 (front (pair_bytes pair) (flat_map pair_bytes pairs) refl s) in
    let others = lengths_stand bytes pairs (place + 16) (λ (k : ℕ) (d : ℕ × ℕ) (inside : k < length pairs). small (suc k) d (omega arith))
    (back (pair_bytes pair) (flat_map pair_bytes pairs) (place + 16) refl refl s) in
    rw (first, others) (ap Some (sym (sum_by-cons (λ (pair : ℕ × ℕ). pair.1) pair pairs)))

abbrev pair_of : ℕ × ℕ → Pair
pair_of pair = record { first = pos pair.0; second = pos pair.1 }

-- what is made of all pairs
structs_stand : {A : Type 0} (make : Pair → A) (bytes : List ℕ) (pairs : List (ℕ × ℕ)) (place : ℕ) → AreSigned pairs
    → Stands bytes place (flat_map pair_bytes pairs)
    → structs_from make bytes place (length pairs) ≡ Some (map (λ pair. make (pair_of pair)) pairs)
structs_stand make bytes [] place small s = refl
structs_stand make bytes (pair ∷ pairs) place small s =
    let here = small 0 pair (omega arith) in
    let first = pair_stands pair here.0 here.1 (front (pair_bytes pair) (flat_map pair_bytes pairs) refl s) in
    let others = structs_stand make bytes pairs (place + 16) (λ (k : ℕ) (d : ℕ × ℕ) (inside : k < length pairs). small (suc k) d (omega arith))
    (back (pair_bytes pair) (flat_map pair_bytes pairs) (place + 16) refl refl s) in
    rw (first, others) refl

-- what a vector of pairs holds, read as nodes and as buffers
record HasPairs (bytes : List ℕ) (vector : Vector) (pairs : List (ℕ × ℕ)) : Type 0 where
  nodes_are : structs_in as_node bytes vector ≡ Some (map stated_node pairs)
  buffers_are : structs_in as_buffer bytes vector ≡ Some (map stated_buffer pairs)
  sum_is : lengths_sum bytes vector ≡ Some (sum_by (λ (pair : ℕ × ℕ). pair.1) pairs)

-- a vector of pairs where its content stands
pairs_stand : (bytes : List ℕ) (place : ℕ) (pairs : List (ℕ × ℕ)) → AreSigned pairs → Stands bytes place (flat_map pair_bytes pairs)
    → HasPairs bytes (record { place = place; count = length pairs }) pairs
unfolding structs_in lengths_sum
pairs_stand bytes place pairs small s = record {
  nodes_are = structs_stand as_node bytes pairs place small s;
  buffers_are = structs_stand as_buffer bytes pairs place small s;
  sum_is = lengths_stand bytes pairs place small s;
}

-- a slot that refers to pairs: the vector, of structs of 16 bytes
record PairsAnswers (bytes : List ℕ) (found : TablePlace) (slot : ℕ) (pairs : List (ℕ × ℕ)) : Type 0 where
  vector_at : Vector
  vector : vector_field bytes found slot 16 ≡ Some (Some vector_at)
  has_pairs : HasPairs bytes vector_at pairs

pairs_read : (bytes : List ℕ) (found : TablePlace) (slot : ℕ) (pairs : List (ℕ × ℕ)) → AreSigned pairs
    → SpellsReference bytes found slot (λ (place : ℕ). Spells bytes place (structs_object pairs)) → PairsAnswers bytes found slot pairs
pairs_read bytes found slot pairs small h =
    let read = elements_read bytes found slot (length pairs) (flat_map pair_bytes pairs) h in
    record {
      vector_at = record { place = read.place; count = length pairs };
      vector = read.vector 16 (omega (arith, pairs_length pairs));
      has_pairs = pairs_stand bytes read.place pairs small (stands_window (length (flat_map pair_bytes pairs))
          (flat_map pair_bytes pairs) read.holds);
    }

-- ---- batches

-- the slots of a record batch
abbrev batch_fields : ℕ → List (ℕ × ℕ) → List (ℕ × ℕ) → Fields
batch_fields rows nodes buffers = number_then w64 rows (refers_then (structs_object nodes)
    (refers_then (structs_object buffers) (absent_then no_field)))

pub record_batch_reads : (bytes : List ℕ) (found : TablePlace) (rows : ℕ) (nodes buffers : List (ℕ × ℕ)) → AreSigned nodes → AreSigned buffers
    → SpellsFields bytes found 0 (batch_fields rows nodes buffers) → IsRecordBatch bytes found nodes buffers
unfolding record_batch_in
record_batch_reads bytes found rows nodes buffers small-nodes small-buffers s =
    let its-nodes = pairs_read bytes found 1 nodes small-nodes s.rest.here in
    let its-buffers = pairs_read bytes found 2 buffers small-buffers s.rest.rest.here in
    let compression = absent_reads bytes found 3 s.rest.rest.rest.here in
    record {
      nodes_at = its-nodes.vector_at;
      buffers_at = its-buffers.vector_at;
      batch = rw (its-nodes.vector, its-buffers.vector, compression.table) refl;
      nodes_are = its-nodes.has_pairs.nodes_are;
      buffers_are = its-buffers.has_pairs.buffers_are;
      sum_is = its-buffers.has_pairs.sum_is;
    }

-- the slots of a dictionary batch
abbrev dictionary_fields : ℤ → ℕ → List (ℕ × ℕ) → List (ℕ × ℕ) → Fields
dictionary_fields id rows nodes buffers =
    number_then w64 (cast_unsigned w64 id) (refers_then (record_batch_object rows nodes buffers) (number_then w8 0 no_field))

pub dictionary_batch_reads : (bytes : List ℕ) (found : TablePlace) (id : ℤ) (rows : ℕ) (nodes buffers : List (ℕ × ℕ)) → FitsSigned w64 id
    → AreSigned nodes → AreSigned buffers → SpellsFields bytes found 0 (dictionary_fields id rows nodes buffers)
    → IsDictionaryBatch bytes found id nodes buffers
unfolding dictionary_batch_in
dictionary_batch_reads bytes found id rows nodes buffers fits small-nodes small-buffers s =
    let its-id = (numbers_read bytes found 0 w64 (cast_unsigned w64 id) s.here).value (pos 0) id fits refl in
    let its-values = tables_read bytes found 1 (batch_fields rows nodes buffers) s.rest.here in
    let its-delta = truths_read bytes found 2 0 s.rest.rest.here in
    record {
      values_at = its-values.child;
      batch = rw (its-id, its-values.table, its-delta) refl;
      values = record_batch_reads bytes its-values.child rows nodes buffers small-nodes small-buffers its-values.slots;
    }

-- ---- messages

-- what a message tells before its header is looked at
pub record MessageAnswers (bytes : List ℕ) (tag : ℕ) (header : Fields) (body_length : ℕ) : Type 0 where
  pub header_at : TablePlace
  pub slots : SpellsFields bytes header_at 0 header
  pub version : version_in bytes ≡ Some V5
  pub root : TablePlace
  pub root_is : root_of bytes ≡ Some root
  pub tag_is : number_field w8 bytes root 1 0 ≡ Some tag
  pub header_is : table_field bytes root 2 ≡ Some (Some header_at)
  pub body_is : signed_field w64 bytes root 3 (pos 0) ≡ Some (pos body_length)

pub message_reads : (bytes : List ℕ) (tag : ℕ) (header : Fields) (body_length : ℕ) → body_length < 2 ^ 63
    → SpellsRoot bytes (message_object tag (table header) body_length) → MessageAnswers bytes tag header body_length
unfolding version_in
message_reads bytes tag header body_length small s =
    let read = roots_read bytes (number_then w16 4 (number_then w8 tag
    (refers_then (table header) (number_then w64 body_length (absent_then no_field))))) s in
    let root = read.child in
    let slots = read.slots in
    let version-is : signed_field w16 bytes root 0 (pos 0) ≡ Some (pos 4) = (numbers_read bytes root 0 w16 4 slots.here).signed (pos 0) in
    let its-header = tables_read bytes root 2 header slots.rest.rest.here in
    let length-is : signed_field w64 bytes root 3 (pos 0) ≡ Some (cast_signed w64 body_length) =
    (numbers_read bytes root 3 w64 body_length slots.rest.rest.rest.here).signed (pos 0) in
    record {
      header_at = its-header.child;
      slots = its-header.slots;
      version = rw (read.table, version-is) refl;
      root = root;
      root_is = read.table;
      tag_is = (numbers_read bytes root 1 w8 tag slots.rest.here).number 0;
      header_is = its-header.table;
      body_is = length-is ∙ ap Some (to_z_pos w64 body_length small);
    }

-- a message whose header is of a kind
as_message : (bytes : List ℕ) (tag : ℕ) (kind : TablePlace → grammar.Header) (header : Fields) (body_length : ℕ) (IsHeader : TablePlace → Type 0)
    (m : MessageAnswers bytes tag header body_length)
    → message_in bytes ≡ Some (record { header = kind m.header_at; body_length = pos body_length })
    → IsHeader m.header_at → IsMessage bytes kind body_length IsHeader
as_message bytes tag kind header body_length IsHeader m message h =
    record { header_at = m.header_at; version = m.version; message = message; header = h }

record_message : (bytes : List ℕ) (header : Fields) (body_length : ℕ) (IsHeader : TablePlace → Type 0) (m : MessageAnswers bytes 3 header body_length)
    → IsHeader m.header_at → IsMessage bytes grammar.record_batch body_length IsHeader
unfolding message_in
record_message bytes header body_length IsHeader m =
    as_message bytes 3 grammar.record_batch header body_length IsHeader m (rw (m.root_is, m.tag_is, m.header_is, m.body_is) refl)

dictionary_message : (bytes : List ℕ) (header : Fields) (body_length : ℕ) (IsHeader : TablePlace → Type 0)
    (m : MessageAnswers bytes 2 header body_length)
    → IsHeader m.header_at → IsMessage bytes grammar.dictionary_batch body_length IsHeader
unfolding message_in
dictionary_message bytes header body_length IsHeader m =
    as_message bytes 2 grammar.dictionary_batch header body_length IsHeader m (rw (m.root_is, m.tag_is, m.header_is, m.body_is) refl)

-- ---- what is laid

structs_fit : (pairs : List (ℕ × ℕ)) → Fits (structs_object pairs)
structs_fit pairs = omega (arith, pairs_length pairs)

record_batch_fits : (rows : ℕ) (nodes buffers : List (ℕ × ℕ)) → rows < 2 ^ 64 → Fits (record_batch_object rows nodes buffers)
record_batch_fits rows nodes buffers small = record {
  here = record { vtable_size = omega arith; table_size = omega arith };
  rest = record { here = small; rest = record { here = structs_fit nodes; rest = record { here = structs_fit buffers; rest = tt } } };
}

pub message_fits : (tag : ℕ) (header : Object) (body_length : ℕ) → tag < 2 ^ 8 → Fits header → body_length < 2 ^ 63
    → Fits (message_object tag header body_length)
message_fits tag header body_length small fits short = record {
  here = record { vtable_size = omega arith; table_size = omega arith };
  rest = record {
    here = omega arith;
    rest = record {
      here = small;
      rest = record
          { here = fits; rest = record { here = omega arith; rest = tt } };
    };
  };
}

pub record_batches_read_back : RecordBatchesReadBack
record_batches_read_back rows nodes buffers body_length small small-nodes small-buffers short within =
    let bytes = laid (message_object 3 (record_batch_object rows nodes buffers) body_length) in
    let fits = message_fits 3 (record_batch_object rows nodes buffers) body_length (omega arith)
    (record_batch_fits rows nodes buffers small) short in
    let read = message_reads bytes 3 (batch_fields rows nodes buffers) body_length short
    (laid_reads_back (message_object 3 (record_batch_object rows nodes buffers) body_length) fits within) in
    record_message bytes (batch_fields rows nodes buffers) body_length (λ (found : TablePlace). IsRecordBatch bytes found nodes buffers) read
    (record_batch_reads bytes read.header_at rows nodes buffers small-nodes small-buffers read.slots)

dictionary_batch_fits : (id : ℤ) (rows : ℕ) (nodes buffers : List (ℕ × ℕ)) → FitsSigned w64 id → rows < 2 ^ 64
    → Fits (dictionary_batch_object id (record_batch_object rows nodes buffers))
dictionary_batch_fits id rows nodes buffers fits small = record {
  here = record { vtable_size = omega arith; table_size = omega arith };
  rest = record {
    here = Fits-lt-pow (Fits-of_z fits);
    rest = record
        { here = record_batch_fits rows nodes buffers small; rest = record { here = omega arith; rest = tt } };
  };
}

pub dictionary_batches_read_back : DictionaryBatchesReadBack
dictionary_batches_read_back id rows nodes buffers body_length fits-id small small-nodes small-buffers short within =
    let batch = dictionary_batch_object id (record_batch_object rows nodes buffers) in
    let bytes = laid (message_object 2 batch body_length) in
    let header = dictionary_fields id rows nodes buffers in
    let fits = message_fits 2 batch body_length (omega arith) (dictionary_batch_fits id rows nodes buffers fits-id small) short in
    let read = message_reads bytes 2 header body_length short (laid_reads_back (message_object 2 batch body_length) fits within) in
    dictionary_message bytes header body_length (λ (found : TablePlace). IsDictionaryBatch bytes found id nodes buffers) read
    (dictionary_batch_reads bytes read.header_at id rows nodes buffers fits-id small-nodes small-buffers read.slots)
