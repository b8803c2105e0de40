-- Columns that are placed in a body, and the messages of these.
use Rattle.std.proofs.Common.{◌≡◌, ◌∙◌, ℕ, ◌+◌, ◌≤◌, ◌<◌, ◌^◌, Bool, true, ◌&&◌, List, [], ◌∷◌, ◌++◌, length, map, take, drop, get_or, refl, sym, ap, subst, arith}
use Rattle.std.specs.Prelude.{ℤ, pos, Result, Ok, Err, nat_lt}
use Rattle.std.specs.List.{list_all}
use Rattle.std.specs.declared.alloc.Global.{Global}
use Rattle.std.specs.declared.vec.Vec.{Vec}
use Rattle.std.proofs.lemmas.Bool.{and_from, lt-ltb}
use Rattle.std.proofs.lemmas.List.{length-append, map-append, take-append-drop, take_all, take_more}
use Rattle.ipc_format_batch_reading.proofs.Joined.{one_placed, one_refused}
use Rattle.ipc_format_batch_reading.proofs.MessageLimits.{dictionary_is, not_placed, not_written, record_is}
use Rattle.ipc_format_batch_reading.specs.Bodies.{IsRefused, Parts, Settles, parts, stated_node, with_column}
use Rattle.ipc_format_batch_reading.specs.Placing.{AreSignedNodes, IsNotEncoded, IsPlaced, WritesMetadata, batch_of_column, dictionary_of_column}
use Rattle.ipc_format_batch_reading.specs.Placing.{is_within, no_parts}
use Rattle.ipc_format_batch_reading.specs.columnar_memory.declared.Error.{Error}
use Rattle.ipc_format_batch_reading.specs.columns.StoredColumns.{Column, place_of}
use Rattle.ipc_format_batch_reading.specs.grammar.Encoding.{Encoded, joined_columns}
use Rattle.ipc_format_batch_reading.specs.grammar.GivenDictionaries.{Given}
use Rattle.ipc_format_batch_reading.specs.grammar.Limits.{length_limit}
use Rattle.ipc_format_batch_reading.specs.grammar.StoredEncoding.{encode_stored}
use Rattle.ipc_format_batch_reading.specs.grammar.WrittenMessages.{Written, body_bytes, dictionary_message, fits_limit, record_message}
use Rattle.ipc_format_batch_reading.specs.grammar.WrittenStreams.{has_nodes_in_room, is_node}
use Rattle.ipc_format_batch_reading.specs.messages.declared.FieldNode.{FieldNode}
use Rattle.ipc_format_batch_reading.specs.messages.declared.Buffer.{Buffer}
use Rattle.ipc_format_batch_reading.specs.reading.array_reading.column_writing.column_reading.column_bytes.declared.Placed.{Placed}
use Rattle.ipc_format_chunk_writing.specs.EncodedChunks.{EncodesMessage, is_given_within}

-- ---- columns one behind the other

-- columns as they are written
abbrev pub encoded_of : List Column → List Encoded
encoded_of columns = map (encode_stored true) columns

columns_more : (all : List Column) (k : ℕ) (next : Column) → k < length all → next ≡ get_or all k next
    → encoded_of (take k all) ++ encode_stored true next ∷ [] ≡ encoded_of (take (k + 1) all)
columns_more all k next inside is =
    (λ i. encoded_of (take k all) ++ encode_stored true (is i) ∷ [])
    ∙ sym (map-append (encode_stored true) (take k all) (get_or all k next ∷ [])) ∙ ap encoded_of (sym (take_more all k next inside))

columns_whole : (all : List Column) (k : ℕ) (next : Column) → k < length all → next ≡ get_or all k next
    → (encoded_of (take k all) ++ encode_stored true next ∷ []) ++ encoded_of (drop (k + 1) all) ≡ encoded_of all
columns_whole all k next inside is =
    ap (λ (front : List Encoded). front ++ encoded_of (drop (k + 1) all)) (columns_more all k next inside is)
    ∙ sym (map-append (encode_stored true) (take (k + 1) all) (drop (k + 1) all)) ∙ ap encoded_of (take-append-drop (k + 1) all)

-- what stands once the columns before a place are placed
abbrev pub placed_before : List Column → ℕ → Parts
placed_before all k = with_column no_parts (joined_columns (encoded_of (take k all)))

pub column_placed : (all : List Column) (k : ℕ) (next : Column) (q s : Parts) → k < length all → next ≡ get_or all k next
    → q ≡ placed_before all k → s ≡ with_column q (encode_stored true next) → s ≡ placed_before all (k + 1)
column_placed all k next q s inside is so_far added =
    one_placed (encoded_of (take k all)) (encode_stored true next) q s so_far added
    ∙ ap (λ (columns : List Encoded). with_column no_parts (joined_columns columns)) (columns_more all k next inside is)

pub column_refused : (error : Error) (all : List Column) (k : ℕ) (next : Column) (q s : Parts) → k < length all → next ≡ get_or all k next
    → q ≡ placed_before all k → Settles (Err error) q s (encode_stored true next) → IsRefused error 0 (joined_columns (encoded_of all))
column_refused error all k next q s inside is so_far refused =
    subst (λ (columns : List Encoded). IsRefused error 0 (joined_columns columns)) (columns_whole all k next inside is)
    (one_refused error (encoded_of (take k all)) (encoded_of (drop (k + 1) all)) (encode_stored true next) q s so_far refused)

pub columns_placed : (all : List Column) (k : ℕ) (q : Parts) → length all ≤ k → q ≡ placed_before all k
    → q ≡ with_column no_parts (joined_columns (encoded_of all))
columns_placed all k q end so_far =
    so_far ∙ ap (λ (columns : List Column). with_column no_parts (joined_columns (encoded_of columns))) (take_all k all end)

-- a column behind others, where the offset is the body's length
pub settles_placed : (result : Result (Unit {0}) Error) (nodes : List FieldNode) (buffers : List Buffer) (body : List ℕ) (more_nodes : List FieldNode)
    (more_buffers : List Buffer) (more : List ℕ) (offset end : ℤ) (column : Encoded) → offset ≡ pos (length body)
    → Settles result (parts nodes buffers body offset) (parts more_nodes more_buffers more end) column
    → Settles result (parts nodes buffers body (pos (length body))) (parts more_nodes more_buffers more (pos (length more))) column
settles_placed (Ok done) nodes buffers body more_nodes more_buffers more offset end column start h =
    let all : parts more_nodes more_buffers more end ≡ with_column (parts nodes buffers body (pos (length body))) column =
    h ∙ ap (λ (z : ℤ). with_column (parts nodes buffers body z) column) start in
    let bytes : more ≡ body ++ body_bytes column.buffers = ap (λ (p : Parts). p.bytes) all in
    let size : pos (length more) ≡ pos (length body + length (body_bytes column.buffers)) =
    ap (λ (ys : List ℕ). pos (length ys)) bytes ∙ ap pos (length-append body (body_bytes column.buffers)) in
    λ i. parts (ap (λ (p : Parts). p.nodes) all i) (ap (λ (p : Parts). p.buffers) all i) (bytes i) (size i)
settles_placed (Err error) nodes buffers body more_nodes more_buffers more offset end column start h = (
  subst (λ (z : ℤ). IsRefused error (place_of z) column) start h.0,
  ap (λ (p : Parts). parts p.nodes p.buffers p.bytes (pos (length p.bytes))) h.1,
)

-- ---- nodes

-- nodes that state signed numbers are within the lengths of arrays
nodes_fit : (ns : List (ℕ × ℕ)) → AreSignedNodes (map stated_node ns) → list_all is_node ns ≡ true
nodes_fit [] signed = refl
nodes_fit (n ∷ ns) signed =
    let first : n.0 < 2 ^ 63 = signed.0.0.sfits in
    let second : n.1 < 2 ^ 63 = signed.0.1.sfits in
    and_from (is_node n) (list_all is_node ns)
    (and_from (nat_lt n.0 length_limit) (nat_lt n.1 length_limit) (lt-ltb n.0 length_limit (omega (arith, first)))
    (lt-ltb n.1 length_limit (omega (arith, second))))
    (nodes_fit ns signed.1)

pub room_of : (placed : Placed) (body : List ℕ) (column : Encoded) → IsPlaced placed body column → AreSignedNodes placed.nodes.items
    → has_nodes_in_room column ≡ true
room_of placed body column stand signed = nodes_fit column.nodes (subst AreSignedNodes stand.nodes signed)

-- ---- messages

-- the message of columns that are placed
pub record_encoded : (placed : Placed) (body : List ℕ) (rows : ℕ) (columns : List Encoded) (metadata : Vec ℕ Global) (encoded : Written)
    → IsPlaced placed body (joined_columns columns) → AreSignedNodes placed.nodes.items
    → WritesMetadata (Ok metadata) body (batch_of_column rows (joined_columns columns)) → encoded ≡ record { metadata = metadata.items; body = body }
    → EncodesMessage (Ok tt) encoded (joined_columns columns) (record_message rows columns)
record_encoded placed body rows columns metadata encoded stand signed written is = (
  is ∙ written.1 ∙ record_is rows columns,
  and_from (has_nodes_in_room (joined_columns columns)) (fits_limit (record_message rows columns))
      (room_of placed body (joined_columns columns) stand signed)
      (ap fits_limit (sym (record_is rows columns)) ∙ written.0),
)

pub record_not_placed : (error : Error) (rows : ℕ) (columns : List Encoded) (encoded : Written) → IsRefused error 0 (joined_columns columns)
    → EncodesMessage (Err error) encoded (joined_columns columns) (record_message rows columns)
record_not_placed error rows columns encoded refused =
    subst (λ (message : Written). IsNotEncoded error (is_within (joined_columns columns) message)) (record_is rows columns)
    (not_placed error (joined_columns columns) (batch_of_column rows (joined_columns columns)) refl refused)

pub record_not_written : (error : Error) (body : List ℕ) (rows : ℕ) (columns : List Encoded) (encoded : Written)
    → WritesMetadata (Err error) body (batch_of_column rows (joined_columns columns))
    → EncodesMessage (Err error) encoded (joined_columns columns) (record_message rows columns)
record_not_written error body rows columns encoded refused =
    subst (λ (message : Written). IsNotEncoded error (is_within (joined_columns columns) message)) (record_is rows columns)
    (not_written error body (joined_columns columns) (batch_of_column rows (joined_columns columns)) refused)

-- the message of a dictionary that is placed
pub dictionary_encoded : (placed : Placed) (body : List ℕ) (rows : ℕ) (given : Given) (metadata : Vec ℕ Global) (encoded : Written)
    → rows ≡ length given.slots → IsPlaced placed body given.column → AreSignedNodes placed.nodes.items
    → WritesMetadata (Ok metadata) body (dictionary_of_column given.id rows given.column)
    → encoded ≡ record { metadata = metadata.items; body = body }
    → (encoded ≡ dictionary_message given) × (is_given_within given ≡ true)
dictionary_encoded placed body rows given metadata encoded count stand signed written is =
    let same : dictionary_of_column given.id rows given.column ≡ dictionary_message given =
    ap (λ (n : ℕ). dictionary_of_column given.id n given.column) count ∙ dictionary_is given in (
      is ∙ written.1 ∙ same,
      and_from (has_nodes_in_room given.column) (fits_limit (dictionary_message given)) (room_of placed body given.column stand signed)
          (ap fits_limit (sym same) ∙ written.0),
    )

pub dictionary_not_placed : (error : Error) (given : Given) → IsRefused error 0 given.column → IsNotEncoded error (is_given_within given)
dictionary_not_placed error given refused =
    subst (λ (message : Written). IsNotEncoded error (is_within given.column message)) (dictionary_is given)
    (not_placed error given.column (dictionary_of_column given.id (length given.slots) given.column) refl refused)

pub dictionary_not_written : (error : Error) (body : List ℕ) (rows : ℕ) (given : Given) → rows ≡ length given.slots
    → WritesMetadata (Err error) body (dictionary_of_column given.id rows given.column) → IsNotEncoded error (is_given_within given)
dictionary_not_written error body rows given count refused =
    subst (λ (message : Written). IsNotEncoded error (is_within given.column message))
    (ap (λ (n : ℕ). dictionary_of_column given.id n given.column) count ∙ dictionary_is given)
    (not_written error body given.column (dictionary_of_column given.id rows given.column) refused)
