-- What placed columns state is what is written of them.
use Rattle.std.proofs.Common.{◌≡◌, ◌∙◌, ℕ, ◌<◌, ◌≤◌, ◌^◌, List, [], ◌∷◌, ◌++◌, length, take, map, refl, sym, ap, subst, arith}
use Rattle.std.specs.Prelude.{ℤ, pos, Result, Ok, Err, FitsSigned}
use Rattle.std.specs.Int.{w64, cast_unsigned}
use Rattle.std.specs.List.{AllByRecursion}
use Rattle.std.proofs.lemmas.List.{take_all}
use Rattle.std.specs.declared.vec.Vec.{Vec}
use Rattle.std.specs.declared.alloc.Global.{Global}
use Rattle.ipc_format_column_bytes.specs.Bodies.{stated_node, stated_buffer}
use Rattle.ipc_format_streams.specs.columnar_memory.declared.Error.{Error}
use Rattle.ipc_format_streams.specs.columnar_memory.declared.Error.TheVariants.{Overflow, OutOfMemory}
use Rattle.ipc_format_streams.specs.messages.declared.FieldNode.{FieldNode}
use Rattle.ipc_format_streams.specs.messages.declared.Buffer.{Buffer}
use Rattle.ipc_format_streams.specs.flatbuffers.Objects.{Object}
use Rattle.ipc_format_streams.specs.grammar.Encoding.{Encoded}
use Rattle.ipc_format_streams.specs.grammar.SchemaObjects.{message_object, record_batch_object, dictionary_batch_object}
use Rattle.ipc_format_streams.specs.grammar.TagNumbers.{dictionary_tag, record_tag}
use Rattle.ipc_format_streams.specs.grammar.WrittenMessages.{body_bytes, buffer_places, message_of}
use Rattle.ipc_format_streams.specs.owned.writing.MessageWriting.{WritesMessage, node_pair, buffer_pair, record_message, dictionary_message}
use Rattle.ipc_format_column_bytes.specs.Placing.{IsPlaced, AreSignedNodes, AreSignedBuffers, WritesMetadata, batch_of_column}
use Rattle.ipc_format_column_bytes.specs.Placing.{dictionary_of_column}
use Rattle.ipc_format_column_bytes.specs.declared.placed.Placed.{Placed}

written_number : (n : ℕ) → FitsSigned w64 (pos n) → cast_unsigned w64 (pos n) ≡ n
written_number n fits = let small : n < 2 ^ 63 = fits.sfits in omega (arith, small)

nodes_written : (ns : List (ℕ × ℕ)) → AreSignedNodes (map stated_node ns) → map node_pair (map stated_node ns) ≡ ns
nodes_written [] signed = refl
nodes_written (n ∷ ns) signed =
    λ i. (written_number n.0 signed.0.0 i, written_number n.1 signed.0.1 i) ∷ nodes_written ns signed.1 i

buffers_written : (ns : List (ℕ × ℕ)) → AreSignedBuffers (map stated_buffer ns) → map buffer_pair (map stated_buffer ns) ≡ ns
buffers_written [] signed = refl
buffers_written (n ∷ ns) signed =
    λ i. (written_number n.0 signed.0.0 i, written_number n.1 signed.0.1 i) ∷ buffers_written ns signed.1 i

-- ---- those that were looked at

pub all_more : {A : Type 0} (P : A → Type 0) (xs : List A) (x : A) → AllByRecursion P xs → P x → AllByRecursion P (xs ++ x ∷ [])
all_more P [] x all one = (one, tt)
all_more {A} P (y ∷ xs) x all one = (all.0, all_more P xs x all.1 one)

pub all_looked : {A : Type 0} (P : A → Type 0) (xs : List A) (i : ℕ) → length xs ≤ i → AllByRecursion P (take i xs) → AllByRecursion P xs
all_looked P xs i end all = subst (AllByRecursion P) (take_all i xs end) all

-- ---- as a message

message_written : (result : Result (Vec ℕ Global) Error) (tag : ℕ) (header : Object) (buffers : List (List ℕ)) (body : List ℕ)
    → body ≡ body_bytes buffers → WritesMessage result (message_object tag header (length body)) (length body)
    → WritesMetadata result body (message_of tag header buffers)
message_written result tag header buffers body is written =
    subst (λ (bytes : List ℕ). WritesMetadata result bytes (message_of tag header buffers)) (sym is)
    (whole result (subst (λ (bytes : List ℕ). WritesMessage result (message_object tag header (length bytes)) (length bytes)) is written))
  where
    whole : (r : Result (Vec ℕ Global) Error)
        → WritesMessage r (message_object tag header (length (body_bytes buffers))) (length (body_bytes buffers))
        → WritesMetadata r (body_bytes buffers) (message_of tag header buffers)
    whole (Ok metadata) h = (h.0, λ i. record { metadata = h.1 i; body = body_bytes buffers })
    whole (Err Overflow) h = h
    whole (Err OutOfMemory) h = tt
    whole (Err _) h = absurd h

nodes_of : (nodes : List FieldNode) (placed : Placed) (body : List ℕ) (column : Encoded) → nodes ≡ placed.nodes.items → IsPlaced placed body column
    → AreSignedNodes nodes → map node_pair nodes ≡ column.nodes
nodes_of nodes placed body column same stand signed =
    ap (map node_pair) (same ∙ stand.nodes) ∙ nodes_written column.nodes (subst AreSignedNodes (same ∙ stand.nodes) signed)

buffers_of : (buffers : List Buffer) (placed : Placed) (body : List ℕ) (column : Encoded) → buffers ≡ placed.buffers.items
    → IsPlaced placed body column → AreSignedBuffers buffers → map buffer_pair buffers ≡ buffer_places 0 column.buffers
buffers_of buffers placed body column same stand signed =
    ap (map buffer_pair) (same ∙ stand.buffers)
    ∙ buffers_written (buffer_places 0 column.buffers) (subst AreSignedBuffers (same ∙ stand.buffers) signed)

pub record_written : (result : Result (Vec ℕ Global) Error) (placed : Placed) (rows : ℕ) (body : List ℕ) (column : Encoded)
    (nodes : List FieldNode) (buffers : List Buffer) → nodes ≡ placed.nodes.items → buffers ≡ placed.buffers.items
    → IsPlaced placed body column → AreSignedNodes nodes → AreSignedBuffers buffers
    → WritesMessage result (record_message rows nodes buffers (length body)) (length body)
    → WritesMetadata result body (batch_of_column rows column)
record_written result placed rows body column nodes buffers same_nodes same_buffers stand signed_nodes signed_buffers written =
    let of_nodes = nodes_of nodes placed body column same_nodes stand signed_nodes in
    let of_buffers = buffers_of buffers placed body column same_buffers stand signed_buffers in
    message_written result record_tag (record_batch_object rows column.nodes (buffer_places 0 column.buffers)) column.buffers body stand.bytes
    (subst (λ (message : Object). WritesMessage result message (length body))
    (λ i. message_object record_tag (record_batch_object rows (of_nodes i) (of_buffers i)) (length body)) written)

pub dictionary_written : (result : Result (Vec ℕ Global) Error) (placed : Placed) (id stated : ℤ) (rows : ℕ) (body : List ℕ)
    (column : Encoded) (nodes : List FieldNode) (buffers : List Buffer) → stated ≡ id → nodes ≡ placed.nodes.items → buffers ≡ placed.buffers.items
    → IsPlaced placed body column → AreSignedNodes nodes → AreSignedBuffers buffers
    → WritesMessage result (dictionary_message stated rows nodes buffers (length body)) (length body)
    → WritesMetadata result body (dictionary_of_column id rows column)
dictionary_written result placed id stated rows body column nodes buffers same_id same_nodes same_buffers stand signed_nodes signed_buffers written =
    let of_nodes = nodes_of nodes placed body column same_nodes stand signed_nodes in
    let of_buffers = buffers_of buffers placed body column same_buffers stand signed_buffers in
    message_written result dictionary_tag (dictionary_batch_object id (record_batch_object rows column.nodes (buffer_places 0 column.buffers)))
    column.buffers body stand.bytes (subst (λ (message : Object). WritesMessage result message (length body))
    (λ i. message_object dictionary_tag (dictionary_batch_object (same_id i) (record_batch_object rows (of_nodes i) (of_buffers i)))
    (length body)) written)
