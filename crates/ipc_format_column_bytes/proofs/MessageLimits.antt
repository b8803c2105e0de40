-- Messages of placed columns, and which are past their limits.
use Rattle.std.proofs.Common.{◌≡◌, ◌∙◌, ℕ, ◌+◌, ◌≤◌, List, [], ◌∷◌, length, refl, ap, subst, Bool, true, false, inl, inr, arith}
use Rattle.std.specs.Prelude.{◌&&◌, ◌||◌, nat_le, nat_lt, Err}
use Rattle.std.specs.List.{list_all, list_any}
use Rattle.std.proofs.lemmas.Bool.{le-ltb, leb-true, false≢true}
use Rattle.ipc_format_column_bytes.specs.Bodies.{IsRefused, IsTooLong, is_long_node, signed_limit}
use Rattle.ipc_format_streams.specs.columnar_memory.declared.Error.{Error}
use Rattle.ipc_format_streams.specs.columnar_memory.declared.Error.TheVariants.{Overflow, OutOfMemory}
use Rattle.ipc_format_streams.specs.grammar.Encoding.{Encoded, joined_columns}
use Rattle.ipc_format_streams.specs.grammar.GivenDictionaries.{Given}
use Rattle.ipc_format_streams.specs.grammar.Limits.{length_limit}
use Rattle.ipc_format_streams.specs.grammar.WrittenMessages.{Written, body_bytes, body_limit, fits_limit, record_message, dictionary_message}
use Rattle.ipc_format_streams.specs.grammar.WrittenMessages.{prefix_size, most_metadata}
use Rattle.ipc_format_streams.specs.grammar.WrittenStreams.{is_node, has_nodes_in_room}
use Rattle.ipc_format_column_bytes.specs.Placing.{WritesMetadata, IsNotEncoded, is_within, batch_of_column, dictionary_of_column}

-- ---- the definitions' messages

pub record_is : (rows : ℕ) (columns : List Encoded) → batch_of_column rows (joined_columns columns) ≡ record_message rows columns
unfolding record_message
record_is rows columns = refl

pub dictionary_is : (given : Given) → dictionary_of_column given.id (length given.slots) given.column ≡ dictionary_message given
unfolding dictionary_message
dictionary_is given = refl

-- ---- limits

and_false : (a : Bool) → (a && false) ≡ false
and_false true = refl
and_false false = refl

long_node : (n : ℕ × ℕ) → is_long_node n ≡ true → is_node n ≡ false
long_node n h = by (nat_le signed_limit n.0) refl
  where
    by : (first : Bool) → nat_le signed_limit n.0 ≡ first → is_node n ≡ false
    by true is = ap (λ (b : Bool). b && nat_lt n.1 length_limit) (le-ltb n.0 length_limit (leb-true signed_limit n.0 is))
    by false is =
        let second : nat_le signed_limit n.1 ≡ true = subst (λ (b : Bool). (b || nat_le signed_limit n.1) ≡ true) is h in
        ap (λ (b : Bool). nat_lt n.0 length_limit && b) (le-ltb n.1 length_limit (leb-true signed_limit n.1 second))
        ∙ and_false (nat_lt n.0 length_limit)

long_nodes : (ns : List (ℕ × ℕ)) → list_any is_long_node ns ≡ true → list_all is_node ns ≡ false
long_nodes [] h = absurd (false≢true h)
long_nodes (n ∷ ns) h = by (is_long_node n) refl (long_nodes ns)
  where
    by : (first : Bool) → is_long_node n ≡ first → (list_any is_long_node ns ≡ true → list_all is_node ns ≡ false)
        → list_all is_node (n ∷ ns) ≡ false
    by true is rest = ap (λ (b : Bool). b && list_all is_node ns) (long_node n is)
    by false is rest =
        ap (λ (b : Bool). is_node n && b) (rest (subst (λ (b : Bool). (b || list_any is_long_node ns) ≡ true) is h))
        ∙ and_false (is_node n)

too_long : (column : Encoded) (message : Written) → message.body ≡ body_bytes column.buffers → IsTooLong 0 column → is_within column message ≡ false
too_long column message is (inl long) = ap (λ (b : Bool). b && fits_limit message) (long_nodes column.nodes long)
too_long column message is (inr far) =
    let size : length message.body ≡ length (body_bytes column.buffers) = ap (λ (bytes : List ℕ). length bytes) is in
    let past : body_limit ≤ length message.body = omega (arith, far, size) in
    ap (λ (b : Bool). has_nodes_in_room column && (b && nat_le (prefix_size + length message.metadata) most_metadata))
    (le-ltb (length message.body) body_limit past)
    ∙ and_false (has_nodes_in_room column)

pub not_placed : (error : Error) (column : Encoded) (message : Written) → message.body ≡ body_bytes column.buffers → IsRefused error 0 column
    → IsNotEncoded error (is_within column message)
not_placed Overflow column message is refused = too_long column message is refused
not_placed OutOfMemory column message is refused = tt
not_placed _ column message is refused = absurd refused

pub not_written : (error : Error) (body : List ℕ) (column : Encoded) (message : Written) → WritesMetadata (Err error) body message
    → IsNotEncoded error (is_within column message)
not_written Overflow body column message refused = ap (λ (b : Bool). has_nodes_in_room column && b) refused
    ∙ and_false (has_nodes_in_room column)
not_written OutOfMemory body column message refused = tt
not_written _ body column message refused = absurd refused
