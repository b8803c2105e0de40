-- Columns that are placed one behind the other in a body of their own.
use Rattle.std.proofs.Common.{◌≡◌, ◌∙◌, ℕ, ◌+◌, List, [], ◌∷◌, ◌++◌, sym, ap, subst, arith}
use Rattle.std.specs.Prelude.{ℤ, pos, ◌≤ℤ◌, Err, length}
use Rattle.std.proofs.lemmas.Int.{ints}
use Rattle.std.proofs.lemmas.List.{flat_map_more}
use Rattle.std.proofs.lemmas.Grind.{flat_map-append}
use Rattle.ipc_format_column_bytes.specs.Bodies.{Parts, Adds, Settles, IsRefused, both, parts, with_column}
use Rattle.ipc_format_column_bytes.proofs.Bodies.{adds_refused, adds_then, same_begins, with_both}
use Rattle.ipc_format_streams.specs.columnar_memory.declared.Error.{Error}
use Rattle.ipc_format_streams.specs.messages.declared.FieldNode.{FieldNode}
use Rattle.ipc_format_streams.specs.messages.declared.Buffer.{Buffer}
use Rattle.ipc_format_streams.specs.grammar.Encoding.{Encoded, joined_columns}
use Rattle.ipc_format_streams.specs.grammar.WrittenMessages.{body_bytes}
use Rattle.ipc_format_column_bytes.specs.Placing.{IsPlaced, no_parts}
use Rattle.ipc_format_column_bytes.specs.declared.placed.Placed.{Placed}

joined_more : (xs : List Encoded) (x : Encoded) → both (joined_columns xs) x ≡ joined_columns (xs ++ x ∷ [])
joined_more xs x =
    let nodes = flat_map_more (λ (column : Encoded). column.nodes) [] xs x in
    let buffers = flat_map_more (λ (column : Encoded). column.buffers) [] xs x in
    λ i. record { nodes = nodes i; buffers = buffers i }

joined_both : (xs ys : List Encoded) → both (joined_columns xs) (joined_columns ys) ≡ joined_columns (xs ++ ys)
joined_both xs ys =
    let nodes = sym (flat_map-append (λ (column : Encoded). column.nodes) xs ys) in
    let buffers = sym (flat_map-append (λ (column : Encoded). column.buffers) xs ys) in
    λ i. record { nodes = nodes i; buffers = buffers i }

-- nothing was placed
pub none_placed : (body : List ℕ) → body ≡ [] → parts [] [] body (pos 0) ≡ with_column no_parts (joined_columns [])
none_placed body empty = λ i. parts [] [] (empty i) (pos 0)

-- one more column
pub one_placed : (xs : List Encoded) (x : Encoded) (q s : Parts) → q ≡ with_column no_parts (joined_columns xs) → s ≡ with_column q x
    → s ≡ with_column no_parts (joined_columns (xs ++ x ∷ []))
one_placed xs x q s so_far added =
    added ∙ ap (λ (p : Parts). with_column p x) so_far ∙ with_both [] [] [] 0 (joined_columns xs) x ∙ ap (with_column no_parts) (joined_more xs x)

-- it is refused, and more were to come
pub one_refused : (error : Error) (xs ys : List Encoded) (x : Encoded) (q s : Parts) → q ≡ with_column no_parts (joined_columns xs)
    → Settles (Err error) q s x → IsRefused error 0 (joined_columns ((xs ++ x ∷ []) ++ ys))
one_refused error xs ys x q s so_far refused =
    let here : Adds (Err error) no_parts q (both (joined_columns xs) x) =
    adds_then (Err error) [] [] [] 0 q q (joined_columns xs) x so_far (refused.0, same_begins q) in
    let all = adds_refused error no_parts q (both (joined_columns xs) x) (joined_columns ys) here in
    subst (IsRefused error 0) (ap (λ (front : Encoded). both front (joined_columns ys)) (joined_more xs x) ∙ joined_both (xs ++ x ∷ []) ys) all.0

-- where the next buffer begins is not negative
pub place_low : (column : Encoded) (nodes : List FieldNode) (buffers : List Buffer) (body : List ℕ) (offset : ℤ)
    → parts nodes buffers body offset ≡ with_column no_parts column → pos 0 ≤ℤ offset
place_low column nodes buffers body offset is =
    let place : offset ≡ pos (0 + length (body_bytes column.buffers)) = ap (λ (p : Parts). p.offset) is in
    subst (λ (z : ℤ). pos 0 ≤ℤ z) (sym place) (omega (arith, ints))

-- all are placed
pub all_placed : (placed : Placed) (column : Encoded) (nodes : List FieldNode) (buffers : List Buffer) (body : List ℕ) (offset : ℤ)
    → placed.nodes.items ≡ nodes → placed.buffers.items ≡ buffers
    → parts nodes buffers body offset ≡ with_column no_parts column → IsPlaced placed body column
all_placed placed column nodes buffers body offset of_nodes of_buffers is = record {
  nodes = of_nodes ∙ ap (λ (p : Parts). p.nodes) is;
  buffers = of_buffers ∙ ap (λ (p : Parts). p.buffers) is;
  bytes = ap (λ (p : Parts). p.bytes) is;
}
