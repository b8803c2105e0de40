-- Parts of columns that are written one behind the other.
use Rattle.std.proofs.Common.{◌≡◌, ◌∙◌, ℕ, ◌+◌, ◌-◌, ◌%◌, ◌≤◌, ◌<◌, Bool, true, false, List, [], ◌∷◌, ◌++◌, length, map, take, drop}
use Rattle.std.proofs.Common.{refl, sym, ap, arith, inl, inr, ◌||◌, ◌^◌, subst, replicate}
use Rattle.std.specs.Prelude.{ℤ, pos, Option, Result, Ok, Err, nat_le, FitsSigned}
use Rattle.std.specs.Int.{w64, cast_signed, next_multiple_of}
use Rattle.std.specs.List.{list_any}
use Rattle.std.proofs.lemmas.Bool.{cases_lt, le-leb}
use Rattle.std.proofs.lemmas.Grind.{flat_map-append}
use Rattle.std.proofs.lemmas.Int.{to_z-of_z}
use Rattle.std.proofs.lemmas.List.{append_assoc, append-nil, drop-replicate, length-append, length-drop, length-replicate, length-take-le}
use Rattle.std.proofs.lemmas.List.{map-append, take-append-drop, take-replicate}
use Rattle.std.proofs.lemmas.List.Folds.{list_any-append}
use Rattle.std.proofs.lemmas.List.Sums.{sum_by-append}
use Rattle.std.proofs.Math.Seq.{take-append_seam, drop-append_seam, take-length}
use Rattle.ipc_format_streams.specs.columnar_memory.Error.{IsOutOfMemory}
use Rattle.ipc_format_streams.specs.columnar_memory.declared.Error.{Error}
use Rattle.ipc_format_streams.specs.columnar_memory.declared.Error.TheVariants.{Overflow, OutOfMemory}
use Rattle.ipc_format_streams.specs.grammar.Encoding.{Encoded}
use Rattle.ipc_format_streams.specs.grammar.StoredEncoding.{mask_bytes, mask_nulls}
use Rattle.ipc_format_streams.specs.grammar.WrittenMessages.{body_bytes, buffer_places, padded_buffer}
use Rattle.ipc_format_streams.specs.messages.declared.FieldNode.{FieldNode}
use Rattle.ipc_format_streams.specs.messages.declared.Buffer.{Buffer}
use Rattle.ipc_format_streams.specs.columns.StoredColumns.{place_of}
use Rattle.ipc_format_column_bytes.specs.Appends.{BeginsWith}
use Rattle.ipc_format_column_bytes.proofs.Added.{begins_through}
use Rattle.ipc_format_column_bytes.specs.declared.body.Body.{Body}
use Rattle.ipc_format_column_bytes.specs.declared.body.Lengths.{Lengths}
use Rattle.ipc_format_column_bytes.specs.Bodies.{Parts, Adds, BeginsWithParts, EndsBuffer, GivesBack, IsRefused, IsTooLong, Settles}
use Rattle.ipc_format_column_bytes.specs.Bodies.{both, firsts, is_long_node, of_buffers, of_node, of_slots, parts, parts_of, taken_up}
use Rattle.ipc_format_column_bytes.specs.Bodies.{signed_limit, stated_buffer, stated_node, with_column}

-- ---- lists of buffers

body_of : List (List ℕ) → ℕ
body_of buffers = length (body_bytes buffers)

bytes_append : (xs ys : List (List ℕ)) → body_bytes (xs ++ ys) ≡ body_bytes xs ++ body_bytes ys
bytes_append xs ys = flat_map-append padded_buffer xs ys

pub body_append : (xs ys : List (List ℕ)) → length (body_bytes (xs ++ ys)) ≡ length (body_bytes xs) + length (body_bytes ys)
body_append xs ys = ap length (bytes_append xs ys) ∙ length-append (body_bytes xs) (body_bytes ys)

places_append : (o : ℕ) (xs ys : List (List ℕ))
    → buffer_places o (xs ++ ys) ≡ buffer_places o xs ++ buffer_places (o + length (body_bytes xs)) ys
places_append o [] ys = ap (λ (k : ℕ). buffer_places k ys) (omega arith)
places_append o (x ∷ xs) ys =
    let size = length (padded_buffer x) in
    let more : o + size + length (body_bytes xs) ≡ o + length (body_bytes (x ∷ xs)) =
    omega (arith, length-append (padded_buffer x) (body_bytes xs)) in
    ap (λ (places : List (ℕ × ℕ)). (o, length x) ∷ places)
    (places_append (o + size) xs ys ∙ ap (λ (k : ℕ). buffer_places (o + size) xs ++ buffer_places k ys) more)

-- ---- columns behind columns

pub with_both : (nodes : List FieldNode) (buffers : List Buffer) (bytes : List ℕ) (o : ℕ) (a b : Encoded)
    → let p : Parts = record { nodes = nodes; buffers = buffers; bytes = bytes; offset = pos o } in
    with_column (with_column p a) b ≡ with_column p (both a b)
with_both nodes buffers bytes o a b =
    let here : ℕ = o + length (body_bytes a.buffers) in
    let all_nodes : (nodes ++ map stated_node a.nodes) ++ map stated_node b.nodes ≡ nodes ++ map stated_node (a.nodes ++ b.nodes) =
    append_assoc nodes (map stated_node a.nodes) (map stated_node b.nodes)
    ∙ ap (λ (more : List FieldNode). nodes ++ more) (sym (map-append stated_node a.nodes b.nodes)) in
    let all_buffers : (buffers ++ map stated_buffer (buffer_places o a.buffers)) ++ map stated_buffer (buffer_places here b.buffers)
    ≡ buffers ++ map stated_buffer (buffer_places o (a.buffers ++ b.buffers)) =
    append_assoc buffers (map stated_buffer (buffer_places o a.buffers)) (map stated_buffer (buffer_places here b.buffers))
    ∙ ap (λ (more : List Buffer). buffers ++ more)
    (sym (map-append stated_buffer (buffer_places o a.buffers) (buffer_places here b.buffers))
    ∙ ap (map stated_buffer) (sym (places_append o a.buffers b.buffers))) in
    let all_bytes : (bytes ++ body_bytes a.buffers) ++ body_bytes b.buffers ≡ bytes ++ body_bytes (a.buffers ++ b.buffers) =
    append_assoc bytes (body_bytes a.buffers) (body_bytes b.buffers) ∙ ap (λ (more : List ℕ). bytes ++ more) (sym (bytes_append a.buffers
    b.buffers)) in
    let end : here + length (body_bytes b.buffers) ≡ o + length (body_bytes (a.buffers ++ b.buffers)) =
    omega (arith, body_append a.buffers b.buffers) in
    λ i. record { nodes = all_nodes i; buffers = all_buffers i; bytes = all_bytes i; offset = pos (end i) }

-- ---- refusals

or_true : (b : Bool) → (b || true) ≡ true
or_true true = refl
or_true false = refl

left_long : (o : ℕ) (a b : Encoded) → IsTooLong o a → IsTooLong o (both a b)
left_long o a b (inl long) = inl (list_any-append is_long_node a.nodes b.nodes ∙ ap (λ t. t || list_any is_long_node b.nodes) long)
left_long o a b (inr far) = inr (omega (arith, far, body_append a.buffers b.buffers))

right_long : (o : ℕ) (a b : Encoded) → IsTooLong (o + length (body_bytes a.buffers)) b → IsTooLong o (both a b)
right_long o a b (inl long) =
    inl (list_any-append is_long_node a.nodes b.nodes ∙ ap (λ t. list_any is_long_node a.nodes || t) long ∙ or_true (list_any is_long_node a.nodes))
right_long o a b (inr far) = inr (omega (arith, far, body_append a.buffers b.buffers))

left_refused : (e : Error) (o : ℕ) (a b : Encoded) → IsRefused e o a → IsRefused e o (both a b)
left_refused Overflow o a b refused = left_long o a b refused
left_refused OutOfMemory o a b refused = tt
left_refused _ o a b refused = absurd refused

right_refused : (e : Error) (o : ℕ) (a b : Encoded) → IsRefused e (o + length (body_bytes a.buffers)) b → IsRefused e o (both a b)
right_refused Overflow o a b refused = right_long o a b refused
right_refused OutOfMemory o a b refused = tt
right_refused _ o a b refused = absurd refused

-- ---- beginnings

pub parts_through : (p q s : Parts) → BeginsWithParts p q → BeginsWithParts q s → BeginsWithParts p s
parts_through p q s first second = record {
  nodes = begins_through p.nodes q.nodes s.nodes first.nodes second.nodes;
  buffers = begins_through p.buffers q.buffers s.buffers first.buffers second.buffers;
  bytes = begins_through p.bytes q.bytes s.bytes first.bytes second.bytes;
  offset = omega (arith, first.offset, second.offset);
}

-- the buffers of a column take up the bytes of its body
column_takes : (o : ℕ) (buffers : List (List ℕ)) → taken_up (map stated_buffer (buffer_places o buffers)) ≡ length (body_bytes buffers)
column_takes o [] = refl
column_takes o (x ∷ xs) =
    let zeros : ℕ = next_multiple_of (length x) 64 - length x in
    let size : length (padded_buffer x) ≡ length x + zeros =
    length-append x (replicate zeros 0) ∙ ap (λ (n : ℕ). length x + n) (length-replicate zeros 0) in
    let all = length-append (padded_buffer x) (body_bytes xs) in
    let next : ℕ = o + length (padded_buffer x) in
    let more : List Buffer = map stated_buffer (buffer_places next xs) in
    let first : taken_up (map stated_buffer (buffer_places o (x ∷ xs))) ≡ (0 + next_multiple_of (length x) 64) + taken_up more =
    sum_by-append _ (stated_buffer (o, length x) ∷ []) more in
    omega (arith, size, all, first, column_takes next xs)

pub column_begins : (nodes : List FieldNode) (buffers : List Buffer) (bytes : List ℕ) (o : ℕ) (a : Encoded)
    → let p : Parts = record { nodes = nodes; buffers = buffers; bytes = bytes; offset = pos o } in
    BeginsWithParts p (with_column p a)
column_begins nodes buffers bytes o a =
    let more : List Buffer = map stated_buffer (buffer_places o a.buffers) in
    let all : taken_up (buffers ++ more) ≡ taken_up buffers + taken_up more = sum_by-append _ buffers more in
    record {
      nodes = take-append_seam nodes _;
      buffers = take-append_seam buffers _;
      bytes = take-append_seam bytes _;
      offset = omega (arith, all, column_takes o a.buffers);
    }

pub same_begins : (p : Parts) → BeginsWithParts p p
same_begins p = record { nodes = take-length p.nodes; buffers = take-length p.buffers; bytes = take-length p.bytes; offset = refl }

-- ---- what calls answer one after the other

-- the first part is refused
pub adds_refused : (e : Error) (p s : Parts) (a b : Encoded) → Adds (Err e) p s a → Adds (Err e) p s (both a b)
adds_refused e p s a b refused = (left_refused e _ a b refused.0, refused.1)

-- the first part stands there, and the second is added or refused
pub adds_then : (r : Result (Unit {0}) Error) (nodes : List FieldNode) (buffers : List Buffer) (bytes : List ℕ) (o : ℕ) (q s : Parts) (a b : Encoded)
    → let p : Parts = record { nodes = nodes; buffers = buffers; bytes = bytes; offset = pos o } in
    q ≡ with_column p a → Adds r q s b → Adds r p s (both a b)
adds_then (Ok x) nodes buffers bytes o q s a b is added =
    added ∙ ap (λ (parts : Parts). with_column parts b) is ∙ with_both nodes buffers bytes o a b
adds_then (Err e) nodes buffers bytes o q s a b is refused =
    let p : Parts = record { nodes = nodes; buffers = buffers; bytes = bytes; offset = pos o } in
    let here : Adds (Err e) (with_column p a) s b = subst (λ (parts : Parts). Adds (Err e) parts s b) is refused in
    (right_refused e o a b here.0, parts_through p (with_column p a) s (column_begins nodes buffers bytes o a) here.1)

-- the same of what makes a whole
pub added_then : (r : Result (Unit {0}) Error) (p : Body) (q s : Parts) (a b whole : Encoded) → q ≡ with_column (parts_of p) a → Adds r q s b
    → both a b ≡ whole → Adds r (parts_of p) s whole
added_then r p q s a b whole is added same =
    subst (λ (e : Encoded). Adds r (parts_of p) s e) same (adds_then r p.nodes.items p.buffers.items p.bytes.items p.offset q s a b is added)

pub refused_first : (e : Error) (p : Body) (s : Parts) (a b whole : Encoded) → Adds (Err e) (parts_of p) s a → both a b ≡ whole
    → Adds (Err e) (parts_of p) s whole
refused_first e p s a b whole refused same =
    subst (λ (e' : Encoded). Adds (Err e) (parts_of p) s e') same (adds_refused e (parts_of p) s a b refused)

-- the node of slots and the buffer of their marks
pub slots_added : (n nulls : ℕ) (mask : Option (List Bool)) → nulls ≡ mask_nulls mask
    → both (of_node n nulls) (of_buffers (mask_bytes mask ∷ [])) ≡ of_slots n mask
slots_added n nulls mask is = λ i. record { nodes = (n, is i) ∷ []; buffers = mask_bytes mask ∷ [] }

-- ---- nodes and buffers alone

pub node_added : (nodes : List FieldNode) (buffers : List Buffer) (bytes : List ℕ) (o slots nulls : ℕ)
    → let p : Parts = record { nodes = nodes; buffers = buffers; bytes = bytes; offset = pos o } in
    let q : Parts = record { nodes = nodes ++ stated_node (slots, nulls) ∷ []; buffers = buffers; bytes = bytes; offset = pos o } in
    q ≡ with_column p (of_node slots nulls)
node_added nodes buffers bytes o slots nulls =
    let end : o ≡ o + 0 = omega arith in
    let none : length (body_bytes []) ≡ 0 = refl in
    λ i. record {
      nodes = nodes ++ stated_node (slots, nulls) ∷ [];
      buffers = sym (append-nil buffers) i;
      bytes = sym (append-nil bytes) i;
      offset = pos (end i);
    }

-- a buffer whose bytes were added before it was ended
pub buffer_added : (r : Result (Unit {0}) Error) (nodes : List FieldNode) (buffers : List Buffer) (old more mid : List ℕ) (o start : ℕ) (s : Parts)
    → mid ≡ old ++ more → start ≡ length old
    → EndsBuffer r (record { nodes = nodes; buffers = buffers; bytes = mid; offset = pos o }) s start
    → Adds r (record { nodes = nodes; buffers = buffers; bytes = old; offset = pos o }) s (of_buffers (more ∷ []))
buffer_added r nodes buffers old more mid o start s added begun ended =
    let front : take start mid ≡ old = (λ i. take (begun i) (added i)) ∙ take-append_seam old more in
    let behind : drop start mid ≡ more = (λ i. drop (begun i) (added i)) ∙ drop-append_seam old more in
    subst (λ (bytes : List ℕ). Adds r (record { nodes = nodes; buffers = buffers; bytes = bytes; offset = pos o }) s (of_buffers (more ∷ []))) front
    (subst (λ (content : List ℕ). Adds r (record { nodes = nodes; buffers = buffers; bytes = take start mid; offset = pos o }) s
    (of_buffers (content ∷ []))) behind ended)

-- bytes that were not all added
pub unfinished : (e : Error) (nodes : List FieldNode) (buffers : List Buffer) (old new : List ℕ) (o : ℕ) (column : Encoded)
    → IsOutOfMemory e × BeginsWith old new
    → Adds (Err e) (record { nodes = nodes; buffers = buffers; bytes = old; offset = pos o })
    (record { nodes = nodes; buffers = buffers; bytes = new; offset = pos o }) column
unfinished OutOfMemory nodes buffers old new o column why =
    (tt, record { nodes = take-length nodes; buffers = take-length buffers; bytes = why.1; offset = refl })
unfinished _ nodes buffers old new o column why = absurd why.0

-- ---- numbers that are signed

pub small_signed : (n : ℕ) → n < 2 ^ 63 → cast_signed w64 n ≡ pos n
small_signed n small = to_z-of_z w64 (pos n) (record { sfits = small })

not_below : (n : ℕ) → ¬ FitsSigned w64 (pos n) → signed_limit ≤ n
not_below n unfit = elim (cases_lt n signed_limit) [
  | inl small ↦ absurd (unfit (record { sfits = small }))
  | inr far ↦ far
]

pub long_slots : (o slots nulls : ℕ) → ¬ FitsSigned w64 (pos slots) → IsTooLong o (of_node slots nulls)
long_slots o slots nulls unfit = inl (ap (λ b. (b || nat_le signed_limit nulls) || false) (le-leb signed_limit slots (not_below slots unfit)))

pub long_nulls : (o slots nulls : ℕ) → ¬ FitsSigned w64 (pos nulls) → IsTooLong o (of_node slots nulls)
long_nulls o slots nulls unfit =
    inl (ap (λ b. (nat_le signed_limit slots || b) || false) (le-leb signed_limit nulls (not_below nulls unfit))
    ∙ ap (λ b. b || false) (or_true (nat_le signed_limit slots)))

-- ---- a buffer that is ended

-- the zeros of a block of 64 that stand behind n bytes
pub zeros_behind : (n : ℕ) → 0 < n % 64
    → take {A = ℕ} (64 - n % 64) (drop (n % 64) (replicate 64 0)) ≡ replicate ((64 - n % 64) % 64) 0
zeros_behind n some =
    let rest : ℕ = 64 - n % 64 in
    let size : rest ≡ (64 - n % 64) % 64 = omega arith in
    ap (λ (bytes : List ℕ). take rest bytes) (drop-replicate (n % 64) 64 0) ∙ take-replicate rest rest 0 (omega arith)
    ∙ ap (λ k. replicate {A = ℕ} k 0) size

pub nothing_behind : (xs : List ℕ) (n : ℕ) → n % 64 ≡ 0 → xs ≡ xs ++ replicate ((64 - n % 64) % 64) 0
nothing_behind xs n none =
    let size : 0 ≡ (64 - n % 64) % 64 = omega arith in
    sym (append-nil xs) ∙ ap (λ (k : ℕ). xs ++ replicate {A = ℕ} k 0) size

-- the bytes from a place on, and zeros behind them
pub ended_bytes : (old new : List ℕ) (start : ℕ) → start ≤ length old
    → new ≡ old ++ replicate ((64 - (length old - start) % 64) % 64) 0
    → new ≡ take start old ++ body_bytes (drop start old ∷ [])
ended_bytes old new start within padded =
    let content : List ℕ = drop start old in
    let size : length content ≡ length old - start = length-drop start old in
    let zeros : (64 - (length old - start) % 64) % 64 ≡ next_multiple_of (length content) 64 - length content = omega (arith, size) in
    padded
    ∙ (λ i. sym (take-append-drop start old) i ++ replicate (zeros i) 0)
    ∙ append_assoc (take start old) content (replicate (next_multiple_of (length content) 64 - length content) 0)
    ∙ ap (λ (bytes : List ℕ). take start old ++ bytes) (sym (append-nil (padded_buffer content)))

pub ended_size : (old new : List ℕ) (start : ℕ) → start ≤ length old
    → new ≡ old ++ replicate ((64 - (length old - start) % 64) % 64) 0
    → length new - start ≡ length (body_bytes (drop start old ∷ []))
ended_size old new start within padded =
    let front : length (take start old) ≡ start = length-take-le start old within in
    let all : length new ≡ length (take start old) + length (body_bytes (drop start old ∷ [])) =
    ap (λ (xs : List ℕ). length xs) (ended_bytes old new start within padded) ∙ length-append (take start old) (body_bytes (drop start old ∷ [])) in
    omega arith

pub ended : (nodes : List FieldNode) (buffers pushed : List Buffer) (old new : List ℕ) (start o end : ℕ) → start ≤ length old
    → new ≡ old ++ replicate ((64 - (length old - start) % 64) % 64) 0
    → pushed ≡ buffers ++ stated_buffer (o, length (drop start old)) ∷ []
    → end ≡ o + (length new - start)
    → EndsBuffer (Ok tt) (record { nodes = nodes; buffers = buffers; bytes = old; offset = pos o })
    (record { nodes = nodes; buffers = pushed; bytes = new; offset = pos end }) start
ended nodes buffers pushed old new start o end within padded stated is =
    let far : end ≡ o + length (body_bytes (drop start old ∷ [])) = is ∙ ap (λ (n : ℕ). o + n) (ended_size old new start within padded) in
    λ i. record {
      nodes = sym (append-nil nodes) i;
      buffers = stated i;
      bytes = ended_bytes old new start within padded i;
      offset = pos (far i);
    }

-- one that would end too far
pub too_far : (old new : List ℕ) (start o : ℕ) → start ≤ length old
    → new ≡ old ++ replicate ((64 - (length old - start) % 64) % 64) 0 → 2 ^ 63 ≤ o + (length new - start)
    → IsTooLong o (of_buffers (drop start old ∷ []))
too_far old new start o within padded far = inr (omega (arith, ended_size old new start within padded))

-- ---- what is given back

firsts_of : (nodes : List FieldNode) (buffers : List Buffer) (bytes : List ℕ) (o : ℤ) (now : Parts) (begun : Lengths)
    → let before : Parts = parts nodes buffers bytes o in
    BeginsWithParts before now → begun.nodes ≡ length nodes → begun.buffers ≡ length buffers → begun.bytes ≡ length bytes
    → firsts begun o now ≡ before
firsts_of nodes buffers bytes o now begun begins is_nodes is_buffers is_bytes =
    let all_nodes = ap (λ (n : ℕ). take n now.nodes) is_nodes ∙ begins.nodes in
    let all_buffers = ap (λ (n : ℕ). take n now.buffers) is_buffers ∙ begins.buffers in
    let all_bytes = ap (λ (n : ℕ). take n now.bytes) is_bytes ∙ begins.bytes in
    λ i. record { nodes = all_nodes i; buffers = all_buffers i; bytes = all_bytes i; offset = o }

pub settled : (answer result : Result (Unit {0}) Error) (nodes : List FieldNode) (buffers : List Buffer) (bytes : List ℕ) (o : ℕ) (now after : Parts)
    (begun : Lengths) (column : Encoded)
    → let before : Parts = parts nodes buffers bytes (pos o) in
    Adds answer before now column → begun.nodes ≡ length nodes → begun.buffers ≡ length buffers → begun.bytes ≡ length bytes
    → GivesBack answer now begun (pos o) result after → Settles result before after column
settled (Ok x) (Ok y) nodes buffers bytes o now after begun column added is_nodes is_buffers is_bytes back = back ∙ added
settled (Ok x) (Err e) nodes buffers bytes o now after begun column added is_nodes is_buffers is_bytes back =
    let before : Parts = parts nodes buffers bytes (pos o) in
    let begins : BeginsWithParts before now =
    subst (λ (p : Parts). BeginsWithParts before p) (sym added) (column_begins nodes buffers bytes o column) in
    let end : place_of now.offset ≡ o + length (body_bytes column.buffers) = ap (λ (p : Parts). place_of p.offset) added in
    let far : signed_limit ≤ o + length (body_bytes column.buffers) = omega (arith, back.1, end) in (
      subst (λ (error : Error). IsRefused error o column) (sym back.0) (inr far),
      back.2 ∙ firsts_of nodes buffers bytes (pos o) now begun begins is_nodes is_buffers is_bytes,
    )
settled (Err e) (Ok y) nodes buffers bytes o now after begun column added is_nodes is_buffers is_bytes back = absurd back
settled (Err e) (Err f) nodes buffers bytes o now after begun column added is_nodes is_buffers is_bytes back = (
  subst (λ (error : Error). IsRefused error o column) (sym back.0) added.0,
  back.1 ∙ firsts_of nodes buffers bytes (pos o) now begun added.1 is_nodes is_buffers is_bytes,
)
