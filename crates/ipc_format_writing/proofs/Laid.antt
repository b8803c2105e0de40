-- What is laid of a message.
use Rattle.std.proofs.Common.{◌≡◌, ◌∙◌, ℕ, ◌+◌, ◌*◌, ◌≤◌, ◌<◌, ◌^◌, List, [], ◌∷◌, ◌++◌, length, map, replicate, true, false, refl, sym, ap, subst}
use Rattle.std.proofs.Common.{arith, rules, length-append}
use Rattle.std.proofs.lemmas.List.{length-map}
use Rattle.std.proofs.lemmas.List.Folds.{flat_map-map}
use Rattle.std.specs.Prelude.{Bool, ◌&&◌, Option, Some, Result, Ok, Err, nat_le, nat_lt, slice_get}
use Rattle.std.specs.declared.vec.Vec.{Vec}
use Rattle.std.specs.declared.alloc.Global.{Global}
use Rattle.std.specs.List.{flat_map}
use Rattle.std.specs.Int.{w64, w32, to_le_bytes}
use Rattle.ipc_format_messages.specs.columnar_memory.declared.Error.{Error}
use Rattle.ipc_format_messages.specs.columnar_memory.declared.Error.TheVariants.{Overflow, OutOfMemory}
use Rattle.ipc_format_messages.specs.flatbuffers.declared.Laid.{Laid}
use Rattle.ipc_format_messages.specs.flatbuffers.declared.LayError.{LayError}
use Rattle.ipc_format_messages.specs.flatbuffers.declared.LayError.TheVariants.{Memory, TooLong}
use Rattle.ipc_format_messages.specs.flatbuffers.Laying.{Piece, TableSlot, refers, table_piece, elements_piece, message_bytes}
use Rattle.ipc_format_messages.specs.flatbuffers.Objects.{Object, piece_of, laid}
use Rattle.ipc_format_messages.specs.flatbuffers.Views.{Lays, piece_view}
use Rattle.ipc_format_messages.specs.grammar.SchemaObjects.{structs_object}
use Rattle.ipc_format_writing.proofs.Sizes.{table_over, lays_over}
use Rattle.ipc_format_writing.specs.MessageWriting.{WritesMessage, Finishes, fits, pair_bytes}

-- ---- structs

pair-length : (pair : ℕ × ℕ) → length (pair_bytes pair) ≡ 16
unfolding pair_bytes
pair-length pair = refl

-- the bytes of some structs are 16 of each
pub pairs-length : {A : Type 0} (pair_of : A → ℕ × ℕ) (items : List A) → length (flat_map (λ (x : A). pair_bytes (pair_of x)) items)
    ≡ 16 * length items
pairs-length pair_of [] = refl
pairs-length pair_of (x ∷ items) =
    omega (
      arith,
      pair-length (pair_of x),
      length-append (pair_bytes (pair_of x)) (flat_map (λ y. pair_bytes (pair_of y)) items),
      pairs-length pair_of items,
    )

-- their vector
pub structs-are : {A : Type 0} (pair_of : A → ℕ × ℕ) (items : List A) → piece_of (structs_object (map pair_of items))
    ≡ elements_piece (length items) (flat_map (λ (x : A). pair_bytes (pair_of x)) items)
unfolding pair_bytes
structs-are pair_of items =
    ap (λ (count : ℕ). elements_piece count (flat_map pair_bytes (map pair_of items))) (length-map items pair_of)
    ∙ ap (λ (content : List ℕ). elements_piece (length items) content) (flat_map-map pair_bytes pair_of items)

pub structs-made : {A : Type 0} (pair_of : A → ℕ × ℕ) (items : List A) (content : List ℕ) (result : Result Laid LayError)
    → content ≡ flat_map (λ (x : A). pair_bytes (pair_of x)) items → Lays result (elements_piece (length items) content)
    → Lays result (piece_of (structs_object (map pair_of items)))
structs-made pair_of items content result same h =
    let P : Piece → Type 0 = λ p. Lays result p in
    subst P (ap (λ (bytes : List ℕ). elements_piece (length items) bytes) same ∙ sym (structs-are pair_of items)) h

-- ---- parts that could not be laid

-- a part that could not be laid keeps its table from it
pub part-refused : (error : LayError) (slots : List TableSlot) (k : ℕ) (p : Piece) → slice_get slots k ≡ Some (refers p) → Lays (Err error) p
    → Lays (Err error) (table_piece slots)
part-refused error slots k p at h = lays_over error p (table_piece slots) (table_over slots k (refers p) at) h

-- ---- the message's bytes

pub length-is : (object : Object) → length (laid object) ≡ 8 + length (piece_of object).bytes
unfolding laid message_bytes
length-is object =
    let root : Piece = piece_of object in
    let head : List ℕ = to_le_bytes w32 (8 + root.entry) ++ replicate 4 0 in
    let eight : length head ≡ 8 = refl in
    omega (arith, eight, length-append head root.bytes)

fits-is : (object : Object) (body_length : ℕ) → fits (laid object) body_length
    ≡ (nat_lt body_length (2 ^ 63) && nat_le (8 + (8 + length (piece_of object).bytes)) 2147483640)
fits-is object body_length = ap (λ count. nat_lt body_length (2 ^ 63) && nat_le (8 + count) 2147483640) (length-is object)

both-hold : (a b : Bool) → a ≡ true → b ≡ true → (a && b) ≡ true
both-hold a b p q = rw (p, q) refl

first-fails : (a b : Bool) → a ≡ false → (a && b) ≡ false
first-fails a b p = rw p refl

second-fails : (a b : Bool) → b ≡ false → (a && b) ≡ false
second-fails true b p = p
second-fails false b p = refl

pub fits-true : (object : Object) (body_length : ℕ) → body_length < 2 ^ 63 → length (piece_of object).bytes ≤ 2147483624
    → fits (laid object) body_length ≡ true
fits-true object body_length lt le =
    let short : 8 + (8 + length (piece_of object).bytes) ≤ 2147483640 = omega arith in
    let first : nat_lt body_length (2 ^ 63) ≡ true = search (rules, lt) in
    let second : nat_le (8 + (8 + length (piece_of object).bytes)) 2147483640 ≡ true = search (rules, short) in
    fits-is object body_length ∙ both-hold _ _ first second

pub fits-false : (object : Object) (body_length : ℕ) → 2147483624 < length (piece_of object).bytes → fits (laid object) body_length ≡ false
fits-false object body_length lt =
    let long : 2147483640 < 8 + (8 + length (piece_of object).bytes) = omega arith in
    let second : nat_le (8 + (8 + length (piece_of object).bytes)) 2147483640 ≡ false = search (rules, long) in
    fits-is object body_length ∙ second-fails (nat_lt body_length (2 ^ 63)) _ second

-- a body that is too long
pub body-too-long : (object : Object) (body_length : ℕ) → 2 ^ 63 ≤ body_length → fits (laid object) body_length ≡ false
body-too-long object body_length le =
    let first : nat_lt body_length (2 ^ 63) ≡ false = search (rules, le) in
    first-fails (nat_lt body_length (2 ^ 63)) _ first

pub bytes-are : (object : Object) (root : Piece) (bytes : List ℕ) → root ≡ piece_of object → bytes ≡ message_bytes root → bytes ≡ laid object
unfolding laid
bytes-are object root bytes same e = e ∙ ap message_bytes same

-- what comes of an object that is laid, or isn't
pub answered : (result : Result (Vec ℕ Global) Error) (made : Result Laid LayError) (object : Object) (body_length : ℕ) → body_length < 2 ^ 63
    → Lays made (piece_of object) → Finishes result made → WritesMessage result object body_length
answered (Ok bytes) (Ok root) object body_length lt is h = (
  fits-true object body_length lt (omega (arith, ap (λ (p : Piece). length p.bytes) is, h.0)),
  bytes-are object (piece_view root) bytes.items is h.1,
)
answered (Ok bytes) (Err error) object body_length lt is h = absurd h
answered (Err Overflow) (Ok root) object body_length lt is h =
    fits-false object body_length (omega (arith, ap (λ (p : Piece). length p.bytes) is, h))
answered (Err Overflow) (Err TooLong) object body_length lt is h = fits-false object body_length (omega (arith, is))
answered (Err Overflow) (Err Memory) object body_length lt is h = absurd h
answered (Err OutOfMemory) made object body_length lt is h = tt
answered (Err error) made object body_length lt is h = absurd h
