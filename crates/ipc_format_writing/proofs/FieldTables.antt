-- A field's table and the vector of some fields, as they are laid.
use Rattle.std.proofs.Common.{◌≡◌, ◌∙◌, ℕ, ◌+◌, ◌≤◌, ◌<◌, List, [], ◌∷◌, ◌++◌, length, get_or, map, drop, refl, sym, ap, subst, arith}
use Rattle.std.proofs.Common.{append_assoc, length-append}
use Rattle.std.specs.Prelude.{ℤ, Bool, Option, Some, Result, Err}
use Rattle.std.specs.Int.{w8, w16, w64}
use Rattle.std.proofs.lemmas.List.{map-append, append-nil}
use Rattle.std.specs.List.{flat_map}
use Rattle.ipc_format_messages.specs.columnar_memory.declared.DataType.TheFolds.{fold-roll-Field}
use Rattle.ipc_format_messages.specs.columnar_memory.declared.Field.{Field}
use Rattle.ipc_format_messages.specs.columnar_memory.declared.IntegerType.{IntegerType}
use Rattle.ipc_format_messages.specs.grammar.Columns.{first_ids, other_ids}
use Rattle.ipc_format_messages.specs.flatbuffers.declared.Laid.{Laid}
use Rattle.ipc_format_messages.specs.flatbuffers.declared.LayError.{LayError}
use Rattle.ipc_format_messages.specs.flatbuffers.declared.LayError.TheVariants.{Memory, TooLong}
use Rattle.ipc_format_messages.specs.flatbuffers.Laying.{Piece, TableSlot, number, refers, child_bytes, table_piece, references_piece, text_piece}
use Rattle.ipc_format_messages.specs.flatbuffers.Objects.{Object, piece_of, pieces_of, references, no_field, refers_then}
use Rattle.ipc_format_messages.specs.flatbuffers.Views.{Lays, piece_view}
use Rattle.ipc_format_messages.proofs.flatbuffers_lemmas.Rest.{rest_step, rest_end}
use Rattle.ipc_format_messages.specs.grammar.Schemas.{Ids, IdsList, ids, no_ids, ids_then}
use Rattle.ipc_format_messages.specs.grammar.SchemaObjects.{Told, told_of, told_step, told_field_step, truth, field_table, field_object, objects_of}
use Rattle.ipc_format_messages.specs.grammar.SchemaObjects.{integer_object, encoding_object, id_number, metadata_object, written_pairs, refers_if}
use Rattle.ipc_format_writing.specs.Pieces.{Parts, Pair, LaysIf, LaysType, piece_if, slot_if, parts_of, field_slots, field_told}
use Rattle.ipc_format_writing.proofs.Sizes.{table_over, all_over, references_over, lays_over}
use Rattle.ipc_format_writing.proofs.TypeTables.{slot_is}

-- ---- dictionaries

pub encoding_refused : (error : LayError) (key : IntegerType) (is_ordered : Bool) (own : Option ℤ) → Lays (Err error) (piece_of (integer_object key))
    → LaysIf (Err error) (piece_if (encoding_object (Some (key, is_ordered)) own))
encoding_refused TooLong key is_ordered own h =
    let keys : Piece = piece_of (integer_object key) in
    omega (arith, table_over (number w64 (id_number own) ∷ refers keys ∷ number w8 (truth is_ordered) ∷ number w16 0 ∷ []) 1 (refers keys) refl)
encoding_refused Memory key is_ordered own h = tt

-- ---- a field

told_step_is : (f : Field) (i : Ids)
    → told_field_step (record { name = f.name; data_type = told_of f.data_type; is_nullable = f.is_nullable; metadata = f.metadata }) i
    ≡ field_object f i
told_step_is f (ids id below) = refl

pub told_is : (f : Field) → field_told f ≡ field_object f
told_is f = fold-roll-Field (IdsList → Told) (Ids → Object) told_step told_field_step
    (record { name = f.name; data_type = f.data_type; is_nullable = f.is_nullable; metadata = f.metadata }) ∙ (λ j. λ i. told_step_is f i j)

table_is : (name : List ℕ) (is_nullable : Bool) (pairs : List Pair) (told : Told) (own : Option ℤ)
    → piece_of (field_table name is_nullable pairs told own) ≡ table_piece (field_slots name is_nullable pairs (parts_of told) own)
table_is name is_nullable pairs told own =
    let encoding : Option Object = encoding_object told.dictionary own in
    let metadata : Option Object = metadata_object (written_pairs told.extension pairs) in
    let first : List TableSlot → Piece = λ slots. table_piece (refers (text_piece name) ∷ number w8 (truth is_nullable) ∷ number w8 told.tag
    ∷ refers (piece_of told.type_table) ∷ slots) in
    ap first (slot_is encoding (refers_then (references told.children) (refers_if metadata no_field)))
    ∙ ap (λ slots. first (slot_if (piece_if encoding) ∷ refers (piece_of (references told.children)) ∷ slots)) (slot_is metadata no_field)

pub field_is : (f : Field) (own : Option ℤ) (below : IdsList)
    → piece_of (field_told f (ids own below)) ≡ table_piece (field_slots f.name f.is_nullable f.metadata (parts_of (told_of f.data_type below)) own)
field_is f own below =
    ap (λ (told : Ids → Object). piece_of (told (ids own below))) (told_is f) ∙ table_is f.name f.is_nullable f.metadata (told_of f.data_type
    below) own

type_over : (n t c : Piece) (e m : TableSlot) (a b : ℕ)
    → length t.bytes + length c.bytes ≤ length (table_piece (refers n ∷ number w8 a ∷ number w8 b ∷ refers t ∷ e ∷ refers c ∷ m ∷ [])).bytes
type_over n t c e m a b =
    let after : List ℕ = child_bytes m ++ [] in
    let below : List ℕ = child_bytes e ++ (c.bytes ++ after) in
    let slots : List TableSlot = refers n ∷ number w8 a ∷ number w8 b ∷ refers t ∷ e ∷ refers c ∷ m ∷ [] in
    let whole : length (flat_map child_bytes slots) ≡ length (n.bytes ++ (t.bytes ++ below)) = refl in
    omega (
      arith,
      whole,
      all_over slots,
      length-append n.bytes (t.bytes ++ below),
      length-append t.bytes below,
      length-append (child_bytes e) (c.bytes ++ after),
      length-append c.bytes after,
    )

slots_refused : (error : LayError) (name : List ℕ) (is_nullable : Bool) (pairs : List Pair) (parts : Parts) (own : Option ℤ)
    → LaysType (Err error) parts → Lays (Err error) (table_piece (field_slots name is_nullable pairs parts own))
slots_refused TooLong name is_nullable pairs parts own h =
    let encoding : TableSlot = slot_if (piece_if (encoding_object parts.dictionary own)) in
    let metadata : TableSlot = slot_if (piece_if (metadata_object (written_pairs parts.extension pairs))) in
    omega (arith, type_over (text_piece name) parts.type_table parts.children encoding metadata (truth is_nullable) parts.tag)
slots_refused Memory name is_nullable pairs parts own h = tt

-- a type that can't be laid keeps its field from it
pub type_refused : (error : LayError) (f : Field) (own : Option ℤ) (below : IdsList) → LaysType (Err error) (parts_of (told_of f.data_type below))
    → Lays (Err error) (piece_of (field_told f (ids own below)))
type_refused error f own below h =
    let P : Piece → Type 0 = λ p. Lays (Err error) p in
    subst P (sym (field_is f own below)) (slots_refused error f.name f.is_nullable f.metadata (parts_of (told_of f.data_type below)) own h)

pub field_made : (result : Result Laid LayError) (f : Field) (own : Option ℤ) (below : IdsList) (parts : Parts) → parts
    ≡ parts_of (told_of f.data_type below)
    → Lays result (table_piece (field_slots f.name f.is_nullable f.metadata parts own)) → Lays result (piece_of (field_told f (ids own below)))
field_made result f own below parts same h =
    let P : Piece → Type 0 = λ p. Lays result p in
    subst P (ap (λ (parts : Parts). table_piece (field_slots f.name f.is_nullable f.metadata parts own)) same ∙ sym (field_is f own below)) h

-- ---- some fields

-- the pieces of some fields, by the ids beside them
abbrev pub pieces_beside : List (Ids → Object) → IdsList → List Piece
pieces_beside fields below = pieces_of (objects_of fields below)

first_is : (field : Ids → Object) (fields : List (Ids → Object)) (below : IdsList)
    → pieces_beside (field ∷ fields) below ≡ piece_of (field (first_ids below)) ∷ pieces_beside fields (other_ids below)
first_is field fields no_ids = refl
first_is field fields (ids_then first others) = refl

pub single_refused : (error : LayError) (field : Ids → Object) (below : IdsList) (here : Ids) → here ≡ first_ids below
    → Lays (Err error) (piece_of (field here))
    → Lays (Err error) (piece_of (references (objects_of (field ∷ []) below)))
single_refused error field below here is h =
    let p : Piece = piece_of (field here) in
    let P : Piece → Type 0 = λ q. Lays (Err error) q in
    let same : p ∷ pieces_beside [] (other_ids below) ≡ pieces_beside (field ∷ []) below = ap (λ (i : Ids). piece_of (field i)
    ∷ pieces_beside [] (other_ids below)) is ∙ sym (first_is field [] below) in
    subst P (ap references_piece same) (lays_over error p (references_piece (p ∷ [])) (references_over [] p []) h)

pub single_made : (result : Result Laid LayError) (field : Ids → Object) (below : IdsList) (here : Ids) (p : Piece) → here ≡ first_ids below
    → p ≡ piece_of (field here)
    → Lays result (references_piece (p ∷ [])) → Lays result (piece_of (references (objects_of (field ∷ []) below)))
single_made result field below here p is made h =
    let P : Piece → Type 0 = λ q. Lays result q in
    let same : p ∷ [] ≡ pieces_beside (field ∷ []) below = ap (λ (q : Piece). q ∷ []) (made ∙ ap (λ (i : Ids). piece_of (field i)) is)
    ∙ sym (first_is field [] below) in
    subst P (ap references_piece same) h

left_is : (fields : List Field) (i : ℕ) (field : Field) (below : IdsList) → i < length fields → field ≡ get_or fields i field
    → pieces_beside (drop i (map field_told fields)) below ≡ piece_of (field_told field (first_ids below))
    ∷ pieces_beside (drop (i + 1) (map field_told fields)) (other_ids below)
left_is fields i field below lt is =
    ap (λ left. pieces_beside left below) (rest_step field_told fields i field lt is) ∙ first_is (field_told field) (drop (i + 1) (map field_told
    fields)) below

pub fields_refused : (error : LayError) (made : List Laid) (fields : List Field) (i : ℕ) (field : Field) (rest : IdsList) (here : Ids) (whole :
    List Piece)
    → i < length fields → field ≡ get_or fields i field → here ≡ first_ids rest → map piece_view made ++ pieces_beside (drop i (map field_told
    fields)) rest ≡ whole
    → Lays (Err error) (piece_of (field_told field here)) → Lays (Err error) (references_piece whole)
fields_refused error made fields i field rest here whole lt is first before h =
    let p : Piece = piece_of (field_told field here) in
    let others : List Piece = pieces_beside (drop (i + 1) (map field_told fields)) (other_ids rest) in
    let parts : map piece_view made ++ p ∷ others ≡ whole =
    ap (λ (i : Ids). map piece_view made ++ piece_of (field_told field i) ∷ others) first ∙ ap (λ left. map piece_view made ++ left) (sym
    (left_is fields i field rest lt is)) ∙ before in
    let P : List Piece → Type 0 = λ pieces. Lays (Err error) (references_piece pieces) in
    subst P parts (lays_over error p (references_piece (map piece_view made ++ p ∷ others)) (references_over (map piece_view made) p others) h)

pub fields_more : (made new : List Laid) (laid : Laid) (fields : List Field) (i : ℕ) (field : Field) (rest others : IdsList) (here : Ids) (whole
    : List Piece)
    → i < length fields → field ≡ get_or fields i field → here ≡ first_ids rest → others ≡ other_ids rest → new ≡ made ++ laid ∷ []
    → piece_view laid ≡ piece_of (field_told field here)
    → map piece_view made ++ pieces_beside (drop i (map field_told fields)) rest ≡ whole
    → map piece_view new ++ pieces_beside (drop (i + 1) (map field_told fields)) others ≡ whole
fields_more made new laid fields i field rest others here whole lt is first other push same before =
    let left : IdsList → List Piece = λ below. pieces_beside (drop (i + 1) (map field_told fields)) below in
    ap (λ new. map piece_view new ++ left others) push
    ∙ ap (λ views. views ++ left others) (map-append piece_view made (laid ∷ []))
    ∙ ap (λ (p : Piece). (map piece_view made ++ p ∷ []) ++ left others) (same ∙ ap (λ (i : Ids). piece_of (field_told field i)) first)
    ∙ ap (λ below. (map piece_view made ++ piece_of (field_told field (first_ids rest)) ∷ []) ++ left below) other
    ∙ append_assoc (map piece_view made) (piece_of (field_told field (first_ids rest)) ∷ []) (left (other_ids rest))
    ∙ ap (λ pieces. map piece_view made ++ pieces) (sym (left_is fields i field rest lt is)) ∙ before

pub fields_made : (result : Result Laid LayError) (made : List Laid) (fields : List Field) (i : ℕ) (rest : IdsList) (whole : List Piece)
    → length fields ≤ i
    → map piece_view made ++ pieces_beside (drop i (map field_told fields)) rest ≡ whole → Lays result (references_piece (map piece_view made))
    → Lays result (references_piece whole)
fields_made result made fields i rest whole le before h =
    let none : map piece_view made ≡ whole =
    sym (append-nil (map piece_view made)) ∙ ap (λ left. map piece_view made ++ pieces_beside left rest) (sym (rest_end field_told fields i le))
    ∙ before in
    let P : List Piece → Type 0 = λ pieces. Lays result (references_piece pieces) in
    subst P none h
