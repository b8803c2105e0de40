-- Objects that are laid are spelled where they stand.
use Rattle.std.proofs.Common.{◌≡◌, ℕ, ◌+◌, ◌*◌, ◌≤◌, ◌<◌, ◌^◌, List, [], ◌++◌, length, replicate, refl, sym, arith, append-nil}
use Rattle.std.specs.List.{flat_map}
use Rattle.std.specs.Int.{w32, to_le_bytes, next_multiple_of}
use Rattle.ipc_format_grammar.specs.flatbuffers.FlatBuffers.{TablePlace, Vector}
use Rattle.ipc_format_grammar.specs.flatbuffers.Laying.{Piece, number, refers, after, table_end, child_bytes, message_bytes}
use Rattle.ipc_format_grammar.specs.flatbuffers.Objects.{Object, Fields, Objects, table, references, elements, text, no_field, absent_then, number_then}
use Rattle.ipc_format_grammar.specs.flatbuffers.Objects.{refers_then, no_object, object_then, piece_of, slots_of, pieces_of, laid}
use Rattle.ipc_format_laws.specs.Spelling.{Spells, SpellsFields, SpellsObjects, count_of}
use Rattle.ipc_format_laws.specs.Theorem.{Fits, FitsFields, FitsObjects, LaidReadsBack}
use Rattle.ipc_format_laws.proofs.Places.{Stands, front, back, ends_within}
use Rattle.ipc_format_laws.proofs.ByAddress.{number_stands, reference_stands}
use Rattle.ipc_format_laws.proofs.Slots.{SlotsStand, slots_next, no_slot, absent_stands, number_field_stands, reference_slot_stands}
use Rattle.ipc_format_laws.proofs.Pieces.{table_from, table_found, table_slots, elements_stand, text_stands, ReferencesStand, vector_from}
use Rattle.ipc_format_laws.proofs.Pieces.{references_found, references_stand, references_next, element_stands, table_entry, references_entry}
use Rattle.ipc_format_laws.proofs.Pieces.{elements_entry, text_entry}

-- references to an object point into its piece
entry_inside : (object : Object) → (piece_of object).entry ≤ length (piece_of object).bytes
entry_inside (table fields) = table_entry (slots_of fields)
entry_inside (references objects) = references_entry (pieces_of objects)
entry_inside (elements count content) = elements_entry count content
entry_inside (text content) = text_entry content

pieces_count : (objects : Objects) → length (pieces_of objects) ≡ count_of objects
pieces_count no_object = refl
pieces_count (object_then object objects) = omega (arith, pieces_count objects)

-- the piece of the first object of a reference's slot or element stands where its children do
slot_object : {bytes : List ℕ} {found : TablePlace} {slot at child : ℕ} (object : Object) (fields : Fields)
    → SlotsStand bytes found slot at child (slots_of (refers_then object fields)) → Stands bytes (found.place + child) (piece_of object).bytes
slot_object object fields h = front (piece_of object).bytes (flat_map child_bytes (slots_of fields)) refl h.children

element_object : {bytes : List ℕ} {start : ℕ} {found : Vector} {k at child : ℕ} (object : Object) (objects : Objects)
    → ReferencesStand bytes start found k at child (pieces_of (object_then object objects))
    → Stands bytes (start + child) (piece_of object).bytes
element_object object objects h = front (piece_of object).bytes (flat_map (λ (piece : Piece). piece.bytes) (pieces_of objects)) refl h.children

-- one induction over objects, wherever their pieces stand
mutual
  pub spells_object : (object : Object) (bytes : List ℕ) (start : ℕ) → Fits object → length bytes < 2 ^ 32
      → Stands bytes start (piece_of object).bytes → Spells bytes (start + (piece_of object).entry) object
  spells_object (table fields) bytes start fits short s = record {
    found = table_from start (slots_of fields);
    stands = table_found (slots_of fields) fits.here.vtable_size fits.here.table_size s;
    slots = spells_fields fields bytes (table_from start (slots_of fields)) 0 4 (next_multiple_of (table_end 4 (slots_of fields)) 8) fits.rest short
        (table_slots (slots_of fields) fits.here.table_size s);
  }
  spells_object (references objects) bytes start fits short s = record {
    found = vector_from start (pieces_of objects);
    stands = references_found (pieces_of objects) short s;
    count_is = pieces_count objects;
    each = spells_objects objects bytes start (vector_from start (pieces_of objects)) 0 8
        (next_multiple_of (8 + 4 * length (pieces_of objects)) 8) fits short (references_stand (pieces_of objects) s);
  }
  spells_object (elements count content) bytes start fits short s = elements_stand count content fits short s
  spells_object (text content) bytes start fits short s = text_stands content fits short s

  spells_fields : (fields : Fields) (bytes : List ℕ) (found : TablePlace) (slot at child : ℕ) → FitsFields fields → length bytes < 2 ^ 32
      → SlotsStand bytes found slot at child (slots_of fields) → SpellsFields bytes found slot fields
  spells_fields no_field bytes found slot at child fits short h = no_slot h
  spells_fields (absent_then fields) bytes found slot at child fits short h = record {
    here = absent_stands h;
    rest = spells_fields fields bytes found (slot + 1) at (child + 0) fits short (slots_next h);
  }
  spells_fields (number_then w n fields) bytes found slot at child fits short h = record {
    here = number_field_stands w n fits.here h;
    rest = spells_fields fields bytes found (slot + 1) (after at (number w n)) (child + 0) fits.rest short (slots_next h);
  }
  spells_fields (refers_then object fields) bytes found slot at child fits short h = record {
    here = reference_slot_stands (piece_of object) (λ (place : ℕ). Spells bytes place object) (entry_inside object) short h
        (spells_object object bytes (found.place + child) fits.here short (slot_object object fields h));
    rest = spells_fields fields bytes found (slot + 1) (after at (refers (piece_of object)))
        (child + length (piece_of object).bytes) fits.rest short (slots_next h);
  }

  spells_objects : (objects : Objects) (bytes : List ℕ) (start : ℕ) (found : Vector) (k at child : ℕ) → FitsObjects objects → length bytes < 2 ^ 32
      → ReferencesStand bytes start found k at child (pieces_of objects) → SpellsObjects bytes found k objects
  spells_objects no_object bytes start found k at child fits short h = tt
  spells_objects (object_then object objects) bytes start found k at child fits short h = record {
    here = element_stands (piece_of object) (λ (place : ℕ). Spells bytes place object) (entry_inside object) short h
        (spells_object object bytes (start + child) fits.here short (element_object object objects h));
    rest = spells_objects objects bytes start found (k + 1) (at + 4) (child + length (piece_of object).bytes) fits.rest short
        (references_next (piece_of object) h);
  }

-- where the reference to the root and the root's piece stand in a message
root_laid : (piece : Piece) → Stands (message_bytes piece) 0 (to_le_bytes w32 (8 + piece.entry)) × Stands (message_bytes piece) 8 piece.bytes
unfolding message_bytes
root_laid piece =
    let head = to_le_bytes w32 (8 + piece.entry) in
    let whole : Stands (message_bytes piece) 0 (head ++ replicate 4 0 ++ piece.bytes) = record
    { before = []; after = []; whole = sym (append-nil (head ++ replicate 4 0 ++ piece.bytes)); at = refl } in (
      front head (replicate {A = ℕ} 4 0) refl (front (head ++ replicate {A = ℕ} 4 0) piece.bytes refl whole),
      back
          (head ++ replicate {A = ℕ} 4 0) piece.bytes 8 refl refl whole,
    )

-- the bytes of a message spell its object
pub laid_reads_back : LaidReadsBack
unfolding laid
laid_reads_back object fits short =
    let piece = piece_of object in
    let root = root_laid piece in
    let inside : 8 + piece.entry ≤ length (message_bytes piece) = omega (arith, ends_within root.1, entry_inside object) in
    let small : 8 + piece.entry < 2 ^ 32 = omega arith in
    record {
      place = 8 + piece.entry;
      stands = reference_stands (message_bytes piece) 0 (8 + piece.entry) (8 + piece.entry) (number_stands w32 (8 + piece.entry) small root.0)
          (omega arith) inside;
      spelled = spells_object object (message_bytes piece) 8 fits short root.1;
    }
