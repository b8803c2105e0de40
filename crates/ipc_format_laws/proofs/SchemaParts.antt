-- What is shown of each type and field at once: that it reads back, fits, and takes few visits.
use Rattle.std.proofs.Common.{◌≡◌, ℕ, ◌+◌, ◌*◌, ◌≤◌, ◌<◌, ◌^◌, ℤ, Bool, true, false, ◌&&◌, List, [], ◌∷◌, length, refl, length-append, arith}
use Rattle.std.specs.Prelude.{Option, Some, None, is_some}
use Rattle.std.specs.Int.{next_multiple_of}
use Rattle.std.specs.Str.{is_utf8}
use Rattle.std.specs.List.{flat_map}
use Rattle.std.proofs.Math.Facts.{Fits-of_z, Fits-lt-pow}
use Rattle.ipc_format_grammar.specs.flatbuffers.Laying.{Piece, TableSlot, child_bytes, table_piece, references_piece}
use Rattle.ipc_format_grammar.proofs.flatbuffers_lemmas.Slots.{length-vtable}
use Rattle.ipc_format_grammar.proofs.flatbuffers_lemmas.References.{length-references_piece}
use Rattle.ipc_format_grammar.specs.flatbuffers.Objects.{Object, Fields, Objects, table, references, elements, text, no_field, absent_then, number_then}
use Rattle.ipc_format_grammar.specs.flatbuffers.Objects.{refers_then, no_object, object_then, piece_of, slots_of, pieces_of}
use Rattle.ipc_format_laws.proofs.Pieces.{length-table_piece}
use Rattle.ipc_format_laws.specs.Theorem.{Fits, FitsFields, FitsObjects}
use Rattle.ipc_format_grammar.specs.columnar_memory.declared.DataType.{DataType}
use Rattle.ipc_format_grammar.specs.columnar_memory.declared.Field.{Field}
use Rattle.ipc_format_grammar.specs.columnar_memory.declared.IntegerType.{IntegerType}
use Rattle.ipc_format_grammar.specs.columnar_memory.declared.IntegerType.TheVariants as integers
use Rattle.ipc_format_grammar.specs.columnar_memory.declared.DataType.TheViews.{out-DataType}
use Rattle.ipc_format_grammar.specs.Schemas.{Ids, IdsList}
use Rattle.ipc_format_grammar.specs.SchemaObjects.{Told, truth, refers_if, pair_objects, metadata_object, id_number, encoding_object}
use Rattle.ipc_format_grammar.specs.SchemaObjects.{int_object, integer_object}
use Rattle.ipc_format_grammar.specs.Writable.{Report, is_plain, is_dictionary, with_extension_of, with_extension_under}
use Rattle.ipc_format_laws.specs.Schemas.{FitsId, is_text_or_none, are_texts}
use Rattle.ipc_format_laws.proofs.FieldSteps.{TypeReads, FieldReads, encode, extend}

pub both : (a b : Bool) → (a && b) ≡ true → (a ≡ true) × (b ≡ true)
both true b e = (refl, e)
both false b e = absurd cc

-- ---- how many tables an object has

abbrev mutual
  pub tables_in : Object → ℕ
  tables_in (table fields) = 1 + tables_below fields
  tables_in (references objects) = tables_among objects
  tables_in (elements count content) = 0
  tables_in (text content) = 0

  pub tables_below : Fields → ℕ
  tables_below no_field = 0
  tables_below (absent_then fields) = tables_below fields
  tables_below (number_then w n fields) = tables_below fields
  tables_below (refers_then object fields) = tables_in object + tables_below fields

  pub tables_among : Objects → ℕ
  tables_among no_object = 0
  tables_among (object_then object objects) = tables_in object + tables_among objects

table_longer : (slots : List TableSlot) → 1 + length (flat_map child_bytes slots) ≤ length (table_piece slots).bytes
table_longer slots = omega (arith, length-table_piece slots, length-vtable slots (length slots) refl)

references_longer : (pieces : List Piece) → length (flat_map (λ (piece : Piece). piece.bytes) pieces) ≤ length (references_piece pieces).bytes
references_longer pieces =
    let children = length (flat_map (λ (piece : Piece). piece.bytes) pieces) in
    omega (arith, length-references_piece pieces (8 + 4 * length pieces) (next_multiple_of (8 + 4 * length pieces) 8) children refl refl refl)

-- each table has a byte at least
mutual
  pub few_tables : (object : Object) → tables_in object ≤ length (piece_of object).bytes
  few_tables (table fields) = omega (arith, few_below fields, table_longer (slots_of fields))
  few_tables (references objects) = omega (arith, few_among objects, references_longer (pieces_of objects))
  few_tables (elements count content) = omega arith
  few_tables (text content) = omega arith

  few_below : (fields : Fields) → tables_below fields ≤ length (flat_map child_bytes (slots_of fields))
  few_below no_field = omega arith
  few_below (absent_then fields) = few_below fields
  few_below (number_then w n fields) = few_below fields
  few_below (refers_then object fields) = omega (
    arith,
    few_tables object,
    few_below fields,
    length-append (piece_of object).bytes
        (flat_map child_bytes (slots_of fields)),
  )

  few_among : (objects : Objects) → tables_among objects ≤ length (flat_map (λ (piece : Piece). piece.bytes) (pieces_of objects))
  few_among no_object = omega arith
  few_among (object_then object objects) = omega (
    arith,
    few_tables object,
    few_among objects,
    length-append (piece_of object).bytes
        (flat_map (λ (piece : Piece). piece.bytes) (pieces_of objects)),
  )

pub tables_if : (object : Option Object) (fields : Fields) → tables_below fields ≤ tables_below (refers_if object fields)
tables_if None fields = omega arith
tables_if (Some object) fields = omega arith

-- ---- what fits

pub FitsIf : Option Object → Type 0
FitsIf None = Unit {0}
FitsIf (Some object) = Fits object

pub refers_fit : (object : Option Object) (fields : Fields) → FitsIf object → FitsFields fields → FitsFields (refers_if object fields)
unfolding FitsIf
refers_fit None fields h rest = rest
refers_fit (Some object) fields h rest = record { here = h; rest = rest }

pub truth_small : (b : Bool) → truth b < 2 ^ 8
truth_small true = omega arith
truth_small false = omega arith

pub int_fits : (bits : ℕ) (is_signed : Bool) → bits < 2 ^ 32 → Fits (int_object bits is_signed)
int_fits bits is_signed small = record {
  here = record { vtable_size = omega arith; table_size = omega arith };
  rest = record
      { here = small; rest = record { here = truth_small is_signed; rest = tt } };
}

key_fits : (key : IntegerType) → Fits (integer_object key)
key_fits integers.Int8 = int_fits 8 true (omega arith)
key_fits integers.Int16 = int_fits 16 true (omega arith)
key_fits integers.Int32 = int_fits 32 true (omega arith)
key_fits integers.Int64 = int_fits 64 true (omega arith)
key_fits integers.UInt8 = int_fits 8 false (omega arith)
key_fits integers.UInt16 = int_fits 16 false (omega arith)
key_fits integers.UInt32 = int_fits 32 false (omega arith)
key_fits integers.UInt64 = int_fits 64 false (omega arith)

id_small : (id : Option ℤ) → FitsId id → id_number id < 2 ^ 64
id_small None fit = omega arith
id_small (Some id) fit = Fits-lt-pow (Fits-of_z fit)

pub encoding_fits : (dictionary : Option (IntegerType × Bool)) (id : Option ℤ) → FitsId id → FitsIf (encoding_object dictionary id)
unfolding FitsIf
encoding_fits None id fit = tt
encoding_fits (Some (key, is_ordered)) id fit = record {
  here = record { vtable_size = omega arith; table_size = omega arith };
  rest = record {
    here = id_small id fit;
    rest = record {
      here = key_fits key;
      rest = record
          { here = truth_small is_ordered; rest = record { here = omega arith; rest = tt } };
    };
  };
}

pairs_fit : (pairs : List (List ℕ × List ℕ)) → are_texts pairs ≡ true → FitsObjects (pair_objects pairs)
pairs_fit [] e = tt
pairs_fit (pair ∷ pairs) e =
    let first = both (is_utf8 pair.0 && is_utf8 pair.1) (are_texts pairs) e in
    let texts = both (is_utf8 pair.0) (is_utf8 pair.1) first.0 in
    record {
      here = record {
        here = record { vtable_size = omega arith; table_size = omega arith };
        rest = record
            { here = texts.0; rest = record { here = texts.1; rest = tt } };
      };
      rest = pairs_fit pairs first.1;
    }

pub metadata_fits : (pairs : List (List ℕ × List ℕ)) → are_texts pairs ≡ true → FitsIf (metadata_object pairs)
unfolding FitsIf
metadata_fits [] e = tt
metadata_fits (pair ∷ pairs) e = pairs_fit (pair ∷ pairs) e

-- ---- types and fields

abbrev pub FitsExtension : Option (List ℕ × Option (List ℕ)) → Type 0
FitsExtension None = Unit {0}
FitsExtension (Some (name, metadata)) = (is_utf8 name ≡ true) × (is_text_or_none metadata ≡ true)

-- A type that is told reads back. Under its dictionary and its extension it has neither.
pub record TypeBack (told : Told) (normal : DataType) (report : Report) (is_encoded : Bool) (below : IdsList) : Type 0 where
  pub stripped : DataType
  pub visits : ℕ
  pub reads : TypeReads told stripped below report.levels visits
  pub whole : normal ≡ encode told.dictionary (extend told.extension stripped)
  pub plain_of : (ws : List (List ℕ × List ℕ)) → with_extension_of ws (out-DataType stripped) ≡ ws
  pub plain_under : (ws : List (List ℕ × List ℕ)) → with_extension_under ws (out-DataType stripped) ≡ ws
  pub encoded_is : is_encoded ≡ is_some told.dictionary
  pub tag_fits : told.tag < 2 ^ 8
  pub table_fits : Fits told.type_table
  pub children_fit : FitsObjects told.children
  pub few : visits ≤ tables_among told.children
  pub extension_fits : FitsExtension told.extension
  pub no_dictionary : is_dictionary report.shape ≡ false → told.dictionary ≡ None
  pub no_extension : is_plain report.shape ≡ true → told.extension ≡ None

-- a field's object reads back
pub record FieldBack (object : Object) (normal : Field) (report : Report) (its_ids : Ids) : Type 0 where
  pub visits : ℕ
  pub reads : FieldReads object (record { field = normal; ids = its_ids }) (report.levels + 1) visits
  pub fits : Fits object
  pub few : visits ≤ tables_in object
