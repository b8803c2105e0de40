-- What is laid of a type and of a field, as the definitions have it.
use Rattle.std.specs.Prelude.{◌≡◌, ℕ, ◌+◌, ◌≤◌, ◌^◌, ℤ, Bool, List, [], ◌∷◌, length, map, not, ◌&&◌, Option, Some, None, Result, Ok, Err}
use Rattle.std.specs.List.{flat_map}
use Rattle.std.specs.Option.{option_map}
use Rattle.std.specs.declared.vec.Vec.{Vec}
use Rattle.std.specs.declared.alloc.Global.{Global}
use Rattle.std.specs.Int.{w8, w32, to_le_bytes, cast_unsigned}
use Rattle.std.specs.Cmp.Lexicographic.{pointwise}
use Rattle.std.specs.Prelude.{nat_eq}
use Rattle.ipc_format_messages.specs.columnar_memory.declared.IntegerType.{IntegerType}
use Rattle.ipc_format_messages.specs.flatbuffers.Laying.{Piece, TableSlot, absent, number, refers, child_bytes, references_piece, text_piece}
use Rattle.ipc_format_messages.specs.flatbuffers.Objects.{Object, piece_of, references}
use Rattle.ipc_format_messages.specs.flatbuffers.Views.{piece_view}
use Rattle.ipc_format_messages.specs.flatbuffers.declared.Laid.{Laid}
use Rattle.ipc_format_messages.specs.flatbuffers.declared.LayError.{LayError}
use Rattle.ipc_format_messages.specs.flatbuffers.declared.LayError.TheVariants as errors
use Rattle.ipc_format_messages.specs.grammar.Schemas.{Ids, IdsList, extension_name_key, extension_metadata_key}
use Rattle.ipc_format_messages.specs.grammar.SchemaObjects.{Told, told_step, told_field_step, truth, pair_object, encoding_object, metadata_object}
use Rattle.ipc_format_messages.specs.grammar.SchemaObjects.{written_pairs}
use Rattle.ipc_format_writing.specs.declared.written_pairs.Named.{Named}
use Rattle.ipc_format_writing.specs.declared.fields.LaidType.{LaidType}
use Rattle.ipc_format_messages.specs.columnar_memory.declared.Field.{Field}
use Rattle.ipc_format_messages.specs.columnar_memory.declared.DataType.TheFolds.{fold-Field}

-- ---- objects that may be absent

abbrev pub piece_if : Option Object → Option Piece
piece_if None = None
piece_if (Some object) = Some (piece_of object)

abbrev pub slot_if : Option Piece → TableSlot
slot_if None = absent
slot_if (Some piece) = refers piece

-- a piece was laid, or there is none; or it has 2 GiB or more; or memory ran out
abbrev pub LaysIf : Result (Option Laid) LayError → Option Piece → Type 0
LaysIf (Ok laid) piece = option_map piece_view laid ≡ piece
LaysIf (Err errors.TooLong) piece = 2 ^ 31 ≤ length (child_bytes (slot_if piece))
LaysIf (Err errors.Memory) piece = Unit {0}

-- pieces were laid in turn; or they have 2 GiB or more; or memory ran out
abbrev pub LaysAll : Result (Vec Laid Global) LayError → List Piece → Type 0
LaysAll (Ok laid) pieces = map piece_view laid.items ≡ pieces
LaysAll (Err errors.TooLong) pieces = 2 ^ 31 ≤ length (flat_map (λ (piece : Piece). piece.bytes) pieces)
LaysAll (Err errors.Memory) pieces = Unit {0}

-- a vector of references, absent where there is none
abbrev pub vector_if : List Piece → Option Piece
vector_if [] = None
vector_if (piece ∷ pieces) = Some (references_piece (piece ∷ pieces))

-- a signed number of four bytes
abbrev pub number_bytes : ℤ → List ℕ
number_bytes n = to_le_bytes w32 (cast_unsigned w32 n)

-- ---- pairs of custom metadata

abbrev pub Pair : Type 0
Pair = List ℕ × List ℕ

abbrev pub pair_piece : Pair → Piece
pair_piece pair = piece_of (pair_object pair)

-- a pair that is no part of an extension
abbrev pub is_kept : Pair → Bool
is_kept pair = not (pointwise nat_eq extension_name_key pair.0) && not (pointwise nat_eq extension_metadata_key pair.0)

abbrev pub extension_view : Option Named → Option (List ℕ × Option (List ℕ))
extension_view None = None
extension_view (Some named) = Some (named.name.now, named.metadata.now)

-- ---- types and fields

-- how a type is told, its objects laid
pub record Parts : Type 0 where
  pub tag : ℕ
  pub type_table : Piece
  pub children : Piece
  pub dictionary : Option (IntegerType × Bool)
  pub extension : Option (List ℕ × Option (List ℕ))

abbrev pub parts_of : Told → Parts
parts_of told = record {
  tag = told.tag;
  type_table = piece_of told.type_table;
  children = piece_of (references told.children);
  dictionary = told.dictionary;
  extension = told.extension;
}

-- a type's own table over the fields below it
abbrev pub parts_over : Told → Piece → Parts
parts_over told children = record { tag = told.tag; type_table = piece_of told.type_table; children = children; dictionary = None; extension = None }

abbrev pub type_view : LaidType → Parts
type_view laid = record {
  tag = laid.tag;
  type_table = piece_view laid.table;
  children = piece_view laid.children;
  dictionary = laid.dictionary;
  extension = extension_view laid.extension;
}

-- a type was laid; or its table and the fields below it have 2 GiB or more; or memory ran out
abbrev pub LaysType : Result LaidType LayError → Parts → Type 0
LaysType (Ok laid) parts = type_view laid ≡ parts
LaysType (Err errors.TooLong) parts = 2 ^ 31 ≤ length parts.type_table.bytes + length parts.children.bytes
LaysType (Err errors.Memory) parts = Unit {0}

-- the slots of a field, over its type
abbrev pub field_slots : List ℕ → Bool → List Pair → Parts → Option ℤ → List TableSlot
field_slots name is_nullable pairs parts own =
    refers (text_piece name) ∷ number w8 (truth is_nullable) ∷ number w8 parts.tag ∷ refers parts.type_table
    ∷ slot_if (piece_if (encoding_object parts.dictionary own)) ∷ refers parts.children
    ∷ slot_if (piece_if (metadata_object (written_pairs parts.extension pairs))) ∷ []

abbrev pub field_told : Field → Ids → Object
field_told = fold-Field (IdsList → Told) (Ids → Object) told_step told_field_step
