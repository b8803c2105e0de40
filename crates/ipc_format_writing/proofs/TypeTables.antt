-- A type's own table, laid, and what kept it from it.
use Rattle.std.proofs.Common.{◌≡◌, ℕ, ◌≤◌, ◌^◌, List, [], ◌∷◌, length, refl, sym, ap, subst, arith, length-append}
use Rattle.std.specs.Prelude.{ℤ, Option, Some, None, Err}
use Rattle.std.specs.List.{flat_map}
use Rattle.std.specs.Int.{w16}
use Rattle.ipc_format_messages.specs.flatbuffers.declared.LayError.{LayError}
use Rattle.ipc_format_messages.specs.flatbuffers.declared.LayError.TheVariants.{Memory, TooLong}
use Rattle.ipc_format_messages.specs.flatbuffers.Laying.{Piece, TableSlot, number, child_bytes, table_piece}
use Rattle.ipc_format_messages.specs.flatbuffers.Objects.{Object, Fields, piece_of, slots_of, table, elements, number_then, no_field}
use Rattle.ipc_format_messages.specs.flatbuffers.Views.{Lays}
use Rattle.ipc_format_messages.specs.grammar.SchemaObjects.{refers_if}
use Rattle.ipc_format_writing.specs.Pieces.{LaysIf, piece_if, slot_if, number_bytes}
use Rattle.ipc_format_writing.proofs.Sizes.{table_over, elements_over}

-- the slot of an object that may be absent
pub slot_is : (object : Option Object) (fields : Fields) → slots_of (refers_if object fields) ≡ slot_if (piece_if object) ∷ slots_of fields
slot_is None fields = refl
slot_is (Some object) fields = refl

pub short_and_is : (n : ℕ) (object : Option Object) → piece_of (table (number_then w16 n (refers_if object no_field)))
    ≡ table_piece (number w16 n ∷ slot_if (piece_if object) ∷ [])
short_and_is n object = ap (λ slots. table_piece (number w16 n ∷ slots)) (slot_is object no_field)

-- an object that can't be laid keeps its table from it
pub if_over : (error : LayError) (piece : Option Piece) (q : Piece) → length (child_bytes (slot_if piece)) ≤ length q.bytes
    → LaysIf (Err error) piece → Lays (Err error) q
if_over TooLong piece q le h = omega arith
if_over Memory piece q le h = tt

pub short_and_refused : (error : LayError) (n : ℕ) (object : Option Object) → LaysIf (Err error) (piece_if object)
    → Lays (Err error) (piece_of (table (number_then w16 n (refers_if object no_field))))
short_and_refused error n object h =
    let slots : List TableSlot = number w16 n ∷ slot_if (piece_if object) ∷ [] in
    let P : Piece → Type 0 = λ p. Lays (Err error) p in
    subst P (sym (short_and_is n object)) (if_over error (piece_if object) (table_piece slots) (table_over slots 1 (slot_if (piece_if object))
    refl) h)

-- there are at least as many bytes as numbers
bytes_over : (numbers : List ℤ) → length numbers ≤ length (flat_map number_bytes numbers)
bytes_over [] = omega arith
bytes_over (n ∷ numbers) =
    let four : length (number_bytes n) ≡ 4 = refl in
    omega (arith, four, bytes_over numbers, length-append (number_bytes n) (flat_map number_bytes numbers))

pub numbers_too_long : (numbers : List ℤ) → 2 ^ 32 ≤ length numbers → Lays (Err TooLong) (piece_of (elements (length numbers) (flat_map
    number_bytes numbers)))
numbers_too_long numbers h = omega (arith, bytes_over numbers, elements_over (length numbers) (flat_map number_bytes numbers))
