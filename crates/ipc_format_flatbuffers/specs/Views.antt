-- The values of the code as the definitions have them.
use Rattle.std.specs.Prelude.{◌≤◌, ◌^◌, ◌≡◌, length, Result, Ok, Err}
use Rattle.std.specs.Int.{w8, w16, w32, w64}
use Rattle.ipc_format_flatbuffers.specs.FlatBuffers as format
use Rattle.ipc_format_flatbuffers.specs.Laying as layout
use Rattle.ipc_format_flatbuffers.specs.declared.places.Table.{Table}
use Rattle.ipc_format_flatbuffers.specs.declared.places.Vector.{Vector}
use Rattle.ipc_format_flatbuffers.specs.declared.pieces.Laid.{Laid}
use Rattle.ipc_format_flatbuffers.specs.declared.laying.Slot.{Slot}
use Rattle.ipc_format_flatbuffers.specs.declared.laying.LayError.{LayError}
use Rattle.ipc_format_flatbuffers.specs.declared.laying.LayError.TheVariants as errors
use Rattle.ipc_format_flatbuffers.specs.declared.laying.Slot.TheVariants.{Absent, Byte, Short, Int, Long, Refers}

abbrev pub table_of : Table → format.TablePlace
table_of t = record { place = t.place; vtable = t.vtable; vtable_size = t.vtable_size; table_size = t.table_size }

abbrev pub vector_of : Vector → format.Vector
vector_of v = record { place = v.place; count = v.count }

-- a laid object: its bytes, and where references to it point
abbrev pub piece_view : Laid → layout.Piece
piece_view laid = record { bytes = laid.bytes.items; entry = laid.entry }

-- a slot: absent, a number of a width, or a reference to a laid object
abbrev pub slot_view : Slot → layout.TableSlot
slot_view Absent = layout.absent
slot_view (Byte n) = layout.number w8 n
slot_view (Short n) = layout.number w16 n
slot_view (Int n) = layout.number w32 n
slot_view (Long n) = layout.number w64 n
slot_view (Refers laid) = layout.refers (piece_view laid.now)

-- an object was laid as a piece; or the piece has 2 GiB or more; or memory ran out
abbrev pub Lays : Result Laid LayError → layout.Piece → Type 0
Lays (Ok laid) piece = piece_view laid ≡ piece
Lays (Err errors.TooLong) piece = 2 ^ 31 ≤ length piece.bytes
Lays (Err errors.Memory) piece = Unit {0}
