-- Views of types, as the definitions of their slots have them.
use Rattle.std.specs.Prelude.{Bool, true, false}
use Rattle.ipc_format_metadata.specs.flatbuffers.Views.{vector_of}
use Rattle.ipc_format_metadata.specs.grammar.Types as kind
use Rattle.ipc_format_messages.specs.MessageSlots.{VectorIn}
use Rattle.ipc_format_messages.specs.MessageViews.{table_view}
use Rattle.ipc_format_messages.specs.TypeSlots.{TypeIn}
use Rattle.ipc_format_messages.specs.declared.types.DateUnit.{DateUnit}
use Rattle.ipc_format_messages.specs.declared.types.DateUnit.TheVariants.{Day, Millisecond}
use Rattle.ipc_format_messages.specs.declared.vectors.NumbersRef.{NumbersRef}
use Rattle.ipc_format_messages.specs.declared.types.TypeRef.{TypeRef}
use Rattle.ipc_format_messages.specs.declared.types.TypeRef.TheVariants as types

-- whether dates count days
abbrev pub is_day : DateUnit → Bool
is_day Day = true
is_day Millisecond = false

abbrev pub numbers_view : NumbersRef → VectorIn
numbers_view numbers = record { bytes = numbers.bytes.now; vector = vector_of numbers.vector }

abbrev pub type_view : TypeRef → TypeIn
type_view (types.Null table) = record { kind = kind.null; table = table_view table }
type_view (types.Int of) = record { kind = kind.int; table = table_view of.table }
type_view (types.FloatingPoint table) = record { kind = kind.floating_point; table = table_view table }
type_view (types.Binary table) = record { kind = kind.binary; table = table_view table }
type_view (types.Utf8 table) = record { kind = kind.utf8; table = table_view table }
type_view (types.Bool table) = record { kind = kind.bool; table = table_view table }
type_view (types.Decimal of) = record { kind = kind.decimal; table = table_view of.0 }
type_view (types.Date of) = record { kind = kind.date; table = table_view of.0 }
type_view (types.Time of) = record { kind = kind.time; table = table_view of.0 }
type_view (types.Timestamp of) = record { kind = kind.timestamp; table = table_view of.0 }
type_view (types.Interval of) = record { kind = kind.interval; table = table_view of.0 }
type_view (types.List table) = record { kind = kind.list; table = table_view table }
type_view (types.Struct table) = record { kind = kind.struct; table = table_view table }
type_view (types.Union of) = record { kind = kind.union; table = table_view of.0 }
type_view (types.FixedSizeBinary of) = record { kind = kind.fixed_size_binary; table = table_view of.0 }
type_view (types.FixedSizeList of) = record { kind = kind.fixed_size_list; table = table_view of.0 }
type_view (types.Map of) = record { kind = kind.map; table = table_view of.0 }
type_view (types.Duration of) = record { kind = kind.duration; table = table_view of.0 }
type_view (types.LargeBinary table) = record { kind = kind.large_binary; table = table_view table }
type_view (types.LargeUtf8 table) = record { kind = kind.large_utf8; table = table_view table }
type_view (types.LargeList table) = record { kind = kind.large_list; table = table_view table }
