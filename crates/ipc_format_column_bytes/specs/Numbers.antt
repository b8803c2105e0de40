-- The bytes of the values of arrays (Arrow columnar format, "Fixed-size Primitive Layout", "Byte Order (Endianness)").
use Rattle.std.specs.Prelude.{ℕ, Bool, true, false, List}
use Rattle.std.specs.Int.{Width, w32, w64}
use Rattle.ipc_format_streams.specs.columnar_memory.Numbers.{Numbers, first_number, second_number, third_number}
use Rattle.ipc_format_streams.specs.columnar_memory.declared.PrimitiveType.{PrimitiveType}
use Rattle.ipc_format_streams.specs.columnar_memory.declared.PrimitiveType.TheVariants as kinds
use Rattle.ipc_format_streams.specs.columns.Slots.{number, pair, triple}
use Rattle.ipc_format_streams.specs.grammar.StoredEncoding.{ordered_value}

-- a value of a kind, each of its numbers with its lowest or its highest byte first
abbrev pub value_bytes : Bool → PrimitiveType → Numbers → List ℕ
value_bytes little kinds.DaysMs value = ordered_value little kinds.DaysMs (pair kinds.DaysMs (first_number value) (second_number value))
value_bytes little kinds.MonthDayNano value =
    ordered_value little kinds.MonthDayNano (triple kinds.MonthDayNano (first_number value) (second_number value) (third_number value))
value_bytes little kind value = ordered_value little kind (number kind (first_number value))

-- how wide offsets are, those of the types named large or of the others
abbrev pub width_of : Bool → Width
width_of true = w64
width_of false = w32
