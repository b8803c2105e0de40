-- The types without fields below them, each by its own table.
use Rattle.std.specs.Prelude.{ℕ, pos, List, Option}
use Rattle.std.specs.Int.{w16, w32}
use Rattle.ipc_format_grammar.specs.columnar_memory.declared.DataType.{DataType}
use Rattle.ipc_format_grammar.specs.columnar_memory.declared.TimeUnit.{TimeUnit}
use Rattle.ipc_format_grammar.specs.flatbuffers.Reading.{◌>>=◌}
use Rattle.ipc_format_grammar.specs.flatbuffers.FlatBuffers.{TablePlace, signed_field}
use Rattle.ipc_format_grammar.specs.Types.{date_of, interval_of, time_unit_of, size_of}
use Rattle.ipc_format_grammar.specs.SlotNumbers as slots

-- a Date table
abbrev pub date_in : List ℕ → TablePlace → Option DataType
date_in bytes table = do
  unit ← signed_field w16 bytes table slots.date_unit (pos 1)
  date_of unit

-- an Interval table
abbrev pub interval_in : List ℕ → TablePlace → Option DataType
interval_in bytes table = do
  unit ← signed_field w16 bytes table slots.interval_unit (pos 0)
  interval_of unit

-- the unit of a table, or the one given where it is absent
abbrev pub unit_in : List ℕ → TablePlace → ℕ → Option TimeUnit
unit_in bytes table absent = do
  number ← signed_field w16 bytes table slots.time_unit (pos absent)
  time_unit_of number

-- a size of a table, in bytes or items
abbrev pub size_in : List ℕ → TablePlace → Option ℕ
size_in bytes table = do
  width ← signed_field w32 bytes table slots.fixed_size_list_list_size (pos 0)
  size_of width
