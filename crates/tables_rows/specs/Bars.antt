-- What keeps a schema from being sealed, as a call answers it.
use Rattle.std.specs.Prelude.{◌||◌, Option}
use Rattle.std.specs.Option.{option_map}
use Rattle.tables_chunks.specs.declared.fault.SealBar.{SealBar}
use Rattle.tables_chunks.specs.declared.fault.SealBar.TheVariants as named
use Rattle.tables_chunks.specs.ipc_format.columnar_memory.declared.DataType.TheFolds.{fold-Field}
use Rattle.tables_chunks.specs.ipc_format.columnar_memory.declared.Field.{Field}
use Rattle.tables_chunks.specs.ipc_format.columnar_memory.declared.Schema.{Schema}
use Rattle.tables_chunks.specs.ipc_format.columns.Sealing.{Bar, Bars, bars_step, seal_bar}
use Rattle.tables_chunks.specs.ipc_format.columns.Sealing as bars
use Rattle.tables_chunks.specs.ipc_format.Writable.{is_writable}
use Rattle.tables_rows.specs.declared.bars.Standing.{Standing}

-- ---- the first bar

abbrev pub name_of : Bar → SealBar
name_of bars.map_bar = named.Map
name_of bars.union_bar = named.Union
name_of bars.ordered_bar = named.OrderedDictionary
name_of bars.empty_bar = named.EmptyStruct
name_of bars.not_writable_bar = named.NotWritable

-- the first bar that stands anywhere in a schema, or that it isn't writable, or none
abbrev pub bar_of : Schema → Option SealBar
bar_of schema = option_map name_of (seal_bar schema (is_writable schema))

-- ---- the bars of types

-- the bars of a field's type
abbrev pub field_bars : Field → Bars
field_bars = fold-Field Bars Bars bars_step (λ field. field.data_type)

-- which bars were found, as the code notes it
abbrev pub bars_in : Standing → Bars
bars_in found = record {
  has_map = found.has_map;
  has_union = found.has_union;
  has_ordered = found.has_ordered;
  has_empty = found.has_empty;
}

-- the bars of two types
abbrev pub both_bars : Bars → Bars → Bars
both_bars left right = record {
  has_map = left.has_map || right.has_map;
  has_union = left.has_union || right.has_union;
  has_ordered = left.has_ordered || right.has_ordered;
  has_empty = left.has_empty || right.has_empty;
}
