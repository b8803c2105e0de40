-- The values of the code as the definitions of the format have them.
use Rattle.std.specs.Prelude.{List, [], ◌∷◌, map}
use Rattle.ipc_format_grammar.specs.Schemas.{Ids, IdsList, ids, no_ids, ids_then}
use Rattle.ipc_format_grammar.specs.Types as kind
use Rattle.ipc_format_metadata.specs.declared.tags.Tag.{Tag}
use Rattle.ipc_format_metadata.specs.declared.tags.Tag.TheVariants as tag
use Rattle.ipc_format_metadata.specs.declared.ipc_schema.IpcField.{IpcField}
use Rattle.ipc_format_metadata.specs.declared.ipc_schema.IpcField.TheOpen as layer
use Rattle.ipc_format_metadata.specs.declared.ipc_schema.IpcField.TheFolds.{fold-IpcField}

-- ids before others
abbrev pub ids_before : List Ids → IdsList → IdsList
ids_before [] others = others
ids_before (first ∷ more) others = ids_then first (ids_before more others)

abbrev pub ids_list : List Ids → IdsList
ids_list all = ids_before all no_ids

abbrev pub ids_step : layer.IpcField-F Ids → Ids
ids_step field = ids field.dictionary_id (ids_list field.fields)

-- the dictionary ids beside a field, as a tree
abbrev pub ids_view : IpcField → Ids
ids_view = fold-IpcField Ids ids_step

-- the ids beside some fields
abbrev pub ids_views : List IpcField → IdsList
ids_views fields = ids_list (map ids_view fields)

-- a tag of the union Type
abbrev pub tag_view : Tag → kind.Tag
tag_view tag.Null = kind.null
tag_view tag.Int = kind.int
tag_view tag.FloatingPoint = kind.floating_point
tag_view tag.Binary = kind.binary
tag_view tag.Utf8 = kind.utf8
tag_view tag.Bool = kind.bool
tag_view tag.Decimal = kind.decimal
tag_view tag.Date = kind.date
tag_view tag.Time = kind.time
tag_view tag.Timestamp = kind.timestamp
tag_view tag.Interval = kind.interval
tag_view tag.List = kind.list
tag_view tag.Struct = kind.struct
tag_view tag.Union = kind.union
tag_view tag.FixedSizeBinary = kind.fixed_size_binary
tag_view tag.FixedSizeList = kind.fixed_size_list
tag_view tag.Map = kind.map
tag_view tag.Duration = kind.duration
tag_view tag.LargeBinary = kind.large_binary
tag_view tag.LargeUtf8 = kind.large_utf8
tag_view tag.LargeList = kind.large_list
