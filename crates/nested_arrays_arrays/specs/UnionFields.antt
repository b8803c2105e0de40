-- The fields of unions.
use Rattle.std.specs.Prelude.{List, []}
use Rattle.nested_arrays_parts.specs.columnar_memory.declared.DataType.{DataType}
use Rattle.nested_arrays_parts.specs.columnar_memory.declared.DataType.TheOpen as layer
use Rattle.nested_arrays_parts.specs.columnar_memory.declared.Field.{Field}

-- the fields of one layer of a type, none where it is no union
abbrev pub layer_choices : layer.DataType-F DataType Field → List Field
layer_choices (layer.Union fields ids mode) = fields
layer_choices _ = []
