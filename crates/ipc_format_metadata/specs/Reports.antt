-- The reports of types, whose counts stop at one more than the most.
use Rattle.std.specs.Prelude.{ℕ, ◌+◌, min, max, Bool, ◌&&◌, ◌==◌, if◌then◌else◌}
use Rattle.ipc_format_grammar.specs.columnar_memory.declared.DataType.TheFolds.{fold-Field}
use Rattle.ipc_format_grammar.specs.columnar_memory.declared.Field.{Field}
use Rattle.ipc_format_grammar.specs.Writable as writable
use Rattle.ipc_format_grammar.specs.Writable.{Report, report_step, field_step}
use Rattle.ipc_format_metadata.specs.declared.writable.Shape as shapes
use Rattle.ipc_format_metadata.specs.declared.writable.Shape.TheVariants as shape
use Rattle.ipc_format_metadata.specs.declared.writable.Report as reports

abbrev pub shape_view : shapes.Shape → writable.Shape
shape_view shape.Plain = writable.plain
shape_view shape.Dictionary = writable.dictionary
shape_view shape.Extension = writable.extension
shape_view shape.StructOfTwo = writable.struct_of_two

abbrev pub report_view : reports.Report → Report
report_view report = record {
  is_allowed = report.is_allowed;
  levels = report.levels;
  dictionaries = report.dictionaries;
  shape = shape_view
      report.shape;
}

abbrev pub capped : Report → Report
capped report = record {
  is_allowed = report.is_allowed;
  levels = min report.levels 65;
  dictionaries = min report.dictionaries 65537;
  shape =
      report.shape;
}

-- the report of a field's type
abbrev pub field_report : Field → Report
field_report = fold-Field Report Report report_step field_step

-- some fields and one more
abbrev pub joined_reports : Report → Report → Report
joined_reports all child = record {
  is_allowed = all.is_allowed && child.is_allowed;
  levels = max all.levels (child.levels + 1);
  dictionaries =
      all.dictionaries + child.dictionaries;
  shape = writable.plain;
}

-- the same with a test and a shape of its own
abbrev pub renamed : Bool → writable.Shape → Report → Report
renamed is_allowed shape all = record {
  is_allowed = is_allowed && all.is_allowed;
  levels = all.levels;
  dictionaries = all.dictionaries;
  shape =
      shape;
}

abbrev pub shape_by : ℕ → writable.Shape
shape_by count = if count == 2 then writable.struct_of_two else writable.plain
