-- The last offset.
use Rattle.std.proofs.Common.{◌∙◌, ap, inl}
use Rattle.std.specs.Prelude.{Some}
use Rattle.ipc_format_column_writing.specs.column_reading.columnar_memory.Spans.{last_of}
use Rattle.ipc_format_column_writing.specs.column_reading.columns.StoredColumns.{type_layer}
use Rattle.ipc_format_column_writing.proofs.reading_lemmas.ColumnReads.{last_is, same_number}
use Rattle.ipc_format_array_reading.specs.Parts.{limit_below, parts_in}
use Rattle.ipc_format_array_reading.proofs.begun.limit_below.Goals as goal

pub returns-in-Small : goal.returns-in-Small
returns-in-Small c =
    inl (ap (λ begun. limit_below (type_layer c.args.data_type.now) c.args.limit (parts_in begun)) c.in-Small.is
    ∙ ap Some (last_is c.in-Small.offsets
    ∙ same_number c.last.result.now (last_of c.in-Small.offsets) c.to_usize.result c.last.ensures c.to_usize.ensures.0))

pub returns-in-Large : goal.returns-in-Large
returns-in-Large c =
    inl (ap (λ begun. limit_below (type_layer c.args.data_type.now) c.args.limit (parts_in begun)) c.in-Large.is
    ∙ ap Some (last_is c.in-Large.offsets
    ∙ same_number c.last-in-Large.result.now (last_of c.in-Large.offsets) c.to_usize-in-Large.result c.last-in-Large.ensures
    c.to_usize-in-Large.ensures.0))
