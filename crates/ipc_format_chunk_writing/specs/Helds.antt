-- What is owned or borrowed.
use Rattle.std.specs.Prelude.{List}
use Rattle.std.specs.Borrow.{Bor}
use Rattle.ipc_format_batch_reading.specs.columns.StoredColumns.{Column}
use Rattle.ipc_format_batch_reading.specs.metadata.declared.ipc_schema.IpcField.{IpcField}
use Rattle.std.specs.declared.vec.Vec.{Vec}
use Rattle.std.specs.declared.alloc.Global.{Global}
use Rattle.ipc_format_chunk_writing.specs.declared.held.Held.{Held}
use Rattle.ipc_format_chunk_writing.specs.declared.held.Held.TheVariants.{Owned, Borrowed}

abbrev pub columns_held : Held (List Column) (Bor (List Column)) → List Column
columns_held (Owned columns) = columns
columns_held (Borrowed columns) = columns.now

abbrev pub fields_held : Held (Vec IpcField Global) (Bor (List IpcField)) → List IpcField
fields_held (Owned fields) = fields.items
fields_held (Borrowed fields) = fields.now
