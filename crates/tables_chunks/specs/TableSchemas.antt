-- Which schemas tables have (Arrow columnar format, "Extension Types"; Arrow IPC, "Schema message").
use Rattle.std.specs.Prelude.{◌≡◌, true}
use Rattle.ipc_format.specs.columnar_memory.declared.Schema.{Schema}
use Rattle.ipc_format.specs.Writable.{is_writable, normalised}

-- the schema of a table: one that may be written, in its one form
pub record IsTableSchema (schema : Schema) : Type 0 where
  pub writable : is_writable schema ≡ true
  pub normal : normalised schema ≡ schema
