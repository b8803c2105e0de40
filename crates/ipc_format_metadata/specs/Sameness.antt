-- `==` of the ids beside fields and schemas, which holds of the same values alone.
use Rattle.std.specs.Prelude.{◌≡◌, Bool}
use Rattle.std.specs.Bool.{Decides}
use Rattle.std.specs.Cmp.{IsEquivalence, IsPartialEquivalence}
use Rattle.ipc_format_grammar.specs.columnar_memory.Sameness.{same, same-Decides, same_equivalence, same_partial_equivalence}
use Rattle.ipc_format_metadata.specs.declared.ipc_schema.IpcField.{IpcField}
use Rattle.ipc_format_metadata.specs.declared.ipc_schema.IpcSchema.{IpcSchema}
use Rattle.ipc_format_metadata.specs.contracts.ipc_schema.IpcField as ids
use Rattle.ipc_format_metadata.specs.contracts.ipc_schema.IpcSchema as schema

-- whether the same ids stand beside two fields, and at every depth below them
abbrev pub same_ids : IpcField → IpcField → Bool
same_ids = same ids.the_row.coded

-- whether the same stands beside two schemas
abbrev pub same_ipc_schema : IpcSchema → IpcSchema → Bool
same_ipc_schema = same schema.the_row.coded

pub same_ids-Decides : (x y : IpcField) → Decides (same_ids x y) (x ≡ y)
same_ids-Decides = same-Decides ids.the_row.coded

pub same_ipc_schema-Decides : (x y : IpcSchema) → Decides (same_ipc_schema x y) (x ≡ y)
same_ipc_schema-Decides = same-Decides schema.the_row.coded

pub same_ids-per : IsPartialEquivalence same_ids
same_ids-per = same_partial_equivalence ids.the_row.coded

pub same_ipc_schema-per : IsPartialEquivalence same_ipc_schema
same_ipc_schema-per = same_partial_equivalence schema.the_row.coded

pub same_ids-equivalence : IsEquivalence same_ids
same_ids-equivalence = same_equivalence ids.the_row.coded

pub same_ipc_schema-equivalence : IsEquivalence same_ipc_schema
same_ipc_schema-equivalence = same_equivalence schema.the_row.coded
