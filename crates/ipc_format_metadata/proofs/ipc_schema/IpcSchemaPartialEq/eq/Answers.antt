use Rattle.std.proofs.Common.{rules}
use Rattle.std.proofs.lemmas.Bool.Decides.{same_from_decides}
use Rattle.ipc_format_metadata.specs.Sameness.{same_ipc_schema, same_ipc_schema-Decides}
use Rattle.ipc_format_metadata.proofs.ipc_schema.IpcSchemaPartialEq.eq.Goals as goal

pub returns-clause-value : goal.returns-clause-value
returns-clause-value c =
    let x = c.args.self.now in
    let y = c.args.other.now in
    same_from_decides c.is_same_schema.result (same_ipc_schema x y) (search rules) (same_ipc_schema-Decides x y)
