use Rattle.std.proofs.Common.{rules}
use Rattle.std.proofs.lemmas.Bool.Decides.{same_from_decides}
use Rattle.ipc_format_metadata.specs.Sameness.{same_ids, same_ids-Decides}
use Rattle.ipc_format_metadata.proofs.ipc_schema.IpcFieldPartialEq.eq.Goals as goal

pub returns-clause-value : goal.returns-clause-value
returns-clause-value c =
    let x = c.args.self.now in
    let y = c.args.other.now in
    same_from_decides c.is_same_field.result (same_ids x y) (search rules) (same_ids-Decides x y)
