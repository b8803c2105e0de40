use Rattle.std.proofs.Common.{rules}
use Rattle.ipc_format_messages.specs.grammar.Writable.{is_writable}
use Rattle.ipc_format_messages.specs.grammar.Ids.{ids_fit_fields}
use Rattle.ipc_format_messages.specs.metadata.Views.{ids_views}
use Rattle.ipc_format_writing.proofs.SchemaMessages.{both_true}
use Rattle.ipc_format_writing.proofs.schemas.refuse_unwritten.Goals as goal

pub returns-clause-answer : goal.returns-clause-answer
returns-clause-answer c =
    both_true (is_writable c.args.schema.now) (ids_fit_fields c.args.schema.now.fields (ids_views c.args.ipc_fields.now)) (search rules)
    (search rules)
