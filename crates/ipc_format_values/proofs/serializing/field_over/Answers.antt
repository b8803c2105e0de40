use Rattle.std.proofs.Common.{refl, rules}
use Rattle.ipc_format_writing.specs.columnar_memory.declared.Field.{out-Field}
use Rattle.ipc_format_values.specs.ToldTypes.{told_view}
use Rattle.ipc_format_values.proofs.FieldValues.{field_made}
use Rattle.ipc_format_values.proofs.serializing.field_over.Goals as goal

pub returns : goal.returns
returns c =
    let field = out-Field c.args.field.now in
    field_made _ field.name field.is_nullable field.metadata (told_view c.args.told) c.args.own (search rules) refl refl refl
    (search rules) refl (search rules)
