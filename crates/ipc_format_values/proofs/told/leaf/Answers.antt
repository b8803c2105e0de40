use Rattle.std.proofs.Common.{◌≡◌, [], map, subst, rules}
use Rattle.std.specs.Prelude.{List, IfOk}
use Rattle.ipc_format_writing.specs.grammar.Schemas.{no_ids}
use Rattle.ipc_format_writing.specs.grammar.SchemaObjects as objects
use Rattle.ipc_format_values.specs.declared.fields.Field.{Field}
use Rattle.ipc_format_values.specs.ToldTypes.{told_view, told_over}
use Rattle.ipc_format_values.specs.ValueObjects.{field_value, objects_list}
use Rattle.ipc_format_values.proofs.told.leaf.Goals as goal

pub returns : goal.returns
returns c =
    let empty : c.new.result ≡ [] = search rules in
    subst (λ (children : List Field). IfOk c.over.result (λ told. told_view told
    ≡ told_over (objects.told_of c.args.data_type.now no_ids) (objects_list (map field_value children)))) empty c.over.ensures
