use Rattle.std.proofs.Common.{refl, rules}
use Rattle.ipc_format_writing.specs.metadata.Views.{ids_views}
use Rattle.ipc_format_writing.proofs.SchemaMessages.{all_allowed}
use Rattle.ipc_format_writing.specs.messages.declared.Endianness.TheVariants.{Little}
use Rattle.ipc_format_values.proofs.FieldValues.{schema_made}
use Rattle.ipc_format_values.proofs.serializing.value_of.Goals as goal

pub each_of-requires : goal.each_of-requires
each_of-requires c =
    let allowed = all_allowed c.args.schema.now c.requires in
    search (rules, allowed)

pub returns : goal.returns
returns c =
    schema_made (record { endianness = Little; fields = c.in_ok-fields.fields; custom_metadata = c.in_ok-custom_metadata.custom_metadata })
    c.args.schema.now (ids_views c.args.ipc_fields.now) refl (search rules) (search rules)
