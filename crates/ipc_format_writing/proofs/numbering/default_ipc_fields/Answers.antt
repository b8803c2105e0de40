use Rattle.std.proofs.Common.{◌∙◌, ap}
use Rattle.ipc_format_messages.specs.metadata.Views.{ids_views}
use Rattle.ipc_format_writing.proofs.NumberedLists.{defaults}
use Rattle.ipc_format_writing.proofs.numbering.default_ipc_fields.Goals as goal

pub returns : goal.returns
returns c = ap ids_views c.into_inner.ensures ∙ defaults c.args.fields.now c.in_ok-numbered.numbered.fields c.in_ok-numbered.numbered.next
    c.in_ok-numbered.ensures
