use Rattle.std.proofs.Common.{◌∙◌, ap}
use Rattle.ipc_format_messages.specs.grammar.Writable as format
use Rattle.ipc_format_writing.proofs.NormalLists.{removed_by_order}
use Rattle.ipc_format_writing.proofs.normal.without.Goals as goal

pub returns : goal.returns
returns c =
    c.from_map.ensures ∙ c.remove-value.ensures.entries ∙ removed_by_order c.args.key.now c.into_inner-map.result.entries
    ∙ ap (format.without_key c.args.key.now) c.into_inner-map.ensures
