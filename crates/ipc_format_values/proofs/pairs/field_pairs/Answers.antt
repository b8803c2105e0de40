use Rattle.std.proofs.Common.{rules}
use Rattle.ipc_format_writing.specs.Pieces.{extension_view}
use Rattle.ipc_format_values.proofs.PairLists.{field_pairs_done}
use Rattle.ipc_format_values.proofs.pairs.field_pairs.Goals as goal

pub returns : goal.returns
returns c =
    field_pairs_done c.loop-key.made (extension_view c.args.extension) c.args.pairs.now c.iter-others.ensures.ordered (search rules)
