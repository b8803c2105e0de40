-- The values stand under their id, where none stood there.
use Rattle.std.proofs.Common.{rules, w64}
use Rattle.std.proofs.lemmas.Int.{to_z-of_z}
use Rattle.ipc_format_reading.specs.grammar.Dictionaries.{Values}
use Rattle.ipc_format_reading.specs.metadata.Views.{ids_views}
use Rattle.ipc_format_batch_reading.proofs.NamedValues.{keeps_under, puts_under}
use Rattle.ipc_format_batch_reading.proofs.named_values.put_under.Goals as goal

pub returns-in_ok-insert : goal.returns-in_ok-insert
returns-in_ok-insert c =
    let view : Values = record { data_type = c.args.value.now; below = ids_views c.args.below.now } in
    puts_under c.args.found.now c.insert.new.self _ c.args.id _ view (to_z-of_z w64 c.args.id c.ranges.id) (search rules) (search rules)
    c.in_ok-insert.ensures.updates.0

pub returns-else-not-contains_key : goal.returns-else-not-contains_key
returns-else-not-contains_key c =
    keeps_under c.args.found.now _ c.args.id (record { data_type = c.args.value.now; below = ids_views c.args.below.now })
    (to_z-of_z w64 c.args.id c.ranges.id) (search rules)
