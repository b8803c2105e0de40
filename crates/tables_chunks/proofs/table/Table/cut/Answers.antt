-- The windows have the part of the rows.
use Rattle.std.proofs.Common.{◌≡◌, rules}
use Rattle.tables_chunks.specs.Batches.{cut_batches}
use Rattle.tables_chunks.proofs.MadeTables.{cut_made, cut_cuts}
use Rattle.tables_chunks.proofs.table.Table.cut.Goals as goal

pub made-requires-clause-counted : goal.made-requires-clause-counted
made-requires-clause-counted c =
    let table = c.args.self.now in
    let schema : c.in_ok-schema.schema ≡ table.schema = search rules in
    let windows : c.in_ok-windows.windows.items ≡ cut_batches c.args.offset c.args.length table.batches = search rules in
    (cut_made table c.in_ok-schema.schema c.in_ok-windows.windows.items c.args.offset c.args.length schema windows c.whole.ensures.batches
    c.requires).counted

pub made-requires-clause-fits : goal.made-requires-clause-fits
made-requires-clause-fits c =
    let table = c.args.self.now in
    let schema : c.in_ok-schema.schema ≡ table.schema = search rules in
    let windows : c.in_ok-windows.windows.items ≡ cut_batches c.args.offset c.args.length table.batches = search rules in
    (cut_made table c.in_ok-schema.schema c.in_ok-windows.windows.items c.args.offset c.args.length schema windows c.whole.ensures.batches
    c.requires).fits

pub returns : goal.returns
returns c =
    let table = c.args.self.now in
    let schema : c.in_ok-schema.schema ≡ table.schema = search rules in
    let windows : c.in_ok-windows.windows.items ≡ cut_batches c.args.offset c.args.length table.batches = search rules in
    cut_cuts table c.in_ok-schema.schema c.in_ok-windows.windows.items c.args.offset c.args.length schema windows c.whole.ensures.batches
    c.requires c.made.result c.made.ensures
