-- The groups of a table's rows make a table.
use Rattle.std.proofs.Common.{rules, ◌∙◌}
use Rattle.tables_rows.proofs.BegunTypes.{sealable_begins}
use Rattle.tables_rows.proofs.GroupedTables.{batches_are, groups_refused, groups_of_fields, groups_made}
use Rattle.tables_rows.proofs.seal.group_table.Goals as goal

pub group_rows-requires-clause-begin : goal.group_rows-requires-clause-begin
group_rows-requires-clause-begin c = sealable_begins c.args.table.now.schema c.requires.sealable

pub returns-in_err-batches : goal.returns-in_err-batches
returns-in_err-batches c =
    let whole = groups_refused c.args.n c.args.table.now c.requires.sealable c.requires.size c.whole.ensures.batches
    c.a_beginning_of_what_fits_fits.ensures c.in_err-batches.field-0.0 c.in_err-batches.ensures in
    search (rules, whole)

pub of_batches-requires-clause-fields : goal.of_batches-requires-clause-fields
of_batches-requires-clause-fields c =
    let are = batches_are c.args.n c.args.table.now c.requires.sealable c.requires.size c.whole.ensures.batches
    c.a_beginning_of_what_fits_fits.ensures c.in_ok-batches.batches.items c.in_ok-batches.ensures.1 in
    groups_of_fields c.args.n c.args.table.now c.requires.sealable c.requires.size c.whole.ensures.batches
    c.a_beginning_of_what_fits_fits.ensures c.in_ok-schema.schema c.in_ok-batches.batches.items (c.in_ok-schema.ensures.cases ∙ c.schema.ensures) are

pub returns : goal.returns
returns c =
    groups_made c.args.n c.args.table.now c.requires.sealable c.requires.size c.whole.ensures.batches c.a_beginning_of_what_fits_fits.ensures
    c.in_ok-schema.schema c.in_ok-batches.batches.items c.of_batches.result c.whole.ensures.rows (c.in_ok-schema.ensures.cases ∙ c.schema.ensures)
    c.in_ok-batches.ensures.0 c.in_ok-batches.ensures.1 c.of_batches.ensures
