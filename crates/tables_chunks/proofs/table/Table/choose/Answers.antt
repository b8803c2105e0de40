-- The chosen columns have the choice of the rows.
use Rattle.std.proofs.Common.{◌≡◌, false, map, length, eqb, rules}
use Rattle.std.proofs.lemmas.Bool.{eqb-false}
use Rattle.ipc_format.specs.columns.Tables.{chosen}
use Rattle.tables_chunks.proofs.MadeTables.{chooses_each, none_made, picked_made, picked_chooses}
use Rattle.tables_chunks.proofs.table.Table.choose.Goals as goal

pub choose_all-requires : goal.choose_all-requires
choose_all-requires c =
    chooses_each c.args.self.now c.batches.result.now c.args.columns.now c.batches.ensures c.whole.ensures.batches c.requires

pub made-requires-clause-fits : goal.made-requires-clause-fits
made-requires-clause-fits c =
    let table = c.args.self.now in
    let ks = c.args.columns.now in
    let schema : c.in_ok-schema.schema ≡ record table.schema { fields = chosen ks table.schema.fields } = search rules in
    none_made table c.in_ok-schema.schema _ ks schema (search rules) c.whole.ensures.batches c.requires

pub made-picked-requires-clause-counted : goal.made-picked-requires-clause-counted
made-picked-requires-clause-counted c =
    let table = c.args.self.now in
    let ks = c.args.columns.now in
    let schema : c.in_ok-schema.schema ≡ record table.schema { fields = chosen ks table.schema.fields } = search rules in
    let picked : c.in_ok-batches.batches.items ≡ map (chosen ks) table.batches = search rules in
    let filled : eqb (length ks) 0 ≡ false = cc in
    let some : length ks ≡ 0 → ⊥ = eqb-false (length ks) 0 filled in
    (picked_made table c.in_ok-schema.schema c.in_ok-batches.batches.items ks c.rows.result some schema picked c.rows.ensures
    c.whole.ensures.batches c.requires).counted

pub made-picked-requires-clause-fits : goal.made-picked-requires-clause-fits
made-picked-requires-clause-fits c =
    let table = c.args.self.now in
    let ks = c.args.columns.now in
    let schema : c.in_ok-schema.schema ≡ record table.schema { fields = chosen ks table.schema.fields } = search rules in
    let picked : c.in_ok-batches.batches.items ≡ map (chosen ks) table.batches = search rules in
    let filled : eqb (length ks) 0 ≡ false = cc in
    let some : length ks ≡ 0 → ⊥ = eqb-false (length ks) 0 filled in
    (picked_made table c.in_ok-schema.schema c.in_ok-batches.batches.items ks c.rows.result some schema picked c.rows.ensures
    c.whole.ensures.batches c.requires).fits

pub returns : goal.returns
returns c =
    let table = c.args.self.now in
    let ks = c.args.columns.now in
    let schema : c.in_ok-schema.schema ≡ record table.schema { fields = chosen ks table.schema.fields } = search rules in
    let picked : c.in_ok-batches.batches.items ≡ map (chosen ks) table.batches = search rules in
    let filled : eqb (length ks) 0 ≡ false = cc in
    let some : length ks ≡ 0 → ⊥ = eqb-false (length ks) 0 filled in
    picked_chooses table c.in_ok-schema.schema c.in_ok-batches.batches.items ks some schema picked c.whole.ensures.batches c.requires
    c.made-picked.result c.made-picked.ensures
