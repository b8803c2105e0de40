-- The tables so far and one more are joined.
use Rattle.std.proofs.Common.{◌≡◌, ◌∙◌, Bool, true, false, ap, refl, sym, rules}
use Rattle.std.specs.Prelude.{Ok, not}
use Rattle.columnar_memory_types.specs.SchemaEquality.{same_schema, same_schema-Decides}
use Rattle.tables_rows.specs.chunks.StoredTables.{Stored}
use Rattle.tables.specs.Made.{AddsBatches}
use Rattle.tables.proofs.JoinedRows.{are_joined_next, join_refused_as, schemas_differ}
use Rattle.tables.proofs.carried.join_of.Goals as goal

-- what a test that schemas differ says of one that they are the same
no_longer_same : (b : Bool) → not b ≡ true → b ≡ true → ⊥
no_longer_same true other same = cc
no_longer_same false other same = cc

still_same : (b : Bool) → not b ≡ false → b ≡ true
still_same true e = refl
still_same false e = cc

pub returns-then-ne : goal.returns-then-ne
returns-then-ne c =
    let table = c.table-item.result in
    let first = c.args.first.now in
    let left = c.schema-in-loop-table.result.now in
    let right = c.schema-in-loop-table-2.result.now in
    let differ : table.schema ≡ first.schema → ⊥ = λ alike.
    no_longer_same (same_schema left right) (sym c.ne.ensures ∙ c.if-ne.true)
    ((same_schema-Decides left right).1 (c.schema-in-loop-table.ensures ∙ alike ∙ sym c.schema-in-loop-table-2.ensures)) in
    schemas_differ first c.args.others.now c.loop-table.table-index table c.loop-table-test.true c.table-item.is differ

pub add_batches-requires-in-loop-table : goal.add_batches-requires-in-loop-table
add_batches-requires-in-loop-table c =
    let left = c.schema-in-loop-table.result.now in
    let right = c.schema-in-loop-table-2.result.now in
    sym c.schema-in-loop-table.ensures
    ∙ (same_schema-Decides left right).0 (still_same (same_schema left right) (sym c.ne.ensures ∙ c.if-ne.false))
    ∙ c.schema-in-loop-table-2.ensures ∙ ap (λ (t : Stored). t.schema) (sym c.loop-table.invariant.are)

pub returns-in_err-map_err-2 : goal.returns-in_err-map_err-2
returns-in_err-map_err-2 c =
    let failure = c.in_err-map_err-2.field-0.0 in
    let table = c.table-item.result in
    let first = c.args.first.now in
    let joined = c.loop-table.joined in
    let new = c.add_batches-in-loop-table.new.joined in
    let why = join_refused_as first joined new c.args.others.now c.loop-table.table-index table c.add_batches-in-loop-table.result
    c.map_err-in-loop-table.result failure c.loop-table.invariant.are c.loop-table-test.true c.table-item.is
    c.add_batches-in-loop-table.ensures c.map_err-in-loop-table.ensures.cases c.in_err-map_err-2.was in
    search (rules, why)

pub loop-table-preserved : goal.loop-table-preserved
loop-table-preserved c =
    let table = c.table-item.result in
    let first = c.args.first.now in
    let left = c.schema-in-loop-table.result.now in
    let right = c.schema-in-loop-table-2.result.now in
    let joined = c.loop-table.joined in
    let new = c.add_batches-in-loop-table.new.joined in
    let alike : table.schema ≡ first.schema =
    sym c.schema-in-loop-table.ensures
    ∙ (same_schema-Decides left right).0 (still_same (same_schema left right) (sym c.ne.ensures ∙ c.if-ne.false))
    ∙ c.schema-in-loop-table-2.ensures in
    let added : AddsBatches joined table.batches (Ok tt) new = search rules in
    are_joined_next first joined new c.args.others.now c.loop-table.table-index table c.loop-table.invariant c.loop-table-test.true c.table-item.is
    alike added
