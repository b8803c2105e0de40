-- The schemas decide, and then the rows.
use Rattle.std.proofs.Common.{◌≡◌, ◌<◌, ◌^◌, rules}
use Rattle.tables_chunks.proofs.TellingTables.{can_join_tells, tells_false}
use Rattle.tables_chunks.proofs.table.Table.can_join.Goals as goal

pub returns-then-has_schema_of : goal.returns-then-has_schema_of
returns-then-has_schema_of c =
    let left = c.args.left.now in
    let right = c.args.right.now in
    let schemas : left.schema ≡ right.schema = c.has_schema_of.ensures.0 c.if-has_schema_of.true in
    let small : c.rows-then-has_schema_of.result < 2 ^ 64 = search rules in
    can_join_tells left right c.rows-then-has_schema_of.result c.rows.result schemas c.rows-then-has_schema_of.ensures c.rows.ensures small

pub returns-else-has_schema_of : goal.returns-else-has_schema_of
returns-else-has_schema_of c =
    let left = c.args.left.now in
    let right = c.args.right.now in
    let other = tells_false (left.schema ≡ right.schema) c.has_schema_of.result c.has_schema_of.ensures c.if-has_schema_of.false in
    (λ h. absurd (other (c.has_schema_of.ensures.0 h)), λ joins. c.has_schema_of.ensures.1 joins.schemas)
