-- One field more begins a column more.
use Rattle.tables_rows.proofs.ReadyGroups.{begun_more}
use Rattle.tables_rows.proofs.groups.begin_columns.Goals as goal

pub loop-field-preserved : goal.loop-field-preserved
loop-field-preserved c =
    begun_more c.args.fields.now c.loop-field.field-index c.field-item.result c.loop-field.columns.items c.push.new.self.items
    c.in_ok-begin_column.field-0 c.loop-field-test.true c.field-item.is c.loop-field.invariant c.in_ok-begin_column.ensures
    c.in_ok-push.ensures.items
