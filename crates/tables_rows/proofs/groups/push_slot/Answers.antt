-- A slot that is refused doesn't fit, or there was no memory.
use Rattle.tables_rows.proofs.PushedSlots.{slot_refused}
use Rattle.tables_rows.proofs.groups.push_slot.Goals as goal

pub returns-in-Err : goal.returns-in-Err
returns-in-Err c =
    slot_refused c.args.array.now c.args.row c.args.column.now c.try_push_from.new.self c.in-Err.error c.refusal_of.result c.requires.typed
    c.in-Err.ensures c.refusal_of.ensures
