use Rattle.std.proofs.Common.{map}
use Rattle.ipc_format_messages.specs.grammar.Ids as ids
use Rattle.ipc_format_writing.specs.Numbers.{field_numbering}
use Rattle.ipc_format_writing.proofs.NumberedLists.{numbered-more}
use Rattle.ipc_format_writing.proofs.numbering.+numbers.Goals as goal

pub number_fields-loop-field-preserved : goal.number_fields-loop-field-preserved
number_fields-loop-field-preserved t c =
    numbered-more c.loop-field.found.fields c.push.new.self c.args.fields.now c.loop-field.field-index c.loop-field.found.next
    c.in_ok-numbered.numbered.next c.field-item.result c.in_ok-numbered.numbered.field
    (ids.number_each (map field_numbering c.args.fields.now) c.args.next) c.loop-field-test.true c.field-item.is c.in_ok-push.ensures.ok
    c.in_ok-numbered.ensures c.loop-field.invariant
