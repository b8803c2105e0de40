use Rattle.std.proofs.Common.{◌≡◌, map}
use Rattle.ipc_format_messages.specs.grammar.Ids as ids
use Rattle.ipc_format_writing.specs.Numbers.{field_numbering}
use Rattle.ipc_format_writing.proofs.NumberedLists.{numbered_from}
use Rattle.ipc_format_writing.proofs.numbering.+numbers.Given as goal

abbrev pub invariant-number_fields-loop-field : goal.invariant-number_fields-loop-field
invariant-number_fields-loop-field l = numbered_from l.found.fields l.fields l.field-index l.found.next
    ≡ ids.number_each (map field_numbering l.fields) l.initial.next
