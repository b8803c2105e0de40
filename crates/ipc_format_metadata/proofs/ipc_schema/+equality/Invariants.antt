use Rattle.std.proofs.Common.{◌≡◌, take}
use Rattle.ipc_format_metadata.proofs.ipc_schema.+equality.Given as goal

abbrev pub invariant-are_same_fields-loop-i : goal.invariant-are_same_fields-loop-i
invariant-are_same_fields-loop-i l = take l.i l.a ≡ take l.i l.b
