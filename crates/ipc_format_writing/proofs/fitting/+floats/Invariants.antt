use Rattle.std.proofs.Common.{◌≡◌, take, map, false}
use Rattle.std.specs.List.{list_any}
use Rattle.ipc_format_writing.specs.Floats as floats
use Rattle.ipc_format_writing.proofs.fitting.+floats.Given as goal

abbrev pub invariant-floats_in_fields-loop-field : goal.invariant-floats_in_fields-loop-field
invariant-floats_in_fields-loop-field l = list_any (λ here. here) (map floats.in_field (take l.field-index l.fields)) ≡ false
