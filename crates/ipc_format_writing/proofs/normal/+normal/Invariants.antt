use Rattle.std.proofs.Common.{◌≡◌, map, take}
use Rattle.ipc_format_writing.specs.Normal.{field_normal}
use Rattle.ipc_format_writing.proofs.normal.+normal.Given as goal

abbrev pub invariant-normal_fields-loop-field : goal.invariant-normal_fields-loop-field
invariant-normal_fields-loop-field l = l.normal ≡ map field_normal (take l.field-index l.fields)
