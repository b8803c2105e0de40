use Rattle.std.proofs.Common.{◌≡◌, take}
use Rattle.columnar_memory_types.proofs.clones.+copies.Given as goal

abbrev pub invariant-copy_of_fields-loop-field : goal.invariant-copy_of_fields-loop-field
invariant-copy_of_fields-loop-field l = l.copied ≡ take l.field-index l.fields
