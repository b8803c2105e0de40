-- The first ids are copied.
use Rattle.std.specs.Prelude.{◌≡◌, take}
use Rattle.ipc_format_batch_reading.proofs.named_values.copied_ids.Given as goal

abbrev pub invariant-loop-field : goal.invariant-loop-field
invariant-loop-field l = l.copied ≡ take l.field-index l.ipc_fields
