-- The fields that are left decide.
use Rattle.std.proofs.Common.{◌≡◌, drop}
use Rattle.ipc_format_batch_reading.specs.grammar.Ids.{all_are_ids}
use Rattle.ipc_format_batch_reading.specs.metadata.Views.{ids_views}
use Rattle.ipc_format_chunk_writing.proofs.opening.+ids.Given as goal

abbrev pub invariant-all_are_ids-loop-field : goal.invariant-all_are_ids-loop-field
invariant-all_are_ids-loop-field l = all_are_ids (ids_views l.fields) ≡ all_are_ids (ids_views (drop l.field-index l.fields))
