-- What is asked for is kept, and no dictionary is read.
use Rattle.ipc_format_readers.proofs.Nexts.{asked_of_normal, schema_kept}
use Rattle.ipc_format_readers.proofs.NextBatches.{ready_of_normal}
use Rattle.ipc_format_readers.proofs.file_reader.FileReader.new.Goals as goal

pub ask-requires : goal.ask-requires
ask-requires g c = asked_of_normal _ _ _ c.args.metadata.is_form c.requires

pub invariant_of-result : goal.invariant_of-result
invariant_of-result g c = (
  ready_of_normal _ _ _ c.args.metadata.is_form c.in_ok-asked.ensures.ready,
  schema_kept _ _ _ (c.in_ok-asked.asked, c.in_ok-asked.chosen_schema) c.args.metadata.is_form c.in_ok-asked.ensures,
)
