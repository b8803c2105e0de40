-- The batch at the next block.
use Rattle.std.proofs.Common.{◌+◌, refl, subst}
use Rattle.std.specs.Prelude.{Some}
use Rattle.std.specs.Option.{option_map}
use Rattle.ipc_format_chunk_writing.specs.ReadArrays.{standing_in}
use Rattle.ipc_format_readers.specs.FileReadings.{FileReading, NextGivesBatch}
use Rattle.ipc_format_readers.proofs.NextBatches.{batch_answers, reading_of}
use Rattle.ipc_format_readers.proofs.file_reader.FileReaderIterator.next.Goals as goal

pub returns-clause-steps : goal.returns-clause-steps
returns-clause-steps g c =
    let inside = c.self.inside in
    let result = c.batch.result in
    let new = c.batch.new.self in
    let standing = option_map standing_in inside.dictionaries in
    let old = reading_of inside.reader inside.metadata inside.asked inside.limit standing inside.next in
    let whole = batch_answers g.R.Room.told old new (inside.next + 1) result refl c.batch.ensures in
    subst (λ (it : FileReading g.row.R.Denot). NextGivesBatch g.R.Room.told it (Some result) new) c.self.view_is whole
