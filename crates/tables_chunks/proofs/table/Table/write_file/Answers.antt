-- What the batches read as is what the table reads as.
use Rattle.tables_chunks.proofs.FileStreams.{told_as_stream}
use Rattle.tables_chunks.proofs.table.Table.write_file.Goals as goal

pub returns-clause-reads_as_stream : goal.returns-clause-reads_as_stream
returns-clause-reads_as_stream g c =
    told_as_stream c.write_batches.result c.args.self.now c.schema-2.result.now c.batches.result.now c.schema-2.ensures c.batches.ensures
    c.whole.ensures.texts.texts c.whole.ensures.rows c.write_batches.ensures.reads_as_stream
