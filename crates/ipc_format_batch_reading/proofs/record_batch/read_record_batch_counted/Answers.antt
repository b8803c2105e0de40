-- There are no more steps than the message states buffers.
use Rattle.ipc_format_reading.specs.flatbuffers.Views.{table_of}
use Rattle.ipc_format_batch_reading.proofs.BufferCounts.{no_more_than_bytes}
use Rattle.ipc_format_batch_reading.proofs.record_batch.read_record_batch_counted.Goals as goal

pub returns-in-None-clause-most : goal.returns-in-None-clause-most
returns-in-None-clause-most g c =
    no_more_than_bytes c.args.file_size c.args.batch.now.table.bytes.now (table_of c.args.batch.now.table.place) c.args.steps.now.count
    c.read_columns.new.steps.count c.read_columns.ensures.stated

pub returns-in-Some-clause-most : goal.returns-in-Some-clause-most
returns-in-Some-clause-most g c =
    no_more_than_bytes c.args.file_size c.args.batch.now.table.bytes.now (table_of c.args.batch.now.table.place) c.args.steps.now.count
    c.read_choice.new.steps.count c.read_choice.ensures.stated
