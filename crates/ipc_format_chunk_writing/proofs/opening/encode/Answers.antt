-- A batch that is admitted is encoded, or is not written.
use Rattle.std.proofs.Common.{rules, refl}
use Rattle.ipc_format_chunk_writing.specs.EncodedChunks.{dictionaries_in, message_in}
use Rattle.ipc_format_chunk_writing.specs.Tracking.{tracked}
use Rattle.ipc_format_batch_reading.specs.metadata.Views.{ids_views}
use Rattle.ipc_format_chunk_writing.proofs.Batches.{encoded_by, not_admitted}
use Rattle.ipc_format_chunk_writing.proofs.opening.encode.Goals as goal

pub returns-in_err-admit : goal.returns-in_err-admit
returns-in_err-admit c told tells =
    let whole = not_admitted c.args.schema.now (tracked c.args.tracker.now) (tracked c.args.tracker.now) (ids_views c.args.ids.now) c.args.chunk.now
    c.in_err-admit.field-0.0 (message_in c.args.encoded.now) c.in_err-admit.ensures refl told tells in
    search (rules, whole)

pub returns : goal.returns
returns c =
    encoded_by c.args.schema.now (tracked c.args.tracker.now) (tracked c.encode_batch.new.tracker) (ids_views c.args.ids.now) c.args.chunk.now
    (dictionaries_in c.encode_batch.result) (message_in c.encode_batch.new.encoded) c.in_ok-admit.ensures c.encode_batch.ensures
