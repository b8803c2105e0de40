-- Prefix, metadata and body behind one another.
use Rattle.std.proofs.Common.{rules, ℕ, List, ◌++◌, length}
use Rattle.ipc_format_batch_reading.proofs.Appending.{appends_both, puts_behind}
use Rattle.ipc_format_batch_reading.proofs.Appending.{puts_between, puts_first}
use Rattle.ipc_format_batch_reading.specs.streams.EncodedMessages.{prefix_bytes}
use Rattle.ipc_format_chunk_writing.proofs.sending.put_message.Goals as goal

pub returns-in_err-put_prefix : goal.returns-in_err-put_prefix
returns-in_err-put_prefix g c =
    let metadata : List ℕ = c.args.metadata.now in
    let error = c.in_err-put_prefix.field-0.0 in
    let whole = puts_first error _ _ (prefix_bytes (length metadata) ++ metadata) c.args.body.now
    (puts_first error _ _ (prefix_bytes (length metadata)) metadata c.in_err-put_prefix.ensures) in
    search (rules, whole)

pub returns-in_err-put : goal.returns-in_err-put
returns-in_err-put g c =
    let metadata : List ℕ = c.args.metadata.now in
    let whole = puts_between c.in_err-put.field-0.0 _ _ _ (prefix_bytes (length metadata)) metadata c.args.body.now c.in_ok-put_prefix.ensures
    c.in_err-put.ensures in
    search (rules, whole)

pub returns : goal.returns
returns g c =
    let metadata : List ℕ = c.args.metadata.now in
    puts_behind c.put-2.result _ _ _ (prefix_bytes (length metadata) ++ metadata) c.args.body.now
    (appends_both _ _ _ (prefix_bytes (length metadata)) metadata c.in_ok-put_prefix.ensures c.in_ok-put.ensures) c.put-2.ensures
