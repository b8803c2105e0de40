use Rattle.std.proofs.Common.{List, ℕ, rules, subst, sym}
use Rattle.ipc_format_batch_reading.specs.Placing.{AreSignedNodes, IsPlaced}
use Rattle.ipc_format_batch_reading.specs.grammar.Encoding.{joined_columns}
use Rattle.ipc_format_chunk_writing.specs.EncodedChunks.{message_in}
use Rattle.ipc_format_chunk_writing.proofs.PlacedBodies.{encoded_of, record_encoded, record_not_placed, record_not_written}
use Rattle.ipc_format_chunk_writing.proofs.messages.encode_record.Goals as goal

pub returns-in_err-placed : goal.returns-in_err-placed
returns-in_err-placed c =
    let whole = record_not_placed c.in_err-placed.field-0.0 c.args.rows (encoded_of c.args.arrays.now) (message_in c.args.encoded.now)
    c.in_err-placed.ensures in
    search (rules, whole)

pub returns-in_err-encoded : goal.returns-in_err-encoded
returns-in_err-encoded c =
    let columns = encoded_of c.args.arrays.now in
    let stand = subst (λ (body : List ℕ). IsPlaced c.in_ok-placed.placed body (joined_columns columns)) (sym c.as_slice-2.ensures.value)
    c.in_ok-placed.ensures in
    let whole = record_not_written c.in_err-encoded.field-0.0 c.as_slice-2.result.now c.args.rows columns (message_in c.args.encoded.now)
    (c.in_err-encoded.ensures (joined_columns columns) stand) in
    search (rules, whole)

pub returns : goal.returns
returns c =
    let columns = encoded_of c.args.arrays.now in
    let stand = subst (λ (body : List ℕ). IsPlaced c.in_ok-placed.placed body (joined_columns columns)) (sym c.as_slice-2.ensures.value)
    c.in_ok-placed.ensures in
    record_encoded c.in_ok-placed.placed c.as_slice-2.result.now c.args.rows columns c.in_ok-encoded.field-0 _ stand
    (subst AreSignedNodes c.as_slice.ensures.value c.are_nodes.ensures) (c.in_ok-encoded.ensures (joined_columns columns) stand)
    (λ i. record { metadata = c.in_ok-encoded.field-0.items; body = sym c.as_slice-2.ensures.value i })
