-- What is prepared is what is kept.
use Rattle.std.proofs.Common.{◌≡◌}
use Rattle.ipc_format_chunk_writing.specs.columnar_memory.declared.Schema.{Schema}
use Rattle.ipc_format_readers.proofs.Asks.{asks_some}
use Rattle.ipc_format_readers.proofs.asking.ask.Goals as goal

pub returns : goal.returns
returns c =
    let made : Schema = record { fields = c.from_vec.result; metadata = c.in_ok-clone-2.field-0 } in
    let same : made ≡ record c.args.schema.now { fields = c.in_ok-rising.fields.items } =
    λ i. record { fields = c.from_vec.ensures i; metadata = c.in_ok-clone-2.ensures.cases i } in
    asks_some c.args.schema.now made c.args.projection c.in-Some.columns c.in_ok-rising.rising c.in_ok-rising.places c.in_ok-rising.fields
    c.as_slice.result.now c.in-Some.is c.as_slice.ensures c.in_ok-rising.ensures same
