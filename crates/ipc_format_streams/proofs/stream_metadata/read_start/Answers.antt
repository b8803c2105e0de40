-- What the metadata of the first message says.
use Rattle.std.proofs.Common.{◌≡◌, List, [], ℕ, rules, subst}
use Rattle.std.specs.Prelude.{Ok}
use Rattle.std.specs.Io.KnownBytes.{prepend_known}
use Rattle.ipc_format_values.specs.metadata.Reading.{Reads}
use Rattle.ipc_format_values.specs.metadata.Steps.{FloatInMessage}
use Rattle.ipc_format_streams.specs.Incoming.{Holds, TakesNext}
use Rattle.ipc_format_streams.specs.Starts.{start_of_message, start_view}
use Rattle.ipc_format_streams.specs.declared.incoming.Incoming.{Incoming}
use Rattle.ipc_format_streams.specs.declared.incoming.Incoming.TheVariants as incoming
use Rattle.ipc_format_streams.proofs.Starts.{start_read}
use Rattle.ipc_format_streams.proofs.stream_metadata.read_start.Goals as goal

pub returns-in-Message : goal.returns-in-Message
returns-in-Message g c =
    let left = g.R.Read.remaining c.args.reader.now in
    let left_after = g.R.Read.remaining c.next_message.new.reader in
    let held = c.new-held.result.items in
    let still = c.next_message.new.held.items in
    let metadata = c.next_message.new.metadata.items in
    let body = c.next_message.new.body.items in
    let none : held ≡ [] = search rules in
    let empty : still ≡ [] = subst (λ (it : Incoming). Holds still (Ok it)) c.in-Message.is c.in_ok-next_message.ensures.held in
    let taken : TakesNext (prepend_known held left) (prepend_known still left_after) metadata body (Ok incoming.Message) =
    subst (λ (it : Incoming). TakesNext (prepend_known held left) (prepend_known still left_after) metadata body (Ok it)) c.in-Message.is
    c.in_ok-next_message.ensures.taken in
    let read : Reads start_view (FloatInMessage metadata) c.deserialize_stream_metadata.result (start_of_message metadata) =
    subst (λ (m : List ℕ). Reads start_view (FloatInMessage m) c.deserialize_stream_metadata.result (start_of_message m)) c.deref.ensures.value
    c.deserialize_stream_metadata.ensures in
    start_read left left_after held still metadata body c.deserialize_stream_metadata.result none empty taken read
