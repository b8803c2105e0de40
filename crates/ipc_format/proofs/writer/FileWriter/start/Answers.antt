-- The start is written, and the file is started.
use Rattle.std.proofs.Common.{rules, ◌≡◌, true, ap}
use Rattle.std.specs.Io.KnownBytes.{Appends}
use Rattle.std.proofs.Math.Bool.{Bool-set}
use Rattle.ipc_format_readers.specs.chunk_writing.EncodedChunks.{message_in}
use Rattle.ipc_format_readers.specs.chunk_writing.metadata.Views.{ids_views}
use Rattle.ipc_format.specs.Ends.{first_bytes}
use Rattle.ipc_format.specs.FileOpening.{IsOpening}
use Rattle.ipc_format.specs.FilePhases.{is_fresh}
use Rattle.ipc_format.proofs.Writes.{has_started}
use Rattle.ipc_format.proofs.writer.FileWriter.start.Goals as goal

pub same-self : goal.same-self
same-self g c = ap (λ may. record c.self.inside { may = may }) (Bool-set _ _ _ c.self.inside.may)

pub same-self-in_err-progress : goal.same-self-in_err-progress
same-self-in_err-progress g c = ap (λ may. record c.self.inside { may = may }) (Bool-set _ _ _ c.self.inside.may)

pub returns-in-Ok : goal.returns-in-Ok
returns-in-Ok g c =
    let old = c.args.self.now in
    let file = c.in_ok-progress.progress in
    let message = c.in_ok-progress.message in
    let is : is_fresh old.phase ≡ true = search rules in
    let opens : IsOpening file message old.schema (ids_views old.ids) = search rules in
    let new = g.W.Write.contents c.send_start.new.writer in
    let sent : Appends (g.W.Write.contents old.device) new (first_bytes (message_in message)) = search rules in
    has_started g.W.Write.contents g.W.Faults.failures g.W.Faults.in_memory old _ file message is opens sent (search rules) (search rules)
    (search rules) (search rules) (search rules)
