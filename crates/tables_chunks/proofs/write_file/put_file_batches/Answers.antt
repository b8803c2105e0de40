-- One batch more.
use Rattle.std.proofs.Common.{rules, arith, ◌≡◌, ◌<◌, ap, length, take, get_or}
use Rattle.std.proofs.lemmas.List.{take_all}
use Rattle.ipc_format.specs.Tracking.{tracked}
use Rattle.ipc_format.specs.metadata.Views.{ids_views}
use Rattle.ipc_format.specs.Schemas.{IdsList}
use Rattle.ipc_format.specs.WrittenStreams.{batch_of_stored}
use Rattle.tables_chunks.specs.WrittenFiles.{places_of}
use Rattle.tables_chunks.proofs.PutFileBatches.{all_file_put, first_file_put, next_file_put, next_file_refused}
use Rattle.tables_chunks.proofs.write_file.put_file_batches.Goals as goal

pub loop-batch-init : goal.loop-batch-init
loop-batch-init g c =
    first_file_put c.args.place (g.W.Write.contents c.args.writer.now) _ _ c.args.schema.now c.args.batches.now c.new-tracker.ensures (search rules)
    (search rules)

pub loop-batch-preserved : goal.loop-batch-preserved
loop-batch-preserved g c =
    let batches = c.args.batches.now in
    let batch = c.batch-item.result in
    let here : get_or batches c.loop-batch.batch-index batch ≡ batch = search rules in
    let inside : c.loop-batch.batch-index < length batches = search rules in
    next_file_put c.args.place _ _ _ _ _ _ _ c.args.schema.now batches c.loop-batch.batch-index batch
    (batch_of_stored (ids_views c.args.ids.now) batch) inside here
    (ap (λ (ids : IdsList). batch_of_stored ids batch) c.requires) c.loop-batch.invariant c.in_ok-put_file_batch.ensures

pub returns-in_err-put_file_batch : goal.returns-in_err-put_file_batch
returns-in_err-put_file_batch g c =
    let batches = c.args.batches.now in
    let batch = c.batch-item.result in
    let here : get_or batches c.loop-batch.batch-index batch ≡ batch = search rules in
    let inside : c.loop-batch.batch-index < length batches = search rules in
    let whole = next_file_refused c.in_err-put_file_batch.field-0.0 c.args.place (g.W.Write.contents c.args.writer.now)
    (g.W.Write.contents c.loop-batch.writer) (g.W.Write.contents c.put_file_batch.new.writer) (tracked c.loop-batch.tracker)
    (tracked c.put_file_batch.new.tracker) (places_of c.loop-batch.places) (places_of c.put_file_batch.new.places) c.args.schema.now batches
    c.loop-batch.batch-index batch (batch_of_stored (ids_views c.args.ids.now) batch) inside here
    (ap (λ (ids : IdsList). batch_of_stored ids batch) c.requires) c.loop-batch.invariant c.in_err-put_file_batch.ensures in
    search (rules, whole)

pub returns : goal.returns
returns g c =
    let batches = c.args.batches.now in
    let all : take c.loop-batch.batch-index batches ≡ batches = take_all c.loop-batch.batch-index batches (omega arith) in
    all_file_put c.args.place _ _ _ _ c.args.schema.now batches c.loop-batch.batch-index all c.loop-batch.invariant
