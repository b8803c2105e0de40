-- One batch more.
use Rattle.std.proofs.Common.{rules, arith, ◌≡◌, ◌<◌, ap, length, take, get_or}
use Rattle.std.proofs.lemmas.List.{take_all}
use Rattle.ipc_format.specs.Tracking.{tracked}
use Rattle.ipc_format.specs.metadata.Views.{ids_views}
use Rattle.ipc_format.specs.Schemas.{IdsList}
use Rattle.ipc_format.specs.WrittenStreams.{batch_of_stored}
use Rattle.tables_chunks.proofs.PutTables.{all_put, next_put, next_refused, none_put}
use Rattle.tables_chunks.proofs.TableColumns.{batch_agrees}
use Rattle.tables_chunks.proofs.putting.put_batches.Goals as goal

pub loop-batch-init : goal.loop-batch-init
loop-batch-init g c = none_put (g.W.Write.contents c.args.writer.now) _ c.new-tracker.ensures

pub put_batch-requires : goal.put_batch-requires
put_batch-requires g c =
    let batches = c.args.batches.now in
    let batch = c.batch-item.result in
    let here : get_or batches c.loop-batch.batch-index batch ≡ batch = search rules in
    let inside : c.loop-batch.batch-index < length batches = search rules in
    batch_agrees c.args.schema.now batches (ids_views c.args.ids.now) c.loop-batch.batch-index batch c.requires.table c.requires.ids inside here

pub loop-batch-preserved : goal.loop-batch-preserved
loop-batch-preserved g c =
    let batches = c.args.batches.now in
    let batch = c.batch-item.result in
    let here : get_or batches c.loop-batch.batch-index batch ≡ batch = search rules in
    let inside : c.loop-batch.batch-index < length batches = search rules in
    next_put _ _ _ _ _ c.args.schema.now batches c.loop-batch.batch-index batch (batch_of_stored (ids_views c.args.ids.now) batch) inside here
    (ap (λ (ids : IdsList). batch_of_stored ids batch) c.requires.ids) c.loop-batch.invariant c.in_ok-put_batch.ensures

pub returns-in_err-put_batch : goal.returns-in_err-put_batch
returns-in_err-put_batch g c =
    let batches = c.args.batches.now in
    let batch = c.batch-item.result in
    let here : get_or batches c.loop-batch.batch-index batch ≡ batch = search rules in
    let inside : c.loop-batch.batch-index < length batches = search rules in
    let before = tracked c.loop-batch.tracker in
    let after = tracked c.put_batch.new.tracker in
    let whole = next_refused c.in_err-put_batch.field-0.0 (g.W.Write.contents c.args.writer.now) (g.W.Write.contents c.loop-batch.writer)
    (g.W.Write.contents c.put_batch.new.writer) before after c.args.schema.now batches c.loop-batch.batch-index batch
    (batch_of_stored (ids_views c.args.ids.now) batch) inside here (ap (λ (ids : IdsList). batch_of_stored ids batch) c.requires.ids)
    c.loop-batch.invariant c.in_err-put_batch.ensures in
    search (rules, whole)

pub returns : goal.returns
returns g c =
    let batches = c.args.batches.now in
    let all : take c.loop-batch.batch-index batches ≡ batches = take_all c.loop-batch.batch-index batches (omega arith) in
    all_put _ _ _ c.args.schema.now batches c.loop-batch.batch-index all c.loop-batch.invariant
