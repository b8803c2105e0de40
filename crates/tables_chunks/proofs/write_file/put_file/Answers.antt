-- The start, the batches, the footer and the end behind one another.
use Rattle.std.proofs.Common.{rules, ◌∙◌, ap}
use Rattle.ipc_format.specs.Ids.{default_ids}
use Rattle.ipc_format.specs.metadata.Views.{ids_views}
use Rattle.tables_chunks.specs.WrittenFiles.{places_of}
use Rattle.tables_chunks.proofs.PutFiles.{file_batches_stopped, file_ended, file_footer_stopped, file_ids_stopped, file_start_stopped}
use Rattle.tables_chunks.proofs.write_file.put_file.Goals as goal

pub returns-in_err-ids : goal.returns-in_err-ids
returns-in_err-ids g c =
    let whole = file_ids_stopped c.in_err-ids.field-0.0 (g.W.Write.contents c.args.writer.now) c.args.schema.now c.args.batches.now
    c.in_err-ids.ensures in
    search (rules, whole)

pub put_file_start-requires-clause-ids : goal.put_file_start-requires-clause-ids
put_file_start-requires-clause-ids g c = ap ids_views c.deref.ensures.value ∙ c.in_ok-ids.ensures ∙ ap default_ids c.as_slice.ensures

pub returns-in_err-place : goal.returns-in_err-place
returns-in_err-place g c =
    let whole = file_start_stopped c.in_err-place.field-0.0 _ _ c.args.schema.now c.args.batches.now c.in_err-place.ensures in
    search (rules, whole)

pub put_file_batches-requires : goal.put_file_batches-requires
put_file_batches-requires g c = ap ids_views c.deref-2.ensures.value ∙ c.in_ok-ids.ensures ∙ ap default_ids c.as_slice.ensures

pub returns-in_err-places : goal.returns-in_err-places
returns-in_err-places g c =
    let whole = file_batches_stopped c.in_err-places.field-0.0 _ _ _ c.args.schema.now c.args.batches.now _ c.in_ok-place.ensures
    c.in_err-places.ensures in
    search (rules, whole)

pub table_footer-requires-clause-ids : goal.table_footer-requires-clause-ids
table_footer-requires-clause-ids g c = ap ids_views c.deref-3.ensures.value ∙ c.in_ok-ids.ensures ∙ ap default_ids c.as_slice.ensures

pub returns-in_err-footer : goal.returns-in_err-footer
returns-in_err-footer g c =
    let whole = file_footer_stopped c.in_err-footer.field-0.0 _ _ _ c.args.schema.now c.args.batches.now _ (places_of c.in_ok-places.places)
    c.in_ok-place.ensures c.in_ok-places.ensures c.in_err-footer.ensures in
    search (rules, whole)

pub returns : goal.returns
returns g c =
    file_ended c.put_file_end.result _ _ _ _ c.args.schema.now c.args.batches.now _ (places_of c.in_ok-places.places) c.in_ok-footer.footer _
    c.in_ok-place.ensures c.in_ok-places.ensures c.in_ok-footer.ensures c.deref-4.ensures.value c.put_file_end.ensures
