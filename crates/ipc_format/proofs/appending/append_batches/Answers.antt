-- One batch behind another.
use Rattle.std.proofs.Common.{rules, ◌≡◌, ◌+◌, ◌<◌, List, take, drop, length, get_or, subst}
use Rattle.std.proofs.lemmas.List.{take_all}
use Rattle.std.specs.Prelude.{Err}
use Rattle.ipc_format_readers.specs.chunk_writing.columns.StoredColumns.{Column}
use Rattle.ipc_format_readers.specs.chunk_writing.metadata.Views.{ids_views}
use Rattle.ipc_format.specs.Appending.{AreAppended, AreNotAppended, batches_of}
use Rattle.ipc_format.specs.FilePhases.{progress_of}
use Rattle.ipc_format.specs.FileRuns.{told_with}
use Rattle.ipc_format.proofs.AppendSteps.{batch_refused, ids_fit_of, more_taken, none_appended, one_appended, parts_of}
use Rattle.ipc_format.proofs.appending.append_batches.Goals as goal

pub loop-columns-init : goal.loop-columns-init
loop-columns-init c told tells =
    none_appended c.args.metadata.now.schema (ids_views c.args.metadata.now.ipc_schema.fields) told (progress_of c.args.file.now)
    c.args.bytes.now.items tells c.requires

pub loop-columns-preserved : goal.loop-columns-preserved
loop-columns-preserved c told tells =
    let schema = c.args.metadata.now.schema in
    let ids = ids_views c.args.metadata.now.ipc_schema.fields in
    let old = progress_of c.args.file.now in
    let new = progress_of c.append_batch.new.file in
    let chunks = c.args.chunks.now in
    let before = c.args.bytes.now.items in
    let after = c.append_batch.new.bytes.items in
    let i = c.loop-columns.columns-index in
    let columns = c.columns-item.result in
    let here : get_or chunks i columns ≡ columns = search rules in
    let inside : i < length chunks = search rules in
    let so_far = c.loop-columns.invariant told tells in
    let next = c.in_ok-append_batch.ensures (told_with told (batches_of ids (take i chunks))) so_far.stand.tells in
    subst (λ (them : List (List Column)). AreAppended old new schema ids told them before after) (more_taken chunks i columns inside here)
    (one_appended schema ids told old (progress_of c.loop-columns.file) new (take i chunks) columns before c.loop-columns.bytes.items after so_far
    next)

pub returns-in_err-append_batch : goal.returns-in_err-append_batch
returns-in_err-append_batch c told tells =
    let schema = c.args.metadata.now.schema in
    let ids = ids_views c.args.metadata.now.ipc_schema.fields in
    let old = progress_of c.args.file.now in
    let chunks = c.args.chunks.now in
    let i = c.loop-columns.columns-index in
    let columns = c.columns-item.result in
    let error = c.in_err-append_batch.field-0.0 in
    let is : c.from_residual.result ≡ Err error = search rules in
    let here : get_or chunks i columns ≡ columns = search rules in
    let inside : i < length chunks = search rules in
    let so_far = c.loop-columns.invariant told tells in
    let why = c.in_err-append_batch.ensures (told_with told (batches_of ids (take i chunks))) so_far.stand.tells in
    rw is (subst (λ (them : List (List Column)). AreNotAppended error old schema ids told them) (parts_of chunks i columns inside here)
    (batch_refused schema ids told old (progress_of c.loop-columns.file) (take i chunks) columns (drop (i + 1) chunks) so_far.stand error
    (ids_fit_of c.args.metadata.now) why))

pub returns : goal.returns
returns c told tells =
    let chunks = c.args.chunks.now in
    let i = c.loop-columns.columns-index in
    let whole : take i chunks ≡ chunks = take_all i chunks c.loop-columns-test.false in
    subst (λ (them : List (List Column)). AreAppended (progress_of c.args.file.now) (progress_of c.loop-columns.file) c.args.metadata.now.schema
    (ids_views c.args.metadata.now.ipc_schema.fields) told them c.args.bytes.now.items c.loop-columns.bytes.items) whole
    (c.loop-columns.invariant told tells)
