-- The table has the batches that were gathered, under the chosen fields.
use Rattle.std.proofs.Common.{rules, ◌≡◌, List, sym, subst}
use Rattle.std.specs.Prelude.{Ok, Err}
use Rattle.tables_chunks.specs.Faults.{fault_of}
use Rattle.tables_chunks.specs.Messages.{layout_by}
use Rattle.tables_chunks.specs.ipc_format.FileEntries.{entries_of}
use Rattle.tables_chunks.specs.ipc_format.Readable.{HasArrays}
use Rattle.tables_chunks.specs.ipc_format.columnar_memory.declared.Field.{Field}
use Rattle.tables_rows.specs.Gathered.{GathersBatches, GathersTable}
use Rattle.tables_rows.specs.Orders.{asked}
use Rattle.tables_rows.proofs.GatheredTables.{gathered_alike, gathered_fault, gathered_table, picked_fields, picked_form, picked_of}
use Rattle.tables_rows.proofs.read_choice.gather_table.Goals as goal

pub gather_batches-requires-clause-arrays : goal.gather_batches-requires-clause-arrays
gather_batches-requires-clause-arrays c =
    let fields : c.as_slice.result.now ≡ c.args.schema.now.fields = search rules in
    subst (λ (fs : List Field). HasArrays (layout_by fs c.args.ipc_schema.now)) (sym fields) c.requires.arrays

pub returns-in_err-chunks : goal.returns-in_err-chunks
returns-in_err-chunks c =
    let schema = c.args.schema.now in
    let layout = layout_by schema.fields c.args.ipc_schema.now in
    let columns = c.args.columns.now in
    let entries = entries_of c.args.entries.now in
    let error = c.in_err-chunks.field-0.0 in
    let fields : c.as_slice.result.now ≡ schema.fields = search rules in
    let order : asked c.in_ok-order.order ≡ columns = search rules in
    let found : GathersBatches (layout_by c.as_slice.result.now c.args.ipc_schema.now) (asked c.in_ok-order.order) c.args.limit entries (Err error) =
    search rules in
    let gathered : GathersBatches layout columns c.args.limit entries (Err error) =
    gathered_alike c.as_slice.result.now schema.fields (asked c.in_ok-order.order) columns c.args.ipc_schema.now c.args.limit entries
    (Err error) fields order found in
    let whole : GathersTable schema layout columns c.args.limit entries (Err (fault_of error)) =
    gathered_fault error schema layout columns c.args.limit entries gathered in
    search (rules, whole)

pub of_batches-requires-clause-form : goal.of_batches-requires-clause-form
of_batches-requires-clause-form c =
    let schema = c.args.schema.now in
    let columns = c.args.columns.now in
    let picked : c.in_ok-picked.picked ≡ picked_of schema columns = search rules in
    picked_form schema c.in_ok-picked.picked columns picked c.requires.form c.requires.distinct c.requires.below

pub of_batches-requires-clause-fields : goal.of_batches-requires-clause-fields
of_batches-requires-clause-fields c =
    let schema = c.args.schema.now in
    let columns = c.args.columns.now in
    let entries = entries_of c.args.entries.now in
    let chunks = c.in_ok-chunks.chunks in
    let picked : c.in_ok-picked.picked ≡ picked_of schema columns = search rules in
    let fields : c.as_slice.result.now ≡ schema.fields = search rules in
    let order : asked c.in_ok-order.order ≡ columns = search rules in
    let found : GathersBatches (layout_by c.as_slice.result.now c.args.ipc_schema.now) (asked c.in_ok-order.order) c.args.limit entries (Ok chunks) =
    search rules in
    let gathered : GathersBatches (layout_by schema.fields c.args.ipc_schema.now) columns c.args.limit entries (Ok chunks) =
    gathered_alike c.as_slice.result.now schema.fields (asked c.in_ok-order.order) columns c.args.ipc_schema.now c.args.limit entries
    (Ok chunks) fields order found in
    picked_fields schema c.in_ok-picked.picked columns chunks.items picked gathered.1

pub returns : goal.returns
returns c =
    let schema = c.args.schema.now in
    let layout = layout_by schema.fields c.args.ipc_schema.now in
    let columns = c.args.columns.now in
    let entries = entries_of c.args.entries.now in
    let chunks = c.in_ok-chunks.chunks in
    let picked : c.in_ok-picked.picked ≡ picked_of schema columns = search rules in
    let fields : c.as_slice.result.now ≡ schema.fields = search rules in
    let order : asked c.in_ok-order.order ≡ columns = search rules in
    let found : GathersBatches (layout_by c.as_slice.result.now c.args.ipc_schema.now) (asked c.in_ok-order.order) c.args.limit entries (Ok chunks) =
    search rules in
    let gathered : GathersBatches layout columns c.args.limit entries (Ok chunks) =
    gathered_alike c.as_slice.result.now schema.fields (asked c.in_ok-order.order) columns c.args.ipc_schema.now c.args.limit entries
    (Ok chunks) fields order found in
    gathered_table schema c.in_ok-picked.picked layout columns c.args.limit entries chunks c.of_batches.result picked gathered
    c.of_batches.ensures
