use Rattle.std.proofs.Common.{refl, rules}
use Rattle.std.specs.Prelude.{Err}
use Rattle.ipc_format_messages.specs.flatbuffers.Views.{Lays}
use Rattle.ipc_format_messages.specs.metadata.Views.{ids_views}
use Rattle.ipc_format_writing.proofs.Laid.{part-refused}
use Rattle.ipc_format_writing.proofs.LaidFooter.{header_of, vector_of, footer_slots}
use Rattle.ipc_format_writing.proofs.footers.lay_footer.Goals as goal

pub returns-in_err-header : goal.returns-in_err-header
returns-in_err-header c =
    let slots = footer_slots c.args.schema.now (ids_views c.args.ipc_fields.now) c.args.dictionaries.now c.args.record_batches.now in
    let part = header_of c.args.schema.now (ids_views c.args.ipc_fields.now) in
    let given : Lays (Err c.in_err-header.field-0.0) part = search rules in
    let whole = part-refused c.in_err-header.field-0.0 slots 1 part refl given in
    search (rules, whole)

pub returns-in_err-dictionaries : goal.returns-in_err-dictionaries
returns-in_err-dictionaries c =
    let slots = footer_slots c.args.schema.now (ids_views c.args.ipc_fields.now) c.args.dictionaries.now c.args.record_batches.now in
    let part = vector_of c.args.dictionaries.now in
    let given : Lays (Err c.in_err-dictionaries.field-0.0) part = search rules in
    let whole = part-refused c.in_err-dictionaries.field-0.0 slots 2 part refl given in
    search (rules, whole)

pub returns-in_err-record_batches : goal.returns-in_err-record_batches
returns-in_err-record_batches c =
    let slots = footer_slots c.args.schema.now (ids_views c.args.ipc_fields.now) c.args.dictionaries.now c.args.record_batches.now in
    let part = vector_of c.args.record_batches.now in
    let given : Lays (Err c.in_err-record_batches.field-0.0) part = search rules in
    let whole = part-refused c.in_err-record_batches.field-0.0 slots 3 part refl given in
    search (rules, whole)
