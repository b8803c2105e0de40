-- A schema that is written is a table's where its one form is the schema.
use Rattle.std.proofs.Common.{◌≡◌, ◌∙◌, true, false, rules, sym}
use Rattle.ipc_format.specs.Writable.{is_writable, normalised}
use Rattle.tables_chunks.proofs.TableForms.{not_written, form_decides}
use Rattle.tables_chunks.proofs.batches.is_table_schema.Goals as goal

pub returns-then-not-can_write : goal.returns-then-not-can_write
returns-then-not-can_write c = not_written c.args.schema.now (search rules)

pub returns : goal.returns
returns c =
    let written : is_writable c.args.schema.now ≡ true = search rules in
    let normal : c.in_ok-normal.normal ≡ normalised c.args.schema.now = search rules in
    form_decides c.args.schema.now c.in_ok-normal.normal _ written normal (search rules)
