use Rattle.std.proofs.Common.{◌∙◌, sym}
use Rattle.ipc_format_writing.specs.Floats as floats
use Rattle.ipc_format_writing.proofs.FloatLists.{found}
use Rattle.ipc_format_writing.proofs.fitting.+floats.Goals as goal

pub floats_in_fields-returns-then-floats_in_field : goal.floats_in_fields-returns-then-floats_in_field
floats_in_fields-returns-then-floats_in_field t c =
    sym (found floats.in_field c.args.fields.now c.loop-field.field-index c.field-item.result c.loop-field-test.true c.field-item.is (sym
    c.floats_in_field.ensures ∙ c.if-floats_in_field.true))
