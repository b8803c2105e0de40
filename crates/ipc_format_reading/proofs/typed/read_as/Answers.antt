-- A column whose arrays lie in memory in a given way.
use Rattle.std.proofs.Common.{◌≡◌, false, true, inr, refl, sym}
use Rattle.std.specs.Prelude.{is_some}
use Rattle.std.proofs.lemmas.Bool.{true≢false}
use Rattle.ipc_format_array_reading.specs.ReadArrays.{at_front, standing_in}
use Rattle.ipc_format_array_reading.specs.messages.MessageViews.{version_view}
use Rattle.ipc_format_array_reading.specs.metadata.Views.{ids_view}
use Rattle.ipc_format_reading.proofs.KindReads.{of_kind}
use Rattle.ipc_format_reading.proofs.typed.read_as.Goals as goal

pub returns-then-is_laid : goal.returns-then-is_laid
returns-then-is_laid g c =
    let version = version_view c.args.version in
    let nodes = c.args.field_nodes.now.items in
    let buffers = c.args.buffers.now.items in
    of_kind c.args.layout (is_some c.args.compression) (g.R.Room.told c.args.reader.now) (g.R.Room.told c.read_type.new.reader)
    c.args.data_type.now (at_front nodes buffers version c.args.is_little_endian (standing_in c.args.dictionaries.now) c.args.limit
    c.args.block_offset (ids_view c.args.ipc_field.now)) version nodes c.read_type.new.field_nodes.items buffers c.read_type.new.buffers.items
    c.read_type.result (c.is_laid.ensures.0 c.if-is_laid.true) c.read_type.ensures
