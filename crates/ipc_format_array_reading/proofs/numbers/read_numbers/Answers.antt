-- Floats have no arrays.
use Rattle.std.proofs.Common.{◌≡◌, ◌∙◌, ap, refl, sym, true}
use Rattle.ipc_format_column_writing.specs.columnar_memory.Layouts.{physical_type}
use Rattle.ipc_format_column_writing.specs.columnar_memory.declared.PhysicalType.TheVariants as physical
use Rattle.ipc_format_array_reading.proofs.Taking.{drop_none}
use Rattle.ipc_format_array_reading.proofs.ChildlessLayers.{is_float, none_read}
use Rattle.ipc_format_array_reading.proofs.numbers.read_numbers.Goals as goal

pub returns-in-Float16 : goal.returns-in-Float16
returns-in-Float16 g c =
    let t = c.args.data_type in
    let float : is_float (physical_type t) ≡ true = ap is_float c.requires ∙ ap (λ kind. is_float (physical.Primitive kind)) c.in-Float16.is in (
      (
        (
          refl,
          λ room known. none_read t c.args.field_nodes.now.items c.args.buffers.now.items c.args.is_little_endian c.args.limit
              c.args.block_offset float room,
        ),
        (0, sym (drop_none c.args.field_nodes.now.items)),
        (0, sym (drop_none c.args.buffers.now.items)),
      ),
      tt,
    )

pub returns-in-Float32 : goal.returns-in-Float32
returns-in-Float32 g c =
    let t = c.args.data_type in
    let float : is_float (physical_type t) ≡ true = ap is_float c.requires ∙ ap (λ kind. is_float (physical.Primitive kind)) c.in-Float32.is in (
      (
        (
          refl,
          λ room known. none_read t c.args.field_nodes.now.items c.args.buffers.now.items c.args.is_little_endian c.args.limit
              c.args.block_offset float room,
        ),
        (0, sym (drop_none c.args.field_nodes.now.items)),
        (0, sym (drop_none c.args.buffers.now.items)),
      ),
      tt,
    )

pub returns-in-Float64 : goal.returns-in-Float64
returns-in-Float64 g c =
    let t = c.args.data_type in
    let float : is_float (physical_type t) ≡ true = ap is_float c.requires ∙ ap (λ kind. is_float (physical.Primitive kind)) c.in-Float64.is in (
      (
        (
          refl,
          λ room known. none_read t c.args.field_nodes.now.items c.args.buffers.now.items c.args.is_little_endian c.args.limit
              c.args.block_offset float room,
        ),
        (0, sym (drop_none c.args.field_nodes.now.items)),
        (0, sym (drop_none c.args.buffers.now.items)),
      ),
      tt,
    )
