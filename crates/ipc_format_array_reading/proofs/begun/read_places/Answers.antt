-- The places of a dense union.
use Rattle.std.proofs.Common.{◌∙◌, List, map, refl, ap}
use Rattle.std.specs.Prelude.{Option, Some}
use Rattle.ipc_format_column_writing.specs.column_reading.columnar_memory.Numbers.{Numbers, first_number}
use Rattle.ipc_format_column_writing.specs.column_reading.flatbuffers.Reading.{◌>>=◌}
use Rattle.ipc_format_array_reading.specs.Parts.{next_places}
use Rattle.ipc_format_array_reading.proofs.UnionReads.{ones_back}
use Rattle.ipc_format_array_reading.proofs.begun.read_places.Goals as goal

pub returns-in_ok-places-in-Dense-clause-read : goal.returns-in_ok-places-in-Dense-clause-read
returns-in_ok-places-in-Dense-clause-read g c =
    let read = c.in_ok-places-in-Dense.ensures.read in (
      refl,
      read.1,
      λ room told.
          ap (λ mode. next_places mode c.args.is_little_endian c.args.buffers.now.items c.args.block_offset c.args.count room) c.in-Dense.is
          ∙ ap (λ (r : Option (List Numbers)). r >>= (λ values. Some (Some (map first_number values)))) (read.2 room told)
          ∙ ap (λ xs. Some (Some xs)) (ones_back c.in_ok-places-in-Dense.places),
    )
