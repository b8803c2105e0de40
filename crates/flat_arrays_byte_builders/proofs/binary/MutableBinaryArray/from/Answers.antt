use Rattle.std.proofs.Common.{rules}
use Rattle.std.proofs.lemmas.Iterator.{YieldsList-from_map_by, YieldsList-from_slice}
use Rattle.std.specs.Option.{option_copied}
use Rattle.std.specs.Prelude.{None, []}
use Rattle.flat_arrays_byte_values_builders.specs.columnar_memory.Spans.{no_spans}
use Rattle.flat_arrays_byte_values_builders.specs.bytes.ByteStrings.{byte_strings}
use Rattle.flat_arrays_byte_values_builders.specs.bytes.Fits.{binary_type}
use Rattle.flat_arrays_byte_values_builders.proofs.Gathered.{gathered_slots}
use Rattle.flat_arrays_byte_builders.proofs.binary.MutableBinaryArray.from.Goals as goal

pub returns : goal.returns
returns g c =
    let empty = byte_strings (binary_type g.O.Offset.IS_LARGE) no_spans [] None in
    gathered_slots c.args.slots.now (YieldsList-from_map_by _ option_copied (λ slot. slot) (YieldsList-from_slice c.args.slots.now (search rules))
    c.map.ensures.closure (λ x r q k. search rules)) g.P.AsSlice.items g.O.Index.greatest empty c.from_iter.result c.from_iter.ensures
