use Rattle.std.proofs.Common.{refl, rules}
use Rattle.std.proofs.lemmas.Iterator.{YieldsList-from_slice}
use Rattle.std.specs.Prelude.{Some, None, []}
use Rattle.flat_arrays_byte_values_builders.specs.columnar_memory.Spans.{no_spans}
use Rattle.flat_arrays_byte_values_builders.specs.bytes.ByteStrings.{byte_strings}
use Rattle.flat_arrays_byte_values_builders.specs.bytes.Fits.{text_type}
use Rattle.flat_arrays_byte_values_builders.proofs.Gathered.{gathered}
use Rattle.flat_arrays_byte_builders.proofs.utf8.MutableUtf8Array.from_slice.Goals as goal

pub returns : goal.returns
returns g c =
    let empty = byte_strings (text_type g.O.Offset.IS_LARGE) no_spans [] None in
    gathered (YieldsList-from_slice c.args.values.now (search rules)) (λ value. Some (g.P.AsStr.text value.now))
    (λ value. Some (g.P.AsStr.text value)) (λ value. refl) g.O.Index.greatest empty c.from_iter_values.result c.from_iter_values.ensures
