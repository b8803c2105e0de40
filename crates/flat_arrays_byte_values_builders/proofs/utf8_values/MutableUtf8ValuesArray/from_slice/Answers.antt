use Rattle.std.proofs.Common.{refl, rules}
use Rattle.std.proofs.lemmas.Iterator.{YieldsList-from_slice}
use Rattle.std.specs.Prelude.{Some, None, []}
use Rattle.flat_arrays_bytes.specs.columnar_memory.Spans.{no_spans}
use Rattle.flat_arrays_bytes.specs.ByteStrings.{byte_strings}
use Rattle.flat_arrays_bytes.specs.Fits.{text_type}
use Rattle.flat_arrays_byte_values_builders.proofs.Gathered.{gathered}
use Rattle.flat_arrays_byte_values_builders.proofs.utf8_values.MutableUtf8ValuesArray.from_slice.Goals as goal

pub returns : goal.returns
returns g c =
    let empty = byte_strings (text_type g.O.Offset.IS_LARGE) no_spans [] None in
    gathered (YieldsList-from_slice c.args.values.now (search rules)) (λ value. Some (g.P.AsStr.text value.now))
    (λ value. Some (g.P.AsStr.text value)) (λ value. refl) g.O.Index.greatest empty c.try_from_iter.result c.try_from_iter.ensures
