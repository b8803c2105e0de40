use Rattle.std.proofs.Common.{◌≡◌, ◌∙◌, ap, inl, map, rules}
use Rattle.std.specs.Prelude.{Err, Some, None, []}
use Rattle.flat_arrays_byte_values_builders.specs.columnar_memory.Spans.{no_spans}
use Rattle.flat_arrays_byte_values_builders.specs.bytes.ByteStrings.{byte_strings}
use Rattle.flat_arrays_byte_values_builders.specs.bytes.Fits.{binary_type}
use Rattle.flat_arrays_byte_values_builders.proofs.Gathered.{refused}
use Rattle.flat_arrays_byte_values_builders.specs.Growing.{with_slots}
use Rattle.flat_arrays_byte_builders.proofs.binary.MutableBinaryArray.from_iter_values.Goals as goal

pub returns-in_err-builder : goal.returns-in_err-builder
returns-in_err-builder g c =
    let is : c.from_residual.result ≡ Err c.in_err-builder.field-0.0 = search rules in
    rw is (inl c.in_err-builder.ensures)

pub returns-in_err-extend_values : goal.returns-in_err-extend_values
returns-in_err-extend_values g c =
    let is : c.from_residual-in_err-extend_values.result ≡ Err c.in_err-extend_values.field-0.0 = search rules in
    let empty = byte_strings (binary_type g.O.Offset.IS_LARGE) no_spans [] None in
    rw is (refused g.I.Iterator.next_gives (λ value. Some (g.P.AsSlice.items value)) g.O.Index.greatest empty c.in_ok-builder.builder
    c.extend_values.new.self c.args.values c.in_err-extend_values.field-0.0 c.in_ok-builder.ensures c.in_err-extend_values.ensures)

pub returns : goal.returns
returns g c =
    let run = c.in_ok-extend_values.ensures in
    let items = map (λ value. Some (g.P.AsSlice.items value)) run.0.items in
    (run.0, run.1, run.2, run.3 ∙ ap (λ empty. with_slots empty items) c.in_ok-builder.ensures)
