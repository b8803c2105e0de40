use Rattle.std.proofs.Common.{◌≡◌, ◌∙◌, ap, inl, map, rules}
use Rattle.std.specs.Prelude.{Err, None, [], option_map}
use Rattle.flat_arrays_byte_values_builders.specs.columnar_memory.Spans.{no_spans}
use Rattle.flat_arrays_byte_values_builders.specs.bytes.ByteStrings.{byte_strings}
use Rattle.flat_arrays_byte_values_builders.specs.bytes.Fits.{binary_type}
use Rattle.flat_arrays_byte_values_builders.proofs.Gathered.{refused}
use Rattle.flat_arrays_byte_values_builders.specs.Growing.{with_slots}
use Rattle.flat_arrays_byte_builders.proofs.binary.MutableBinaryArray.from_iter.Goals as goal

pub returns-in_err-builder : goal.returns-in_err-builder
returns-in_err-builder g c =
    let is : c.from_residual.result ≡ Err c.in_err-builder.field-0.0 = search rules in
    rw is (inl c.in_err-builder.ensures)

pub returns-in_err-try_extend : goal.returns-in_err-try_extend
returns-in_err-try_extend g c =
    let is : c.from_residual-in_err-try_extend.result ≡ Err c.in_err-try_extend.field-0.0 = search rules in
    let empty = byte_strings (binary_type g.O.Offset.IS_LARGE) no_spans [] None in
    rw is (refused g.I.Iterator.next_gives (option_map g.P.AsSlice.items) g.O.Index.greatest empty c.in_ok-builder.builder
    c.try_extend.new.self c.args.slots c.in_err-try_extend.field-0.0 c.in_ok-builder.ensures c.in_err-try_extend.ensures)

pub returns : goal.returns
returns g c =
    let run = c.in_ok-try_extend.ensures in
    let items = map (option_map g.P.AsSlice.items) run.0.items in
    (run.0, run.1, run.2, run.3 ∙ ap (λ empty. with_slots empty items) c.in_ok-builder.ensures)
