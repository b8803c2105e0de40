use Rattle.std.proofs.Common.{◌≡◌, ◌∙◌, ap, arith, length, sym, true}
use Rattle.std.specs.Prelude.{◌/◌, ◌%◌}
use Rattle.std.specs.List.{list_all}
use Rattle.nested_arrays_generic_builders.specs.nulls.columns.SoundColumns.{is_byte, mask_fits}
use Rattle.nested_arrays_generic_builders.specs.nulls.flat.FlatColumns.{byte_width}
use Rattle.nested_arrays_generic_builders.specs.cells.parts.Marks.{marks}
use Rattle.nested_arrays_generic_builders.proofs.nulls_lemmas.flat_lemmas.FixedWidths.{tested}
use Rattle.nested_arrays_sized_builders.specs.SizedStrings.{sized_parts}
use Rattle.nested_arrays_sized_builders.proofs.sized_strings.MutableFixedSizeBinaryArray.try_new.Goals as goal

pub returns : goal.returns
returns c =
    let items = c.args.values.items in
    let t = c.args.data_type in
    let wide : c.get_size-size.result ≡ byte_width t = c.get_size-size.ensures in
    let long : c.len.result ≡ length items = omega (arith, c.len.ensures, c.deref.ensures.len, ap length c.deref.ensures.value) in
    let longs : c.len-2.result ≡ length items = omega (arith, c.len-2.ensures, c.deref.ensures.len, ap length c.deref.ensures.value) in
    let count : c.len-2.result / c.get_size-size.result ≡ length items / byte_width t = (λ j. longs j / wide j) in
    let rest : c.len.result % c.get_size-size.result ≡ 0 = omega (arith, c.if-len-size-ne0.false) in
    let whole : length items % byte_width t ≡ 0 = (λ j. sym long j % sym wide j) ∙ rest in
    let each : list_all is_byte items ≡ true = ap (list_all is_byte) (sym c.deref.ensures.value) ∙ c.read_bytes.ensures in
    let fits : mask_fits c.args.validity (length items / byte_width t) ≡ true =
    ap (mask_fits c.args.validity) (sym count) ∙ sym c.has_length.ensures ∙ c.if-not-has_length.false in (
      (λ j. sized_parts t ((c.in_ok-marks.ensures ∙ ap (λ n. marks n c.args.validity) count) j) items),
      tested t items c.args.validity (λ none. omega (arith, none, wide, c.if-size-eq0.false)) whole each fits,
    )
