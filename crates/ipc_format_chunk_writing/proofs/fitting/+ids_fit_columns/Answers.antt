use Rattle.std.proofs.Common.{◌≡◌, ◌∙◌, ◌∷◌, length, arith, refl, rules, sym}
use Rattle.std.specs.Prelude.{nat_eq}
use Rattle.ipc_format_batch_reading.specs.grammar.Schemas.{ids}
use Rattle.ipc_format_batch_reading.specs.metadata.Views.{ids_views}
use Rattle.ipc_format_chunk_writing.proofs.Fitted.{column_with, column_without}
use Rattle.ipc_format_chunk_writing.proofs.fitting.+ids_fit_columns.Goals as goal

pub returns-then-is_empty : goal.returns-then-is_empty
returns-then-is_empty t c =
    let is : c.args.arrays.now ≡ c.in-Some.array.now ∷ c.in-Some.arrays.now = search rules in
    column_without c.args.arrays.now c.in-Some.arrays.now c.in-Some.array.now c.args.beside.now is (sym c.is_empty.ensures ∙ c.if-is_empty.true)

pub returns-then-not-type_fits : goal.returns-then-not-type_fits
returns-then-not-type_fits t c =
    let is : c.args.arrays.now ≡ c.in-Some.array.now ∷ c.in-Some.arrays.now = search rules in
    let here = c.first_beside-here.result in
    let whole = column_with c.args.arrays.now c.in-Some.arrays.now c.in-Some.array.now c.args.beside.now c.data_type.result.now
    (ids here.own (ids_views here.below.now)) (ids_views here.others.now) c.type_fits.result _ is (sym c.is_empty.ensures ∙ c.if-is_empty.false)
    c.data_type.ensures c.first_beside-here.ensures.first c.first_beside-here.ensures.others c.type_fits.ensures refl in
    search (rules, whole)

pub returns : goal.returns
returns t c =
    let is : c.args.arrays.now ≡ c.in-Some.array.now ∷ c.in-Some.arrays.now = search rules in
    let here = c.first_beside-here.result in
    let whole = column_with c.args.arrays.now c.in-Some.arrays.now c.in-Some.array.now c.args.beside.now c.data_type.result.now
    (ids here.own (ids_views here.below.now)) (ids_views here.others.now) c.type_fits.result c.ids_fit_columns.result is
    (sym c.is_empty.ensures ∙ c.if-is_empty.false) c.data_type.ensures c.first_beside-here.ensures.first c.first_beside-here.ensures.others
    c.type_fits.ensures c.ids_fit_columns.ensures in
    search (rules, whole)
