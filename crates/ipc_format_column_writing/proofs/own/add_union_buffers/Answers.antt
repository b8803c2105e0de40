use Rattle.std.proofs.Common.{◌≡◌, ◌∙◌, ◌+◌, List, ap, sym}
use Rattle.std.specs.Prelude.{ℤ, Option, Some, None, slice_range}
use Rattle.std.proofs.lemmas.Result.{err_from_is_err_and}
use Rattle.nested_arrays_core.specs.Parts.{column_ids, column_places}
use Rattle.ipc_format_column_reading.specs.column_bytes.Bodies.{parts_of}
use Rattle.ipc_format_column_reading.specs.column_bytes.columns.StoredColumns.{column_type, cut_list, in_columns, unions}
use Rattle.ipc_format_column_writing.proofs.Unions.{dense_begun, ids_refused, places_refused, sparse_begun, union_range}
use Rattle.ipc_format_column_writing.proofs.own.add_union_buffers.Goals as goal

pub returns-in_err-add_numbers-clause-begun : goal.returns-in_err-add_numbers-clause-begun
returns-in_err-add_numbers-clause-begun c =
    let a = c.args.array.now in
    let first = c.args.first in
    let count = c.args.count in
    let p = err_from_is_err_and c.from_residual.result c.from_residual.ensures.1 in
    rw (p.1, p.2) (ids_refused a c.in_err-add_numbers.field-0.0 c.args.body.now (parts_of c.add_numbers.new.self) c.args.is_little_endian
    (column_type a) (column_ids a) (slice_range c.as_slice.result.now first (first + count)) (column_places a)
    (in_columns c.fields-fields.result.now) first count c.fields-fields.ensures
    (ap (λ (xs : List ℤ). cut_list xs first count) (c.as_slice.ensures ∙ c.types.ensures)) c.in_err-add_numbers.ensures)

pub returns-in_err-add_numbers-in-Some-clause-begun : goal.returns-in_err-add_numbers-in-Some-clause-begun
returns-in_err-add_numbers-in-Some-clause-begun c =
    let a = c.args.array.now in
    let t = column_type a in
    let first = c.args.first in
    let count = c.args.count in
    let children = in_columns c.fields-fields.result.now in
    let places = c.in-Some.offsets.now in
    let is : a ≡ unions t (column_ids a) (Some places) children =
    c.fields-fields.ensures ∙ ap (λ (p : Option (List ℤ)). unions t (column_ids a) p children) (sym c.in-Some.ensures) in
    let p = err_from_is_err_and c.from_residual-in_err-add_numbers-in-Some.result c.from_residual-in_err-add_numbers-in-Some.ensures.1 in
    rw (p.1, p.2) (places_refused a c.in_err-add_numbers-in-Some.field-0.0 c.args.body.now (parts_of c.add_numbers.new.self)
    (parts_of c.add_numbers-in-Some.new.self) c.args.is_little_endian t (column_ids a) places
    (slice_range c.as_slice.result.now first (first + count)) (slice_range c.as_slice-in-Some.result.now first (first + count)) children first count
    is (ap (λ (xs : List ℤ). cut_list xs first count) (c.as_slice.ensures ∙ c.types.ensures))
    (ap (λ (xs : List ℤ). cut_list xs first count) c.as_slice-in-Some.ensures) c.in_ok-add_numbers.ensures c.in_err-add_numbers-in-Some.ensures)

pub returns-in_ok-add_numbers-in-Some-clause-begun : goal.returns-in_ok-add_numbers-in-Some-clause-begun
returns-in_ok-add_numbers-in-Some-clause-begun c =
    let a = c.args.array.now in
    let t = column_type a in
    let first = c.args.first in
    let count = c.args.count in
    let children = in_columns c.fields-fields.result.now in
    let places = c.in-Some.offsets.now in
    let is : a ≡ unions t (column_ids a) (Some places) children =
    c.fields-fields.ensures ∙ ap (λ (p : Option (List ℤ)). unions t (column_ids a) p children) (sym c.in-Some.ensures) in
    dense_begun a c.args.body.now (parts_of c.add_numbers.new.self) (parts_of c.add_numbers-in-Some.new.self) c.args.is_little_endian t
    (column_ids a) places (slice_range c.as_slice.result.now first (first + count))
    (slice_range c.as_slice-in-Some.result.now first (first + count)) children first count is
    (ap (λ (xs : List ℤ). cut_list xs first count) (c.as_slice.ensures ∙ c.types.ensures))
    (ap (λ (xs : List ℤ). cut_list xs first count) c.as_slice-in-Some.ensures) c.in_ok-add_numbers.ensures c.in_ok-add_numbers-in-Some.ensures

pub returns-in-None-clause-begun : goal.returns-in-None-clause-begun
returns-in-None-clause-begun c =
    let a = c.args.array.now in
    let t = column_type a in
    let first = c.args.first in
    let count = c.args.count in
    let children = in_columns c.fields-fields.result.now in
    let is : a ≡ unions t (column_ids a) None children =
    c.fields-fields.ensures ∙ ap (λ (p : Option (List ℤ)). unions t (column_ids a) p children) (sym c.in-None.ensures) in
    sparse_begun a c.args.body.now (parts_of c.add_numbers.new.self) c.args.is_little_endian t (column_ids a)
    (slice_range c.as_slice.result.now first (first + count)) children first count is
    (ap (λ (xs : List ℤ). cut_list xs first count) (c.as_slice.ensures ∙ c.types.ensures)) c.in_ok-add_numbers.ensures

pub returns-in-None-clause-fields : goal.returns-in-None-clause-fields
returns-in-None-clause-fields c =
    let a = c.args.array.now in
    let t = column_type a in
    let children = in_columns c.fields-fields.result.now in
    let is : a ≡ unions t (column_ids a) None children =
    c.fields-fields.ensures ∙ ap (λ (p : Option (List ℤ)). unions t (column_ids a) p children) (sym c.in-None.ensures) in
    union_range a t (column_ids a) children c.args.first c.args.count is c.whole.ensures c.requires
