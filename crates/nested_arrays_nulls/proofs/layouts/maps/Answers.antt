use Rattle.std.proofs.Common.{◌≡◌, rules}
use Rattle.std.specs.Prelude.{Some}
use Rattle.nested_arrays_iterators.specs.columnar_memory.Spans.{offsets_of}
use Rattle.nested_arrays_iterators.specs.columnar_memory.declared.PhysicalType.TheVariants as physical
use Rattle.nested_arrays_iterators.specs.columns.StoredColumns.{lists}
use Rattle.nested_arrays_nulls.specs.NullColumns.{no_items, no_marks}
use Rattle.nested_arrays_nulls.proofs.LayoutNulls.{checked_made_as, lists_stored}
use Rattle.nested_arrays_nulls.proofs.layouts.maps.Goals as goal

pub returns : goal.returns
returns c =
    let t = c.args.data_type in
    let n = c.args.length in
    let parts = c.in_ok-parts.parts in
    let made = c.in_ok-parts.ensures in
    let child = c.in_ok-entries.entries.value in
    let moved : child ≡ c.args.entries = search rules in
    checked_made_as physical.Map (lists t (Some parts.1) (offsets_of parts.0) child) (lists t (no_marks n) (no_items n) c.args.entries)
    c.try_new.result c.requires (lists_stored t parts.1 parts.0 child c.args.entries n made.1 made.0 moved) c.try_new.ensures
