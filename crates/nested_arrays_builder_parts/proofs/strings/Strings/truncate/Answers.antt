use Rattle.std.proofs.Common.{◌≡◌, ◌∙◌, ap, sym, take, pos}
use Rattle.nested_arrays_core.specs.arrays.columnar_memory.Spans.{last_of}
use Rattle.nested_arrays_core.specs.arrays.flat_arrays.ByteStrings.{cut_by}
use Rattle.nested_arrays_builder_parts.proofs.StringLists.{first_kept, first_view}
use Rattle.nested_arrays_builder_parts.proofs.strings.Strings.truncate.Goals as goal

pub invariant_of-self : goal.invariant_of-self
invariant_of-self g c =
    let old = c.self.inside in
    first_kept (cut_by old.offsets.lengths old.bytes.items) old.offsets old.bytes.items c.self.invariant c.args.len
    c.keep_spans.new.offsets c.truncate.new.self.items c.keep_spans.ensures
    (c.truncate.ensures.items ∙ ap (λ n. take n old.bytes.items) c.end_of-end.ensures)

pub returns : goal.returns
returns g c =
    let old = c.self.inside in
    first_view (cut_by old.offsets.lengths old.bytes.items) old.offsets old.bytes.items c.self.invariant c.args.len
    c.keep_spans.new.offsets c.truncate.new.self.items c.keep_spans.ensures
    (c.truncate.ensures.items ∙ ap (λ n. take n old.bytes.items) c.end_of-end.ensures)
    ∙ ap (take c.args.len) c.self.view_is
