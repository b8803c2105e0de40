use Rattle.std.proofs.Common.{◌∙◌, ap, sym}
use Rattle.nested_arrays_parts.proofs.SameForms.{moved_ranges}
use Rattle.nested_arrays_parts.specs.FlatNodes.{flat_column}
use Rattle.nested_arrays_parts.proofs.values.same_strings.Goals as goal

pub returns-in-Utf8-Utf8 : goal.returns-in-Utf8-Utf8
returns-in-Utf8-Utf8 c =
    moved_ranges _ _ _ _ c.args.i c.args.j c.args.count _ (sym (ap flat_column c.in-Utf8-Utf8.is-0) ∙ c.left.view_is)
    (sym (ap flat_column c.in-Utf8-Utf8.is-1) ∙ c.right.view_is) c.same_texts.ensures

pub returns-in-LargeUtf8-LargeUtf8 : goal.returns-in-LargeUtf8-LargeUtf8
returns-in-LargeUtf8-LargeUtf8 c =
    moved_ranges _ _ _ _ c.args.i c.args.j c.args.count _ (sym (ap flat_column c.in-LargeUtf8-LargeUtf8.is-0) ∙ c.left.view_is)
    (sym (ap flat_column c.in-LargeUtf8-LargeUtf8.is-1) ∙ c.right.view_is) c.same_texts-in-LargeUtf8-LargeUtf8.ensures

pub returns-in-Binary-Binary : goal.returns-in-Binary-Binary
returns-in-Binary-Binary c =
    moved_ranges _ _ _ _ c.args.i c.args.j c.args.count _ (sym (ap flat_column c.in-Binary-Binary.is-0) ∙ c.left.view_is)
    (sym (ap flat_column c.in-Binary-Binary.is-1) ∙ c.right.view_is) c.same_byte_strings.ensures

pub returns-in-LargeBinary-LargeBinary : goal.returns-in-LargeBinary-LargeBinary
returns-in-LargeBinary-LargeBinary c =
    moved_ranges _ _ _ _ c.args.i c.args.j c.args.count _ (sym (ap flat_column c.in-LargeBinary-LargeBinary.is-0) ∙ c.left.view_is)
    (sym (ap flat_column c.in-LargeBinary-LargeBinary.is-1) ∙ c.right.view_is) c.same_byte_strings-in-LargeBinary-LargeBinary.ensures
