use Rattle.std.proofs.Common.{◌∙◌, ap, sym, pos, List}
use Rattle.std.specs.Prelude.{ℤ, slice_index_or}
use Rattle.nested_arrays_parts.specs.columns.StoredColumns.{place_of}
use Rattle.nested_arrays_parts.specs.flat.Primitives.{column_of}
use Rattle.nested_arrays_parts.specs.Keys.{numbers_in}
use Rattle.nested_arrays_arrays.specs.declared.any.DictionaryNode.{DictionaryNode}
use Rattle.nested_arrays_arrays.proofs.keys.key_at.Goals as goal

pub returns-in-Int8 : goal.returns-in-Int8
returns-in-Int8 c = c.key_in.ensures
    ∙ ap (λ (found : List ℤ). place_of (slice_index_or found c.args.i (pos 0)))
    (ap numbers_in (ap column_of (sym c.in-Int8.is) ∙ ap (λ (node : DictionaryNode). node.keys) c.node.view_is))

pub returns-in-Int16 : goal.returns-in-Int16
returns-in-Int16 c = c.key_in-in-Int16.ensures
    ∙ ap (λ (found : List ℤ). place_of (slice_index_or found c.args.i (pos 0)))
    (ap numbers_in (ap column_of (sym c.in-Int16.is) ∙ ap (λ (node : DictionaryNode). node.keys) c.node.view_is))

pub returns-in-Int32 : goal.returns-in-Int32
returns-in-Int32 c = c.key_in-in-Int32.ensures
    ∙ ap (λ (found : List ℤ). place_of (slice_index_or found c.args.i (pos 0)))
    (ap numbers_in (ap column_of (sym c.in-Int32.is) ∙ ap (λ (node : DictionaryNode). node.keys) c.node.view_is))

pub returns-in-Int64 : goal.returns-in-Int64
returns-in-Int64 c = c.key_in-in-Int64.ensures
    ∙ ap (λ (found : List ℤ). place_of (slice_index_or found c.args.i (pos 0)))
    (ap numbers_in (ap column_of (sym c.in-Int64.is) ∙ ap (λ (node : DictionaryNode). node.keys) c.node.view_is))

pub returns-in-UInt8 : goal.returns-in-UInt8
returns-in-UInt8 c = c.key_in-in-UInt8.ensures
    ∙ ap (λ (found : List ℤ). place_of (slice_index_or found c.args.i (pos 0)))
    (ap numbers_in (ap column_of (sym c.in-UInt8.is) ∙ ap (λ (node : DictionaryNode). node.keys) c.node.view_is))

pub returns-in-UInt16 : goal.returns-in-UInt16
returns-in-UInt16 c = c.key_in-in-UInt16.ensures
    ∙ ap (λ (found : List ℤ). place_of (slice_index_or found c.args.i (pos 0)))
    (ap numbers_in (ap column_of (sym c.in-UInt16.is) ∙ ap (λ (node : DictionaryNode). node.keys) c.node.view_is))

pub returns-in-UInt32 : goal.returns-in-UInt32
returns-in-UInt32 c = c.key_in-in-UInt32.ensures
    ∙ ap (λ (found : List ℤ). place_of (slice_index_or found c.args.i (pos 0)))
    (ap numbers_in (ap column_of (sym c.in-UInt32.is) ∙ ap (λ (node : DictionaryNode). node.keys) c.node.view_is))

pub returns-in-UInt64 : goal.returns-in-UInt64
returns-in-UInt64 c = c.key_in-in-UInt64.ensures
    ∙ ap (λ (found : List ℤ). place_of (slice_index_or found c.args.i (pos 0)))
    (ap numbers_in (ap column_of (sym c.in-UInt64.is) ∙ ap (λ (node : DictionaryNode). node.keys) c.node.view_is))
