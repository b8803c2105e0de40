use Rattle.std.proofs.Common.{◌≡◌, ◌∙◌, ℕ, ap, arith}
use Rattle.std.specs.Prelude.{◌/◌}
use Rattle.nested_arrays_sized_builders.proofs.nulls_lemmas.arrays_lemmas.columns_lemmas.ColumnSizes.{slots_lengths}
use Rattle.nested_arrays_sized_builders.specs.FixedListBuilders.{FixedListParts, fixed_lists_column}
use Rattle.nested_arrays_sized_builders.specs.nulls.arrays.Lengths.{size_of}
use Rattle.nested_arrays_sized_builders.specs.nulls.columns.StoredColumns.{column_len}
use Rattle.nested_arrays_dictionary_builders.proofs.JoinedFixedLists.{items_cut}
use Rattle.nested_arrays_dictionary_builders.proofs.extends.join_fixed_items.Goals as goal

pub truncate-requires : goal.truncate-requires
truncate-requires g c =
    let old = c.args.lists.now in
    let column = g.M.MutableArray.column in
    let same : column_len (fixed_lists_column column c.extend_fixed_items.new.lists) ≡ column_len (fixed_lists_column column old) =
    ap (λ (p : FixedListParts _). column_len (fixed_lists_column column p)) c.in-Err.ensures.0
    ∙ ap (λ (k : ℕ). k / size_of old.data_type) (c.in-Err.ensures.1.0.long ∙ slots_lengths (column old.values)) in
    omega (arith, c.requires, same)

pub returns-in-Err : goal.returns-in-Err
returns-in-Err g c =
    items_cut g.M.MutableArray.column c.args.lists.now c.extend_fixed_items.new.lists c.truncate.new.self c.args.items.now c.args.held c.in-Err.error
    c.in-Err.ensures.0 c.in-Err.ensures.1.0 c.in-Err.ensures.1.1 c.truncate.ensures.list c.truncate.ensures.items
