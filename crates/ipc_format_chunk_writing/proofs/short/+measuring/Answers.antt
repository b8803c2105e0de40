-- A column's own length, and those below it.
use Rattle.std.proofs.Common.{rules, ◌≡◌, ◌∙◌, ◌∷◌, ◌+◌, ◌<◌, ◌≤◌, true, List, ap, arith, subst, sym}
use Rattle.std.proofs.lemmas.Bool.{lt-ltb}
use Rattle.ipc_format_batch_reading.proofs.ColumnSizes.{sizes_count}
use Rattle.ipc_format_batch_reading.specs.columnar_memory.Layouts.{physical_type}
use Rattle.ipc_format_batch_reading.specs.columns.StoredColumns.{Column, column_len, column_size, column_type, columns_size, in_columns}
use Rattle.ipc_format_batch_reading.specs.grammar.Limits.{length_limit}
use Rattle.ipc_format_batch_reading.specs.nested_arrays.AnyColumns.{column_of}
use Rattle.ipc_format_batch_reading.specs.nested_arrays.Childless.{is_childless}
use Rattle.ipc_format_chunk_writing.proofs.ShortColumns.{alone_short, long_alone}
use Rattle.ipc_format_chunk_writing.proofs.short.+measuring.Goals as goal

pub are_short-are_short-requires : goal.are_short-are_short-requires
are_short-are_short-requires t c =
    let arrays : c.args.arrays.now ≡ c.in-Some.array.now ∷ c.in-Some.arrays.now = search rules in
    let size : columns_size (in_columns c.args.arrays.now) ≡ column_size c.in-Some.array.now + columns_size (in_columns c.in-Some.arrays.now) =
    ap (λ (xs : List Column). columns_size (in_columns xs)) arrays in
    let some = sizes_count c.in-Some.array.now in
    (search (rules, size, some), tt)

pub is_short-returns-then-len-gt-MOST_SLOTS : goal.is_short-returns-then-len-gt-MOST_SLOTS
is_short-returns-then-len-gt-MOST_SLOTS t c =
    let long : length_limit ≤ column_len c.args.array.now = omega (arith, c.len.ensures, c.if-len-gt-MOST_SLOTS.true) in
    long_alone c.args.array.now long

pub is_short-returns-in-Flat : goal.is_short-returns-in-Flat
is_short-returns-in-Flat t c =
    let array = c.args.array.now in
    let small : column_len array < length_limit = omega (arith, c.len.ensures, c.if-len-gt-MOST_SLOTS.false) in
    let flat : Column = c.in-Flat.flat in
    let same : array ≡ flat = cc (ap column_of c.in-Flat.is) in
    let none = subst (λ (a : Column). is_childless (physical_type (column_type a)) ≡ true) (sym same) c.lies.ensures in
    sym (alone_short array c.whole.ensures none ∙ lt-ltb (column_len array) length_limit small)
