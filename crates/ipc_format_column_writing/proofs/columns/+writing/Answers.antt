use Rattle.std.proofs.Common.{rules, arith, ◌≡◌, ap, subst, sym}
use Rattle.std.specs.Prelude.{Err}
use Rattle.std.proofs.lemmas.List.{drop_all}
use Rattle.nested_arrays_core.specs.AnyColumns.{column_of}
use Rattle.nested_arrays_core.specs.Parts.{column_children}
use Rattle.nested_arrays_core.specs.Places.{HaveRange}
use Rattle.nested_arrays_core.specs.StoredColumns.{Column, Columns, column_size, in_columns}
use Rattle.nested_arrays_core.specs.declared.Node.TheVariants as nodes
use Rattle.ipc_format_column_reading.specs.column_bytes.Bodies.{parts_of}
use Rattle.ipc_format_column_reading.specs.column_bytes.grammar.Encoding.{joined_columns}
use Rattle.ipc_format_column_reading.specs.column_bytes.grammar.StoredEncoding.{encode_range, encode_ranges}
use Rattle.ipc_format_column_writing.specs.Parts.{HaveParts, encode_parts, items_column}
use Rattle.ipc_format_column_writing.proofs.Begun.{range_then}
use Rattle.ipc_format_column_writing.proofs.Children.{all_written, one_refused, one_size, one_written, part_at}
use Rattle.ipc_format_column_writing.proofs.columns.+writing.Goals as goal

pub write_children-write_part-requires : goal.write_children-write_part-requires
write_children-write_part-requires t c =
    let most = one_size c.args.arrays.now c.loop-array.array-index c.array-item.result (omega arith) in
    let size = ap column_size c.array-item.is in (
      search (rules, most, size),
      part_at c.args.arrays.now c.loop-array.array-index c.array-item.result c.args.part (omega arith) c.array-item.is c.requires,
    )

pub write_children-returns : goal.write_children-returns
write_children-returns t c =
    all_written c.args.is_little_endian c.args.part c.args.arrays.now c.args.body.now c.loop-array.body c.loop-array.array-index
    (drop_all c.loop-array.array-index c.args.arrays.now (omega arith)) c.loop-array.invariant

pub write_children-loop-array-preserved : goal.write_children-loop-array-preserved
write_children-loop-array-preserved t c =
    one_written c.args.is_little_endian c.args.part c.args.arrays.now c.args.body.now c.loop-array.body c.write_part.new.body
    c.loop-array.array-index c.array-item.result (omega arith) c.array-item.is c.loop-array.invariant c.in_ok-write_part.ensures

pub write_children-returns-in_err-write_part : goal.write_children-returns-in_err-write_part
write_children-returns-in_err-write_part t c =
    let error = c.in_err-write_part.field-0.0 in
    let is : c.from_residual.result ≡ Err error = search rules in
    rw is (one_refused c.args.is_little_endian c.args.part c.args.arrays.now c.args.body.now c.loop-array.body c.write_part.new.body
    c.loop-array.array-index c.array-item.result error (omega arith) c.array-item.is c.loop-array.invariant c.in_err-write_part.ensures)

pub write_range-write_children-requires : goal.write_range-write_children-requires
write_range-write_children-requires t c =
    let size = ap column_size c.values-in-Struct.ensures in (
      search (rules, size),
      subst (λ (cs : Columns). HaveRange cs c.args.first c.args.count) (ap column_children c.values-in-Struct.ensures)
          c.begin_structs.ensures.fields,
    )

pub write_range-write_children-requires-in-Union : goal.write_range-write_children-requires-in-Union
write_range-write_children-requires-in-Union t c =
    let size = ap column_size c.fields.ensures in (
      search (rules, size),
      subst (λ (cs : Columns). HaveParts cs c.in_ok-part-in-Union.part) (ap column_children c.fields.ensures) c.in_ok-part-in-Union.ensures.fields,
    )

pub write_range-returns-in_ok-start-in-List : goal.write_range-returns-in_ok-start-in-List
write_range-returns-in_ok-start-in-List t c =
    let little = c.args.is_little_endian in
    let b : Column = column_of (nodes.List c.in-List.node) in
    let same : c.args.array.now ≡ b = cc (ap column_of c.in-List.is) in
    let child : c.deref.result.now ≡ c.in-List.node.values.value = search rules in
    range_then c.write_range.result c.args.body.now (parts_of c.begin_lists.new.body) (parts_of c.write_range.new.body) little c.args.array.now b
    c.args.first c.args.count (encode_range little c.in-List.node.values.value c.in_ok-start-in-List.start c.in_ok-start-in-List.len)
    (encode_range little c.deref.result.now c.in_ok-start-in-List.start c.in_ok-start-in-List.len) same
    (ap (λ (items : Column). encode_range little items c.in_ok-start-in-List.start c.in_ok-start-in-List.len) child)
    c.in_ok-start-in-List.ensures.begun c.write_range.ensures

pub write_range-returns-in_ok-start-in-FixedSizeList : goal.write_range-returns-in_ok-start-in-FixedSizeList
write_range-returns-in_ok-start-in-FixedSizeList t c =
    let little = c.args.is_little_endian in
    let start = c.in_ok-start-in-FixedSizeList.start in
    let len = c.in_ok-start-in-FixedSizeList.len in
    let b : Column = c.in-FixedSizeList.array in
    let same : c.args.array.now ≡ b = cc (ap column_of c.in-FixedSizeList.is) in
    range_then c.write_range-in-FixedSizeList.result c.args.body.now (parts_of c.begin_fixed_lists.new.body)
    (parts_of c.write_range-in-FixedSizeList.new.body) little c.args.array.now b c.args.first c.args.count
    (encode_range little (items_column b) start len) (encode_range little c.values.result.now start len) same
    (sym (ap (λ (a : Column). encode_range little (items_column a) start len) c.values.ensures))
    c.in_ok-start-in-FixedSizeList.ensures.begun c.write_range-in-FixedSizeList.ensures

pub write_range-returns-in_ok-begin_structs-in-Struct : goal.write_range-returns-in_ok-begin_structs-in-Struct
write_range-returns-in_ok-begin_structs-in-Struct t c =
    let little = c.args.is_little_endian in
    let b : Column = c.in-Struct.array in
    let same : c.args.array.now ≡ b = cc (ap column_of c.in-Struct.is) in
    range_then c.write_children.result c.args.body.now (parts_of c.begin_structs.new.body) (parts_of c.write_children.new.body) little
    c.args.array.now b c.args.first c.args.count (joined_columns (encode_ranges little (column_children b) c.args.first c.args.count))
    (joined_columns (encode_ranges little (in_columns c.values-in-Struct.result.now) c.args.first c.args.count)) same
    (sym (ap (λ (a : Column). joined_columns (encode_ranges little (column_children a) c.args.first c.args.count)) c.values-in-Struct.ensures))
    c.in_ok-begin_structs-in-Struct.ensures.begun c.write_children.ensures

pub write_range-returns-in_ok-start-in-Map : goal.write_range-returns-in_ok-start-in-Map
write_range-returns-in_ok-start-in-Map t c =
    let little = c.args.is_little_endian in
    let start = c.in_ok-start-in-Map.start in
    let len = c.in_ok-start-in-Map.len in
    let b : Column = c.in-Map.array in
    let same : c.args.array.now ≡ b = cc (ap column_of c.in-Map.is) in
    range_then c.write_range-in-Map.result c.args.body.now (parts_of c.begin_maps.new.body) (parts_of c.write_range-in-Map.new.body) little
    c.args.array.now b c.args.first c.args.count (encode_range little (items_column b) start len)
    (encode_range little c.field.result.now start len) same
    (sym (ap (λ (a : Column). encode_range little (items_column a) start len) c.field.ensures)) c.in_ok-start-in-Map.ensures.begun
    c.write_range-in-Map.ensures

pub write_range-returns-in_ok-part-in-Union : goal.write_range-returns-in_ok-part-in-Union
write_range-returns-in_ok-part-in-Union t c =
    let little = c.args.is_little_endian in
    let part = c.in_ok-part-in-Union.part in
    let b : Column = c.in-Union.array in
    let same : c.args.array.now ≡ b = cc (ap column_of c.in-Union.is) in
    range_then c.write_children-in-Union.result c.args.body.now (parts_of c.begin_unions.new.body) (parts_of c.write_children-in-Union.new.body)
    little c.args.array.now b c.args.first c.args.count (joined_columns (encode_parts little (column_children b) part))
    (joined_columns (encode_parts little (in_columns c.fields.result.now) part)) same
    (sym (ap (λ (a : Column). joined_columns (encode_parts little (column_children a) part)) c.fields.ensures)) c.in_ok-part-in-Union.ensures.begun
    c.write_children-in-Union.ensures
