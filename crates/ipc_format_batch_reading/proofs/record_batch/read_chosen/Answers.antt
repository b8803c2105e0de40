-- What is read of each chosen column, behind those that are passed over.
use Rattle.std.proofs.Common.{◌≡◌, ◌∙◌, ◌+◌, ◌++◌, ◌∷◌, [], ℕ, suc, ap, get_or, length, sym, take, refl, rules, arith}
use Rattle.std.specs.Prelude.{Err}
use Rattle.std.proofs.lemmas.List.{get_or_default}
use Rattle.ipc_format_reading.specs.Below.{type_of}
use Rattle.ipc_format_reading.specs.array_reading.ReadArrays.{standing_in}
use Rattle.ipc_format_reading.specs.columnar_memory.declared.Field.{Field}
use Rattle.ipc_format_reading.specs.columns.Tables.{chosen}
use Rattle.ipc_format_reading.specs.grammar.Layouts.{buffer_count}
use Rattle.ipc_format_reading.specs.messages.MessageViews.{version_view}
use Rattle.ipc_format_batch_reading.proofs.ChosenCounts.{counted_all, counted_more, counted_none, counted_refused, counted_stop}
use Rattle.ipc_format_batch_reading.proofs.ChosenReads.{Batch, chosen_more, chosen_refused, chosen_to, chosen_without, next_stands, none_chosen}
use Rattle.ipc_format_batch_reading.proofs.ChosenReads.{one_more_chosen, take_past}
use Rattle.ipc_format_batch_reading.proofs.record_batch.read_chosen.Goals as goal

pub loop-k-init : goal.loop-k-init
loop-k-init g c =
    let told = g.R.Room.told c.args.reader.now in
    let columns = c.args.columns.now in
    let nodes = c.args.field_nodes.now.items in
    let buffers = c.args.buffers.now.items in
    let batch : Batch = record {
      fields = c.args.fields.now;
      ids = c.args.ipc_fields.now;
      version = version_view c.args.version;
      is_little_endian = c.args.is_little_endian;
      standing = standing_in c.args.dictionaries.now;
      limit = c.args.limit;
      origin = c.args.block_offset;
      nodes = nodes;
      buffers = buffers;
    } in (
      chosen_to batch told told columns nodes buffers 0 0 0 0 [] c.new-arrays.result.items refl refl (sym c.new-arrays.ensures.items)
          (none_chosen batch told columns c.requires),
      counted_none (λ (field : Field). buffer_count (version_view c.args.version) (type_of field)) (length buffers) c.args.steps.now.count,
    )

pub returns-then-column-ipc_fields-clause-read : goal.returns-then-column-ipc_fields-clause-read
returns-then-column-ipc_fields-clause-read g c =
    let columns = c.args.columns.now in
    let k = c.loop-k.k in
    let column = get_or columns k 0 in (
      refl,
      chosen_without (record {
        fields = c.args.fields.now;
        ids = c.args.ipc_fields.now;
        version = version_view c.args.version;
        is_little_endian = c.args.is_little_endian;
        standing = standing_in c.args.dictionaries.now;
        limit = c.args.limit;
        origin = c.args.block_offset;
        nodes = c.args.field_nodes.now.items;
        buffers = c.args.buffers.now.items;
      }) (g.R.Room.told c.args.reader.now) (g.R.Room.told c.loop-k.reader) columns c.loop-k.field_nodes.items c.loop-k.buffers.items k
          c.loop-k.behind c.loop-k.arrays.items column c.loop-k-test.true (get_or_default columns k 0 column c.loop-k-test.true)
          c.if-column-ipc_fields.true c.loop-k.invariant.0,
    )

pub returns-in_err-array-clause-read : goal.returns-in_err-array-clause-read
returns-in_err-array-clause-read g c =
    let columns = c.args.columns.now in
    let k = c.loop-k.k in
    let column = get_or columns k 0 in
    let error = c.in_err-array.field-0.0 in
    let is : c.from_residual.result ≡ Err error = search rules in
    rw is (chosen_refused {B = ℕ} (record {
      fields = c.args.fields.now;
      ids = c.args.ipc_fields.now;
      version = version_view c.args.version;
      is_little_endian = c.args.is_little_endian;
      standing = standing_in c.args.dictionaries.now;
      limit = c.args.limit;
      origin = c.args.block_offset;
      nodes = c.args.field_nodes.now.items;
      buffers = c.args.buffers.now.items;
    }) (g.R.Room.told c.args.reader.now) (g.R.Room.told c.loop-k.reader) (g.R.Room.told c.read_counted.new.reader) columns
    c.loop-k.field_nodes.items c.pass_fields.new.field_nodes.items c.read_counted.new.field_nodes.items c.loop-k.buffers.items
    c.pass_fields.new.buffers.items c.read_counted.new.buffers.items k c.loop-k.behind c.loop-k.arrays.items column c.index-fields-column.result
    c.index-ipc_fields-column.result error (λ n. []) c.loop-k-test.true (get_or_default columns k 0 column c.loop-k-test.true)
    c.index-fields-column.is (omega arith) c.index-ipc_fields-column.is c.pass_fields.ensures c.loop-k.invariant.0 c.in_err-array.ensures.read)

pub loop-k-preserved : goal.loop-k-preserved
loop-k-preserved g c =
    let columns = c.args.columns.now in
    let k = c.loop-k.k in
    let column = get_or columns k 0 in
    let array = c.in_ok-array.array in
    let old = g.R.Room.told c.args.reader.now in
    let new = g.R.Room.told c.read_counted.new.reader in
    let batch : Batch = record {
      fields = c.args.fields.now;
      ids = c.args.ipc_fields.now;
      version = version_view c.args.version;
      is_little_endian = c.args.is_little_endian;
      standing = standing_in c.args.dictionaries.now;
      limit = c.args.limit;
      origin = c.args.block_offset;
      nodes = c.args.field_nodes.now.items;
      buffers = c.args.buffers.now.items;
    } in
    let more = one_more_chosen batch old (g.R.Room.told c.loop-k.reader) new columns
    c.loop-k.field_nodes.items c.pass_fields.new.field_nodes.items c.read_counted.new.field_nodes.items c.loop-k.buffers.items
    c.pass_fields.new.buffers.items c.read_counted.new.buffers.items k c.loop-k.behind c.loop-k.arrays.items column c.index-fields-column.result
    c.index-ipc_fields-column.result array c.loop-k-test.true (get_or_default columns k 0 column c.loop-k-test.true)
    c.index-fields-column.is (omega arith) c.index-ipc_fields-column.is c.pass_fields.ensures c.loop-k.invariant.0 c.in_ok-array.ensures.read in
    let next : suc k ≡ k + 1 = omega arith in
    let behind : suc column ≡ column + 1 = omega arith in
    let pushed : c.loop-k.arrays.items ++ array ∷ [] ≡ c.push.new.self.items = search rules in
    let stands = next_stands batch old (g.R.Room.told c.loop-k.reader) columns c.loop-k.field_nodes.items c.loop-k.buffers.items k c.loop-k.behind
    c.loop-k.arrays.items column c.loop-k-test.true (get_or_default columns k 0 column c.loop-k-test.true) c.loop-k.invariant.0 in
    let one = chosen_more columns c.args.fields.now k column c.index-fields-column.result c.loop-k-test.true
    (get_or_default columns k 0 column c.loop-k-test.true) stands.1 c.index-fields-column.is in (
      chosen_to batch old new columns c.read_counted.new.field_nodes.items c.read_counted.new.buffers.items (suc k) (k + 1) (suc column)
          (column + 1) (c.loop-k.arrays.items ++ array ∷ []) c.push.new.self.items next behind pushed more,
      counted_more (λ (field : Field). buffer_count (version_view c.args.version) (type_of field)) (chosen (take k columns) c.args.fields.now)
          (chosen (take (k + 1) columns) c.args.fields.now) c.index-fields-column.result c.loop-k.buffers.items c.pass_fields.new.buffers.items
          c.read_counted.new.buffers.items _ (length c.args.buffers.now.items) c.args.steps.now.count c.loop-k.steps.count
          c.read_counted.new.steps.count array (ap (λ n. chosen (take n columns) c.args.fields.now) (sym next) ∙ one) c.pass_fields.ensures.1
          c.in_ok-array.ensures.read.0.2 c.in_ok-array.ensures.counted c.loop-k.invariant.1,
    )

pub returns-then-column-ipc_fields-clause-counted : goal.returns-then-column-ipc_fields-clause-counted
returns-then-column-ipc_fields-clause-counted g c =
    counted_stop (λ (field : Field). buffer_count (version_view c.args.version) (type_of field))
    (chosen (take c.loop-k.k c.args.columns.now) c.args.fields.now) (length c.loop-k.buffers.items) (length c.args.buffers.now.items)
    c.args.steps.now.count c.loop-k.steps.count c.loop-k.invariant.1

pub returns-in_err-array-clause-counted : goal.returns-in_err-array-clause-counted
returns-in_err-array-clause-counted g c =
    let error = c.in_err-array.field-0.0 in
    let is : c.from_residual.result ≡ Err error = search rules in
    rw is (counted_refused (λ (field : Field). buffer_count (version_view c.args.version) (type_of field))
    (chosen (take c.loop-k.k c.args.columns.now) c.args.fields.now) c.loop-k.buffers.items c.pass_fields.new.buffers.items
    c.read_counted.new.buffers.items _ (length c.args.buffers.now.items) c.args.steps.now.count c.loop-k.steps.count c.read_counted.new.steps.count
    c.pass_fields.ensures.1 c.in_err-array.ensures.counted c.loop-k.invariant.1)

pub returns-clause-counted : goal.returns-clause-counted
returns-clause-counted g c =
    counted_all (λ (field : Field). buffer_count (version_view c.args.version) (type_of field))
    (chosen (take c.loop-k.k c.args.columns.now) c.args.fields.now) (chosen c.args.columns.now c.args.fields.now)
    (length c.loop-k.buffers.items) (length c.args.buffers.now.items) c.args.steps.now.count c.loop-k.steps.count c.loop-k.arrays
    (ap (λ ks. chosen ks c.args.fields.now) (take_past c.args.columns.now c.loop-k.k (omega (arith, c.loop-k-test.false)))) c.loop-k.invariant.1
