-- Marks, and the keys behind them.
use Rattle.std.proofs.Common.{◌≡◌, ◌∙◌, List, Bool, map, refl, sym, ap, rules}
use Rattle.std.specs.Prelude.{Err, Option}
use Rattle.ipc_format_column_writing.specs.columnar_memory.Numbers.{Numbers}
use Rattle.ipc_format_column_writing.proofs.reading_lemmas.ColumnReads.{Marks, takes_behind}
use Rattle.ipc_format_column_writing.proofs.reading_lemmas.Skipping.{end_behind}
use Rattle.ipc_format_array_reading.proofs.KeyedReading.{Found, keys_made, keys_refused, marks_refused}
use Rattle.ipc_format_array_reading.proofs.OwnIds.{plainest_layout}
use Rattle.ipc_format_array_reading.proofs.keyed.read_keys.Goals as goal

pub returns-in_err-marked-clause-read : goal.returns-in_err-marked-clause-read
returns-in_err-marked-clause-read g c =
    let error = c.in_err-marked.field-0.0 in
    let is : c.from_residual.result ≡ Err error = search rules in
    rw is (marks_refused (g.R.Room.told c.args.reader.now) (g.R.Room.told c.read_marked.new.reader) g.K.NativeType.PRIMITIVE c.args.is_little_endian
    c.args.field_nodes.now.items c.args.limit c.args.buffers.now.items c.args.block_offset (λ (found : Marks). found) (λ (found : Found). found) error
    c.in_err-marked.ensures.read)

pub returns-in_err-values-clause-read : goal.returns-in_err-values-clause-read
returns-in_err-values-clause-read g c =
    let error = c.in_err-values.field-0.0 in
    let marks : Marks = (c.in_ok-marked.marked.taken, c.in_ok-marked.marked.validity) in
    let is : c.from_residual-in_err-values.result ≡ Err error = search rules in
    rw is (keys_refused (g.R.Room.told c.args.reader.now) (g.R.Room.told c.read_marked.new.reader) (g.R.Room.told c.read_buffer.new.reader)
    g.K.NativeType.PRIMITIVE c.args.is_little_endian c.args.field_nodes.now.items c.args.limit c.args.buffers.now.items
    c.read_marked.new.buffers.items c.args.block_offset marks g.K.NativeType.numbers (λ (found : Found). found) error c.in_ok-marked.ensures.read
    c.in_ok-marked.ensures.buffers.1 c.in_err-values.ensures.read)

pub returns-in_err-values-clause-buffers : goal.returns-in_err-values-clause-buffers
returns-in_err-values-clause-buffers g c =
    let error = c.in_err-values.field-0.0 in
    let is : c.from_residual-in_err-values.result ≡ Err error = search rules in
    rw is (end_behind c.args.buffers.now.items c.read_marked.new.buffers.items c.read_buffer.new.buffers.items 1 c.in_ok-marked.ensures.buffers.1
    c.in_err-values.ensures.taken)

pub returns-clause-read : goal.returns-clause-read
returns-clause-read g c =
    let marks : Marks = (c.in_ok-marked.marked.taken, c.in_ok-marked.marked.validity) in
    keys_made (g.R.Room.told c.args.reader.now) (g.R.Room.told c.read_marked.new.reader) (g.R.Room.told c.read_buffer.new.reader)
    g.K.NativeType.PRIMITIVE c.args.is_little_endian c.args.field_nodes.now.items c.args.limit c.args.buffers.now.items
    c.read_marked.new.buffers.items c.args.block_offset marks g.K.NativeType.numbers c.in_ok-values.values
    (λ keys. (keys.validity, map g.K.NativeType.numbers keys.values)) c.new.result c.in_ok-marked.ensures.read c.in_ok-marked.ensures.buffers.1
    c.in_ok-values.ensures.read (ap (λ keys. (keys.validity, map g.K.NativeType.numbers keys.values)) c.new.ensures)

pub returns-clause-buffers : goal.returns-clause-buffers
returns-clause-buffers g c =
    takes_behind 1 1 2 c.args.buffers.now.items c.read_marked.new.buffers.items c.read_buffer.new.buffers.items refl c.in_ok-marked.ensures.buffers
    c.in_ok-values.ensures.taken

pub returns-in_err-values-clause-nodes : goal.returns-in_err-values-clause-nodes
returns-in_err-values-clause-nodes g c =
    let error = c.in_err-values.field-0.0 in
    let is : c.from_residual-in_err-values.result ≡ Err error = search rules in
    rw is (1, c.in_ok-marked.ensures.nodes.1)
