-- Marks and offsets, read one after the other.
use Rattle.std.proofs.Common.{◌≡◌, ℕ, List, Bool, drop, refl, sym, ap, arith, rules}
use Rattle.std.specs.Prelude.{Err, Ok, Some, Option}
use Rattle.ipc_format_column_writing.specs.column_reading.columnar_memory.Spans.{offsets_of}
use Rattle.ipc_format_column_writing.specs.column_reading.flatbuffers.Reading.{◌>>=◌}
use Rattle.ipc_format_column_writing.specs.column_reading.messages.declared.values.Buffer.{Buffer}
use Rattle.ipc_format_column_writing.specs.column_reading.Reads.{next_marked, next_offsets}
use Rattle.ipc_format_array_reading.specs.Parts.{Parts, next_spans, spans}
use Rattle.ipc_format_array_reading.proofs.Taking.{drop_none, takes_made, takes_refused, takes_then}
use Rattle.ipc_format_array_reading.proofs.begun.begin_spans.Goals as goal

abbrev Marks : Type 0
Marks = ℕ × Option (List Bool)

abbrev behind : Bool → Bool → List Buffer → ℕ → Marks → List ℕ → Option Parts
behind is_large little buffers origin marks room =
    next_offsets is_large little buffers marks.0 origin room >>= (λ offsets. Some (spans marks.0 marks.1 offsets))

pub returns-in_err-marked-clause-read : goal.returns-in_err-marked-clause-read
returns-in_err-marked-clause-read g c =
    let large = g.O.Offset.IS_LARGE in
    let little = c.args.is_little_endian in
    let nodes = c.args.field_nodes.now.items in
    let buffers = c.args.buffers.now.items in
    let origin = c.args.block_offset in
    let error = c.in_err-marked.field-0.0 in
    let is : c.from_residual.result ≡ Err error = search rules in
    rw is (takes_refused (g.R.Room.told c.args.reader.now) (g.R.Room.told c.read_marked.new.reader) (λ (found : Marks). found)
    (next_marked nodes c.args.limit buffers origin) (λ (parts : Parts). parts) (λ marks room. behind large little (drop 1 buffers) origin marks room)
    (next_spans large little nodes c.args.limit buffers origin) error 1 1 1 2 nodes c.read_marked.new.field_nodes.items buffers
    c.read_marked.new.buffers.items (λ room. refl)
    (c.in_err-marked.ensures.read, c.in_err-marked.ensures.nodes, c.in_err-marked.ensures.buffers))

pub returns-in_err-offsets-clause-read : goal.returns-in_err-offsets-clause-read
returns-in_err-offsets-clause-read g c =
    let large = g.O.Offset.IS_LARGE in
    let little = c.args.is_little_endian in
    let nodes = c.args.field_nodes.now.items in
    let buffers = c.args.buffers.now.items in
    let origin = c.args.block_offset in
    let nodes1 = c.read_marked.new.field_nodes.items in
    let buffers1 = c.read_marked.new.buffers.items in
    let marks : Marks = (c.in_ok-marked.marked.taken, c.in_ok-marked.marked.validity) in
    let mid = g.R.Room.told c.read_marked.new.reader in
    let last = g.R.Room.told c.read_offsets.new.reader in
    let error = c.in_err-offsets.field-0.0 in
    let is : c.from_residual-in_err-offsets.result ≡ Err error = search rules in
    rw is (takes_then (g.R.Room.told c.args.reader.now) mid last (λ (found : Marks). found) (next_marked nodes c.args.limit buffers origin) marks
    (λ (parts : Parts). parts) (λ marks room. behind large little (drop 1 buffers) origin marks room)
    (next_spans large little nodes c.args.limit buffers origin) (Err error) 1 1 0 1 1 2 nodes nodes1 nodes1 buffers buffers1
    c.read_offsets.new.buffers.items (λ room. refl) refl refl
    (c.in_ok-marked.ensures.read, c.in_ok-marked.ensures.nodes, c.in_ok-marked.ensures.buffers)
    (takes_refused mid last offsets_of (next_offsets large little buffers1 marks.0 origin) (λ (parts : Parts). parts)
    (λ offsets room. Some (spans marks.0 marks.1 offsets)) (behind large little (drop 1 buffers) origin marks) error 0 1 0 1 nodes1 nodes1 buffers1
    c.read_offsets.new.buffers.items
    (λ room. ap (λ (rest : List Buffer). behind large little rest origin marks room) (sym c.in_ok-marked.ensures.buffers.1))
    (c.in_err-offsets.ensures.read, (0, sym (drop_none nodes1)), c.in_err-offsets.ensures.rest)))

pub returns-clause-read : goal.returns-clause-read
returns-clause-read g c =
    let large = g.O.Offset.IS_LARGE in
    let little = c.args.is_little_endian in
    let nodes = c.args.field_nodes.now.items in
    let buffers = c.args.buffers.now.items in
    let origin = c.args.block_offset in
    let nodes1 = c.read_marked.new.field_nodes.items in
    let buffers1 = c.read_marked.new.buffers.items in
    let marks : Marks = (c.in_ok-marked.marked.taken, c.in_ok-marked.marked.validity) in
    let mid = g.R.Room.told c.read_marked.new.reader in
    let last = g.R.Room.told c.read_offsets.new.reader in
    let offsets = c.in_ok-offsets.offsets in
    let made : Parts = spans marks.0 marks.1 (offsets_of offsets) in
    takes_then (g.R.Room.told c.args.reader.now) mid last (λ (found : Marks). found) (next_marked nodes c.args.limit buffers origin) marks
    (λ (parts : Parts). parts) (λ marks room. behind large little (drop 1 buffers) origin marks room)
    (next_spans large little nodes c.args.limit buffers origin) (Ok made) 1 1 0 1 1 2 nodes nodes1 nodes1 buffers buffers1
    c.read_offsets.new.buffers.items (λ room. refl) refl refl
    (c.in_ok-marked.ensures.read, c.in_ok-marked.ensures.nodes, c.in_ok-marked.ensures.buffers)
    (takes_made mid last offsets_of (next_offsets large little buffers1 marks.0 origin) offsets (λ (parts : Parts). parts)
    (λ offsets room. Some (spans marks.0 marks.1 offsets)) (behind large little (drop 1 buffers) origin marks) made 0 1 nodes1 nodes1 buffers1
    c.read_offsets.new.buffers.items
    (λ room. ap (λ (rest : List Buffer). behind large little rest origin marks room) (sym c.in_ok-marked.ensures.buffers.1))
    (c.in_ok-offsets.ensures.read, (omega arith, sym (drop_none nodes1)), c.in_ok-offsets.ensures.rest) (λ room. refl))
