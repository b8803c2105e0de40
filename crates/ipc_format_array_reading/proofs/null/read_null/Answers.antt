-- The number of nulls is the node's.
use Rattle.std.proofs.Common.{◌≡◌, ◌∙◌, ap, arith, inl, rules}
use Rattle.std.specs.Prelude.{[], None, Some, slice_get, true}
use Rattle.std.proofs.lemmas.Option.{slice_get_within}
use Rattle.ipc_format_column_writing.specs.column_reading.columnar_memory.Layouts.{physical_type}
use Rattle.ipc_format_column_writing.specs.column_reading.columnar_memory.declared.PhysicalType.TheVariants as physical
use Rattle.ipc_format_column_writing.specs.column_reading.columns.StoredColumns.{nulls, slots}
use Rattle.ipc_format_column_writing.specs.column_reading.flatbuffers.Reading.{◌>>=◌}
use Rattle.ipc_format_column_writing.specs.column_reading.Buffers.{taken_in}
use Rattle.ipc_format_column_writing.specs.column_reading.Reads.{front_slots}
use Rattle.ipc_format_array_reading.proofs.FixedColumns.{nulls_at, nulls_made, nulls_missing}
use Rattle.ipc_format_array_reading.proofs.null.read_null.Goals as goal

pub returns-in_default : goal.returns-in_default
returns-in_default c =
    let t = c.args.data_type in
    let nodes = c.args.field_nodes.now.items in
    let kind : physical_type t ≡ physical.Null = search rules in
    let none : slice_get nodes 0 ≡ None = search rules in
    (tt, inl (kind, nulls_missing t nodes c.args.limit kind none, (1, c.pop_front.ensures.rest)))

pub returns-in_default-slots_taken : goal.returns-in_default-slots_taken
returns-in_default-slots_taken c =
    let t = c.args.data_type in
    let nodes = c.args.field_nodes.now.items in
    let node = c.in-Some.field_node in
    let kind : physical_type t ≡ physical.Null = search rules in
    let there : slice_get nodes 0 ≡ Some node = search rules in
    let none : taken_in c.args.limit node ≡ None = search rules in (
      tt,
      inl (
        kind,
        nulls_at t nodes node c.args.limit kind there ∙ ap (λ r. r >>= (λ n. Some (slots (nulls t n)))) none,
        (1, c.pop_front.ensures.rest),
      ),
    )

pub returns : goal.returns
returns c =
    let t = c.args.data_type in
    let nodes = c.args.field_nodes.now.items in
    let node = c.in-Some.field_node in
    let taken = c.in-Some-slots_taken.taken in
    let kind : physical_type t ≡ physical.Null = search rules in
    let there : slice_get nodes 0 ≡ Some node = search rules in
    let counted : taken_in c.args.limit node ≡ Some taken = search rules in
    let some = slice_get_within nodes 0 node there in
    nulls_made t (front_slots t nodes [] true c.args.limit 0 []) taken nodes c.pop_front.new.self.items c.try_new.result kind
    (nulls_at t nodes node c.args.limit kind there ∙ ap (λ r. r >>= (λ n. Some (slots (nulls t n)))) counted)
    (omega (arith, some), c.pop_front.ensures.rest) c.try_new.ensures
