-- Unions, behind the buffer that is passed over.
use Rattle.std.proofs.Common.{◌≡◌, ◌∙◌, ◌+◌, ℕ, List, length, drop, refl, sym, ap, false, rules}
use Rattle.std.specs.Prelude.{Err, None, Ok, Option, Some}
use Rattle.ipc_format_column_writing.specs.column_reading.columns.StoredColumns.{type_layer}
use Rattle.ipc_format_column_writing.specs.column_reading.grammar.Layouts.{before_V5}
use Rattle.ipc_format_column_writing.specs.column_reading.messages.MessageViews.{version_view}
use Rattle.ipc_format_column_writing.specs.column_reading.messages.declared.values.Buffer.{Buffer}
use Rattle.ipc_format_column_writing.specs.column_reading.Rooms.{ForBytes}
use Rattle.ipc_format_column_writing.proofs.reading_lemmas.NextBuffers.{refusal_for}
use Rattle.ipc_format_array_reading.specs.Parts.{Parts, beginning_of, choices, next_choices, next_parts, own_buffers, place_buffers}
use Rattle.ipc_format_array_reading.specs.declared.begun.Beginning.TheVariants as beginnings
use Rattle.ipc_format_array_reading.proofs.UnionReads.{off_passed, union_buffers_are, union_parts_are}
use Rattle.ipc_format_array_reading.proofs.begun.begin.Goals as goal

pub returns-in_err-types-in-Choices-clause-read : goal.returns-in_err-types-in-Choices-clause-read
returns-in_err-types-in-Choices-clause-read g c =
    let x = type_layer c.args.data_type.now in
    let mode = c.in-Choices.mode in
    let version = version_view c.args.version in
    let little = c.args.is_little_endian in
    let nodes = c.args.field_nodes.now.items in
    let buffers = c.args.buffers.now.items in
    let passed = c.pass_unused.new.buffers.items in
    let origin = c.args.block_offset in
    let old = g.R.Room.told c.args.reader.now in
    let new = g.R.Room.told c.begin_union.new.reader in
    let begins : beginning_of x ≡ beginnings.Choices mode = sym c.beginning_of.ensures ∙ c.in-Choices.is in
    let error = c.in_err-types-in-Choices.field-0.0 in
    let is : c.from_residual-in_err-types-in-Choices.result ≡ Err error = search rules in
    let read = c.in_err-types-in-Choices.ensures.read in
    rw is (
      refusal_for old new (ForBytes old (λ room. next_choices mode little nodes passed origin room ≡ None))
          (ForBytes old (λ room. next_parts x version little nodes c.args.limit buffers origin room ≡ None)) error false
          (λ none room told. union_parts_are x mode version little nodes c.args.limit buffers origin room begins
          ∙ ap (λ (rest : List Buffer). next_choices mode little nodes rest origin room) (sym c.pass_unused.ensures) ∙ none room told) read.0,
      read.1,
      off_passed {X = Parts} (length (before_V5 version)) (place_buffers mode) (own_buffers version x) buffers passed c.begin_union.new.buffers.items
          (Err error) (union_buffers_are x mode version begins) c.pass_unused.ensures read.2,
    )

pub returns-in_ok-types-in-Choices-clause-read : goal.returns-in_ok-types-in-Choices-clause-read
returns-in_ok-types-in-Choices-clause-read g c =
    let x = type_layer c.args.data_type.now in
    let mode = c.in-Choices.mode in
    let version = version_view c.args.version in
    let little = c.args.is_little_endian in
    let nodes = c.args.field_nodes.now.items in
    let buffers = c.args.buffers.now.items in
    let passed = c.pass_unused.new.buffers.items in
    let origin = c.args.block_offset in
    let begins : beginning_of x ≡ beginnings.Choices mode = sym c.beginning_of.ensures ∙ c.in-Choices.is in
    let read = c.in_ok-types-in-Choices.ensures.read in (
      (
        refl,
        read.0.1,
        λ room told. union_parts_are x mode version little nodes c.args.limit buffers origin room begins
            ∙ ap (λ (rest : List Buffer). next_choices mode little nodes rest origin room) (sym c.pass_unused.ensures) ∙ read.0.2 room told,
      ),
      read.1,
      off_passed {X = Parts} (length (before_V5 version)) (place_buffers mode) (own_buffers version x) buffers passed c.begin_union.new.buffers.items
          (Ok (choices c.in_ok-types-in-Choices.types c.in_ok-types-in-Choices.places)) (union_buffers_are x mode version begins)
          c.pass_unused.ensures read.2,
    )
