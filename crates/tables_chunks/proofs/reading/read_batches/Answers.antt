-- The batches are those of the messages that were read and of those that are left.
use Rattle.std.proofs.Common.{rules, arith, ◌≡◌, ◌+◌, ◌≤◌, ◌^◌, List, [], ◌∷◌, ◌++◌, length, map, Ok, Err, refl, sym, subst, ◌∙◌}
use Rattle.std.specs.List.{All}
use Rattle.std.specs.Prelude.{Some, Result}
use Rattle.std.proofs.lemmas.List.Elements.{All-push}
use Rattle.ipc_format.specs.ReadArrays.{standing_in}
use Rattle.ipc_format.specs.Chunks.{rows_of}
use Rattle.ipc_format.specs.columnar_memory.declared.Error.{Error}
use Rattle.ipc_format.specs.columnar_memory.declared.Field.{Field}
use Rattle.ipc_format.specs.columns.StoredColumns.{Column, slots}
use Rattle.ipc_format.specs.columns.Tables.{rows_of_columns, rows_of_batches}
use Rattle.ipc_format.specs.Columns.{Dictionary}
use Rattle.ipc_format.specs.MessageViews.{version_view}
use Rattle.tables_chunks.specs.Faults.{fault_of}
use Rattle.tables_chunks.specs.Messages.{AreOfFields, ReadsNext, RefusesNext, layout_by}
use Rattle.tables_chunks.specs.Reading.{ReadsBatches, slots_of_batches}
use Rattle.ipc_format.specs.Steps.{cut_off, ended, batch_then, step_at}
use Rattle.ipc_format.proofs.Progress.{MessagesRead, batch_read, dictionary_read, read_alike, read_cut, read_ended}
use Rattle.ipc_format.proofs.Progress.{read_many}
use Rattle.tables_chunks.specs.declared.messages.Next.{Next}
use Rattle.tables_chunks.specs.declared.messages.Next.TheVariants as next
use Rattle.tables_chunks.proofs.Chunks.{rows_of_chunk, slots_more, counted_more}
use Rattle.tables_chunks.proofs.Refused.{next_refused}
use Rattle.tables_chunks.proofs.reading.read_batches.Goals as goal

pub returns-in_err-read_next : goal.returns-in_err-read_next
returns-in_err-read_next c =
    let schema = c.args.schema in
    let layout = layout_by schema.fields c.args.ipc_schema.now in
    let version = version_view c.args.version in
    let error = c.in_err-read_next.field-0.0 in
    let standing = standing_in c.messages.dictionaries in
    let refused : RefusesNext (step_at layout version standing c.args.bytes.now c.messages.place) c.args.bytes.now c.messages.place
    c.messages.in_a_row error = search rules in
    let whole : ReadsBatches schema layout version c.args.bytes.now c.args.first (Err (fault_of error)) =
    next_refused error schema layout version c.args.bytes.now c.args.first (slots_of_batches c.messages.chunks.items) standing
    c.messages.in_a_row c.messages.place c.messages.invariant.read refused in
    search (rules, whole)

pub returns-in-Truncated : goal.returns-in-Truncated
returns-in-Truncated c =
    let schema = c.args.schema in
    let layout = layout_by schema.fields c.args.ipc_schema.now in
    let version = version_view c.args.version in
    let standing = standing_in c.messages.dictionaries in
    let step : step_at layout version standing c.args.bytes.now c.messages.place ≡ Some cut_off = search rules in
    read_cut layout version c.args.bytes.now c.args.first (slots_of_batches c.messages.chunks.items) standing c.messages.in_a_row c.messages.place
    c.messages.invariant.read step

pub returns-in_default : goal.returns-in_default
returns-in_default c =
    let schema = c.args.schema in
    let layout = layout_by schema.fields c.args.ipc_schema.now in
    let version = version_view c.args.version in
    let standing = standing_in c.messages.dictionaries in
    let batches = slots_of_batches c.messages.chunks.items in
    let chunk = c.in-Rows.chunk in
    let step : step_at layout version standing c.args.bytes.now c.messages.place ≡ Some (batch_then (map slots chunk) c.in-Rows.after) =
    search rules in
    let too_many : 2 ^ 64 ≤ c.messages.rows + rows_of (λ (column : Column). column) chunk = search rules in
    let many : 2 ^ 64 ≤ length (rows_of_batches batches) + rows_of_columns (map slots chunk) =
    omega (arith, too_many, c.messages.invariant.counted, rows_of_chunk chunk) in
    read_many layout version c.args.bytes.now c.args.first batches standing c.messages.in_a_row c.messages.place c.in-Rows.after (map slots chunk)
    c.messages.invariant.read step many

pub returns : goal.returns
returns c =
    let schema = c.args.schema in
    let layout = layout_by schema.fields c.args.ipc_schema.now in
    let version = version_view c.args.version in
    let standing = standing_in c.messages.dictionaries in
    let step : step_at layout version standing c.args.bytes.now c.messages.place ≡ Some ended = search rules in (
      refl,
      read_ended layout version c.args.bytes.now c.args.first (slots_of_batches c.messages.chunks.items) standing c.messages.in_a_row
          c.messages.place c.messages.invariant.read step,
      c.messages.invariant.counted,
      c.messages.invariant.fits,
      c.messages.invariant.sound,
    )

pub messages-preserved-in-Dictionary : goal.messages-preserved-in-Dictionary
messages-preserved-in-Dictionary c =
    let schema = c.args.schema in
    let layout = layout_by schema.fields c.args.ipc_schema.now in
    let version = version_view c.args.version in
    let bytes = c.args.bytes.now in
    let place = c.messages.place in
    let in_a_row = c.messages.in_a_row in
    let batches = slots_of_batches c.messages.chunks.items in
    let old = standing_in c.messages.dictionaries in
    let new = standing_in c.read_next.new.dictionaries in
    let after = c.in-Dictionary.after in
    let is : c.read_next.result ≡ Ok (next.Dictionary after) = search rules in
    let known = subst (λ (fields : List Field).
    ReadsNext fields (layout_by fields c.args.ipc_schema.now) version old new bytes place in_a_row c.read_next.result)
    c.as_slice-in-messages.ensures c.read_next.ensures in
    let taken = subst (λ (result : Result Next Error). ReadsNext schema.fields layout version old new bytes place in_a_row result) is known in
    record {
      counted = c.messages.invariant.counted;
      fits = c.messages.invariant.fits;
      sound = c.messages.invariant.sound;
      read = read_alike layout version bytes c.args.first batches (taken.0 ∷ old) new (in_a_row + 1) after
          (λ entries. c.look_ups_are_enough.ensures.messages layout (taken.0 ∷ old) new entries (λ id. sym (taken.2 id)))
          (dictionary_read layout version bytes c.args.first batches old in_a_row place after taken.0 c.messages.invariant.read taken.1
          taken.4 taken.5 taken.3);
    }

pub messages-preserved : goal.messages-preserved
messages-preserved c =
    let schema = c.args.schema in
    let layout = layout_by schema.fields c.args.ipc_schema.now in
    let version = version_view c.args.version in
    let bytes = c.args.bytes.now in
    let place = c.messages.place in
    let in_a_row = c.messages.in_a_row in
    let before = c.messages.chunks.items in
    let old = standing_in c.messages.dictionaries in
    let new = standing_in c.read_next.new.dictionaries in
    let after = c.in-Rows.after in
    let chunk = c.in-Rows.chunk in
    let more = c.push.new.self.items in
    let taken : ReadsNext schema.fields layout version old new bytes place in_a_row (Ok (next.Rows chunk after)) = search rules in
    let pushed : more ≡ before ++ chunk ∷ [] = search rules in
    let sum : c.in-Some.sum ≡ c.messages.rows + rows_of (λ (column : Column). column) chunk = search rules in
    record {
      counted = sum ∙ counted_more c.messages.rows before more chunk c.messages.invariant.counted pushed;
      fits = search rules;
      sound = subst (All (AreOfFields schema.fields)) (sym pushed)
          (All-push (AreOfFields schema.fields) before chunk c.messages.invariant.sound taken.2);
      read = subst (λ (standing : List Dictionary). MessagesRead layout version bytes c.args.first (slots_of_batches more) standing 0 after)
          (sym taken.1)
          (batch_read layout version bytes c.args.first (slots_of_batches before) (slots_of_batches more) old in_a_row place after (map slots chunk)
          c.messages.invariant.read taken.0 taken.3 taken.4 (slots_more before more chunk pushed));
    }
