-- The messages are gathered one after another.
use Rattle.std.proofs.Common.{rules, ◌≡◌, ◌≤◌, ◌++◌, ◌∷◌, [], length, sym, subst}
use Rattle.std.proofs.lemmas.List.{length-map}
use Rattle.std.specs.Prelude.{Some, None, Ok, Err, slice_get}
use Rattle.tables_chunks.specs.Messages.{layout_by}
use Rattle.tables_chunks.specs.ipc_format.FileEntries.{entries_of, entry_view}
use Rattle.tables_chunks.specs.ipc_format.Chunks.{rows_of}
use Rattle.tables_chunks.specs.ipc_format.ReadArrays.{standing_in}
use Rattle.tables_chunks.specs.ipc_format.columns.StoredColumns.{Column}
use Rattle.tables_chunks.specs.ipc_format.grammar.Tables.{left_of}
use Rattle.tables_chunks.proofs.ipc_format_lemmas.FileLists.{seen_at}
use Rattle.tables_rows.specs.EntryChoices.{GathersEntry}
use Rattle.tables_rows.specs.Gathered.{GathersBatches}
use Rattle.tables_rows.specs.Orders.{asked}
use Rattle.tables_rows.proofs.GatheredSteps.{all_gathered, batch_gathered, batch_passed, dictionary_gathered, entry_ungathered, none_gathered}
use Rattle.tables_rows.proofs.chosen.gather_batches.Goals as goal

pub loop-entry-init : goal.loop-entry-init
loop-entry-init c =
    let none : standing_in c.new-dictionaries.result ≡ [] = search rules in
    let empty : c.new-chunks.result.items ≡ [] = search rules in
    none_gathered (layout_by c.args.fields.now c.args.ipc_schema.now) (asked c.args.order.now) c.args.limit (entries_of c.args.entries.now)
    (standing_in c.new-dictionaries.result) c.new-chunks.result.items none empty

pub returns-in_err-found : goal.returns-in_err-found
returns-in_err-found c =
    let layout = layout_by c.args.fields.now c.args.ipc_schema.now in
    let columns = asked c.args.order.now in
    let entries = entries_of c.args.entries.now in
    let k = c.loop-entry.entry-index in
    let entry = entry_view c.entry-item.result in
    let standing = standing_in c.loop-entry.dictionaries in
    let after = standing_in c.gather_entry.new.dictionaries in
    let error = c.in_err-found.field-0.0 in
    let here : slice_get entries k ≡ Some entry =
    seen_at entry_view c.args.entries.now k c.entry-item.result c.loop-entry-test.true c.entry-item.is in
    let refused : GathersEntry layout columns standing after c.loop-entry.left entry (Err error) = search rules in
    let whole : GathersBatches layout columns c.args.limit entries (Err error) =
    entry_ungathered layout columns c.args.limit entries k standing c.loop-entry.left c.loop-entry.chunks.items entry here c.loop-entry.invariant
    after error refused in
    search (rules, whole)

pub returns : goal.returns
returns c =
    let layout = layout_by c.args.fields.now c.args.ipc_schema.now in
    let entries = entries_of c.args.entries.now in
    let k = c.loop-entry.entry-index in
    let past : length entries ≤ k =
    subst (λ n. n ≤ k) (sym (length-map c.args.entries.now entry_view)) c.loop-entry-test.false in
    all_gathered layout (asked c.args.order.now) c.args.limit entries k (standing_in c.loop-entry.dictionaries) c.loop-entry.left
    c.loop-entry.chunks past c.loop-entry.invariant

pub loop-entry-preserved-in_default : goal.loop-entry-preserved-in_default
loop-entry-preserved-in_default c =
    let layout = layout_by c.args.fields.now c.args.ipc_schema.now in
    let columns = asked c.args.order.now in
    let entries = entries_of c.args.entries.now in
    let k = c.loop-entry.entry-index in
    let entry = entry_view c.entry-item.result in
    let standing = standing_in c.loop-entry.dictionaries in
    let after = standing_in c.gather_entry.new.dictionaries in
    let here : slice_get entries k ≡ Some entry =
    seen_at entry_view c.args.entries.now k c.entry-item.result c.loop-entry-test.true c.entry-item.is in
    let taken : GathersEntry layout columns standing after c.loop-entry.left entry (Ok None) = search rules in
    dictionary_gathered layout columns c.args.limit entries k standing c.loop-entry.left c.loop-entry.chunks.items entry here
    c.loop-entry.invariant c.look_ups_are_enough.ensures after taken

pub loop-entry-preserved-then-is_empty : goal.loop-entry-preserved-then-is_empty
loop-entry-preserved-then-is_empty c =
    let layout = layout_by c.args.fields.now c.args.ipc_schema.now in
    let columns = asked c.args.order.now in
    let entries = entries_of c.args.entries.now in
    let k = c.loop-entry.entry-index in
    let entry = entry_view c.entry-item.result in
    let standing = standing_in c.loop-entry.dictionaries in
    let after = standing_in c.gather_entry.new.dictionaries in
    let chunk = c.in-Some.chunk in
    let here : slice_get entries k ≡ Some entry =
    seen_at entry_view c.args.entries.now k c.entry-item.result c.loop-entry-test.true c.entry-item.is in
    let found : GathersEntry layout columns standing after c.loop-entry.left entry (Ok (Some chunk)) = search rules in
    let less : c.left_behind-left.result ≡ left_of c.loop-entry.left (rows_of (λ (column : Column). column) chunk) = search rules in
    let none : rows_of (λ (column : Column). column) chunk ≡ 0 = search rules in
    batch_passed layout columns c.args.limit entries k standing c.loop-entry.left c.loop-entry.chunks.items entry here c.loop-entry.invariant
    after c.left_behind-left.result chunk found less none

pub loop-entry-preserved : goal.loop-entry-preserved
loop-entry-preserved c =
    let layout = layout_by c.args.fields.now c.args.ipc_schema.now in
    let columns = asked c.args.order.now in
    let entries = entries_of c.args.entries.now in
    let k = c.loop-entry.entry-index in
    let entry = entry_view c.entry-item.result in
    let standing = standing_in c.loop-entry.dictionaries in
    let after = standing_in c.gather_entry.new.dictionaries in
    let chunk = c.in-Some.chunk in
    let more = c.push.new.self.items in
    let here : slice_get entries k ≡ Some entry =
    seen_at entry_view c.args.entries.now k c.entry-item.result c.loop-entry-test.true c.entry-item.is in
    let found : GathersEntry layout columns standing after c.loop-entry.left entry (Ok (Some chunk)) = search rules in
    let less : c.left_behind-left.result ≡ left_of c.loop-entry.left (rows_of (λ (column : Column). column) chunk) = search rules in
    let some : rows_of (λ (column : Column). column) chunk ≡ 0 → ⊥ = search rules in
    let pushed : more ≡ c.loop-entry.chunks.items ++ chunk ∷ [] = search rules in
    batch_gathered layout columns c.args.limit entries k standing c.loop-entry.left c.loop-entry.chunks.items entry here c.loop-entry.invariant
    after c.left_behind-left.result chunk more found less some pushed
