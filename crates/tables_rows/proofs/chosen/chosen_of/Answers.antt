-- The columns that rise are put where they were asked for.
use Rattle.std.proofs.Common.{rules, ◌≡◌, true, List, ℕ, length, map, sym, subst}
use Rattle.std.specs.Prelude.{Err}
use Rattle.tables_chunks.specs.Choices.{are_below}
use Rattle.tables_chunks.specs.Messages.{layout_by, type_of}
use Rattle.tables_chunks.specs.ipc_format.FileEntries.{entry_view}
use Rattle.tables_chunks.specs.ipc_format.ReadArrays.{standing_in}
use Rattle.tables_chunks.specs.ipc_format.columns.StoredColumns.{Column, column_type, slots}
use Rattle.tables_chunks.specs.ipc_format.columns.Tables.{chosen}
use Rattle.tables_chunks.specs.ipc_format.metadata.Reading.{Reads}
use Rattle.tables_rows.specs.EntryChoices.{IsUnread, chosen_by}
use Rattle.tables_rows.specs.Orders.{asked}
use Rattle.tables_rows.proofs.EntryReads.{chosen_fields, entry_chosen, entry_refused, found_count}
use Rattle.tables_rows.proofs.chosen.chosen_of.Goals as goal

pub returns-in_err-found-clause-value : goal.returns-in_err-found-clause-value
returns-in_err-found-clause-value c =
    let layout = layout_by c.args.fields.now c.args.ipc_schema.now in
    let standing = standing_in c.args.dictionaries.now in
    let entry = c.args.entry.now in
    let order = c.args.order.now in
    let error = c.in_err-found.field-0.0 in
    let refused : Reads {A = List Column} (map slots) (IsUnread (entry_view entry)) (Err error)
    (chosen_by layout standing (entry_view entry) c.args.limit (asked order) (entry_view entry).header) =
    entry_refused layout standing c.args.limit order entry c.args.header.now c.as_slice.result.now _ _ c.read_record_batch.result error
    c.requires.arrays c.requires.order c.requires.header c.as_slice.ensures.value (search rules) (search rules) c.read_record_batch.ensures.read in
    search (rules, refused)

pub choose_of-requires : goal.choose_of-requires
choose_of-requires c =
    let fields = c.args.fields.now in
    let order = c.args.order.now in
    let found = c.in_ok-found.found in
    let types = subst (λ (ks : List ℕ). map column_type found ≡ map type_of (chosen ks fields)) c.as_slice.ensures.value
    c.in_ok-found.ensures.types in
    subst (λ (ks : List ℕ). are_below (length found) ks ≡ true) (sym c.as_slice-2.ensures.value)
    (found_count order fields found c.requires.order types)

pub returns-clause-value : goal.returns-clause-value
returns-clause-value c =
    let layout = layout_by c.args.fields.now c.args.ipc_schema.now in
    let order = c.args.order.now in
    let found = c.in_ok-found.found in
    let chunk = c.in_ok-chunk.chunk in
    let made = subst (λ (ks : List ℕ). chunk ≡ chosen ks found) c.as_slice-2.ensures.value c.in_ok-chunk.ensures in
    entry_chosen layout (standing_in c.args.dictionaries.now) c.args.limit order c.args.entry.now c.args.header.now c.as_slice.result.now _ _
    found chunk c.requires.arrays c.requires.order c.requires.header c.as_slice.ensures.value (search rules) made c.in_ok-found.ensures.read

pub returns-clause-fields : goal.returns-clause-fields
returns-clause-fields c =
    let fields = c.args.fields.now in
    let order = c.args.order.now in
    let found = c.in_ok-found.found in
    let chunk = c.in_ok-chunk.chunk in
    let types = subst (λ (ks : List ℕ). map column_type found ≡ map type_of (chosen ks fields)) c.as_slice.ensures.value
    c.in_ok-found.ensures.types in
    let made = subst (λ (ks : List ℕ). chunk ≡ chosen ks found) c.as_slice-2.ensures.value c.in_ok-chunk.ensures in
    chosen_fields order fields found chunk c.requires.order types made c.whole.ensures
