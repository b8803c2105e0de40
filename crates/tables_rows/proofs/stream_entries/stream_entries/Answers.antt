-- The messages are found one after another.
use Rattle.std.proofs.Common.{rules, ◌≡◌, ◌∙◌, List, [], sym, ap, subst}
use Rattle.std.specs.Prelude.{Some, Ok, Err}
use Rattle.tables_chunks.specs.ipc_format.FileEntries.{entries_view}
use Rattle.tables_chunks.specs.ipc_format.Dictionaries.{Entry}
use Rattle.tables_chunks.specs.ipc_format.Framing.{at_end, next_at}
use Rattle.tables_chunks.specs.ipc_format.MessageViews.{version_view}
use Rattle.tables_rows.specs.StreamEntries.{FindsEntries, PushesNext, RefusesNext}
use Rattle.tables_rows.proofs.FoundEntries.{EntriesFound, all_found, nothing_found, one_found}
use Rattle.tables_rows.proofs.NextEntries.{next_refused}
use Rattle.tables_rows.proofs.stream_entries.stream_entries.Goals as goal

pub messages-init : goal.messages-init
messages-init c =
    let none : entries_view c.new-entries.result ≡ [] = search rules in
    subst (λ (entries : List Entry). EntriesFound (version_view c.args.version) c.args.bytes.now c.args.first entries 0 c.args.first) (sym none)
    (nothing_found (version_view c.args.version) c.args.bytes.now c.args.first c.requires.begun c.requires.inside)

pub returns-in_err-push_next : goal.returns-in_err-push_next
returns-in_err-push_next c =
    let bytes = c.args.bytes.now in
    let version = version_view c.args.version in
    let fault = c.in_err-push_next.field-0.0 in
    let refused : RefusesNext bytes c.messages.place c.messages.in_a_row fault = search rules in
    let whole : FindsEntries version bytes c.args.first (Err fault) =
    next_refused fault version bytes c.args.first (entries_view c.messages.entries) c.messages.in_a_row c.messages.place c.messages.invariant
    refused in
    search (rules, whole)

pub messages-preserved : goal.messages-preserved
messages-preserved c =
    let bytes = c.args.bytes.now in
    let version = version_view c.args.version in
    let place = c.messages.place in
    let in_a_row = c.messages.in_a_row in
    let now = c.push_next.new.in_a_row in
    let before = entries_view c.messages.entries in
    let more = entries_view c.push_next.new.entries in
    let after = c.in-Some.after in
    let next : PushesNext version bytes place in_a_row now before more (Ok (Some after)) = search rules in
    one_found version bytes c.args.first before more in_a_row place after now next.0 next.1 next.2 next.4 next.5 next.3 c.messages.invariant

pub returns : goal.returns
returns c =
    let there : next_at c.args.bytes.now c.messages.place ≡ Some at_end = search rules in
    let same : entries_view c.push_next.new.entries ≡ entries_view c.messages.entries = search rules in
    all_found (version_view c.args.version) c.args.bytes.now c.args.first (entries_view c.messages.entries) c.messages.in_a_row
    c.messages.place there c.messages.invariant
    ∙ ap (λ (entries : List Entry). Some entries) (sym same)
