-- The message at the place is put behind the others.
use Rattle.std.proofs.Common.{rules, ◌≡◌, [], ◌∷◌, ◌++◌, ℕ, List, length, map, refl, ap, inl}
use Rattle.std.proofs.lemmas.List.{map-append}
use Rattle.std.specs.Prelude.{Some, None, Err}
use Rattle.tables_chunks.specs.ipc_format.FileEntries.{entry_view, entries_view}
use Rattle.tables_chunks.specs.ipc_format.Frames.{ReachesBehind}
use Rattle.tables_chunks.specs.ipc_format.Framing.{Framed, nothing_whole, at_end, message_then, next_at, dictionaries_after}
use Rattle.tables_chunks.specs.ipc_format.MessageViews.{kind_view, version_view}
use Rattle.tables_chunks.specs.ipc_format.grammar.Tables.{stream_entry}
use Rattle.tables_chunks.specs.ipc_format.streams.declared.frames.Framed as frames
use Rattle.tables_chunks.specs.ipc_format.streams.declared.frames.NextMessage.TheVariants as nexts
use Rattle.tables_rows.specs.StreamEntries.{CountsInARow, RefusesNext}
use Rattle.tables_rows.proofs.NextEntries.{turn_refused}
use Rattle.tables_rows.proofs.stream_entries.push_next.Goals as goal

-- the message as the definitions have it
abbrev framed_of : frames.Framed → Framed
framed_of framed = record { metadata = framed.metadata.now; header = kind_view framed.header; body = framed.body.now }

pub returns-in-None : goal.returns-in-None
returns-in-None c =
    let there : next_at c.args.bytes.now c.args.place ≡ None = search rules in
    inl there

pub returns-in-Some-Truncated : goal.returns-in-Some-Truncated
returns-in-Some-Truncated c =
    let there : next_at c.args.bytes.now c.args.place ≡ Some nothing_whole = search rules in
    there

pub returns-in-Some-End : goal.returns-in-Some-End
returns-in-Some-End c =
    let there : next_at c.args.bytes.now c.args.place ≡ Some at_end = search rules in
    (there, refl)

pub returns-in_err-now : goal.returns-in_err-now
returns-in_err-now c =
    let bytes = c.args.bytes.now in
    let place = c.args.place in
    let in_a_row = c.args.in_a_row.now in
    let framed = framed_of c.in-Some-Message.framed in
    let after = c.in-Some-Message.after in
    let fault = c.in_err-now.field-0.0 in
    let there : next_at bytes place ≡ Some (message_then framed after) = search rules in
    let refused : CountsInARow in_a_row framed.header (Err fault) = search rules in
    let whole : RefusesNext bytes place in_a_row fault = turn_refused fault bytes place in_a_row after framed there refused in
    search (rules, whole)

pub returns : goal.returns
returns c =
    let bytes = c.args.bytes.now in
    let version = version_view c.args.version in
    let place = c.args.place in
    let code = c.in-Some-Message.framed in
    let framed = framed_of code in
    let after = c.in-Some-Message.after in
    let now = c.in_ok-now.now in
    let there : next_at bytes place ≡ Some (message_then framed after) = search rules in
    let counts : dictionaries_after c.args.in_a_row.now framed.header ≡ Some now = search rules in
    let reach : ReachesBehind place (length bytes) (nexts.Message code after) = search rules in
    let seen : entry_view (record { header = code.header; version = c.args.version; room = code.body; origin = 0 }) ≡ stream_entry version framed =
    ap (λ (m : List ℕ). record { metadata = m; header = framed.header; version = version; room = framed.body; origin = 0 }) code.of_metadata in
    let grown : entries_view c.push.new.self ≡ entries_view c.args.entries.now ++ stream_entry version framed ∷ [] =
    search (rules, map-append, seen) in
    (framed, there, counts, grown, reach.0, reach.1)
