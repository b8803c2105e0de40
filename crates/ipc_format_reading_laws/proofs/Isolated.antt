-- What stands outside of the windows of some columns says nothing of a choice of these columns.
use Rattle.std.proofs.Common.{◌≡◌, ◌∙◌, ℕ, ◌^◌, ◌≤◌, List, [], ◌∷◌, length, refl, sym, ap, nat_lt, arith}
use Rattle.std.specs.Prelude.{Option, Some, None}
use Rattle.std.specs.List.{list_all}
use Rattle.ipc_format_laws.specs.flatbuffers.Reading.{◌>>=◌, guard}
use Rattle.ipc_format_laws.specs.columns.Slots.{Slot}
use Rattle.ipc_format_laws.specs.columns.Tables.{Table, rows_of_batches, rows_of_columns, chosen}
use Rattle.ipc_format_laws.specs.grammar.Messages as message
use Rattle.ipc_format_laws.specs.grammar.Writable.{normalised}
use Rattle.ipc_format_laws.specs.grammar.Schemas.{SchemaIn}
use Rattle.ipc_format_laws.specs.grammar.Columns.{Dictionary}
use Rattle.ipc_format_laws.specs.grammar.Dictionaries.{Entry, Layout, dictionary_in}
use Rattle.ipc_format_laws.specs.grammar.Tables.{Contents, contents_of, layout_of, batch_in, batches_with, batches_of, table_of, left_of}
use Rattle.ipc_format_laws.specs.grammar.Tables.{chosen_batch_in, chosen_batches_with, chosen_batches, choice_of}
use Rattle.ipc_format_laws.specs.grammar.Windows.{Window, header_windows, entry_windows, SameEntry, SameEntries}
use Rattle.ipc_format_laws.proofs.Firsts.{came_of, bind_is}
use Rattle.ipc_format_reading_laws.specs.Isolation.{ChoicesAreIsolated}
use Rattle.ipc_format_reading_laws.proofs.IsolatedBuffers.{SameBytes, same_of_all}
use Rattle.ipc_format_reading_laws.proofs.IsolatedEntries.{with_room, dictionary_same, batch_same}

-- ---- messages

-- what follows the same thing, where it is the same for each
bind_same : {A B : Type 0} (r : Option A) (f g : A → Option B) → ((x : A) → f x ≡ g x) → (r >>= f) ≡ (r >>= g)
bind_same None f g each = refl
bind_same (Some x) f g each = each x

-- what is chosen of messages behind one is the same
abbrev SameBehind : Layout → List ℕ → List Entry → List Entry → Type 0
SameBehind layout ks entries others = (standing : List Dictionary) (limit : Option ℕ) (batches : List (List (List Slot)))
    → batches_of layout standing entries ≡ Some batches
    → chosen_batches layout ks standing limit others ≡ chosen_batches layout ks standing limit entries

by_header : (layout : Layout) (ks : List ℕ) (standing : List Dictionary) (limit : Option ℕ) (entry : Entry) (room : List ℕ)
    (entries others : List Entry) (header : message.Header) (batches : List (List (List Slot))) → length entry.room ≤ length room
    → SameBytes entry.room room (header_windows layout ks entry header) → SameBehind layout ks entries others
    → batches_with layout standing entry (λ now. batches_of layout now entries) header ≡ Some batches
    → chosen_batches_with layout standing (with_room entry room) limit ks (λ now left. chosen_batches layout ks now left others) header
    ≡ chosen_batches_with layout standing entry limit ks (λ now left. chosen_batches layout ks now left entries) header
by_header layout ks standing limit entry room entries others (message.schema table) batches size same behind e = absurd cc
by_header layout ks standing limit entry room entries others (message.dictionary_batch table) batches size same behind e =
    let dictionary = came_of {A = Dictionary} (dictionary_in layout standing entry table) _ batches e in
    let there = dictionary_same layout standing entry room table dictionary.0 size same dictionary.1 in
    bind_is (dictionary_in layout standing (with_room entry room) table) _ dictionary.0 there
    ∙ behind (dictionary.0 ∷ standing) limit batches dictionary.2
    ∙ sym (bind_is (dictionary_in layout standing entry table) _ dictionary.0 dictionary.1)
by_header layout ks standing limit entry room entries others (message.record_batch table) batches size same behind e =
    let columns = came_of {A = List (List Slot)} (batch_in layout standing entry table) _ batches e in
    let later = came_of {A = List (List (List Slot))} (batches_of layout standing entries) _ batches columns.2 in
    let rest : List Entry → List (List Slot) → Option (List (List (List Slot))) = λ some found.
    chosen_batches layout ks standing (left_of limit (rows_of_columns found)) some >>= (λ batches. Some (found ∷ batches)) in
    ap (λ (o : Option (List (List Slot))). o >>= rest others) (batch_same layout standing entry room limit ks table columns.0 size same columns.1)
    ∙ bind_same (chosen_batch_in layout standing entry limit ks table) (rest others) (rest entries) (λ found.
    ap (λ (o : Option (List (List (List Slot)))). o >>= (λ batches. Some (found ∷ batches)))
    (behind standing (left_of limit (rows_of_columns found)) later.0 later.1))

-- the other one of two messages is the first one with its own room
other_is : (windows : List Window) (a b : Entry) → SameEntry windows a b → b ≡ with_room a b.room
other_is windows a b same =
    ap (λ metadata. record b { metadata = metadata }) same.metadata
    ∙ ap (λ header. record b { metadata = a.metadata; header = header }) same.header
    ∙ ap (λ version. record b { metadata = a.metadata; header = a.header; version = version }) same.version
    ∙ ap (λ origin. record b { metadata = a.metadata; header = a.header; version = a.version; origin = origin }) same.origin

entries_same : (layout : Layout) (ks : List ℕ) (entries others : List Entry) → SameEntries layout ks entries others
    → SameBehind layout ks entries others
entries_same layout ks [] [] same standing limit batches e = refl
entries_same layout ks [] (other ∷ others) same standing limit batches e = absurd same
entries_same layout ks (entry ∷ entries) [] same standing limit batches e = absurd same
entries_same layout ks (entry ∷ entries) (other ∷ others) same standing limit batches e =
    ap (λ (other : Entry). chosen_batches layout ks standing limit (other ∷ others))
    (other_is (entry_windows layout ks entry) entry other same.0)
    ∙ by_header layout ks standing limit entry other.room entries others entry.header batches (omega (arith, same.0.size))
    (same_of_all entry.room other.room (entry_windows layout ks entry) same.0.bytes) (entries_same layout ks entries others same.1) e

-- ---- tables

-- the choice of what bytes hold, by the batches that are chosen
abbrev choice_by : SchemaIn → List ℕ → Option (List (List (List Slot))) → Option Table
choice_by found ks batches = guard (list_all (λ k. nat_lt k (length (normalised found.schema).fields)) ks) >>= (λ _. batches >>= (λ batches.
    guard (nat_lt (length (rows_of_batches batches)) (2 ^ 64)) >>= (λ _. Some (record {
      schema = record (normalised found.schema) { fields = chosen ks (normalised found.schema).fields };
      rows = rows_of_batches batches;
    }))))

pub choices_are_isolated : ChoicesAreIsolated
unfolding table_of choice_of
choices_are_isolated form ks a b limit table agree e =
    let first : Contents = agree.of_a in
    let second : Contents = agree.of_b in
    let layout : Layout = layout_of first.schema in
    let batches = came_of {A = List (List (List Slot))} (batches_of layout [] first.entries) _ table
    (sym (bind_is (contents_of form a) _ first agree.reads_a) ∙ e) in
    bind_is (contents_of form b) _ second agree.reads_b
    ∙ ap (λ (found : SchemaIn). choice_by found ks (chosen_batches (layout_of found) ks [] limit second.entries)) agree.schema
    ∙ ap (choice_by first.schema ks) (entries_same layout ks first.entries second.entries agree.entries [] limit batches.0 batches.1)
    ∙ sym (bind_is (contents_of form a) _ first agree.reads_a)
