-- What is read of bytes is what was gathered of their messages.
use Rattle.std.proofs.Common.{◌≡◌, ◌∙◌, ℕ, Bool, true, false, List, [], length, map, refl, sym, ap, ap₂, subst, inl, inr}
use Rattle.std.proofs.lemmas.Bool.{false≢true}
use Rattle.std.specs.List.{list_all}
use Rattle.std.specs.Option.{option_map}
use Rattle.std.specs.Prelude.{Option, Some, None, IsSome, IsSomeAnd, Result, Ok, Err, nat_lt, ◌⊎◌}
use Rattle.std.specs.declared.alloc.Global.{Global}
use Rattle.std.specs.declared.vec.Vec.{Vec}
use Rattle.columnar_memory_types.specs.Error.{IsOutOfMemory}
use Rattle.tables_chunks.specs.Choices.{are_below}
use Rattle.tables_chunks.specs.Faults.{fault_of}
use Rattle.tables_chunks.specs.StoredTables.{Stored, as_table}
use Rattle.tables_chunks.specs.declared.fault.Fault.{Fault}
use Rattle.tables_chunks.specs.declared.fault.Fault.TheVariants as faults
use Rattle.tables_chunks.specs.ipc_format.FileEntries.{entries_view}
use Rattle.tables_chunks.specs.ipc_format.FileReads.{IsUnreadFile}
use Rattle.tables_chunks.specs.ipc_format.FileStarts as files
use Rattle.tables_chunks.specs.ipc_format.readers.declared.entries.Entry as declared
use Rattle.tables_chunks.specs.ipc_format.Dictionaries.{Entry}
use Rattle.tables_chunks.specs.ipc_format.Framing.{Framed, later_messages}
use Rattle.tables_chunks.specs.ipc_format.Messages.{Version}
use Rattle.tables_chunks.specs.ipc_format.Reading.{◌>>=◌, guard}
use Rattle.tables_chunks.specs.ipc_format.Refusals.{HasFloat, HasUnimplemented}
use Rattle.tables_chunks.specs.ipc_format.Schemas.{SchemaIn}
use Rattle.tables_chunks.specs.ipc_format.Writable.{normalised}
use Rattle.tables_chunks.specs.ipc_format.columnar_memory.declared.Error.{Error}
use Rattle.tables_chunks.specs.ipc_format.columnar_memory.declared.Error.TheVariants as errors
use Rattle.tables_chunks.specs.ipc_format.columnar_memory.declared.Schema.{Schema}
use Rattle.tables_chunks.specs.ipc_format.columns.Slots.{Slot}
use Rattle.tables_chunks.specs.ipc_format.columns.Tables.{Table, rows_of_batches}
use Rattle.tables_chunks.specs.ipc_format.grammar.Files.{file_entries}
use Rattle.tables_chunks.specs.ipc_format.grammar.Tables.{Contents, Form, stream, file, chosen_batches, choice_of, contents_of, layout_of}
use Rattle.tables_chunks.specs.ipc_format.grammar.Tables.{stream_entry}
use Rattle.tables_chunks.specs.ipc_format.metadata.Reading.{Refuses}
use Rattle.tables_chunks.specs.ipc_format.streams.Starts as streams
use Rattle.tables_chunks.proofs.Starting.{stream_without}
use Rattle.tables_chunks.proofs.ipc_format_lemmas.WholeFiles.{unread_start}
use Rattle.tables_chunks.proofs.ipc_format_lemmas.FileStarts.{unread_in_file}
use Rattle.tables_chunks.proofs.ipc_format_lemmas.Binding.{same_some}
use Rattle.tables_chunks.proofs.ipc_format_lemmas.StreamParts.{fitting, fits, stream_from, too_many, unread_in_stream}
use Rattle.tables_rows.specs.Gathered.{Batches, GathersTable, HasUnread}
use Rattle.tables_rows.specs.ReadChoices.{EndsEarly, LacksColumn, ReadsChoice, choice_batches, schema_of_bytes}
use Rattle.tables_rows.specs.StreamEntries.{FindsEntries}
use Rattle.tables_rows.proofs.EarlyEnds.{ends_early, ends_in_later, never_early}
use Rattle.tables_rows.proofs.FileMessages.{file_holds, file_without, unread_blocks}
use Rattle.tables_rows.proofs.GatheredTables.{of_value, picked_of, with_value}
use Rattle.tables_rows.proofs.KeptRows.{rows_kept}
use Rattle.tables_rows.proofs.StreamMessages.{none_to_end, stream_holds, unread_from, whole_to_end}

-- what is read as a table
abbrev pub ReadsStored : Form → List ℕ → List ℕ → Option ℕ → Result Stored Fault → Type 0
ReadsStored form bytes columns limit result = ReadsChoice (λ table. table) form bytes columns limit result

-- all columns are there
abbrev pub HasColumns : SchemaIn → List ℕ → Type 0
HasColumns found columns = are_below (length (normalised found.schema).fields) columns ≡ true

-- ---- the choice of what is held

-- the chosen columns of what is held
abbrev batches_held : List ℕ → Option ℕ → Contents → Option Batches
batches_held columns limit contents = chosen_batches (layout_of contents.schema) columns [] limit contents.entries

abbrev choice_held : List ℕ → Option ℕ → Contents → Option Table
choice_held columns limit contents =
    guard (list_all (λ k. nat_lt k (length (normalised contents.schema.schema).fields)) columns)
    >>= (λ _. fitting (picked_of (normalised contents.schema.schema) columns) (batches_held columns limit contents))

choice_is : (form : Form) (bytes columns : List ℕ) (limit : Option ℕ)
    → choice_of form bytes columns limit ≡ (contents_of form bytes >>= choice_held columns limit)
unfolding choice_of
choice_is form bytes columns limit = refl

-- without contents there are no chosen batches
no_chosen : (form : Form) (bytes columns : List ℕ) (limit : Option ℕ) → contents_of form bytes ≡ None
    → choice_batches form bytes columns limit ≡ None
no_chosen form bytes columns limit none = ap (λ (held : Option Contents). held >>= batches_held columns limit) none

chooses : (form : Form) (bytes columns : List ℕ) (limit : Option ℕ) (found : SchemaIn) (entries : List Entry) (given : Option Batches)
    → contents_of form bytes ≡ Some (record { schema = found; entries = entries }) → HasColumns found columns
    → chosen_batches (layout_of found) columns [] limit entries ≡ given
    → choice_of form bytes columns limit ≡ fitting (picked_of (normalised found.schema) columns) given
chooses form bytes columns limit found entries given e below batches =
    let schema = picked_of (normalised found.schema) columns in
    choice_is form bytes columns limit ∙ ap (λ (held : Option Contents). held >>= choice_held columns limit) e
    ∙ ap (λ (test : Bool). guard test >>= (λ _. fitting schema (chosen_batches (layout_of found) columns [] limit entries))) below
    ∙ ap (fitting schema) batches

batches_are : (form : Form) (bytes columns : List ℕ) (limit : Option ℕ) (found : SchemaIn) (entries : List Entry) (given : Option Batches)
    → contents_of form bytes ≡ Some (record { schema = found; entries = entries })
    → chosen_batches (layout_of found) columns [] limit entries ≡ given → choice_batches form bytes columns limit ≡ given
batches_are form bytes columns limit found entries given e batches =
    ap (λ (held : Option Contents). held >>= batches_held columns limit) e ∙ batches

-- ---- columns that aren't there

lacks_none : (given : Option SchemaIn) (columns : List ℕ) → given ≡ None
    → IsSomeAnd given (λ found. are_below (length (normalised found.schema).fields) columns ≡ false) → ⊥
lacks_none None columns none lacks = absurd lacks
lacks_none (Some found) columns none lacks = absurd cc

never_lacks : (form : Form) (bytes columns : List ℕ) (found : SchemaIn) → schema_of_bytes form bytes ≡ Some found → HasColumns found columns
    → LacksColumn form bytes columns → ⊥
never_lacks form bytes columns found e below lacks =
    let missing : are_below (length (normalised found.schema).fields) columns ≡ false =
    subst (λ given. IsSomeAnd given (λ (s : SchemaIn). are_below (length (normalised s.schema).fields) columns ≡ false)) e lacks in
    false≢true (sym missing ∙ below)

-- a column that isn't below the number of fields isn't there
pub lacks_column : (form : Form) (bytes columns : List ℕ) (limit : Option ℕ) (found : SchemaIn) → schema_of_bytes form bytes ≡ Some found
    → are_below (length (normalised found.schema).fields) columns ≡ false
    → ReadsStored form bytes columns limit (Err faults.NoSuchColumn)
lacks_column form bytes columns limit found e missing = of_value (schema_of_bytes form bytes) _ found e missing

-- ---- messages that are found

-- what is known of bytes whose messages are found
pub record IsHeld (form : Form) (bytes : List ℕ) (found : SchemaIn) (entries : List Entry) : Type 0 where
  pub schema : schema_of_bytes form bytes ≡ Some found
  pub contents : contents_of form bytes ≡ Some (record { schema = found; entries = entries })
  pub whole : EndsEarly form bytes → ⊥
  pub unread : HasUnread entries → HasUnimplemented form bytes

pub held_read : (form : Form) (bytes columns : List ℕ) (limit : Option ℕ) (found : SchemaIn) (entries : List Entry)
    (result : Result Stored Fault) → IsHeld form bytes found entries → HasColumns found columns
    → GathersTable (normalised found.schema) (layout_of found) columns limit entries result → ReadsStored form bytes columns limit result
held_read form bytes columns limit found entries (Ok table) held below gathered =
    let schema = picked_of (normalised found.schema) columns in
    let it = with_value (chosen_batches (layout_of found) columns [] limit entries) _ gathered.1 in
    let rows : rows_of_batches it.0 ≡ (as_table table).rows = sym (rows_kept it.0) ∙ ap rows_of_batches (it.2.0) in (
      chooses form bytes columns limit found entries (Some it.0) held.contents below it.1 ∙ fits schema it.0 it.2.1
          ∙ ap₂ (λ (s : Schema) (all : List (List Slot)). Some (record { schema = s; rows = all })) (sym gathered.0) rows,
      of_value (choice_batches form bytes columns limit) _ it.0 (batches_are form bytes columns limit found entries (Some it.0) held.contents it.1)
          it.2.0,
    )
held_read form bytes columns limit found entries (Err faults.Memory) held below gathered = tt
held_read form bytes columns limit found entries (Err (faults.Ipc (errors.OutOfSpec what))) held below gathered = (
  batches_are form bytes columns limit found entries None held.contents gathered,
  never_lacks form bytes columns found held.schema below,
  held.whole,
)
held_read form bytes columns limit found entries (Err (faults.Ipc (errors.NotYetImplemented what))) held below gathered = (
  batches_are form bytes columns limit found entries None held.contents gathered.0,
  never_lacks form bytes columns found held.schema below,
  held.unread gathered.1,
)
held_read form bytes columns limit found entries (Err faults.TooManyRows) held below gathered =
    let schema = picked_of (normalised found.schema) columns in
    let it = with_value (chosen_batches (layout_of found) columns [] limit entries) _ gathered in (
      chooses form bytes columns limit found entries (Some it.0) held.contents below it.1 ∙ too_many schema (Some it.0) it.2,
      never_lacks form bytes columns found held.schema below,
      of_value (choice_batches form bytes columns limit) _ it.0 (batches_are form bytes columns limit found entries (Some it.0) held.contents it.1)
          it.2,
    )
held_read form bytes columns limit found entries (Err (faults.Ipc (errors.External from what))) held below gathered = absurd gathered
held_read form bytes columns limit found entries (Err (faults.Ipc (errors.Io what))) held below gathered = absurd gathered
held_read form bytes columns limit found entries (Err (faults.Ipc (errors.InvalidArgumentError what))) held below gathered = absurd gathered
held_read form bytes columns limit found entries (Err (faults.Ipc (errors.ExternalFormat what))) held below gathered = absurd gathered
held_read form bytes columns limit found entries (Err (faults.Ipc errors.Overflow)) held below gathered = absurd gathered
held_read form bytes columns limit found entries (Err (faults.Ipc errors.OutOfMemory)) held below gathered = absurd gathered
held_read form bytes columns limit found entries (Err faults.Unfinished) held below gathered = absurd gathered
held_read form bytes columns limit found entries (Err (faults.Lower error)) held below gathered = absurd gathered
held_read form bytes columns limit found entries (Err (faults.NotSealable bar)) held below gathered = absurd gathered
held_read form bytes columns limit found entries (Err faults.RowWidth) held below gathered = absurd gathered
held_read form bytes columns limit found entries (Err faults.NoColumns) held below gathered = absurd gathered
held_read form bytes columns limit found entries (Err faults.NoSuchColumn) held below gathered = absurd gathered

-- ---- refusals

-- want of memory
pub memory_refused : (error : Error) (form : Form) (bytes columns : List ℕ) (limit : Option ℕ) → IsOutOfMemory error
    → ReadsStored form bytes columns limit (Err (fault_of error))
memory_refused errors.OutOfMemory form bytes columns limit is = tt
memory_refused errors.Overflow form bytes columns limit is = absurd is
memory_refused (errors.Io what) form bytes columns limit is = absurd is
memory_refused (errors.NotYetImplemented what) form bytes columns limit is = absurd is
memory_refused (errors.InvalidArgumentError what) form bytes columns limit is = absurd is
memory_refused (errors.ExternalFormat what) form bytes columns limit is = absurd is
memory_refused (errors.OutOfSpec what) form bytes columns limit is = absurd is
memory_refused (errors.External from what) form bytes columns limit is = absurd is

-- What is refused before the messages are found: where the format gives nothing, nothing is held, no column lacks and no stream ends early.
pub refused_read : {A : Type 0} (error : Error) (form : Form) (bytes columns : List ℕ) (limit : Option ℕ) (Unread : Type 0) (given : Option A)
    → (given ≡ None → contents_of form bytes ≡ None) → (given ≡ None → LacksColumn form bytes columns → ⊥)
    → (given ≡ None → EndsEarly form bytes → ⊥) → (Unread → HasUnimplemented form bytes)
    → Refuses Unread error given → ReadsStored form bytes columns limit (Err (fault_of error))
refused_read errors.OutOfMemory form bytes columns limit Unread given nothing lacks early unread refused = tt
refused_read (errors.OutOfSpec what) form bytes columns limit Unread given nothing lacks early unread refused =
    (no_chosen form bytes columns limit (nothing refused), lacks refused, early refused)
refused_read (errors.NotYetImplemented what) form bytes columns limit Unread given nothing lacks early unread refused =
    (no_chosen form bytes columns limit (nothing refused.0), lacks refused.0, unread refused.1)
refused_read (errors.External from what) form bytes columns limit Unread given nothing lacks early unread refused = absurd refused
refused_read (errors.Io what) form bytes columns limit Unread given nothing lacks early unread refused = absurd refused
refused_read (errors.InvalidArgumentError what) form bytes columns limit Unread given nothing lacks early unread refused = absurd refused
refused_read (errors.ExternalFormat what) form bytes columns limit Unread given nothing lacks early unread refused = absurd refused
refused_read errors.Overflow form bytes columns limit Unread given nothing lacks early unread refused = absurd refused

-- ---- streams

abbrev stream_schema : streams.Start × ℕ → SchemaIn
stream_schema found = found.0.schema

pub stream_start_refused : (error : Error) (bytes columns : List ℕ) (limit : Option ℕ)
    → Refuses (HasFloat stream bytes) error (streams.start_in bytes) → ReadsStored stream bytes columns limit (Err (fault_of error))
stream_start_refused error bytes columns limit refused =
    refused_read error stream bytes columns limit (HasFloat stream bytes) (streams.start_in bytes) (stream_without bytes)
    (λ none. lacks_none (schema_of_bytes stream bytes) columns (ap (option_map stream_schema) none)) (never_early bytes) (λ float. inr (inl float))
    refused

pub stream_has_schema : (bytes : List ℕ) (start : streams.Start) (place : ℕ) → streams.start_in bytes ≡ Some (start, place)
    → schema_of_bytes stream bytes ≡ Some start.schema
stream_has_schema bytes start place e = ap (option_map stream_schema) e

-- the messages behind the schema aren't found
pub stream_entries_refused : (fault : Fault) (bytes columns : List ℕ) (limit : Option ℕ) (start : streams.Start) (place : ℕ) (version : Version)
    → streams.start_in bytes ≡ Some (start, place) → HasColumns start.schema columns → FindsEntries version bytes place (Err fault)
    → ReadsStored stream bytes columns limit (Err fault)
stream_entries_refused faults.Memory bytes columns limit start place version e below refused = tt
stream_entries_refused faults.Unfinished bytes columns limit start place version e below refused =
    let none = none_to_end bytes place (later_messages (length bytes) bytes place 0) refl refused in (
      no_chosen stream bytes columns limit (stream_holds bytes start place None e none),
      never_lacks stream bytes columns start.schema (stream_has_schema bytes start place e) below,
      ends_early bytes (subst IsSome (sym e) refl) ((stream_from bytes start place e).cut ∙ refused),
    )
stream_entries_refused (faults.Ipc (errors.OutOfSpec what)) bytes columns limit start place version e below refused = (
  no_chosen stream bytes columns limit (stream_holds bytes start place None e refused.0),
  never_lacks stream bytes columns start.schema (stream_has_schema bytes start place e) below,
  λ early. not_cut (sym refused.1 ∙ sym ((stream_from bytes start place e).cut) ∙ ends_in_later bytes early),
)
  where
    not_cut : ◌≡◌ {A = Option Bool} None (Some true) → ⊥
    not_cut e = absurd cc
stream_entries_refused (faults.Ipc (errors.NotYetImplemented what)) bytes columns limit start place version e below refused = absurd refused
stream_entries_refused (faults.Ipc (errors.External from what)) bytes columns limit start place version e below refused = absurd refused
stream_entries_refused (faults.Ipc (errors.Io what)) bytes columns limit start place version e below refused = absurd refused
stream_entries_refused (faults.Ipc (errors.InvalidArgumentError what)) bytes columns limit start place version e below refused = absurd refused
stream_entries_refused (faults.Ipc (errors.ExternalFormat what)) bytes columns limit start place version e below refused = absurd refused
stream_entries_refused (faults.Ipc errors.Overflow) bytes columns limit start place version e below refused = absurd refused
stream_entries_refused (faults.Ipc errors.OutOfMemory) bytes columns limit start place version e below refused = absurd refused
stream_entries_refused faults.TooManyRows bytes columns limit start place version e below refused = absurd refused
stream_entries_refused (faults.Lower error) bytes columns limit start place version e below refused = absurd refused
stream_entries_refused (faults.NotSealable bar) bytes columns limit start place version e below refused = absurd refused
stream_entries_refused faults.RowWidth bytes columns limit start place version e below refused = absurd refused
stream_entries_refused faults.NoColumns bytes columns limit start place version e below refused = absurd refused
stream_entries_refused faults.NoSuchColumn bytes columns limit start place version e below refused = absurd refused

stream_held : (bytes : List ℕ) (start : streams.Start) (place : ℕ) (entries : List Entry) (given : Option (List Framed))
    → streams.start_in bytes ≡ Some (start, place) → later_messages (length bytes) bytes place 0 ≡ given
    → option_map (map (stream_entry start.version)) given ≡ Some entries → IsHeld stream bytes start.schema entries
stream_held bytes start place entries None e later are = absurd cc
stream_held bytes start place entries (Some framed) e later are =
    let whole = stream_from bytes start place e in
    let same : map (stream_entry start.version) framed ≡ entries = same_some {A = List Entry} _ entries are in
    subst (IsHeld stream bytes start.schema) same (record {
      schema = stream_has_schema bytes start place e;
      contents = stream_holds bytes start place (Some framed) e later;
      whole = λ early. whole_to_end (length bytes) bytes place 0 framed later (sym whole.cut ∙ ends_in_later bytes early);
      unread = λ unread. inr (unread_in_stream bytes start place whole (unread_from start.version bytes place framed later unread));
    })

-- the messages behind the schema are found
pub stream_entries_found : (bytes : List ℕ) (start : streams.Start) (place : ℕ) (entries : Vec declared.Entry Global)
    → streams.start_in bytes ≡ Some (start, place) → FindsEntries start.version bytes place (Ok entries)
    → IsHeld stream bytes start.schema (entries_view entries)
stream_entries_found bytes start place entries e found =
    stream_held bytes start place (entries_view entries) (later_messages (length bytes) bytes place 0) e refl found

-- ---- files

abbrev file_schema : files.Start → SchemaIn
file_schema found = found.schema

pub file_start_refused : (error : Error) (bytes columns : List ℕ) (limit : Option ℕ)
    → Refuses (IsUnreadFile bytes) error (files.start_in bytes) → ReadsStored file bytes columns limit (Err (fault_of error))
file_start_refused error bytes columns limit refused =
    refused_read error file bytes columns limit (IsUnreadFile bytes) (files.start_in bytes) (file_without bytes)
    (λ none. lacks_none (schema_of_bytes file bytes) columns (ap (option_map file_schema) none)) (λ none early. early)
    (unread_start bytes) refused

pub file_has_schema : (bytes : List ℕ) (start : files.Start) → files.start_in bytes ≡ Some start
    → schema_of_bytes file bytes ≡ Some start.schema
file_has_schema bytes start e = ap (option_map file_schema) e

-- the messages at the blocks aren't found
pub file_entries_refused : (error : Error) (bytes columns : List ℕ) (limit : Option ℕ) (start : files.Start) → files.start_in bytes ≡ Some start
    → HasColumns start.schema columns → Refuses ⊥ error (file_entries bytes start.dictionaries start.record_batches)
    → ReadsStored file bytes columns limit (Err (fault_of error))
file_entries_refused error bytes columns limit start e below refused =
    refused_read error file bytes columns limit ⊥ (file_entries bytes start.dictionaries start.record_batches)
    (file_holds bytes start None e) (λ none. never_lacks file bytes columns start.schema (file_has_schema bytes start e) below)
    (λ none early. early) (λ no. absurd no) refused

-- the messages at the blocks are found
pub file_entries_found : (bytes : List ℕ) (start : files.Start) (entries : List Entry) → files.start_in bytes ≡ Some start
    → file_entries bytes start.dictionaries start.record_batches ≡ Some entries → IsHeld file bytes start.schema entries
file_entries_found bytes start entries e found = record {
  schema = file_has_schema bytes start e;
  contents = file_holds bytes start (Some entries) e found;
  whole = λ early. early;
  unread = λ unread. inr (inr (unread_in_file bytes start e (unread_blocks bytes start.dictionaries start.record_batches entries found unread)));
}
