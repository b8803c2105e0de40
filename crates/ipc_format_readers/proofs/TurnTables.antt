-- The table of a stream, and the choice of some of its columns, are those of the batches behind its first message.
use Rattle.std.proofs.Common.{◌≡◌, ◌∙◌, ℕ, ◌≤◌, Bool, true, false, List, [], drop, length, map, sym, ap, subst, arith, nat_lt}
use Rattle.std.specs.Prelude.{Option, Some, None}
use Rattle.std.specs.List.{list_all}
use Rattle.ipc_format_chunk_writing.specs.Readable.{HasArrays, SchemasHaveArrays}
use Rattle.ipc_format_chunk_writing.specs.columns.Slots.{Slot}
use Rattle.ipc_format_chunk_writing.specs.columns.Tables.{Table, chosen}
use Rattle.ipc_format_chunk_writing.specs.flatbuffers.Reading.{◌>>=◌, guard}
use Rattle.ipc_format_chunk_writing.specs.grammar.Framing.{Framed, Next, nothing_whole, at_end, message_then}
use Rattle.ipc_format_chunk_writing.specs.grammar.Framing.{by_next, first_of, later_messages, next_at, schema_then}
use Rattle.ipc_format_chunk_writing.specs.grammar.Messages as message
use Rattle.ipc_format_chunk_writing.specs.grammar.Messages.{Header, Version, version_in}
use Rattle.ipc_format_chunk_writing.specs.grammar.Schemas.{SchemaIn}
use Rattle.ipc_format_chunk_writing.specs.grammar.Tables.{Contents, choice_of, chosen_batches, layout_of, schema_of, stream, stream_entry, table_of}
use Rattle.ipc_format_chunk_writing.specs.grammar.Writable.{normalised}
use Rattle.ipc_format_chunk_writing.specs.streams.Starts.{Start, start_in}
use Rattle.ipc_format_readers.specs.Laws.{asked_batches}
use Rattle.ipc_format_readers.specs.TurnTables.{TablesAreReadByTurns, batches_after, choice_by, table_by}
use Rattle.ipc_format_readers.proofs.Binding.{bind_assoc, came_of, same_some}
use Rattle.ipc_format_readers.proofs.Dropped.{bind_nothing, drop_size, enough, later_dropped, reaches}
use Rattle.ipc_format_readers.proofs.LimitedChoices.{limited_choice}
use Rattle.ipc_format_readers.proofs.StreamParts.{behind_start, contents_by, stream_by, stream_from}

-- ---- the first message

-- a schema's message is the first one
schema_first : (framed : Framed) (after : ℕ) (header : Header) (first : Framed × ℕ) → schema_then framed after header ≡ Some first
    → (framed, after) ≡ first
schema_first framed after (message.schema table) first e = same_some {A = Framed × ℕ} (framed, after) first e
schema_first framed after (message.dictionary_batch table) first e = absurd cc
schema_first framed after (message.record_batch table) first e = absurd cc

ends_within : (bytes : List ℕ) (next : Next) (first : Framed × ℕ) → next_at bytes 0 ≡ Some next
    → by_next None None (λ framed after. schema_then framed after framed.header) next ≡ Some first → first.1 ≤ length bytes
ends_within bytes nothing_whole first there e = absurd cc
ends_within bytes at_end first there e = absurd cc
ends_within bytes (message_then framed after) first there e =
    subst (λ (it : Framed × ℕ). it.1 ≤ length bytes) (schema_first framed after framed.header first e) (reaches bytes 0 framed after there).1

first_within : (bytes : List ℕ) (first : Framed × ℕ) → first_of bytes ≡ Some first → first.1 ≤ length bytes
unfolding first_of
first_within bytes first e = let next = came_of {A = Next} (next_at bytes 0) _ first e in ends_within bytes next.0 first next.1 next.2

has_arrays : SchemasHaveArrays → (framed : Framed) (header : Header) (found : SchemaIn) → schema_of framed header ≡ Some found
    → HasArrays (layout_of found)
has_arrays law framed (message.schema table) found e = law framed.metadata table found e
has_arrays law framed (message.dictionary_batch table) found e = absurd cc
has_arrays law framed (message.record_batch table) found e = absurd cc

-- what the first message says has arrays, and it ends within the bytes
begun : SchemasHaveArrays → (bytes : List ℕ) (start : Start) (place : ℕ) → start_in bytes ≡ Some (start, place)
    → HasArrays (layout_of start.schema) × (place ≤ length bytes)
begun law bytes start place e =
    let a = came_of {A = Framed × ℕ} (first_of bytes) _ (start, place) e in
    let b = came_of {A = Version} (version_in a.0.0.metadata) _ (start, place) a.2 in
    let c = came_of {A = SchemaIn} (schema_of a.0.0 a.0.0.header) _ (start, place) b.2 in
    let pair : (record { version = b.0; schema = c.0 }, a.0.1) ≡ (start, place) =
    same_some {A = Start × ℕ} (record { version = b.0; schema = c.0 }, a.0.1) (start, place) c.2 in
    subst (λ (p : Start × ℕ). HasArrays (layout_of p.0.schema) × (p.1 ≤ length bytes)) pair
    (has_arrays law a.0.0 a.0.0.header c.0 c.1, first_within bytes a.0 a.1)

-- the messages behind it are those of the bytes behind it
later_there : (bytes : List ℕ) (place : ℕ) → place ≤ length bytes
    → later_messages (length bytes) bytes place 0 ≡ later_messages (length (drop place bytes)) (drop place bytes) 0 0
later_there bytes place inside =
    let size = drop_size place bytes inside in
    later_dropped (length bytes) bytes place 0 inside
    ∙ enough (length bytes) (length (drop place bytes)) (drop place bytes) 0 (omega (arith, size)) (omega arith)

-- ---- chosen columns

-- what is chosen of what a stream holds
abbrev choice_rest : List ℕ → Contents → Option Table
choice_rest columns contents =
    choice_by columns (normalised contents.schema.schema) (chosen_batches (layout_of contents.schema) columns [] None contents.entries)

-- a test that comes first
test_first : {A B C : Type 0} (test : Bool) (later : Option A) (f : A → Option B) (k : B → Option C)
    → (later >>= (λ x. guard test >>= (λ _. f x >>= k))) ≡ (guard test >>= (λ _. (later >>= f) >>= k))
test_first true later f k = sym (bind_assoc later f k)
test_first false later f k = bind_nothing later

choice_is : (bytes : List ℕ) (start : Start) (place : ℕ) (columns : List ℕ) → start_in bytes ≡ Some (start, place) → place ≤ length bytes
    → choice_of stream bytes columns None ≡ choice_by columns (normalised start.schema.schema) (batches_after (Some columns) start place bytes)
unfolding choice_of
choice_is bytes start place columns e inside =
    let fields = (normalised start.schema.schema).fields in
    let its = record (normalised start.schema.schema) { fields = chosen columns fields } in
    stream_by (choice_rest columns) bytes
    ∙ ap (λ (given : Option (Start × ℕ)). given
    >>= behind_start (choice_rest columns) (λ place. later_messages (length bytes) bytes place 0)) e
    ∙ ap (λ (later : Option (List Framed)). later >>= (λ more. choice_rest columns (contents_by start more))) (later_there bytes place inside)
    ∙ test_first {A = List Framed} {B = List (List (List Slot))} (list_all (λ k. nat_lt k (length fields)) columns)
    (later_messages (length (drop place bytes)) (drop place bytes) 0 0)
    (λ more. asked_batches (Some columns) (layout_of start.schema) [] (map (stream_entry start.version) more))
    (λ batches. table_by its (Some batches))

-- ---- all columns

whole_is : (bytes : List ℕ) (start : Start) (place : ℕ) → start_in bytes ≡ Some (start, place) → place ≤ length bytes
    → table_of stream bytes ≡ table_by (normalised start.schema.schema) (batches_after None start place bytes)
whole_is bytes start place e inside =
    (stream_from bytes start place e).table
    ∙ ap (λ (later : Option (List Framed)). table_by (normalised start.schema.schema)
    (later >>= (λ more. asked_batches None (layout_of start.schema) [] (map (stream_entry start.version) more)))) (later_there bytes place inside)

pub tables_are_read_by_turns : SchemasHaveArrays → TablesAreReadByTurns
tables_are_read_by_turns law bytes start place e =
    let its = begun law bytes start place e in
    record {
      arrays = its.0;
      whole = whole_is bytes start place e its.1;
      choices = λ columns. choice_is bytes start place columns e its.1;
      limits = limited_choice stream bytes;
    }
