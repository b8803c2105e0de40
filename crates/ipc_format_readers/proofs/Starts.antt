-- What a file's footer says, and what the file holds by it.
use Rattle.std.proofs.Common.{◌≡◌, ◌∙◌, ℕ, true, false, List, [], refl, sym, ap, subst, inl, inr}
use Rattle.std.specs.Prelude.{Option, Some, None, IsSome, IsSomeAnd, ◌⊎◌, slice_get}
use Rattle.ipc_format_chunk_writing.specs.columns.Slots.{Slot}
use Rattle.ipc_format_chunk_writing.specs.flatbuffers.FlatBuffers.{TablePlace, Vector, root_of, table_field, vector_field}
use Rattle.ipc_format_chunk_writing.specs.flatbuffers.Reading.{◌>>=◌}
use Rattle.ipc_format_chunk_writing.specs.grammar.Dictionaries.{Entry}
use Rattle.ipc_format_chunk_writing.specs.grammar.Files.{Block, Footer, blocks_if, blocks_of, file_entries}
use Rattle.ipc_format_chunk_writing.specs.grammar.Files.{footer_bytes_in, footer_in, footer_schema}
use Rattle.ipc_format_chunk_writing.specs.grammar.Messages as message
use Rattle.ipc_format_chunk_writing.specs.grammar.Refusals.{HasCompression, HasDelta, HasFloat, HasFloatField}
use Rattle.ipc_format_chunk_writing.specs.grammar.Refusals.{blocks, compression_in, is_delta, message_at, message_of_block}
use Rattle.ipc_format_chunk_writing.specs.grammar.SchemaGrammar.{schema_in}
use Rattle.ipc_format_chunk_writing.specs.grammar.Schemas.{SchemaIn}
use Rattle.ipc_format_chunk_writing.specs.grammar.SlotNumbers as slots
use Rattle.ipc_format_chunk_writing.specs.grammar.Tables.{Contents, file, batches_in, batches_of, contents_of, layout_of}
use Rattle.ipc_format_chunk_writing.specs.metadata.Steps.{FloatInSchema}
use Rattle.ipc_format_readers.proofs.Binding.{bind_assoc, bind_same, came_of, same_some}
use Rattle.ipc_format_readers.specs.BlockMessages.{HasCompressed, HasUnread, IsCompressedAt, IsUnreadAt}
use Rattle.ipc_format_readers.specs.FileStarts.{Start, blocks_in, start_in}
use Rattle.ipc_format_readers.specs.Footers.{HasFloatIn, schema_place, start_of_footer}
use Rattle.ipc_format_readers.proofs.Lists.{and_then, either}

-- ---- the footer

-- the lists of blocks
abbrev Lists : Type 0
Lists = List Block × List Block

-- a footer with its lists of blocks
abbrev footer_with : List ℕ × TablePlace → Lists → Option Footer
footer_with found lists =
    Some (record { bytes = found.0; schema = found.1; dictionaries = lists.0; record_batches = lists.1 })

footer_by : (found : List ℕ × TablePlace) → (do
  root ← root_of found.0
  found_dictionaries ← vector_field found.0 root slots.footer_dictionaries slots.block_size
  dictionaries ← blocks_if found.0 found_dictionaries
  found_batches ← vector_field found.0 root slots.footer_record_batches slots.block_size
  vector ← found_batches
  record_batches ← blocks_of found.0 vector
  footer_with found (dictionaries, record_batches)) ≡ (blocks_in found.0 >>= footer_with found)
footer_by found =
    let end = footer_with found in
    sym (bind_assoc {A = TablePlace} (root_of found.0) _ end ∙ bind_same {A = TablePlace} (root_of found.0) _ _ (λ root.
    bind_assoc {A = Option Vector} (vector_field found.0 root slots.footer_dictionaries slots.block_size) _ end
    ∙ bind_same {A = Option Vector} (vector_field found.0 root slots.footer_dictionaries slots.block_size) _ _ (λ found_dictionaries.
    bind_assoc {A = List Block} (blocks_if found.0 found_dictionaries) _ end
    ∙ bind_same {A = List Block} (blocks_if found.0 found_dictionaries) _ _ (λ dictionaries.
    bind_assoc {A = Option Vector} (vector_field found.0 root slots.footer_record_batches slots.block_size) _ end
    ∙ bind_same {A = Option Vector} (vector_field found.0 root slots.footer_record_batches slots.block_size) _ _ (λ found_batches.
    bind_assoc {A = Vector} found_batches _ end ∙ bind_same {A = Vector} found_batches _ _ (λ vector.
    bind_assoc {A = List Block} (blocks_of found.0 vector) (λ record_batches. Some (dictionaries, record_batches)) end))))))

-- the footer by its schema and its lists of blocks
footer_is : (bytes : List ℕ) → footer_in bytes ≡ (footer_schema bytes >>= (λ found. blocks_in found.0 >>= footer_with found))
unfolding footer_in
footer_is bytes = bind_same {A = List ℕ × TablePlace} (footer_schema bytes) _ (λ found. blocks_in found.0 >>= footer_with found) footer_by

-- what the footer's bytes say, by the place of the schema
abbrev start_of : List ℕ → TablePlace → Option Start
start_of footer table = do
  lists ← blocks_in footer
  found ← schema_in footer table
  Some (record { schema = found; dictionaries = lists.0; record_batches = lists.1 })

abbrev start_with : Footer → Option Start
start_with footer = do
  found ← schema_in footer.bytes footer.schema
  Some (record { schema = found; dictionaries = footer.dictionaries; record_batches = footer.record_batches })

start_is : (bytes footer : List ℕ) (table : TablePlace) → footer_schema bytes ≡ Some (footer, table) → start_in bytes ≡ start_of footer table
start_is bytes footer table e =
    ap (λ (found : Option Footer). found >>= start_with) (footer_is bytes
    ∙ ap (λ (found : Option (List ℕ × TablePlace)). found >>= (λ f. blocks_in f.0 >>= footer_with f)) e)
    ∙ bind_assoc {A = Lists} (blocks_in footer) (footer_with (footer, table)) start_with

no_start : (bytes : List ℕ) → footer_schema bytes ≡ None → start_in bytes ≡ None
no_start bytes e =
    ap (λ (found : Option Footer). found >>= start_with) (footer_is bytes
    ∙ ap (λ (found : Option (List ℕ × TablePlace)). found >>= (λ f. blocks_in f.0 >>= footer_with f)) e)

-- ---- by the footer's bytes

abbrev with_schema : List ℕ → TablePlace → Option (List ℕ × TablePlace)
with_schema footer table = Some (footer, table)

schema_by : (bytes : List ℕ) → footer_schema bytes ≡ (footer_bytes_in bytes >>= (λ footer. schema_place footer >>= with_schema footer))
unfolding footer_schema
schema_by bytes = bind_same {A = List ℕ} (footer_bytes_in bytes) _ (λ footer. schema_place footer >>= with_schema footer) (λ footer.
    sym (bind_assoc {A = TablePlace} (root_of footer) _ (with_schema footer) ∙ bind_same {A = TablePlace} (root_of footer) _ _ (λ root.
    bind_assoc {A = Option TablePlace} (table_field footer root slots.footer_schema) (λ found. found) (with_schema footer))))

place_of : (bytes footer : List ℕ) → footer_bytes_in bytes ≡ Some footer → footer_schema bytes ≡ (schema_place footer >>= with_schema footer)
place_of bytes footer e =
    schema_by bytes ∙ ap (λ (found : Option (List ℕ)). found >>= (λ f. schema_place f >>= with_schema f)) e

start_by : (bytes footer : List ℕ) (place : Option TablePlace) → footer_schema bytes ≡ (place >>= with_schema footer)
    → start_in bytes ≡ (place >>= start_of footer)
start_by bytes footer None e = no_start bytes e
start_by bytes footer (Some table) e = start_is bytes footer table e

pub start_by_footer : (bytes footer : List ℕ) → footer_bytes_in bytes ≡ Some footer → start_in bytes ≡ start_of_footer footer
start_by_footer bytes footer e = start_by bytes footer (schema_place footer) (place_of bytes footer e)

pub no_footer : (bytes : List ℕ) → footer_bytes_in bytes ≡ None → start_in bytes ≡ None
no_footer bytes e =
    no_start bytes (schema_by bytes ∙ ap (λ (found : Option (List ℕ)). found >>= (λ f. schema_place f >>= with_schema f)) e)

float_by : (footer : List ℕ) (place : Option TablePlace) → IsSomeAnd place (FloatInSchema footer)
    → IsSomeAnd (place >>= with_schema footer) (λ found. HasFloatField found.0 found.1)
float_by footer None float = absurd float
float_by footer (Some table) float = float

pub float_by_footer : (bytes footer : List ℕ) → footer_bytes_in bytes ≡ Some footer → HasFloatIn footer → HasFloat file bytes
float_by_footer bytes footer e float =
    subst (λ (found : Option (List ℕ × TablePlace)). IsSomeAnd found (λ f. HasFloatField f.0 f.1)) (sym (place_of bytes footer e))
    (float_by footer (schema_place footer) float)

-- ---- what a file holds

abbrev Batches : Type 0
Batches = List (List (List Slot))

abbrev pub contents_with : List ℕ → Start → Option Contents
contents_with bytes start = do
  entries ← file_entries bytes start.dictionaries start.record_batches
  Some (record { schema = start.schema; entries = entries })

abbrev parts_held : SchemaIn → List Entry → Option Contents
parts_held schema entries = Some (record { schema = schema; entries = entries })

contents_by : (bytes : List ℕ) (found : Option Footer) → (do
  footer ← found
  schema ← schema_in footer.bytes footer.schema
  entries ← file_entries bytes footer.dictionaries footer.record_batches
  parts_held schema entries) ≡ ((found >>= start_with) >>= contents_with bytes)
contents_by bytes None = refl
contents_by bytes (Some footer) =
    sym (bind_assoc {A = SchemaIn} (schema_in footer.bytes footer.schema)
    (λ s. Some (record { schema = s; dictionaries = footer.dictionaries; record_batches = footer.record_batches })) (contents_with bytes))

pub contents_are : (bytes : List ℕ) → contents_of file bytes ≡ (start_in bytes >>= contents_with bytes)
unfolding contents_of
contents_are bytes = contents_by bytes (footer_in bytes)

-- the batches of what a footer says
abbrev pub batches_with : List ℕ → Start → Option Batches
batches_with bytes start =
    file_entries bytes start.dictionaries start.record_batches >>= (λ entries. batches_of (layout_of start.schema) [] entries)

abbrev held : Contents → Option Batches
held contents = batches_of (layout_of contents.schema) [] contents.entries

batches_by : (bytes : List ℕ) (found : Option Start) → ((found >>= contents_with bytes) >>= held) ≡ (found >>= batches_with bytes)
batches_by bytes None = refl
batches_by bytes (Some start) =
    bind_assoc {A = List Entry} (file_entries bytes start.dictionaries start.record_batches)
    (λ entries. Some (record { schema = start.schema; entries = entries })) held

batches_are : (bytes : List ℕ) → batches_in file bytes ≡ (start_in bytes >>= batches_with bytes)
unfolding batches_in
batches_are bytes = ap (λ (found : Option Contents). found >>= held) (contents_are bytes) ∙ batches_by bytes (start_in bytes)

pub no_batches : (bytes : List ℕ) → start_in bytes ≡ None → batches_in file bytes ≡ None
no_batches bytes e = batches_are bytes ∙ ap (λ (found : Option Start). found >>= batches_with bytes) e

pub batches_of_start : (bytes : List ℕ) (start : Start) → start_in bytes ≡ Some start → batches_in file bytes ≡ batches_with bytes start
batches_of_start bytes start e = batches_are bytes ∙ ap (λ (found : Option Start). found >>= batches_with bytes) e

-- where there are batches, the file's schema is that of its footer
pub schema_held : (bytes : List ℕ) (start : Start) (batches : List (List (List Slot))) (P : SchemaIn → Type 0) → start_in bytes ≡ Some start
    → batches_with bytes start ≡ Some batches → P start.schema → IsSomeAnd (contents_of file bytes) (λ found. P found.schema)
schema_held bytes start batches P e f p =
    let entries = came_of {A = List Entry} (file_entries bytes start.dictionaries start.record_batches) _ batches f in
    let whole : contents_of file bytes ≡ Some (record { schema = start.schema; entries = entries.0 }) =
    contents_are bytes ∙ ap (λ (found : Option Start). found >>= contents_with bytes) e
    ∙ ap (λ (given : Option (List Entry)). given >>= (λ es. Some (record { schema = start.schema; entries = es }))) entries.1 in
    rw whole p

-- ---- what isn't read of it

-- the footer whose schema and blocks these are
pub record IsFooter (bytes : List ℕ) (start : Start) : Type 0 where
  pub footer : Footer
  pub there : footer_in bytes ≡ Some footer
  pub schema : schema_in footer.bytes footer.schema ≡ Some start.schema
  pub dictionaries : footer.dictionaries ≡ start.dictionaries
  pub record_batches : footer.record_batches ≡ start.record_batches

pub footer_of : (bytes : List ℕ) (start : Start) → start_in bytes ≡ Some start → IsFooter bytes start
footer_of bytes start e =
    let a = came_of {A = Footer} (footer_in bytes) _ start e in
    let b = came_of {A = SchemaIn} (schema_in a.0.bytes a.0.schema) _ start a.2 in
    let same : record { schema = b.0; dictionaries = a.0.dictionaries; record_batches = a.0.record_batches } ≡ start =
    same_some {A = Start} _ start b.2 in
    record {
      footer = a.0;
      there = a.1;
      schema = b.1 ∙ ap (λ (s : Start). Some s.schema) same;
      dictionaries = ap (λ (s : Start). s.dictionaries) same;
      record_batches = ap (λ (s : Start). s.record_batches) same;
    }

-- a message of a file
abbrev Found : Type 0
Found = List ℕ × message.Header

by_which : (bytes : List ℕ) (k : ℕ) → IsSomeAnd (message_at file bytes true k) (λ found. IsSome (compression_in found))
    ⊎ IsSomeAnd (message_at file bytes true k) (λ found. is_delta found.0 found.1 ≡ Some true)
    → HasCompression file bytes ⊎ HasDelta file bytes
by_which bytes k (inl compressed) = inl (true, k, compressed)
by_which bytes k (inr delta) = inr (k, delta)

dictionary_unread : (bytes : List ℕ) (footer : Footer) (k : ℕ) → footer_in bytes ≡ Some footer
    → IsSomeAnd (slice_get footer.dictionaries k) (λ block. IsSomeAnd (message_of_block bytes block)
    (λ found. IsSome (compression_in found) ⊎ (is_delta found.0 found.1 ≡ Some true)))
    → HasCompression file bytes ⊎ HasDelta file bytes
dictionary_unread bytes footer k there unread =
    let at : IsSomeAnd (message_at file bytes true k) (λ found. IsSome (compression_in found) ⊎ (is_delta found.0 found.1 ≡ Some true)) =
    rw there (and_then (slice_get footer.dictionaries k) (message_of_block bytes)
    (λ (found : Found). IsSome (compression_in found) ⊎ (is_delta found.0 found.1 ≡ Some true)) unread) in
    by_which bytes k (either (message_at file bytes true k) (λ (found : Found). IsSome (compression_in found))
    (λ (found : Found). is_delta found.0 found.1 ≡ Some true) at)

batch_unread : (bytes : List ℕ) (footer : Footer) (k : ℕ) → footer_in bytes ≡ Some footer
    → IsSomeAnd (slice_get footer.record_batches k) (λ block. IsSomeAnd (message_of_block bytes block) (λ found. IsSome (compression_in found)))
    → HasCompression file bytes
batch_unread bytes footer k there unread = (
  false,
  k,
  rw there (and_then (slice_get footer.record_batches k) (message_of_block bytes) (λ (found : Found). IsSome (compression_in found)) unread),
)

pub unread_in_file : (bytes : List ℕ) (start : Start) → start_in bytes ≡ Some start
    → HasUnread bytes start.dictionaries ⊎ HasCompressed bytes start.record_batches → HasCompression file bytes ⊎ HasDelta file bytes
unread_in_file bytes start e (inl unread) =
    let its = footer_of bytes start e in
    dictionary_unread bytes its.footer unread.0 its.there
    (subst (λ (bs : List Block). IsSomeAnd (slice_get bs unread.0) (IsUnreadAt bytes)) (sym its.dictionaries) unread.1)
unread_in_file bytes start e (inr compressed) =
    let its = footer_of bytes start e in
    inl (batch_unread bytes its.footer compressed.0 its.there
    (subst (λ (bs : List Block). IsSomeAnd (slice_get bs compressed.0) (IsCompressedAt bytes)) (sym its.record_batches) compressed.1))
