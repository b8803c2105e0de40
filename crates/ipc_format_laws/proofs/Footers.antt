-- The footer of a file reads back.
use Rattle.std.proofs.Common.{◌≡◌, ℕ, ◌+◌, ◌-◌, ◌*◌, ◌≤◌, ◌<◌, ◌^◌, pos, true, List, [], ◌∷◌, ◌++◌, length, map, replicate, refl, sym, ap, ◌∙◌}
use Rattle.std.proofs.Common.{arith, length-append, append_assoc}
use Rattle.std.proofs.lemmas.List.{append-nil}
use Rattle.std.proofs.lemmas.Bool.{le-leb}
use Rattle.std.proofs.lemmas.Int.{to_z_pos}
use Rattle.std.specs.Prelude.{Option, Some, nat_le}
use Rattle.std.specs.List.{flat_map}
use Rattle.std.specs.Int.{w16, w32, w64, to_le_bytes}
use Rattle.ipc_format_grammar.specs.flatbuffers.Reading.{window_at}
use Rattle.ipc_format_grammar.specs.flatbuffers.FlatBuffers.{TablePlace, Vector, signed_at, signed_field, table_field, vector_field, root_of}
use Rattle.ipc_format_grammar.specs.flatbuffers.Objects.{Object, Fields, Objects, table, references, no_field, absent_then, number_then, refers_then}
use Rattle.ipc_format_grammar.specs.flatbuffers.Objects.{piece_of, laid}
use Rattle.ipc_format_laws.specs.Spelling.{Spells, SpellsFields, SpellsReference}
use Rattle.ipc_format_laws.specs.Theorem.{Fits, SpellsRoot}
use Rattle.ipc_format_laws.proofs.Places.{Stands, front, back, window_stands}
use Rattle.ipc_format_laws.proofs.Contents.{signed_stands, stands_window}
use Rattle.ipc_format_laws.proofs.Readers.{numbers_read, tables_read, elements_read, roots_read}
use Rattle.ipc_format_laws.proofs.Objects.{laid_reads_back}
use Rattle.ipc_format_grammar.specs.columnar_memory.declared.Schema.{Schema}
use Rattle.ipc_format_grammar.specs.Messages.{V5, version_in}
use Rattle.ipc_format_grammar.specs.Schemas.{IdsList}
use Rattle.ipc_format_grammar.specs.SchemaObjects.{schema_object, objects_of, field_object, refers_if, metadata_object}
use Rattle.ipc_format_grammar.specs.Writable.{is_writable, normalised}
use Rattle.ipc_format_grammar.proofs.NormalReports.{writable_normal}
use Rattle.ipc_format_grammar.specs.Files.{file_mark, stands_at, block_at, blocks_from, blocks_of, footer_bytes_in, footer_schema, footer_in}
use Rattle.ipc_format_grammar.specs.WrittenFiles.{WrittenBlock, Blocks, block_bytes, blocks_object, file_start}
use Rattle.ipc_format_laws.specs.Schemas.{IsSchema, ids_read}
use Rattle.ipc_format_laws.specs.Footers.{FitsBlock, FitBlocks, block_read, file_with, HasFooter, FootersReadBack}
use Rattle.ipc_format_laws.proofs.SchemaParts.{tables_among, few_tables}
use Rattle.ipc_format_laws.proofs.SchemaMessages.{schema_fields, fields_back, asked, schema_reads, schema_fits, message_longer}

-- ---- blocks

block_stands : {bytes : List ℕ} {place : ℕ} (block : WrittenBlock) → FitsBlock block → Stands bytes place (block_bytes block)
    → block_at bytes place ≡ Some (block_read block)
unfolding block_at
block_stands {bytes} {place} block fits s =
    let offset = to_le_bytes w64 block.offset in
    let size = to_le_bytes w32 block.metadata_length in
    let body = to_le_bytes w64 block.body_length in
    let first : signed_at w64 bytes place ≡ Some (pos block.offset) =
    signed_stands w64 block.offset (omega (arith, fits.offset_fits)) (front offset (size ++ replicate 4 0 ++ body) refl s)
    ∙ ap Some (to_z_pos w64 block.offset fits.offset_fits) in
    let rest : Stands bytes (place + 8) (size ++ replicate 4 0 ++ body) = back offset (size ++ replicate 4 0 ++ body) (place + 8) refl refl s in
    let second : signed_at w32 bytes (place + 8) ≡ Some (pos block.metadata_length) =
    signed_stands w32 block.metadata_length (omega (arith, fits.metadata_fits)) (front size (replicate 4 0 ++ body) refl rest)
    ∙ ap Some (to_z_pos w32 block.metadata_length fits.metadata_fits) in
    let third : signed_at w64 bytes (place + 16) ≡ Some (pos block.body_length) =
    signed_stands w64 block.body_length (omega (arith, fits.body_fits)) (back (offset ++ size ++ replicate 4 0) body (place + 16) refl refl s)
    ∙ ap Some (to_z_pos w64 block.body_length fits.body_fits) in
    rw (first, second, third) refl

blocks_stand : (bytes : List ℕ) (blocks : List WrittenBlock) (place : ℕ) → FitBlocks blocks → Stands bytes place (flat_map block_bytes blocks)
    → blocks_from bytes place (length blocks) ≡ Some (map block_read blocks)
blocks_stand bytes [] place fit s = refl
blocks_stand bytes (block ∷ blocks) place fit s =
    let first = block_stands block fit.0 (front (block_bytes block) (flat_map block_bytes blocks) refl s) in
    let others = blocks_stand bytes blocks (place + 24) fit.1 (back (block_bytes block) (flat_map block_bytes blocks) (place + 24) refl refl s) in
    rw (first, others) refl

blocks_length : (blocks : List WrittenBlock) → length (flat_map block_bytes blocks) ≡ 24 * length blocks
blocks_length [] = refl
blocks_length (block ∷ blocks) = omega (arith, blocks_length blocks)

-- a slot that refers to blocks
record BlocksAnswers (bytes : List ℕ) (found : TablePlace) (slot : ℕ) (blocks : List WrittenBlock) : Type 0 where
  vector_at : Vector
  vector : vector_field bytes found slot 24 ≡ Some (Some vector_at)
  has_blocks : blocks_of bytes vector_at ≡ Some (map block_read blocks)

blocks_read : (bytes : List ℕ) (found : TablePlace) (slot : ℕ) (blocks : List WrittenBlock) → FitBlocks blocks
    → SpellsReference bytes found slot (λ (place : ℕ). Spells bytes place (blocks_object blocks)) → BlocksAnswers bytes found slot blocks
blocks_read bytes found slot blocks fit h =
    let read = elements_read bytes found slot (length blocks) (flat_map block_bytes blocks) h in
    record {
      vector_at = record { place = read.place; count = length blocks };
      vector = read.vector 24 (omega (arith, blocks_length blocks));
      has_blocks = blocks_stand bytes blocks read.place fit (stands_window (length (flat_map block_bytes blocks))
          (flat_map block_bytes blocks) read.holds);
    }

-- ---- the footer's bytes in a file

mark_stands : {bytes : List ℕ} {place : ℕ} → Stands bytes place file_mark → stands_at file_mark bytes place ≡ true
mark_stands s = rw (window_stands 6 refl s) refl

footer_stands : (messages footer : List ℕ) → length footer < 2 ^ 31 → footer_bytes_in (file_with messages footer) ≡ Some footer
unfolding footer_bytes_in
footer_stands messages footer short =
    let bytes = file_with messages footer in
    let size = to_le_bytes w32 (length footer) in
    let sized = size ++ file_mark in
    let ended = footer ++ sized in
    let rest = messages ++ ended in
    let total : length rest ≡ length messages + length footer + 10 = omega (arith, length-append messages ended, length-append footer sized) in
    let parts : bytes ≡ file_start ++ rest =
    append_assoc (file_start ++ messages ++ footer) size file_mark ∙ append_assoc (file_start ++ messages) footer sized
    ∙ append_assoc file_start messages ended in
    let whole : length bytes ≡ length rest + 8 = omega (arith, ap length parts) in
    let all : Stands bytes 0 (file_start ++ rest) =
    record { before = []; after = []; whole = parts ∙ sym (append-nil (file_start ++ rest)); at = refl } in
    let behind : Stands bytes 8 rest = back file_start rest 8 refl refl all in
    let its_footer : Stands bytes (length bytes - 10 - length footer) ended =
    back messages ended (length bytes - 10 - length footer) refl (omega (arith, total, whole)) behind in
    let its_size : Stands bytes (length bytes - 10) sized = back footer sized (length bytes - 10) refl (omega (arith, total, whole)) its_footer in
    let its_mark : Stands bytes (length bytes - 6) file_mark = back size file_mark (length bytes - 6) refl (omega (arith, total, whole)) its_size in
    let long : nat_le 10 (length bytes) ≡ true = le-leb 10 (length bytes) (omega (arith, total, whole)) in
    let begins : stands_at file_mark bytes 0 ≡ true = mark_stands (front file_mark (replicate 2 0 ++ rest) refl all) in
    let ends : stands_at file_mark bytes (length bytes - 6) ≡ true = mark_stands its_mark in
    let stated : signed_at w32 bytes (length bytes - 10) ≡ Some (pos (length footer)) =
    signed_stands w32 (length footer) (omega (arith, short)) (front size file_mark refl its_size) ∙ ap Some (to_z_pos w32 (length footer) short) in
    let inside : nat_le (length footer + 10) (length bytes) ≡ true = le-leb (length footer + 10) (length bytes) (omega (arith, total, whole)) in
    let seen : window_at bytes (length bytes - 10 - length footer) (length footer) ≡ Some footer =
    window_stands (length footer) refl (front footer sized refl its_footer) in
    rw (long, begins, ends, stated, inside) seen

-- ---- what is laid

abbrev footer_fields : Schema → IdsList → Blocks → Fields
footer_fields schema below blocks =
    number_then w16 4 (refers_then (table (schema_fields schema below)) (refers_then (blocks_object blocks.dictionaries)
    (refers_then (blocks_object blocks.record_batches) (absent_then no_field))))

blocks_fit : (blocks : List WrittenBlock) → Fits (blocks_object blocks)
blocks_fit blocks = omega (arith, blocks_length blocks)

footer_fits : (schema : Schema) (below : IdsList) (blocks : Blocks) → Fits (table (schema_fields schema below))
    → Fits (table (footer_fields schema below blocks))
footer_fits schema below blocks fits = record {
  here = record { vtable_size = omega arith; table_size = omega arith };
  rest = record {
    here = omega arith;
    rest = record {
      here = fits;
      rest = record { here = blocks_fit blocks.dictionaries; rest = record { here = blocks_fit blocks.record_batches; rest = tt } };
    };
  };
}

-- a footer has more bytes than its schema fields
few_in_footer : (objects : Objects) (metadata : Option Object) (blocks : Blocks)
    → tables_among objects ≤ length (laid (table (number_then w16 4 (refers_then (table (number_then w16 0
    (refers_then (references objects) (refers_if metadata (absent_then no_field))))) (refers_then (blocks_object blocks.dictionaries)
    (refers_then (blocks_object blocks.record_batches) (absent_then no_field)))))))
unfolding laid
few_in_footer objects metadata blocks =
    let object = table (number_then w16 4 (refers_then (table (number_then w16 0
    (refers_then (references objects) (refers_if metadata (absent_then no_field))))) (refers_then (blocks_object blocks.dictionaries)
    (refers_then (blocks_object blocks.record_batches) (absent_then no_field))))) in
    omega (arith, few_tables object, message_longer (piece_of object))

-- ---- what is read

-- what a footer tells before its schema is read
record FooterAnswers (footer : List ℕ) (schema : Schema) (below : IdsList) (blocks : Blocks) : Type 0 where
  root : TablePlace
  root_is : root_of footer ≡ Some root
  version : version_in footer ≡ Some V5
  schema_at : TablePlace
  schema_is : table_field footer root 1 ≡ Some (Some schema_at)
  has_schema : IsSchema footer (normalised schema) (ids_read schema below) schema_at
  dictionaries : BlocksAnswers footer root 2 blocks.dictionaries
  record_batches : BlocksAnswers footer root 3 blocks.record_batches

schema_found : (messages footer : List ℕ) (schema : Schema) (below : IdsList) (blocks : Blocks) → length footer < 2 ^ 31
    → (answers : FooterAnswers footer schema below blocks)
    → footer_schema (file_with messages footer) ≡ Some (footer, answers.schema_at)
unfolding footer_schema
schema_found messages footer schema below blocks short answers =
    rw (footer_stands messages footer short, answers.root_is, answers.schema_is) refl

footer_found : (messages footer : List ℕ) (schema : Schema) (below : IdsList) (blocks : Blocks) → length footer < 2 ^ 31
    → FooterAnswers footer schema below blocks
    → HasFooter (file_with messages footer) footer (normalised schema) (ids_read schema below) blocks
unfolding footer_in
footer_found messages footer schema below blocks short answers =
    let dictionaries = answers.dictionaries in
    let record_batches = answers.record_batches in
    record {
      schema_at = answers.schema_at;
      found = rw (
        schema_found messages footer schema below blocks short answers,
        answers.root_is,
        dictionaries.vector,
        dictionaries.has_blocks,
        record_batches.vector,
        record_batches.has_blocks,
      ) refl;
      version = answers.version;
      its_schema = answers.has_schema;
    }

footer_answers : (footer : List ℕ) (schema : Schema) (below : IdsList) (blocks : Blocks) → FitBlocks blocks.dictionaries
    → FitBlocks blocks.record_batches
    → ((found : TablePlace) → SpellsFields footer found 0 (schema_fields schema below)
    → IsSchema footer (normalised schema) (ids_read schema below) found)
    → SpellsRoot footer (table (footer_fields schema below blocks)) → FooterAnswers footer schema below blocks
unfolding version_in
footer_answers footer schema below blocks fit-dictionaries fit-batches is_schema s =
    let read = roots_read footer (footer_fields schema below blocks) s in
    let root = read.child in
    let slots = read.slots in
    let version-is : signed_field w16 footer root 0 (pos 0) ≡ Some (pos 4) = (numbers_read footer root 0 w16 4 slots.here).signed (pos 0) in
    let its-schema = tables_read footer root 1 (schema_fields schema below) slots.rest.here in
    record {
      root = root;
      root_is = read.table;
      version = rw (read.table, version-is) refl;
      schema_at = its-schema.child;
      schema_is = its-schema.table;
      has_schema = is_schema its-schema.child its-schema.slots;
      dictionaries = blocks_read footer root 2 blocks.dictionaries fit-dictionaries slots.rest.rest.here;
      record_batches = blocks_read footer root 3 blocks.record_batches fit-batches slots.rest.rest.rest.here;
    }

pub footers_read_back : FootersReadBack
unfolding schema_object
footers_read_back schema below blocks messages writable has fit fit-dictionaries fit-batches short =
    let ask = asked schema writable in
    let writable-too : is_writable (normalised schema) ≡ true = writable_normal schema ∙ writable in
    let h = fields_back schema.fields below ask.allowed has.fields fit in
    let objects = objects_of (map field_object schema.fields) below in
    let object = table (footer_fields schema below blocks) in
    let fits = footer_fits schema below blocks (schema_fits schema below h.fit has.texts) in
    let few : h.visits ≤ length (laid object) = omega (arith, h.few, few_in_footer objects (metadata_object schema.metadata) blocks) in
    let within : length (laid object) < 2 ^ 32 = omega (arith, short) in
    footer_found messages (laid object) schema below blocks short
    (footer_answers (laid object) schema below blocks fit-dictionaries fit-batches
    (λ (found : TablePlace) (s : SpellsFields (laid object) found 0 (schema_fields schema below)).
    schema_reads (laid object) found schema below h ask.shallow few writable-too has.ascending s)
    (laid_reads_back object fits within))
