-- The schema that a stream begins with.
use Rattle.std.proofs.Common.{◌≡◌, ◌∙◌, ℕ, true, List, length, ap, refl, subst}
use Rattle.std.specs.Prelude.{Option, Some, None, Err}
use Rattle.ipc_format.specs.Readable.{HasArrays, SchemasHaveArrays}
use Rattle.columnar_memory_types.specs.Error.{IsOutOfMemory}
use Rattle.ipc_format.specs.columnar_memory.declared.Error.{Error}
use Rattle.ipc_format.specs.columnar_memory.declared.Error.TheVariants as errors
use Rattle.ipc_format.specs.Framing.{Framed, first_of, later_messages, messages_of}
use Rattle.ipc_format.specs.Messages.{Header, Version, schema, dictionary_batch, record_batch, version_in}
use Rattle.ipc_format.specs.Reading.{◌>>=◌}
use Rattle.ipc_format.specs.Schemas.{SchemaIn}
use Rattle.ipc_format.specs.Writable.{is_writable, normalised}
use Rattle.ipc_format.specs.columnar_memory.Texts.{HasTexts}
use Rattle.ipc_format.specs.Tables.{stream, contents_of, schema_of, layout_of}
use Rattle.ipc_format.specs.streams.Starts.{Start, start_in}
use Rattle.tables_chunks.specs.Faults.{fault_of}
use Rattle.tables_chunks.specs.Reading.{ReadsStream}
use Rattle.tables_chunks.specs.TableSchemas.{IsTableSchema}
use Rattle.ipc_format.proofs.StoredTablesNormal.{normal_again}
use Rattle.ipc_format.proofs.NormalForms.{keeps_writable}
use Rattle.ipc_format.proofs.Binding.{came_of, same_some}
use Rattle.ipc_format.proofs.WholeFiles.{schema_written}

-- a message's schema has arrays
found_has_arrays : (framed : Framed) (header : Header) (found : SchemaIn) → SchemasHaveArrays → schema_of framed header ≡ Some found
    → HasArrays (layout_of found)
found_has_arrays framed (schema table) found have e = have framed.metadata table found e
found_has_arrays framed (dictionary_batch table) found have e = absurd cc
found_has_arrays framed (record_batch table) found have e = absurd cc

pub start_has_arrays : (bytes : List ℕ) (start : Start) (place : ℕ) → SchemasHaveArrays → start_in bytes ≡ Some (start, place)
    → HasArrays (layout_of start.schema)
start_has_arrays bytes start place have e =
    let a = came_of {A = Framed × ℕ} (first_of bytes) _ (start, place) e in
    let b = came_of {A = Version} (version_in a.0.0.metadata) _ (start, place) a.2 in
    let c = came_of {A = SchemaIn} (schema_of a.0.0 a.0.0.header) _ (start, place) b.2 in
    let pair : (record { version = b.0; schema = c.0 }, a.0.1) ≡ (start, place) =
    same_some {A = Start × ℕ} (record { version = b.0; schema = c.0 }, a.0.1) (start, place) c.2 in
    let same : c.0 ≡ start.schema = ap (λ (p : Start × ℕ). p.0.schema) pair in
    subst (λ (s : SchemaIn). HasArrays (layout_of s)) same (found_has_arrays a.0.0 a.0.0.header c.0 have c.1)

-- ---- the schema is that of a table

found_written : (framed : Framed) (header : Header) (found : SchemaIn) → schema_of framed header ≡ Some found → is_writable found.schema ≡ true
found_written framed (schema table) found e = schema_written framed.metadata table found e
found_written framed (dictionary_batch table) found e = absurd cc
found_written framed (record_batch table) found e = absurd cc

-- the schema that a stream begins with has the form of a table's, once it is normalised
pub start_form : (bytes : List ℕ) (start : Start) (place : ℕ) → start_in bytes ≡ Some (start, place) → HasTexts start.schema.schema
    → IsTableSchema (normalised start.schema.schema)
start_form bytes start place e texts =
    let a = came_of {A = Framed × ℕ} (first_of bytes) _ (start, place) e in
    let b = came_of {A = Version} (version_in a.0.0.metadata) _ (start, place) a.2 in
    let c = came_of {A = SchemaIn} (schema_of a.0.0 a.0.0.header) _ (start, place) b.2 in
    let pair : (record { version = b.0; schema = c.0 }, a.0.1) ≡ (start, place) =
    same_some {A = Start × ℕ} (record { version = b.0; schema = c.0 }, a.0.1) (start, place) c.2 in
    let same : c.0 ≡ start.schema = ap (λ (p : Start × ℕ). p.0.schema) pair in
    let written = subst (λ (s : SchemaIn). is_writable s.schema ≡ true) same (found_written a.0.0 a.0.0.header c.0 c.1) in
    record { writable = keeps_writable start.schema.schema ∙ written; normal = normal_again start.schema.schema texts }

-- ---- where nothing begins

-- the start that the parts of the first message give
abbrev start_by : ℕ → Option Version → Option SchemaIn → Option (Start × ℕ)
start_by place version found = version >>= (λ v. found >>= (λ s. Some (record { version = v; schema = s }, place)))

nothing_by : (bytes : List ℕ) (first : Framed × ℕ) (given : Option (List Framed)) (version : Option Version) (found : Option SchemaIn)
    → first_of bytes ≡ Some first → later_messages (length bytes) bytes first.1 0 ≡ given → version_in first.0.metadata ≡ version
    → schema_of first.0 first.0.header ≡ found → start_by first.1 version found ≡ None → contents_of stream bytes ≡ None
unfolding contents_of messages_of
nothing_by bytes first None version found begins later v s none = rw (begins, later) refl
nothing_by bytes first (Some more) None found begins later v s none = rw (begins, later, v) refl
nothing_by bytes first (Some more) (Some version) None begins later v s none = rw (begins, later, v, s) refl
nothing_by bytes first (Some more) (Some version) (Some found) begins later v s none = absurd cc

nothing_held : (bytes : List ℕ) (given : Option (Framed × ℕ)) → first_of bytes ≡ given
    → (given >>= (λ first. start_by first.1 (version_in first.0.metadata) (schema_of first.0 first.0.header))) ≡ None
    → contents_of stream bytes ≡ None
unfolding contents_of messages_of
nothing_held bytes None begins none = rw begins refl
nothing_held bytes (Some first) begins none =
    nothing_by bytes first (later_messages (length bytes) bytes first.1 0) (version_in first.0.metadata) (schema_of first.0 first.0.header)
    begins refl refl refl none

-- there nothing is held
pub stream_without : (bytes : List ℕ) → start_in bytes ≡ None → contents_of stream bytes ≡ None
stream_without bytes none = nothing_held bytes (first_of bytes) refl none

-- want of memory
pub memory_refused : (error : Error) (bytes : List ℕ) → IsOutOfMemory error → ReadsStream (Err (fault_of error)) bytes
memory_refused errors.OutOfMemory bytes is = tt
memory_refused errors.Overflow bytes is = absurd is
memory_refused (errors.Io what) bytes is = absurd is
memory_refused (errors.NotYetImplemented what) bytes is = absurd is
memory_refused (errors.InvalidArgumentError what) bytes is = absurd is
memory_refused (errors.ExternalFormat what) bytes is = absurd is
memory_refused (errors.OutOfSpec what) bytes is = absurd is
memory_refused (errors.External from what) bytes is = absurd is
