-- A schema, step by step.
use Rattle.std.proofs.Common.{◌≡◌, ◌∙◌, ◌≢◌, ℕ, zero, suc, List, Bool, true, false, refl, length}
use Rattle.std.proofs.lemmas.Bool.{ne_eqb}
use Rattle.std.specs.Prelude.{Option, Some, None, ◌==◌, if◌then◌else◌, ℤ, pos}
use Rattle.std.specs.Int.{w8, w16}
use Rattle.ipc_format_grammar.specs.columnar_memory.declared.Error.{Error}
use Rattle.ipc_format_grammar.specs.flatbuffers.Reading.{◌>>=◌, guard}
use Rattle.ipc_format_grammar.specs.flatbuffers.FlatBuffers.{TablePlace, Vector, signed_field, number_field, table_field, vector_field, element_at}
use Rattle.ipc_format_grammar.specs.flatbuffers.FlatBuffers.{root_of}
use Rattle.ipc_format_grammar.specs.Messages as message
use Rattle.ipc_format_grammar.specs.Schemas.{FieldIn, SchemaIn, field_in, each_of, metadata_in, any_schema_in, is_little_of, fields_of, ids_of}
use Rattle.ipc_format_grammar.specs.SchemaGrammar.{schema_in}
use Rattle.ipc_format_grammar.specs.Writable.{is_writable}
use Rattle.ipc_format_metadata.specs.Reading.{Refuses}
use Rattle.ipc_format_metadata.specs.Steps.{FieldsIn, FloatInMessage, schema_message_in, apart, fields_in}
use Rattle.ipc_format_metadata.specs.Steps.{order_in, tables_in, schema_of, schema_table_in, FloatAmong, FloatInSchema}
use Rattle.ipc_format_metadata.specs.Steps.{visits_left, visits_left_in_message}
use Rattle.ipc_format_metadata.proofs.Options.{refuses-first}
use Rattle.ipc_format_metadata.proofs.TypeReads.{child-of, below}

abbrev pub Pairs : Type 0
Pairs = List (List ℕ × List ℕ)

abbrev pub made : Bool → FieldsIn × ℕ → Pairs → Option SchemaIn
made little found pairs = Some (record {
  schema = record { fields = found.0.fields; metadata = pairs };
  ids = found.0.below;
  is_little_endian =
      little;
})

by_schema : (n : Option ℤ) (g : ℤ → Option Bool) (v : Option (Option Vector)) (each : Vector → Option (List FieldIn × ℕ)) (M : Option Pairs)
    → (n >>= (λ i. g i >>= (λ l. v >>= (λ f. f >>= (λ w. each w >>= (λ (fs : List FieldIn × ℕ). M >>=
    (λ m. Some (record { schema = record { fields = fields_of fs.0; metadata = m }; ids = ids_of fs.0; is_little_endian = l }))))))))
    ≡ ((n >>= g) >>= (λ l. (v >>= (λ f. f)) >>= (λ w. (each w >>= apart) >>= (λ found. M >>= made l found))))
by_schema None g v each M = refl
by_schema (Some i) g v each M = inner (g i) v
  where
    last : (l : Bool) (o : Option (List FieldIn × ℕ)) → (o >>= (λ (fs : List FieldIn × ℕ). M >>=
        (λ m. Some (record { schema = record { fields = fields_of fs.0; metadata = m }; ids = ids_of fs.0; is_little_endian = l })))) ≡
        ((o >>= apart) >>= (λ found. M >>= made l found))
    last l None = refl
    last l (Some fs) = refl

    inner : (o : Option Bool) (v : Option (Option Vector)) → (o >>= (λ l. v >>=
        (λ f. f >>= (λ w. each w >>= (λ (fs : List FieldIn × ℕ). M >>= (λ m. Some
        (record { schema = record { fields = fields_of fs.0; metadata = m }; ids = ids_of fs.0; is_little_endian = l })))))))
        ≡ (o >>= (λ l. (v >>= (λ f. f)) >>= (λ w. (each w >>= apart) >>= (λ found. M >>= made l found))))
    inner None v = refl
    inner (Some l) None = refl
    inner (Some l) (Some None) = refl
    inner (Some l) (Some (Some w)) = last l (each w)

schema-by : (bytes : List ℕ) (table : TablePlace)
    → any_schema_in None bytes table ≡ (order_in bytes table >>= (λ l. tables_in bytes table >>=
    (λ w. fields_in (field_in None bytes 64) bytes w (length bytes) >>= (λ found. metadata_in bytes table 2 >>= made l found))))
unfolding any_schema_in
schema-by bytes table = by_schema (signed_field w16 bytes table 0 (pos 0)) is_little_of (vector_field bytes table 1 4)
    (λ w. each_of (field_in None bytes 64) bytes w w.count 0 (length bytes)) (metadata_in bytes table 2)

pub schema-no-order : (bytes : List ℕ) (table : TablePlace) → order_in bytes table ≡ None → any_schema_in None bytes table ≡ None
schema-no-order bytes table e = schema-by bytes table ∙ rw e refl

pub schema-no-tables : (bytes : List ℕ) (table : TablePlace) (l : Bool) → order_in bytes table ≡ Some l → tables_in bytes table ≡ None → any_schema_in
    None bytes table ≡ None
schema-no-tables bytes table l o e = schema-by bytes table ∙ rw (o, e) refl

pub schema-fields : (bytes : List ℕ) (table : TablePlace) (l : Bool) (v : Vector) → order_in bytes table ≡ Some l → tables_in bytes table ≡ Some v
    → any_schema_in None bytes table ≡ (fields_in (field_in None bytes 64) bytes v (length bytes) >>=
    (λ found. metadata_in bytes table 2 >>= made l found))
schema-fields bytes table l v o e = schema-by bytes table ∙ rw (o, e) refl

pub visits-are-left : (bytes : List ℕ) (table : TablePlace) (v : Vector) (found : FieldsIn × ℕ) → tables_in bytes table ≡ Some v
    → fields_in (field_in None bytes 64) bytes v (length bytes) ≡ Some found → visits_left bytes table ≡ Some found.1
visits-are-left bytes table v found t f = rw (t, f) refl

pub float-in-schema : (bytes : List ℕ) (schema : TablePlace) (v : Vector) → tables_in bytes schema ≡ Some v → FloatAmong bytes v → FloatInSchema bytes
    schema
float-in-schema bytes schema v e float =
    let found = below bytes (element_at bytes v float.0) float.2 in
    (float.0, found.0, rw (child-of bytes float.0 (vector_field bytes schema 1 4) v e float.1) found.1)

-- a header of another kind is no schema
not-schema : (bytes : List ℕ) (root table : TablePlace) (tag : ℕ) → tag ≢ 1
    → ((message.header_of tag table >>= (λ header. message.body_length_of bytes root header >>=
    (λ n. Some (record { header = header; body_length = n })))) >>= (λ (found : message.Message). schema_of found.header)) ≡ None
not-schema bytes root table tag ne = rw (ne_eqb tag 1 ne) (other (tag == 2) (tag == 3))
  where
    by : (header : message.Header) → schema_of header ≡ None → (o : Option ℤ) →
        ((o >>= (λ n. Some (record { header = header; body_length = n }))) >>= (λ (found : message.Message). schema_of found.header)) ≡ None
    by header e None = refl
    by header e (Some n) = e

    other : (is_dictionary is_record : Bool) →
        (((if is_dictionary then Some (message.dictionary_batch table) else if is_record then Some (message.record_batch table) else None) >>=
        (λ header. message.body_length_of bytes root header >>= (λ n. Some (record { header = header; body_length = n })))) >>=
        (λ (found : message.Message). schema_of found.header)) ≡ None
    other true is_record = by (message.dictionary_batch table) refl (message.body_length_of bytes root (message.dictionary_batch table))
    other false true = by (message.record_batch table) refl (message.body_length_of bytes root (message.record_batch table))
    other false false = refl

pub no-schema-table : (bytes : List ℕ) (root table : TablePlace) (tag : ℕ) → root_of bytes ≡ Some root → number_field w8 bytes root 1 0 ≡ Some tag →
    table_field bytes root 2 ≡ Some (Some table) → tag ≢ 1
    → schema_table_in bytes ≡ None
unfolding message.message_in
no-schema-table bytes root table tag r t f ne = rw (r, t, f) (not-schema bytes root table tag ne)

pub schema-refused : (error : Error) (bytes : List ℕ) (table : TablePlace)
    → Refuses (FloatInSchema bytes table) error (any_schema_in None bytes table)
    → Refuses (FloatInSchema bytes table) error (schema_in bytes table)
unfolding schema_in
schema-refused error bytes table h =
    refuses-first error (FloatInSchema bytes table) (any_schema_in None bytes table) (FloatInSchema bytes table)
    (λ (found : SchemaIn). guard (is_writable found.schema) >>= (λ _. Some found)) (λ float. float) h

pub schema-written : (bytes : List ℕ) (table : TablePlace) (found : SchemaIn) → any_schema_in None bytes table ≡ Some found → is_writable found.schema
    ≡ true → schema_in bytes table ≡ Some found
unfolding schema_in
schema-written bytes table found e w = rw (e, w) refl

pub schema-unwritten : (bytes : List ℕ) (table : TablePlace) (found : SchemaIn) → any_schema_in None bytes table ≡ Some found → is_writable
    found.schema ≡ false → schema_in bytes table ≡ None
unfolding schema_in
schema-unwritten bytes table found e w = rw (e, w) refl

pub message-schema : (bytes : List ℕ) (table : TablePlace) → schema_table_in bytes ≡ Some table → schema_message_in bytes ≡ schema_in bytes table
message-schema bytes table e = rw e refl

pub message-visits : (bytes : List ℕ) (table : TablePlace) → schema_table_in bytes ≡ Some table → visits_left_in_message bytes
    ≡ visits_left bytes table
message-visits bytes table e = rw e refl

pub float-in-message : (bytes : List ℕ) (table : TablePlace) → schema_table_in bytes ≡ Some table → FloatInSchema bytes table → FloatInMessage bytes
float-in-message bytes table e float = rw e float
