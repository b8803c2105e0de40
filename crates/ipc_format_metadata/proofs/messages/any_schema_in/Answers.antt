use Rattle.std.proofs.Common.{◌≡◌, ◌∙◌, length, ap, rules}
use Rattle.std.specs.Prelude.{Some, None, Err}
use Rattle.ipc_format_grammar.specs.flatbuffers.Reading.{◌>>=◌}
use Rattle.ipc_format_grammar.specs.flatbuffers.Views.{table_of, vector_of}
use Rattle.ipc_format_grammar.specs.Schemas.{field_in, metadata_in, any_schema_in}
use Rattle.ipc_format_metadata.specs.ReadViews.{fields_view}
use Rattle.ipc_format_metadata.specs.Steps.{fields_in, order_in, tables_in, FloatAmong, FloatInSchema}
use Rattle.ipc_format_metadata.proofs.Options.{refuses-first}
use Rattle.ipc_format_metadata.proofs.SchemaSteps.{made, schema-no-order, schema-no-tables, schema-fields, visits-are-left, float-in-schema}
use Rattle.ipc_format_metadata.proofs.messages.any_schema_in.Goals as goal

pub returns-in_default-clause-value : goal.returns-in_default-clause-value
returns-in_default-clause-value c =
    let none : order_in c.args.bytes.now (table_of c.args.table.now) ≡ None = search rules in
    schema-no-order c.args.bytes.now (table_of c.args.table.now) none

pub returns-in_default-tables_in-clause-value : goal.returns-in_default-tables_in-clause-value
returns-in_default-tables_in-clause-value c =
    let order : order_in c.args.bytes.now (table_of c.args.table.now) ≡ Some c.in-Some.is_little_endian = search rules in
    let none : tables_in c.args.bytes.now (table_of c.args.table.now) ≡ None = search rules in
    schema-no-tables c.args.bytes.now (table_of c.args.table.now) c.in-Some.is_little_endian order none

pub returns-in_err-found-clause-value : goal.returns-in_err-found-clause-value
returns-in_err-found-clause-value c =
    let v = vector_of c.in-Some-tables_in.vector in
    let order : order_in c.args.bytes.now (table_of c.args.table.now) ≡ Some c.in-Some.is_little_endian = search rules in
    let tables : tables_in c.args.bytes.now (table_of c.args.table.now) ≡ Some v = search rules in
    let is : c.from_residual.result ≡ Err c.in_err-found.field-0.0 = search rules in
    rw (is, schema-fields c.args.bytes.now (table_of c.args.table.now) c.in-Some.is_little_endian v order tables)
    (refuses-first c.in_err-found.field-0.0 (FloatAmong c.args.bytes.now v)
    (fields_in (field_in None c.args.bytes.now 64) c.args.bytes.now v (length c.args.bytes.now))
    (FloatInSchema c.args.bytes.now (table_of c.args.table.now))
    (λ found. metadata_in c.args.bytes.now (table_of c.args.table.now) 2 >>= made c.in-Some.is_little_endian found)
    (float-in-schema c.args.bytes.now (table_of c.args.table.now) v tables) c.in_err-found.ensures.value)

pub returns-in_err-metadata-clause-value : goal.returns-in_err-metadata-clause-value
returns-in_err-metadata-clause-value c =
    let v = vector_of c.in-Some-tables_in.vector in
    let order : order_in c.args.bytes.now (table_of c.args.table.now) ≡ Some c.in-Some.is_little_endian = search rules in
    let tables : tables_in c.args.bytes.now (table_of c.args.table.now) ≡ Some v = search rules in
    let is : c.from_residual-in_err-metadata.result ≡ Err c.in_err-metadata.field-0.0 = search rules in
    let given : any_schema_in None c.args.bytes.now (table_of c.args.table.now) ≡
    (metadata_in c.args.bytes.now (table_of c.args.table.now) 2 >>= made c.in-Some.is_little_endian (fields_view c.in_ok-found.found)) =
    schema-fields c.args.bytes.now (table_of c.args.table.now) c.in-Some.is_little_endian v order tables
    ∙ ap (λ o. o >>= (λ found. metadata_in c.args.bytes.now (table_of c.args.table.now) 2 >>= made c.in-Some.is_little_endian found))
    c.in_ok-found.ensures.value in
    rw (is, given) (refuses-first c.in_err-metadata.field-0.0 ⊥ (metadata_in c.args.bytes.now (table_of c.args.table.now) 2)
    (FloatInSchema c.args.bytes.now (table_of c.args.table.now))
    (made c.in-Some.is_little_endian (fields_view c.in_ok-found.found)) (λ never. absurd never) c.in_err-metadata.ensures)

pub returns-clause-value : goal.returns-clause-value
returns-clause-value c =
    let v = vector_of c.in-Some-tables_in.vector in
    let order : order_in c.args.bytes.now (table_of c.args.table.now) ≡ Some c.in-Some.is_little_endian = search rules in
    let tables : tables_in c.args.bytes.now (table_of c.args.table.now) ≡ Some v = search rules in
    schema-fields c.args.bytes.now (table_of c.args.table.now) c.in-Some.is_little_endian v order tables
    ∙ ap (λ o. o >>= (λ found. metadata_in c.args.bytes.now (table_of c.args.table.now) 2 >>= made c.in-Some.is_little_endian found))
    c.in_ok-found.ensures.value
    ∙ ap (λ o. o >>= made c.in-Some.is_little_endian (fields_view c.in_ok-found.found)) c.in_ok-metadata.ensures

pub returns-clause-used : goal.returns-clause-used
returns-clause-used c =
    let v = vector_of c.in-Some-tables_in.vector in
    let tables : tables_in c.args.bytes.now (table_of c.args.table.now) ≡ Some v = search rules in
    rw (visits-are-left c.args.bytes.now (table_of c.args.table.now) v (fields_view c.in_ok-found.found) tables c.in_ok-found.ensures.value)
    c.in_ok-found.ensures.visits
