-- The open rows are a batch, or they are gone.
use Rattle.std.proofs.Common.{rules, ◌≡◌, ◌∙◌, ◌<◌, ◌^◌, true, ap, sym, subst, arith}
use Rattle.std.specs.Prelude.{⊤, Err, Ok}
use Rattle.columnar_memory_types.specs.declared.schema.Schema.{Schema}
use Rattle.tables_chunks.specs.StoredTables.{row_count, is_of_fields}
use Rattle.tables_rows.specs.Building.{Building, seen, IsHeld}
use Rattle.tables_rows.specs.Columns.{open_count}
use Rattle.tables_rows.specs.Ending.{EndsBatch}
use Rattle.tables_rows.proofs.EndedRows.{ends_none, ends_without, ends_batch, held_empty, same_schema}
use Rattle.tables_rows.proofs.TakenColumns.{batch_types}
use Rattle.tables_rows.proofs.builder.TableBuilder.end_batch.Goals as goal

pub returns-then-count_of-eq0 : goal.returns-then-count_of-eq0
returns-then-count_of-eq0 c =
    let columns = c.self.inside.columns.items in
    let none : open_count columns ≡ 0 = ap open_count (sym c.deref.ensures.value) ∙ sym c.count_of.ensures ∙ c.if-count_of-eq0.true in
    let fits : row_count c.self.inside.table < 2 ^ 64 = omega (arith, c.rows-rows.type_inv, c.rows-rows.ensures) in
    subst (λ (old : Building). EndsBatch {U = ⊤} old (Ok tt) old) c.self.view_is (ends_none c.self.inside.table columns tt none fits)

pub invariant_of-self : goal.invariant_of-self
invariant_of-self c =
    held_empty c.self.inside.table.schema c.self.inside.columns.items c.take_batch.new.columns.items c.self.invariant c.in_err-batch.ensures.0

pub returns-in_err-batch : goal.returns-in_err-batch
returns-in_err-batch c =
    let columns = c.self.inside.columns.items in
    let table = c.self.inside.table in
    let new = c.take_batch.new.columns.items in
    let some : 0 < open_count columns =
    omega (arith, c.if-count_of-eq0.false, c.count_of.ensures, ap open_count c.deref.ensures.value) in
    let whole : EndsBatch {U = ⊤} c.args.self.now (Err c.in_err-batch.field-0.0) (seen table new) =
    subst (λ (old : Building). EndsBatch {U = ⊤} old (Err c.in_err-batch.field-0.0) (seen table new)) c.self.view_is
    (ends_without table columns new c.in_err-batch.field-0.0 some c.in_err-batch.ensures) in
    search (rules, whole)

pub push-requires : goal.push-requires
push-requires c =
    let fields = c.self.inside.table.schema.fields in
    ap (is_of_fields fields) c.in_ok-batch.ensures.1 ∙ batch_types fields c.self.inside.columns.items c.self.invariant.are.types

pub invariant_of-self-2 : goal.invariant_of-self-2
invariant_of-self-2 c =
    let columns = c.self.inside.columns.items in
    let new = c.take_batch.new.columns.items in
    subst (λ (schema : Schema). IsHeld schema new) (sym (same_schema c.self.inside.table c.push.new.self c.in_ok-batch.batch c.push.result
    c.push.ensures)) (held_empty c.self.inside.table.schema columns new c.self.invariant c.in_ok-batch.ensures.0)

pub returns : goal.returns
returns c =
    let columns = c.self.inside.columns.items in
    let table = c.self.inside.table in
    let new = c.take_batch.new.columns.items in
    let some : 0 < open_count columns =
    omega (arith, c.if-count_of-eq0.false, c.count_of.ensures, ap open_count c.deref.ensures.value) in
    subst (λ (old : Building). EndsBatch old c.push.result (seen c.push.new.self new)) c.self.view_is
    (ends_batch table c.push.new.self columns new c.in_ok-batch.batch c.push.result some c.self.invariant.are c.in_ok-batch.ensures
    c.push.ensures)
