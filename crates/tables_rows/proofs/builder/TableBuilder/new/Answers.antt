-- The schema's one form may be sealed, as the schema may, so that each type has builders.
use Rattle.std.proofs.Common.{◌≡◌, ◌∙◌, ap, sym, subst}
use Rattle.std.specs.Prelude.{None}
use Rattle.columnar_memory_types.specs.declared.schema.Schema.{Schema}
use Rattle.tables_rows.specs.Bars.{bar_of}
use Rattle.nested_arrays_cells.specs.builders.BuiltTypes.{have_builders}
use Rattle.nested_arrays_cells.specs.builders.Begun.{opened_none}
use Rattle.tables_rows.proofs.BegunTypes.{sealable_begins}
use Rattle.tables_rows.specs.Building.{empty, IsHeld}
use Rattle.tables_rows.proofs.BegunColumns.{begun_open, begun_seen}
use Rattle.tables_rows.proofs.NormalBars.{normal_form, normal_sealable}
use Rattle.tables_rows.proofs.builder.TableBuilder.new.Goals as goal

pub begin_columns-requires : goal.begin_columns-requires
begin_columns-requires c =
    let free : bar_of c.args.schema ≡ None = sym c.seal_bar.ensures ∙ c.in_default.is in
    ap have_builders c.as_slice.ensures
    ∙ sealable_begins c.in_ok-schema.schema (normal_sealable c.args.schema c.in_ok-schema.schema free c.in_ok-schema.ensures.0)

pub new-table-requires : goal.new-table-requires
new-table-requires c =
    let free : bar_of c.args.schema ≡ None = sym c.seal_bar.ensures ∙ c.in_default.is in
    normal_form c.args.schema c.in_ok-schema.schema free c.in_ok-schema.ensures.0 c.in_ok-schema.ensures.1

pub invariant_of-result : goal.invariant_of-result
invariant_of-result c =
    let schema = c.in_ok-schema.schema in
    let columns = c.in_ok-columns.columns.items in
    let free : bar_of c.args.schema ≡ None = sym c.seal_bar.ensures ∙ c.in_default.is in
    let is : columns ≡ opened_none schema.fields = c.in_ok-columns.ensures ∙ ap opened_none c.as_slice.ensures in
    subst (λ (own : Schema). IsHeld own columns) (sym (ap (λ stored. stored.schema) c.new-table.ensures)) (record {
      form = normal_form c.args.schema schema free c.in_ok-schema.ensures.0 c.in_ok-schema.ensures.1;
      sealable = normal_sealable c.args.schema schema free c.in_ok-schema.ensures.0;
      are = begun_open schema.fields columns is;
    })

pub returns : goal.returns
returns c =
    let schema = c.in_ok-schema.schema in
    let columns = c.in_ok-columns.columns.items in
    let free : bar_of c.args.schema ≡ None = sym c.seal_bar.ensures ∙ c.in_default.is in
    let is : columns ≡ opened_none schema.fields = c.in_ok-columns.ensures ∙ ap opened_none c.as_slice.ensures in
    (begun_seen c.new-table.result schema columns c.new-table.ensures is ∙ ap empty c.in_ok-schema.ensures.0, free)
