-- The ids, the lengths and the types decide.
use Rattle.std.proofs.Common.{rules, ◌≡◌, Bool, true, false, inl, inr}
use Rattle.std.specs.List.{list_all}
use Rattle.ipc_format_batch_reading.specs.Chunks.{AreAsLong}
use Rattle.ipc_format_batch_reading.specs.columns.SoundColumns.{is_sound}
use Rattle.ipc_format_batch_reading.specs.columns.StoredColumns.{Column, in_columns}
use Rattle.ipc_format_batch_reading.specs.grammar.Ids.{ids_fit_fields}
use Rattle.ipc_format_batch_reading.specs.metadata.Views.{ids_views}
use Rattle.ipc_format_chunk_writing.specs.ShortColumns.{are_short}
use Rattle.ipc_format_chunk_writing.specs.Streams.{have_forms}
use Rattle.ipc_format_chunk_writing.proofs.Batches.{admitted, other_forms}
use Rattle.ipc_format_chunk_writing.proofs.opening.admit.Goals as goal

pub returns-then-not-branch : goal.returns-then-not-branch
returns-then-not-branch c =
    let schema = c.args.schema.now in
    let columns = c.args.chunk.now in
    let sound : list_all is_sound columns ≡ true = search rules in
    let short_is : c.are_short.result ≡ are_short (in_columns columns) = search rules in
    let shorts : c.are_short.result ≡ true = search rules in
    let forms_is : c.in_ok-have_forms.field-0 ≡ have_forms schema.fields columns = search rules in
    let other : c.in_ok-have_forms.field-0 ≡ false = search rules in
    inr (inl (other_forms schema (ids_views c.args.ids.now) columns c.are_short.result c.in_ok-have_forms.field-0 sound c.whole.ensures
    short_is shorts forms_is other))

pub returns : goal.returns
returns c =
    let schema = c.args.schema.now in
    let columns = c.args.chunk.now in
    let sound : list_all is_sound columns ≡ true = search rules in
    let fit_is : c.ids_fit.result ≡ ids_fit_fields schema.fields (ids_views c.args.ids.now) = search rules in
    let fits : c.ids_fit.result ≡ true = search rules in
    let short_is : c.are_short.result ≡ are_short (in_columns columns) = search rules in
    let shorts : c.are_short.result ≡ true = search rules in
    let forms_is : c.in_ok-have_forms.field-0 ≡ have_forms schema.fields columns = search rules in
    let formed : c.in_ok-have_forms.field-0 ≡ true = search rules in
    admitted schema (ids_views c.args.ids.now) columns c.ids_fit.result c.are_short.result c.in_ok-have_forms.field-0 sound c.whole.ensures
    fit_is fits short_is shorts forms_is formed
