-- The end of the file is put behind its messages.
use Rattle.std.proofs.Common.{rules, ◌≡◌, ◌∙◌, ◌^◌, ◌<◌, ℕ, List, ◌++◌, length, sym, ap, subst}
use Rattle.std.proofs.lemmas.Bool.{ltb-true}
use Rattle.std.specs.Prelude.{Err}
use Rattle.ipc_format_readers.specs.chunk_writing.metadata.Views.{ids_views}
use Rattle.ipc_format_readers.specs.chunk_writing.metadata.declared.ipc_schema.IpcField.{IpcField}
use Rattle.ipc_format_readers.specs.streams.owned.writing.Writing.{may_write}
use Rattle.ipc_format.specs.Ends.{HasNoFooter, IsFooter, end_of, end_with_zeros, has_room, zeros_before}
use Rattle.ipc_format.specs.FilePhases.{progress_of}
use Rattle.ipc_format.proofs.AppendSteps.{may_write_of}
use Rattle.ipc_format.proofs.appending.append_end.Goals as goal

pub footer_of-requires : goal.footer_of-requires
footer_of-requires c =
    ap (λ (fields : List IpcField). may_write c.args.metadata.now.schema (ids_views fields)) c.as_slice-ids.ensures
    ∙ may_write_of c.args.metadata.now

pub returns-in_err-footer : goal.returns-in_err-footer
returns-in_err-footer c =
    let error = c.in_err-footer.field-0.0 in
    let is : c.from_residual.result ≡ Err error = search rules in
    rw is (subst (λ (fields : List IpcField). HasNoFooter error c.args.metadata.now.schema (ids_views fields) (progress_of c.args.file.now))
    c.as_slice-ids.ensures c.in_err-footer.ensures)

pub zeros_before-requires : goal.zeros_before-requires
zeros_before-requires c = ap (has_room c.args.file.now.place) c.deref.ensures.value ∙ c.in_ok-footer.ensures.room

pub put_end-requires : goal.put_end-requires
put_end-requires c =
    let footer = c.in_ok-footer.footer.items in
    subst (λ (bytes : List ℕ). length bytes < 2 ^ 31) (sym c.deref-2.ensures.value) (ltb-true (length footer) (2 ^ 31) c.in_ok-footer.ensures.fits)

pub returns-in-Ok : goal.returns-in-Ok
returns-in-Ok c =
    let progress = progress_of c.args.file.now in
    let before = c.args.bytes.now.items in
    let footer = c.in_ok-footer.footer.items in
    let zeros = c.zeros_before.ensures ∙ ap (zeros_before progress) c.deref.ensures.value in
    let is = subst (λ (fields : List IpcField). IsFooter footer c.args.metadata.now.schema (ids_views fields) progress) c.as_slice-ids.ensures
    c.in_ok-footer.ensures in
    let put : c.put_end.new.writer.items ≡ before ++ end_of progress footer =
    c.in-Ok.ensures ∙ (λ j. before ++ end_with_zeros (zeros j) (c.deref-2.ensures.value j)) in
    (footer, is, put)
