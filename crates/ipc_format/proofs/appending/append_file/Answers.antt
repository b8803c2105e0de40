-- The file is kept up to its last message, and the messages of the batches and its end are put behind it.
use Rattle.std.proofs.Common.{rules, ◌≡◌, ◌∙◌, ◌-◌, ℕ, List, ◌++◌, false, take, replicate, refl, ap, subst, arith}
use Rattle.std.specs.Prelude.{Some, is_err, Result, Err}
use Rattle.ipc_format_readers.specs.chunk_writing.Tracking.{told_by}
use Rattle.ipc_format_readers.specs.chunk_writing.columnar_memory.declared.Error.{Error}
use Rattle.ipc_format_readers.specs.chunk_writing.columns.StoredColumns.{Column}
use Rattle.ipc_format_readers.specs.chunk_writing.metadata.Views.{ids_views}
use Rattle.ipc_format_readers.specs.declared.file_metadata.FileMetadata.{FileMetadata}
use Rattle.ipc_format_readers.specs.streams.Devices.{Puts}
use Rattle.ipc_format.specs.Appending.{AreAppended, IsKept, IsNotKept}
use Rattle.ipc_format.specs.FilePhases.{Progress, progress_of}
use Rattle.ipc_format.proofs.AppendSteps.{put_behind}
use Rattle.ipc_format.proofs.Appended.{appended_whole, batches_refused, end_refused, file_refused}
use Rattle.ipc_format.proofs.appending.append_file.Goals as goal

-- the batches stand behind what is kept of the file's bytes, and zeros
behind_kept : {A : Type 0} (metadata : FileMetadata) (end : ℕ) (before after : Progress) (chunks : List (List Column))
    (bytes cut first middle : List ℕ) (zeros : Result A Error) → cut ≡ take end bytes → false ≡ is_err zeros
    → Puts zeros (Some cut) (Some first) (replicate (before.place - end) 0)
    → AreAppended before after metadata.schema (ids_views metadata.ipc_schema.fields) (told_by before.told) chunks first middle
    → AreAppended before after metadata.schema (ids_views metadata.ipc_schema.fields) (told_by before.told) chunks
    (take end bytes ++ replicate (before.place - end) 0) middle
behind_kept metadata end before after chunks bytes cut first middle zeros is_cut done put are =
    subst (λ (start : List ℕ). AreAppended before after metadata.schema (ids_views metadata.ipc_schema.fields) (told_by before.told) chunks start
    middle)
    (put_behind zeros cut first (replicate (before.place - end) 0) done put
    ∙ ap (λ (start : List ℕ). start ++ replicate (before.place - end) 0) is_cut) are

pub returns-in_err-metadata : goal.returns-in_err-metadata
returns-in_err-metadata c =
    let error = c.in_err-metadata.field-0.0 in
    let is : c.from_residual.result ≡ Err error = search rules in
    rw is (file_refused error c.args.bytes.items c.args.chunks.now (subst (IsNotKept error) c.deref.ensures.value c.in_err-metadata.ensures))

-- the new messages don't begin before the last one ends
pub overflow_sub-file : goal.overflow_sub-file
overflow_sub-file c = let kept = c.in_ok-metadata.ensures.1 in omega (arith, kept.ends, kept.place)

pub append_batches-requires : goal.append_batches-requires
append_batches-requires c = c.in_ok-metadata.ensures.1.few

pub returns-in_err-append_batches : goal.returns-in_err-append_batches
returns-in_err-append_batches c =
    let metadata = c.in_ok-metadata.metadata in
    let end = c.in_ok-metadata.end in
    let before = progress_of c.in_ok-metadata.file in
    let base = c.in_ok-metadata.ensures.0 in
    let kept = subst (λ (bytes : List ℕ). IsKept metadata end before bytes base) c.deref.ensures.value c.in_ok-metadata.ensures.1 in
    let error = c.in_err-append_batches.field-0.0 in
    let is : c.from_residual-in_err-append_batches.result ≡ Err error = search rules in
    rw is (batches_refused error c.args.bytes.items metadata end before base c.args.chunks.now kept
    (c.in_err-append_batches.ensures (told_by before.told) (λ id. refl)))

pub returns-in_err-append_end : goal.returns-in_err-append_end
returns-in_err-append_end c =
    let metadata = c.in_ok-metadata.metadata in
    let end = c.in_ok-metadata.end in
    let before = progress_of c.in_ok-metadata.file in
    let after = progress_of c.append_batches.new.file in
    let base = c.in_ok-metadata.ensures.0 in
    let middle = c.append_batches.new.bytes.items in
    let error = c.in_err-append_end.field-0.0 in
    let is : c.from_residual-in_err-append_end.result ≡ Err error = search rules in
    let kept = subst (λ (bytes : List ℕ). IsKept metadata end before bytes base) c.deref.ensures.value c.in_ok-metadata.ensures.1 in
    let are = behind_kept metadata end before after c.args.chunks.now c.args.bytes.items c.truncate.new.self.items c.put_zeros.new.writer.items
    middle c.put_zeros.result c.truncate.ensures.items c.if-is_err.ensures.value c.put_zeros.ensures
    (c.in_ok-append_batches.ensures (told_by before.told) (λ id. refl)) in
    rw is (end_refused error c.args.bytes.items middle metadata end before after base c.args.chunks.now kept are c.in_err-append_end.ensures)

pub returns : goal.returns
returns c =
    let metadata = c.in_ok-metadata.metadata in
    let end = c.in_ok-metadata.end in
    let before = progress_of c.in_ok-metadata.file in
    let after = progress_of c.append_batches.new.file in
    let base = c.in_ok-metadata.ensures.0 in
    let middle = c.append_batches.new.bytes.items in
    let ends = c.in_ok-append_end.ensures in
    let kept = subst (λ (bytes : List ℕ). IsKept metadata end before bytes base) c.deref.ensures.value c.in_ok-metadata.ensures.1 in
    let are = behind_kept metadata end before after c.args.chunks.now c.args.bytes.items c.truncate.new.self.items c.put_zeros.new.writer.items
    middle c.put_zeros.result c.truncate.ensures.items c.if-is_err.ensures.value c.put_zeros.ensures
    (c.in_ok-append_batches.ensures (told_by before.told) (λ id. refl)) in
    appended_whole c.args.bytes.items c.append_end.new.bytes.items middle metadata end before after base c.args.chunks.now ends.0 kept are ends.1
    ends.2
