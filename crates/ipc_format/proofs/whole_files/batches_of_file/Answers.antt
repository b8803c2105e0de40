-- The batches are read one after another, under the file's dictionaries.
use Rattle.std.proofs.Common.{rules, ◌≡◌, ◌≤◌, ◌<◌, List, [], ◌∷◌, ◌++◌, length, map}
use Rattle.std.specs.Prelude.{Some, Ok, Err}
use Rattle.ipc_format_readers.specs.BlockMessages.{AreOfFields}
use Rattle.ipc_format_readers.specs.FileReads.{HasUnreadDictionary, IsCompressedBatch, StandAsIn, dictionaries_of}
use Rattle.ipc_format_readers.specs.FileStarts.{layout_in}
use Rattle.ipc_format_readers.specs.chunk_writing.ReadArrays.{standing_in}
use Rattle.ipc_format_readers.specs.chunk_writing.columns.StoredColumns.{slots}
use Rattle.ipc_format_readers.specs.chunk_writing.metadata.Reading.{Refuses}
use Rattle.ipc_format.specs.ReadFiles.{ReadsMessages, batch_of}
use Rattle.ipc_format.proofs.WholeFiles.{all_read, dictionaries_refused, none_read, one_read, one_unread}
use Rattle.ipc_format.proofs.whole_files.batches_of_file.Goals as goal

pub returns-in_err-dictionaries : goal.returns-in_err-dictionaries
returns-in_err-dictionaries c =
    let metadata = c.args.metadata.now in
    let bytes = c.args.bytes.now in
    let error = c.in_err-dictionaries.field-0.0 in
    let refused : Refuses (HasUnreadDictionary metadata bytes) error (dictionaries_of metadata bytes) = search rules in
    let whole : ReadsMessages metadata bytes (Err error) = dictionaries_refused metadata bytes error refused in
    search (rules, whole)

pub loop-index-init : goal.loop-index-init
loop-index-init c =
    let none : c.new-chunks.result.items ≡ [] = search rules in
    none_read c.args.metadata.now c.args.bytes.now (standing_in c.in_ok-dictionaries.dictionaries) c.new-chunks.result.items none

pub returns-in_err-chunk : goal.returns-in_err-chunk
returns-in_err-chunk c =
    let metadata = c.args.metadata.now in
    let bytes = c.args.bytes.now in
    let standing = standing_in c.in_ok-dictionaries.dictionaries in
    let k = c.loop-index.index in
    let error = c.in_err-chunk.field-0.0 in
    let stand : StandAsIn metadata standing bytes = search rules in
    let within : k < length metadata.blocks.items = search rules in
    let refused : Refuses (IsCompressedBatch metadata k bytes) error (batch_of metadata standing k bytes) = search rules in
    let whole : ReadsMessages metadata bytes (Err error) =
    one_unread metadata bytes standing k c.loop-index.chunks.items error c.look_ups_are_enough.ensures stand within
    c.loop-index.invariant refused in
    search (rules, whole)

pub loop-index-preserved : goal.loop-index-preserved
loop-index-preserved c =
    let metadata = c.args.metadata.now in
    let bytes = c.args.bytes.now in
    let standing = standing_in c.in_ok-dictionaries.dictionaries in
    let k = c.loop-index.index in
    let chunk = c.in_ok-chunk.chunk in
    let within : k < length metadata.blocks.items = search rules in
    let found : batch_of metadata standing k bytes ≡ Some (map slots chunk) = search rules in
    let fits : AreOfFields (layout_in metadata).fields chunk = search rules in
    let pushed : c.push.new.self.items ≡ c.loop-index.chunks.items ++ chunk ∷ [] = search rules in
    one_read metadata bytes standing k c.loop-index.chunks.items c.push.new.self.items chunk within c.loop-index.invariant found
    fits pushed

pub returns : goal.returns
returns c =
    let metadata = c.args.metadata.now in
    let bytes = c.args.bytes.now in
    let standing = standing_in c.in_ok-dictionaries.dictionaries in
    let stand : StandAsIn metadata standing bytes = search rules in
    let past : length metadata.blocks.items ≤ c.loop-index.index = search rules in
    all_read metadata bytes standing c.loop-index.index c.loop-index.chunks c.look_ups_are_enough.ensures stand past c.loop-index.invariant
