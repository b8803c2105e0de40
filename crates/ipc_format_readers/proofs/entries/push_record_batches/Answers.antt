-- The record batches are put behind the others one after another.
use Rattle.std.proofs.Common.{rules, ◌≡◌, ◌≤◌, [], ◌∷◌, ◌++◌, length, map, refl, sym, subst}
use Rattle.std.proofs.lemmas.List.{length-map, map-append}
use Rattle.std.specs.Prelude.{Some, None, slice_get}
use Rattle.ipc_format_chunk_writing.specs.grammar.Files.{entry_at, is_record_batch}
use Rattle.ipc_format_readers.specs.FileEntries.{entries_view}
use Rattle.ipc_format_readers.specs.BlockMessages.{batch_entry}
use Rattle.ipc_format_readers.specs.FileStarts.{block_view}
use Rattle.ipc_format_readers.proofs.PushedEntries.{all_pushed, one_lacking, one_pushed}
use Rattle.ipc_format_readers.proofs.Lists.{seen_at}
use Rattle.ipc_format_readers.proofs.entries.push_record_batches.Goals as goal

pub loop-block-init : goal.loop-block-init
loop-block-init c = refl

pub returns-in_default : goal.returns-in_default
returns-in_default c =
    let bytes = c.args.bytes.now in
    let blocks = map block_view c.args.blocks.now in
    let k = c.loop-block.block-index in
    let block = block_view c.block-item.result in
    let here : slice_get blocks k ≡ Some block =
    seen_at block_view c.args.blocks.now k c.block-item.result c.loop-block-test.true c.block-item.is in
    let none : entry_at is_record_batch bytes block ≡ None = search rules in
    one_lacking is_record_batch bytes blocks (entries_view c.args.entries.now) k block (entries_view c.loop-block.entries) here none
    c.loop-block.invariant

pub loop-block-preserved : goal.loop-block-preserved
loop-block-preserved c =
    let bytes = c.args.bytes.now in
    let blocks = map block_view c.args.blocks.now in
    let k = c.loop-block.block-index in
    let block = block_view c.block-item.result in
    let entry = batch_entry bytes block (c.in-Some.header, c.in-Some.version) in
    let here : slice_get blocks k ≡ Some block =
    seen_at block_view c.args.blocks.now k c.block-item.result c.loop-block-test.true c.block-item.is in
    let found : entry_at is_record_batch bytes block ≡ Some entry = search rules in
    let grown : entries_view c.push.new.self ≡ entries_view c.loop-block.entries ++ entry ∷ [] = search (rules, map-append) in
    one_pushed is_record_batch bytes blocks (entries_view c.args.entries.now) k block (entries_view c.loop-block.entries)
    (entries_view c.push.new.self) entry here found grown c.loop-block.invariant

pub returns : goal.returns
returns c =
    let bytes = c.args.bytes.now in
    let blocks = map block_view c.args.blocks.now in
    let past : length blocks ≤ c.loop-block.block-index =
    subst (λ n. n ≤ c.loop-block.block-index) (sym (length-map c.args.blocks.now block_view)) c.loop-block-test.false in
    all_pushed is_record_batch bytes blocks (entries_view c.args.entries.now) c.loop-block.block-index (entries_view c.loop-block.entries) past
    c.loop-block.invariant
