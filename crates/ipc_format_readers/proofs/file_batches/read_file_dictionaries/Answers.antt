-- The dictionaries stand one after another.
use Rattle.std.proofs.Common.{rules, ◌≡◌, ◌≤◌, ◌<◌, length, arith}
use Rattle.std.proofs.lemmas.List.{length-map}
use Rattle.std.specs.Prelude.{Some, Err, ⊤, slice_get}
use Rattle.ipc_format_chunk_writing.specs.BatchReads.{sized}
use Rattle.ipc_format_chunk_writing.specs.grammar.Limits.{most_dictionaries}
use Rattle.ipc_format_readers.specs.FileStarts.{block_view, blocks_view, layout_in}
use Rattle.ipc_format_readers.proofs.BlocksRead.{taken_more, taken_refused, taken_whole}
use Rattle.ipc_format_readers.proofs.Lists.{seen_at}
use Rattle.ipc_format_readers.proofs.file_batches.read_file_dictionaries.Goals as goal

pub returns-in_err-take_dictionary : goal.returns-in_err-take_dictionary
returns-in_err-take_dictionary g c =
    let metadata = c.args.metadata.now in
    let size = metadata.size in
    let k = c.loop-block.block-index in
    let block = c.block-item.result in
    let error = c.in_err-take_dictionary.field-0.0 in
    let is : c.from_residual-in_err-take_dictionary.result ≡ Err error = search rules in
    let some : 0 < length (blocks_view metadata.blocks) = search (rules, length-map metadata.blocks.items block_view) in
    let here : slice_get (blocks_view metadata.dictionaries) k ≡ Some (block_view block) =
    seen_at block_view metadata.dictionaries.items k block (search rules) (search rules) in
    rw is (taken_refused metadata k (block_view block) (sized size (g.R.Room.told c.args.reader.now)) (sized size (g.R.Room.told c.loop-block.reader))
    (sized size (g.R.Room.told c.take_dictionary.new.reader)) c.loop-block.dictionaries error c.look_ups_are_enough.ensures some here
    c.loop-block.invariant c.in_err-take_dictionary.ensures)

pub loop-block-preserved : goal.loop-block-preserved
loop-block-preserved g c =
    let metadata = c.args.metadata.now in
    let size = metadata.size in
    let k = c.loop-block.block-index in
    let block = c.block-item.result in
    let here : slice_get (blocks_view metadata.dictionaries) k ≡ Some (block_view block) =
    seen_at block_view metadata.dictionaries.items k block (search rules) (search rules) in
    taken_more {A = ⊤} (layout_in metadata) (blocks_view metadata.dictionaries) k (block_view block) (sized size (g.R.Room.told c.args.reader.now))
    (sized size (g.R.Room.told c.loop-block.reader)) (sized size (g.R.Room.told c.take_dictionary.new.reader)) c.loop-block.dictionaries
    c.take_dictionary.new.dictionaries tt c.look_ups_are_enough.ensures here c.loop-block.invariant c.in_ok-take_dictionary.ensures

pub returns : goal.returns
returns g c =
    let metadata = c.args.metadata.now in
    let size = metadata.size in
    let k = c.loop-block.block-index in
    let all = length-map metadata.dictionaries.items block_view in
    let some : 0 < length (blocks_view metadata.blocks) = search (rules, length-map metadata.blocks.items block_view) in
    let few : length (blocks_view metadata.dictionaries) ≤ most_dictionaries = search (rules, all) in
    let past : length (blocks_view metadata.dictionaries) ≤ k = omega (arith, all, c.loop-block-test.false) in
    taken_whole metadata k (sized size (g.R.Room.told c.args.reader.now)) (sized size (g.R.Room.told c.loop-block.reader)) c.loop-block.dictionaries
    some few past c.loop-block.invariant
