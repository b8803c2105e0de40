use Rattle.std.proofs.Common.{◌≡◌, ◌++◌, rules}
use Rattle.std.specs.Int.{w32, w64, to_le_bytes, cast_unsigned}
use Rattle.ipc_format_writing.proofs.LaidFooter.{block-written}
use Rattle.ipc_format_writing.proofs.footers.put_block.Goals as goal

pub returns : goal.returns
returns c =
    let block = c.args.block.now in
    let out = c.args.out.now.items in
    let first = c.extend_from_slice.new.self.items in
    let second = c.extend_from_slice-2.new.self.items in
    let third = c.extend_from_slice-3.new.self.items in
    let last = c.extend_from_slice-4.new.self.items in
    let one : first ≡ out ++ to_le_bytes w64 (cast_unsigned w64 block.offset) = search rules in
    let two : second ≡ first ++ to_le_bytes w32 (cast_unsigned w32 block.meta_data_length) = search rules in
    let three : third ≡ second ++ to_le_bytes w32 0 = search rules in
    let four : last ≡ third ++ to_le_bytes w64 (cast_unsigned w64 block.body_length) = search rules in
    block-written block out first second third last one two three four
