use Rattle.std.proofs.Common.{arith, ap, length, ◌∙◌, rules}
use Rattle.ipc_format_writing.proofs.LaidFooter.{blocks-length, blocks-made}
use Rattle.ipc_format_writing.proofs.footers.lay_blocks.Goals as goal

pub lay_structs-requires : goal.lay_structs-requires
lay_structs-requires c =
    omega (arith, ap length c.deref.ensures.value, ap length c.in_ok-bytes.ensures, blocks-length c.args.blocks.now)

pub returns : goal.returns
returns c =
    blocks-made c.args.blocks.now c.deref.result.now c.lay_structs.result (c.deref.ensures.value ∙ c.in_ok-bytes.ensures) (search rules)
