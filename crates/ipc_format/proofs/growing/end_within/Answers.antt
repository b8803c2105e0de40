-- One block more is within the size, or one states a negative length or ends past it.
use Rattle.std.proofs.Common.{rules, arith, ◌∙◌, ℕ, ◌<◌, ◌≤◌, true, false, sym, subst, inl, inr}
use Rattle.std.specs.Int.{w64}
use Rattle.std.specs.Int.RustNames.{FitsSigned}
use Rattle.ipc_format_readers.specs.FileStarts.{block_view}
use Rattle.ipc_format_readers.specs.chunk_writing.grammar.AppendedFiles.{block_end, kept_block}
use Rattle.ipc_format.proofs.GrownBlocks.{negative_at, past_at, sign_in, within_more}
use Rattle.ipc_format.proofs.growing.end_within.Goals as goal

pub returns-then-block-lt0 : goal.returns-then-block-lt0
returns-then-block-lt0 c =
    let block = c.block-item.result in
    let fits : FitsSigned w64 block.body_length = search rules in
    inl (negative_at c.args.blocks.now c.loop-block.block-index block c.loop-block-test.true c.block-item.is
    (sign_in block.body_length true fits c.if-block-lt0.true))

pub returns-in_err-here : goal.returns-in_err-here
returns-in_err-here c =
    let block = c.block-item.result in
    let past : c.args.size < block_end (kept_block (block_view block)) = omega (arith, c.in_err-here.ensures, c.ranges.size.fits) in
    let whole = past_at c.args.size c.args.blocks.now c.loop-block.block-index block c.loop-block-test.true c.block-item.is past in
    search (rules, whole)

pub returns-then-here-size : goal.returns-then-here-size
returns-then-here-size c =
    let block = c.block-item.result in
    let past : c.args.size < block_end (kept_block (block_view block)) = omega (arith, c.in_ok-here.ensures, c.if-here-size.true) in
    inr (past_at c.args.size c.args.blocks.now c.loop-block.block-index block c.loop-block-test.true c.block-item.is past)

pub loop-block-preserved : goal.loop-block-preserved
loop-block-preserved c =
    let block = c.block-item.result in
    let fits : FitsSigned w64 block.body_length = search rules in
    let more = within_more c.args.size c.loop-block.end c.in_ok-here.here c.args.blocks.now c.loop-block.block-index block c.loop-block-test.true
    c.block-item.is c.loop-block.invariant (sign_in block.body_length false fits c.if-block-lt0.false) c.in_ok-here.ensures c.if-here-size.false in
    (more.0, c.max-end.ensures ∙ more.1, subst (λ (n : ℕ). n ≤ c.args.size) (sym c.max-end.ensures) more.2)
