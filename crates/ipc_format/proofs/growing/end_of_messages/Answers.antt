-- Nothing bars a file whose blocks are within it; and what does is the first of the bars.
use Rattle.std.proofs.Common.{rules, arith, ◌≡◌, ◌∙◌, ℕ, List, length, map, ap, sym, subst, vec_len}
use Rattle.std.specs.Prelude.{Some, None, ◌==◌}
use Rattle.ipc_format_readers.specs.FileStarts.{block_view, blocks_view}
use Rattle.ipc_format_readers.specs.declared.blocks.MessageBlock.{MessageBlock}
use Rattle.ipc_format.specs.Growing.{EndWithin, kept}
use Rattle.ipc_format.proofs.GrownBlocks.{barred_block, barred_empty, barred_order, empty_of, greatest_both, not_barred}
use Rattle.ipc_format.proofs.GrownBlocks.{past_batches, past_dictionaries}
use Rattle.ipc_format.proofs.growing.end_of_messages.Goals as goal

pub returns-then-not-metadata : goal.returns-then-not-metadata
returns-then-not-metadata c =
    let metadata = c.args.metadata.now in
    barred_order metadata.ipc_schema.is_little_endian metadata.size (blocks_view metadata.dictionaries) (blocks_view metadata.blocks)
    c.if-not-metadata.true

pub returns-then-is_empty : goal.returns-then-is_empty
returns-then-is_empty c =
    let metadata = c.args.metadata.now in
    let count : length metadata.blocks.items ≡ vec_len metadata.blocks = search rules in
    let none = empty_of metadata.blocks.items ∙ ap (λ (n : ℕ). n == 0) count ∙ sym c.if-is_empty.ensures in
    barred_empty metadata.ipc_schema.is_little_endian metadata.size (blocks_view metadata.dictionaries) (blocks_view metadata.blocks)
    c.if-not-metadata.false none

pub returns-in_default : goal.returns-in_default
returns-in_default c =
    let metadata = c.args.metadata.now in
    let dictionaries = blocks_view metadata.dictionaries in
    let batches = blocks_view metadata.blocks in
    let past = subst (λ (all : List MessageBlock). EndWithin None metadata.size (map block_view all)) c.deref.ensures.value c.in_default.ensures in
    barred_block metadata.ipc_schema.is_little_endian metadata.size dictionaries batches c.if-not-metadata.false
    (past_dictionaries metadata.ipc_schema.is_little_endian metadata.size dictionaries batches past)

pub returns-in_default-end_within : goal.returns-in_default-end_within
returns-in_default-end_within c =
    let metadata = c.args.metadata.now in
    let dictionaries = blocks_view metadata.dictionaries in
    let batches = blocks_view metadata.blocks in
    let past = subst (λ (all : List MessageBlock). EndWithin None metadata.size (map block_view all)) c.deref-2.ensures.value
    c.in_default-end_within.ensures in
    barred_block metadata.ipc_schema.is_little_endian metadata.size dictionaries batches c.if-not-metadata.false
    (past_batches metadata.ipc_schema.is_little_endian metadata.size dictionaries batches past)

pub returns : goal.returns
returns c =
    let metadata = c.args.metadata.now in
    let dictionaries = blocks_view metadata.dictionaries in
    let batches = blocks_view metadata.blocks in
    let count : length metadata.blocks.items ≡ vec_len metadata.blocks = search rules in
    let some = empty_of metadata.blocks.items ∙ ap (λ (n : ℕ). n == 0) count ∙ sym c.if-is_empty.ensures in
    let first = subst (λ (all : List MessageBlock). EndWithin (Some c.in-Some.dictionaries) metadata.size (map block_view all)) c.deref.ensures.value
    c.in-Some.ensures in
    let others = subst (λ (all : List MessageBlock). EndWithin (Some c.in-Some-end_within.batches) metadata.size (map block_view all))
    c.deref-2.ensures.value c.in-Some-end_within.ensures in
    let ends = greatest_both (kept dictionaries) (kept batches) in (
      not_barred metadata.ipc_schema.is_little_endian metadata.size dictionaries batches c.in-Some.dictionaries c.in-Some-end_within.batches
          c.if-not-metadata.false some first others,
      omega (arith, c.max.ensures, ends, first.1, others.1),
      omega (arith, c.max.ensures, first.2, others.2),
    )
