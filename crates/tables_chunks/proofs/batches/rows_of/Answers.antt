-- The rows are counted batch by batch.
use Rattle.std.proofs.Common.{◌≡◌, ◌∙◌, ◌+◌, ◌≤◌, ◌<◌, ◌^◌, ap, arith, rules}
use Rattle.tables_chunks.specs.Batches.{batch_len}
use Rattle.tables_chunks.proofs.BatchLists.{count_past, count_next, count_all}
use Rattle.tables_chunks.proofs.batches.rows_of.Goals as goal

pub returns-in_default : goal.returns-in_default
returns-in_default c =
    let batches = c.args.batches.now in
    let batch = c.batch-item.result in
    let long : 2 ^ 64 ≤ c.loop-batch.rows + c.len_of.result = search rules in
    let past : 2 ^ 64 ≤ c.loop-batch.rows + batch_len batch = omega (arith, c.len_of.ensures) in
    let many = count_past batches c.loop-batch.batch-index c.loop-batch.rows (2 ^ 64) batch c.loop-batch-test.true c.batch-item.is
    c.loop-batch.invariant.counted past in
    λ small. absurd (omega arith)

pub loop-batch-preserved : goal.loop-batch-preserved
loop-batch-preserved c =
    let batches = c.args.batches.now in
    let batch = c.batch-item.result in
    let sum : c.in-Some.sum ≡ c.loop-batch.rows + c.len_of.result = search rules in
    let more : c.in-Some.sum ≡ c.loop-batch.rows + batch_len batch = sum ∙ ap (λ n. c.loop-batch.rows + n) c.len_of.ensures in
    let fits : c.in-Some.sum < 2 ^ 64 = search rules in
    record {
      counted = count_next batches c.loop-batch.batch-index c.loop-batch.rows c.in-Some.sum batch c.loop-batch-test.true c.batch-item.is
          c.loop-batch.invariant.counted more;
      fits = fits;
    }

pub returns : goal.returns
returns c =
    let all = count_all c.args.batches.now c.loop-batch.batch-index c.loop-batch.rows c.loop-batch-test.false c.loop-batch.invariant.counted in
    (omega (arith, c.loop-batch.invariant.fits), all)
