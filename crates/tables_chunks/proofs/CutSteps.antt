-- The arrays of a batch are cut one by one.
use Rattle.std.proofs.Common.{◌≡◌, ◌∙◌, ℕ, ◌+◌, ◌≤◌, ◌<◌, true, List, length, take, ap, arith}
use Rattle.std.proofs.lemmas.List.{take_all}
use Rattle.ipc_format.specs.columns.StoredColumns.{Column}
use Rattle.tables_chunks.specs.Batches.{batch_len, is_batch, cut_batch}
use Rattle.tables_chunks.proofs.LongColumns.{cut_is_batch}

-- where all arrays of a batch were cut, the cuts are a batch
pub cut_from : (batch items windows : List Column) (o n i : ℕ) → items ≡ batch → is_batch batch ≡ true → o + n ≤ batch_len batch → 0 < n
    → length items ≤ i → windows ≡ cut_batch o n (take i items) → is_batch windows ≡ true
cut_from batch items windows o n i are long within some past made =
    let all : take i items ≡ batch = take_all i items past ∙ are in
    ap is_batch (made ∙ ap (cut_batch o n) all) ∙ cut_is_batch o n batch long within (omega arith)
