-- One batch more.
use Rattle.std.proofs.Common.{◌≡◌, ◌∙◌, ◌+◌, ◌++◌, ◌∷◌, [], ◌<◌, ◌^◌, length, ap, sym, rules, arith}
use Rattle.tables_chunks.specs.Batches.{batch_len, stored_rows}
use Rattle.tables_chunks.proofs.BatchLists.{count_more, table_more}
use Rattle.tables_chunks.proofs.table.Table.add.Goals as goal

pub invariant_of-self-2 : goal.invariant_of-self-2
invariant_of-self-2 c =
    let batches = c.self.inside.batches.items in
    let batch = c.args.batch in
    let pushed : c.push.new.self.items ≡ batches ++ batch ∷ [] = search rules in
    let sum : c.in-Some.rows ≡ c.self.inside.rows + c.len_of.result = search rules in
    let more : length (stored_rows (batches ++ batch ∷ [])) ≡ length (stored_rows batches) + batch_len batch = count_more batches batch in
    let counted : c.in-Some.rows ≡ length (stored_rows (batches ++ batch ∷ [])) =
    omega (arith, c.len_of.ensures, c.self.invariant.0) in (
      counted ∙ ap (λ xs. length (stored_rows xs)) (sym pushed),
      rw pushed (table_more c.self.inside.schema batches batch c.self.invariant.1 c.is_whole.ensures (search rules)),
    )

pub returns : goal.returns
returns c =
    let batches = c.self.inside.batches.items in
    let batch = c.args.batch in
    let pushed : c.push.new.self.items ≡ batches ++ batch ∷ [] = search rules in
    let sum : c.in-Some.rows ≡ c.self.inside.rows + c.len_of.result = search rules in
    let fits : c.in-Some.rows < 2 ^ 64 = search rules in
    let more : length (stored_rows (batches ++ batch ∷ [])) ≡ length (stored_rows batches) + batch_len batch = count_more batches batch in
    let all : length (stored_rows c.push.new.self.items) ≡ length (stored_rows (batches ++ batch ∷ [])) =
    ap (λ xs. length (stored_rows xs)) pushed in
    let small : length (stored_rows c.push.new.self.items) < 2 ^ 64 = omega (arith, c.len_of.ensures, c.self.invariant.0) in
    (search rules, small)
