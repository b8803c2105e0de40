-- The parts of the line, one behind another.
use Rattle.std.proofs.Common.{rules, ◌++◌, ◌∙◌, List, ℕ}
use Rattle.std.specs.Prelude.{codes}
use Rattle.tables.specs.Failure.{failure_text}
use Rattle.tables_rows.proofs.chunk_lemmas.Appending.{appends_both, appends_same, puts_behind, puts_first, puts_between, refused_same}
use Rattle.tables.proofs.program.report.Goals as goal

pub returns-in_err-put : goal.returns-in_err-put
returns-in_err-put g c =
    let text : List ℕ = failure_text c.args.failure.now in
    let whole = puts_first c.in_err-put.field-0.0 _ _ (codes "tables: " ++ text) (codes "\n")
    (puts_first c.in_err-put.field-0.0 _ _ (codes "tables: ") text c.in_err-put.ensures) in
    search (rules, whole)

pub returns-in_err-put-2 : goal.returns-in_err-put-2
returns-in_err-put-2 g c =
    let text : List ℕ = failure_text c.args.failure.now in
    let second = refused_same c.in_err-put-2.field-0.0 _ _ _ text (c.as_bytes.ensures.value ∙ c.text.ensures) c.in_err-put-2.ensures in
    let whole = puts_between c.in_err-put-2.field-0.0 _ _ _ (codes "tables: ") text (codes "\n") c.in_ok-put.ensures second in
    search (rules, whole)

pub returns : goal.returns
returns g c =
    let text : List ℕ = failure_text c.args.failure.now in
    let second = appends_same _ _ _ text (c.as_bytes.ensures.value ∙ c.text.ensures) c.in_ok-put-2.ensures in
    puts_behind c.put-3.result _ _ _ (codes "tables: " ++ text) (codes "\n") (appends_both _ _ _ (codes "tables: ") text c.in_ok-put.ensures second)
    c.put-3.ensures
