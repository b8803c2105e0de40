-- Where an input has no table, those before it were read; else there is one table more.
use Rattle.std.proofs.Common.{◌≡◌, ◌∙◌, ◌++◌, ◌∷◌, [], ℕ, ◌<◌, List, length, map, get_or, ap, arith, subst, sym, rules}
use Rattle.std.specs.String.{string_bytes}
use Rattle.std.proofs.lemmas.List.{length-map, get_or-map}
use Rattle.tables_rows.specs.chunks.declared.fault.Fault.TheVariants as faults
use Rattle.tables.specs.Inputs.{HoldsTable, IsInputFailure, IsReadFailure}
use Rattle.tables.specs.declared.program.Failure.TheVariants as failures
use Rattle.tables.proofs.Carrying.{input_failure_at, keeps_both, read_failure_before, table_before, tables_next}
use Rattle.tables.proofs.inputs.read_inputs.Goals as goal

pub returns-in_err-table-clause-read : goal.returns-in_err-table-clause-read
returns-in_err-table-clause-read g c =
    let failure = c.in_err-table.field-0.0 in
    let old = g.P.Places.contents c.args.places.now in
    let middle = g.P.Places.contents c.loop-name.places in
    let names : List (List ℕ) = map string_bytes c.args.names.now in
    let name : List ℕ = string_bytes c.name-item.result in
    let i = c.loop-name.name-index in
    let inside : i < length names = omega (arith, length-map c.args.names.now string_bytes, c.loop-name-test.true) in
    let is : name ≡ get_or names i name =
    ap string_bytes c.name-item.is ∙ sym (get_or-map string_bytes c.args.names.now i c.name-item.result name c.loop-name-test.true) in
    let why = subst (λ (n : List ℕ). IsReadFailure failure middle n) c.as_str.ensures.value c.in_err-table.ensures.read in
    let whole : IsInputFailure failure old names =
    input_failure_at failure old names i c.loop-name.tables.items name inside is c.loop-name.invariant.read
    (read_failure_before failure old middle name c.loop-name.invariant.kept why) in
    search (rules, whole)

pub returns-then-is_err-clause-read : goal.returns-then-is_err-clause-read
returns-then-is_err-clause-read g c =
    let old = g.P.Places.contents c.args.places.now in
    let names : List (List ℕ) = map string_bytes c.args.names.now in
    let name : List ℕ = string_bytes c.name-item.result in
    let i = c.loop-name.name-index in
    let inside : i < length names = omega (arith, length-map c.args.names.now string_bytes, c.loop-name-test.true) in
    let is : name ≡ get_or names i name =
    ap string_bytes c.name-item.is ∙ sym (get_or-map string_bytes c.args.names.now i c.name-item.result name c.loop-name-test.true) in
    input_failure_at (failures.Fault faults.Memory) old names i c.loop-name.tables.items name inside is c.loop-name.invariant.read tt

pub loop-name-preserved : goal.loop-name-preserved
loop-name-preserved g c =
    let old = g.P.Places.contents c.args.places.now in
    let middle = g.P.Places.contents c.loop-name.places in
    let new = g.P.Places.contents c.read_input.new.places in
    let names : List (List ℕ) = map string_bytes c.args.names.now in
    let name : List ℕ = string_bytes c.name-item.result in
    let table = c.in_ok-table.table in
    let tables = c.loop-name.tables.items in
    let kept = c.loop-name.invariant.kept in
    let i = c.loop-name.name-index in
    let inside : i < length names = omega (arith, length-map c.args.names.now string_bytes, c.loop-name-test.true) in
    let is : name ≡ get_or names i name =
    ap string_bytes c.name-item.is ∙ sym (get_or-map string_bytes c.args.names.now i c.name-item.result name c.loop-name-test.true) in
    let holds = subst (λ (n : List ℕ). HoldsTable middle n table) c.as_str.ensures.value c.in_ok-table.ensures.read in
    let pushed : c.push.new.self.items ≡ tables ++ table ∷ [] = search rules in
    record {
      kept = keeps_both old middle new kept c.in_ok-table.ensures.kept;
      read = tables_next old names i tables c.push.new.self.items name table inside is c.loop-name.invariant.read
          (table_before old middle name table kept holds) pushed;
    }
