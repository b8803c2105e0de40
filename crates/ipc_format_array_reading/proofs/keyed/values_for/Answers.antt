-- The values under an id, and their type.
use Rattle.std.proofs.Common.{◌≡◌, ◌∙◌, Bool, ap, false, option_copied, rules, sym, true, w64}
use Rattle.std.specs.Prelude.{None, Option, Some, if◌then◌else◌}
use Rattle.std.specs.Map.{lookup}
use Rattle.std.specs.Ordering.{int_eq}
use Rattle.std.proofs.lemmas.Int.{to_z-of_z}
use Rattle.ipc_format_column_writing.specs.nested_arrays.StoredColumns.{Column, column_type, type_layer}
use Rattle.ipc_format_column_writing.specs.flatbuffers.Reading.{◌>>=◌}
use Rattle.ipc_format_array_reading.specs.Keyed.{has_values, if_values, values_for}
use Rattle.ipc_format_array_reading.proofs.keyed.values_for.Goals as goal

pub returns-in_err-values : goal.returns-in_err-values
returns-in_err-values c =
    let x = type_layer c.args.data_type.now in
    let m = c.args.dictionaries.now in
    let own : c.args.id ≡ Some c.in_ok-id.id = search rules in
    let none : lookup (int_eq c.in_ok-id.id) m.entries ≡ None =
    ap (λ i. lookup (int_eq i) m.entries) (sym (to_z-of_z w64 c.in_ok-id.id (search rules))) ∙ sym c.values_under.ensures
    ∙ ap option_copied (c.in_err-values.was {u = tt}) in
    ap option_copied c.from_residual-in_err-values.ensures
    ∙ sym (ap (λ i. values_for x i m) own ∙ ap (λ (r : Option Column). r >>= if_values x) none)

pub returns-then-has_values : goal.returns-then-has_values
returns-then-has_values c =
    let x = type_layer c.args.data_type.now in
    let m = c.args.dictionaries.now in
    let values = c.in_ok-values.values.now in
    let own : c.args.id ≡ Some c.in_ok-id.id = search rules in
    let some : lookup (int_eq c.in_ok-id.id) m.entries ≡ Some values =
    ap (λ i. lookup (int_eq i) m.entries) (sym (to_z-of_z w64 c.in_ok-id.id (search rules))) ∙ sym c.values_under.ensures
    ∙ ap option_copied (c.in_ok-values.was {u = tt}) in
    let typed : has_values x (column_type values) ≡ true =
    ap (has_values x) (sym c.data_type.ensures) ∙ sym c.has_values.ensures ∙ c.if-has_values.true in
    sym (ap (λ i. values_for x i m) own ∙ ap (λ (r : Option Column). r >>= if_values x) some
    ∙ ap (λ (b : Bool). if b then Some values else None) typed)

pub returns-else-has_values : goal.returns-else-has_values
returns-else-has_values c =
    let x = type_layer c.args.data_type.now in
    let m = c.args.dictionaries.now in
    let values = c.in_ok-values.values.now in
    let own : c.args.id ≡ Some c.in_ok-id.id = search rules in
    let some : lookup (int_eq c.in_ok-id.id) m.entries ≡ Some values =
    ap (λ i. lookup (int_eq i) m.entries) (sym (to_z-of_z w64 c.in_ok-id.id (search rules))) ∙ sym c.values_under.ensures
    ∙ ap option_copied (c.in_ok-values.was {u = tt}) in
    let apart : has_values x (column_type values) ≡ false =
    ap (has_values x) (sym c.data_type.ensures) ∙ sym c.has_values.ensures ∙ c.if-has_values.false in
    sym (ap (λ i. values_for x i m) own ∙ ap (λ (r : Option Column). r >>= if_values x) some
    ∙ ap (λ (b : Bool). if b then Some values else None) apart)
