-- The ids beside fields, one field after another.
use Rattle.std.proofs.Common.{◌≡◌, ◌∙◌, ℕ, suc, ◌+◌, ◌<◌, ◌≤◌, List, [], ◌∷◌, length, get_or, map, drop, true, false, refl, sym, ap, rules}
use Rattle.std.specs.Prelude.{Bool, ◌&&◌, nat_eq}
use Rattle.ipc_format_messages.specs.columnar_memory.declared.Field.{Field}
use Rattle.ipc_format_messages.specs.grammar.Schemas.{Ids, IdsList}
use Rattle.ipc_format_messages.specs.grammar.Columns.{first_ids, other_ids}
use Rattle.ipc_format_messages.proofs.flatbuffers_lemmas.Rest.{rest_step, rest_end}
use Rattle.ipc_format_messages.specs.grammar.Ids.{Fitting, fit_each}
use Rattle.ipc_format_messages.specs.metadata.Views.{ids_views}
use Rattle.ipc_format_messages.specs.metadata.declared.ipc_schema.IpcField.{IpcField}
use Rattle.ipc_format_writing.specs.Fitting.{field_fitting}

some_left : (n : ℕ) → nat_eq (suc n) 0 ≡ false
some_left n = search rules

-- ids at no field are none
pub none_left : (beside : List IpcField) → fit_each [] (ids_views beside) ≡ nat_eq (length beside) 0
none_left [] = refl
none_left (first ∷ others) = sym (some_left (length others))

-- no ids fit no field that is left
pub too_few : (test : Fitting) (tests : List Fitting) (beside : List IpcField) → nat_eq (length beside) 0 ≡ true → fit_each (test
    ∷ tests) (ids_views beside) ≡ false
too_few test tests [] e = refl
too_few test tests (first ∷ others) e =
    let no : true ≡ false = sym e ∙ some_left (length others) in
    absurd cc

-- the first field's ids, and the others'
pub one_more : (test : Fitting) (tests : List Fitting) (beside : List IpcField) → nat_eq (length beside) 0 ≡ false
    → fit_each (test ∷ tests) (ids_views beside) ≡ (test (first_ids (ids_views beside)) && fit_each tests (other_ids (ids_views beside)))
one_more test tests [] e = absurd cc
one_more test tests (first ∷ others) e = refl

-- what is left of the tests of some fields
tests_left : (fields : List Field) (i : ℕ) (field : Field) (beside : IdsList) → i < length fields → field ≡ get_or fields i field
    → fit_each (drop i (map field_fitting fields)) beside ≡ fit_each (field_fitting field ∷ drop (i + 1) (map field_fitting fields)) beside
tests_left fields i field beside lt is = ap (λ tests. fit_each tests beside) (rest_step field_fitting fields i field lt is)

pub fields_too_few : (fields : List Field) (i : ℕ) (field : Field) (rest : List IpcField) (whole : Bool) → i < length fields → field
    ≡ get_or fields i field
    → nat_eq (length rest) 0 ≡ true → fit_each (drop i (map field_fitting fields)) (ids_views rest) ≡ whole → false ≡ whole
fields_too_few fields i field rest whole lt is e before =
    sym (too_few (field_fitting field) (drop (i + 1) (map field_fitting fields)) rest e) ∙ sym (tests_left fields i field (ids_views rest) lt is)
    ∙ before

pub fields_more : (fields : List Field) (i : ℕ) (field : Field) (rest : List IpcField) (here : Ids) (others : IdsList) (fits whole : Bool)
    → i < length fields → field ≡ get_or fields i field → nat_eq (length rest) 0 ≡ false → here ≡ first_ids (ids_views rest) → others
    ≡ other_ids (ids_views rest)
    → fits ≡ field_fitting field here → fit_each (drop i (map field_fitting fields)) (ids_views rest) ≡ whole
    → (fits && fit_each (drop (i + 1) (map field_fitting fields)) others) ≡ whole
fields_more fields i field rest here others fits whole lt is e first other fit before =
    ap (λ b. b && fit_each (drop (i + 1) (map field_fitting fields)) others) (fit ∙ ap (field_fitting field) first)
    ∙ ap (λ ids. field_fitting field (first_ids (ids_views rest)) && fit_each (drop (i + 1) (map field_fitting fields)) ids) other
    ∙ sym (one_more (field_fitting field) (drop (i + 1) (map field_fitting fields)) rest e)
    ∙ sym (tests_left fields i field (ids_views rest) lt is) ∙ before

pub fields_done : (fields : List Field) (i : ℕ) (rest : List IpcField) (whole none : Bool) → length fields ≤ i → none ≡ fit_each [] (ids_views rest)
    → fit_each (drop i (map field_fitting fields)) (ids_views rest) ≡ whole → none ≡ whole
fields_done fields i rest whole none le is before = is ∙ ap (λ tests. fit_each tests (ids_views rest)) (sym (rest_end field_fitting fields i le))
    ∙ before
