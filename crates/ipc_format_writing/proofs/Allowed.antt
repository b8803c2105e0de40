-- A test that all of some elements pass.
use Rattle.std.proofs.Common.{◌≡◌, ◌∙◌, ℕ, zero, suc, ◌<◌, List, [], ◌∷◌, length, get_or, map, true, ap, arith}
use Rattle.std.specs.Prelude.{Bool}
use Rattle.std.specs.List.{list_all}
use Rattle.std.proofs.lemmas.Bool.{and_parts}
use Rattle.ipc_format_messages.specs.columnar_memory.declared.Field.{Field}
use Rattle.ipc_format_messages.specs.grammar.Writable.{Report}
use Rattle.ipc_format_messages.specs.metadata.Reports.{field_report}

pub passes : {A B : Type 0} (test : B → Bool) (f : A → B) (xs : List A) (i : ℕ) (x : A) → list_all test (map f xs) ≡ true → i < length xs → x
    ≡ get_or xs i x → test (f x) ≡ true
passes test f [] i x all lt is = absurd (omega arith)
passes test f (y ∷ xs) zero x all lt is = ap (λ x. test (f x)) is ∙ (and_parts (test (f y)) (list_all test (map f xs)) all).0
passes test f (y ∷ xs) (suc i) x all lt is = passes test f xs i x (and_parts (test (f y)) (list_all test (map f xs)) all).1 (omega arith) is

pub field_passes : (fields : List Field) (i : ℕ) (field : Field) → list_all (λ (report : Report). report.is_allowed) (map field_report fields)
    ≡ true → i < length fields → field ≡ get_or fields i field
    → (field_report field).is_allowed ≡ true
field_passes fields i field all lt is = passes (λ (report : Report). report.is_allowed) field_report fields i field all lt is
