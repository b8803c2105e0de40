-- The one form of some fields, and pairs without one of a key.
use Rattle.std.proofs.Common.{◌≡◌, ℕ, List, [], ◌∷◌, map, refl, sym, subst, cond}
use Rattle.std.specs.Prelude.{Result, IfOk}
use Rattle.std.specs.Map.{remove_entry}
use Rattle.std.specs.Ordering.{nat_cmp, is_eq}
use Rattle.std.specs.Cmp.Lexicographic.{slice_cmp, texts_ties}
use Rattle.ipc_format_messages.specs.columnar_memory.declared.DataType.{DataType}
use Rattle.ipc_format_messages.specs.columnar_memory.declared.DataType.TheFolds.{fold-roll-Field}
use Rattle.ipc_format_messages.specs.columnar_memory.declared.DataType.TheViews.{roll-DataType}
use Rattle.ipc_format_messages.specs.columnar_memory.declared.Field.{Field}
use Rattle.ipc_format_messages.specs.grammar.Writable.{normalised_field, normalised_step, without_key}
use Rattle.ipc_format_writing.specs.Normal.{field_normal}

field_is : (f : Field) → field_normal f ≡ normalised_field f
field_is f = fold-roll-Field DataType Field roll-DataType normalised_step
    (record { name = f.name; data_type = f.data_type; is_nullable = f.is_nullable; metadata = f.metadata })

pub fields_are : (fields : List Field) → map field_normal fields ≡ map normalised_field fields
fields_are [] = refl
fields_are (f ∷ fields) = λ i. field_is f i ∷ fields_are fields i

-- what is taken out by the order of the keys is taken out by their bytes
pub removed_by_order : (key : List ℕ) (pairs : List (List ℕ × List ℕ)) → remove_entry (λ name. is_eq (slice_cmp nat_cmp key name)) pairs
    ≡ without_key key pairs
removed_by_order key [] = refl
removed_by_order key (p ∷ pairs) = λ i. cond (sym (texts_ties key p.0) i) pairs (p ∷ removed_by_order key pairs i)

pub same_given : {A E : Type 0} (result : Result A E) (a b : A) → a ≡ b → IfOk result (λ found. found ≡ a) → IfOk result (λ found. found ≡ b)
same_given result a b same h = subst (λ x. IfOk result (λ found. found ≡ x)) same h
