-- The bars of a schema are those of the types of its fields, found one after another.
use Rattle.std.proofs.Common.{◌≡◌, ◌∙◌, Bool, true, false, List, [], ◌∷◌, ◌++◌, map, refl, sym, ap, subst}
use Rattle.std.specs.Prelude.{◌||◌}
use Rattle.std.specs.List.{list_any}
use Rattle.std.proofs.lemmas.List.{map-append}
use Rattle.tables_chunks.specs.ipc_format.columnar_memory.declared.DataType.TheFolds.{fold-roll-Field}
use Rattle.tables_chunks.specs.ipc_format.columnar_memory.declared.DataType.TheViews.{out-Field, roll-out-Field}
use Rattle.tables_chunks.specs.ipc_format.columnar_memory.declared.Field.{Field}
use Rattle.tables_chunks.specs.ipc_format.columns.Sealing.{Bars, any_bars, bars_of, bars_step, schema_bars}
use Rattle.tables_rows.specs.Bars.{both_bars, field_bars}

or_false : (b : Bool) → (b || false) ≡ b
or_false true = refl
or_false false = refl

or_assoc : (a b c : Bool) → (a || (b || c)) ≡ ((a || b) || c)
or_assoc true b c = refl
or_assoc false b c = refl

-- ---- a schema's

first_and_others : (b : Bars) (bs : List Bars) → any_bars (b ∷ any_bars bs ∷ []) ≡ any_bars (b ∷ bs)
first_and_others b bs =
    let all = any_bars bs in
    λ j. record {
      has_map = b.has_map || or_false all.has_map j;
      has_union = b.has_union || or_false all.has_union j;
      has_ordered = b.has_ordered || or_false all.has_ordered j;
      has_empty = b.has_empty || or_false all.has_empty j;
    }

field_bars_are : (field : Field) → field_bars field ≡ bars_of field.data_type
field_bars_are field = subst (λ (u : Field). field_bars u ≡ bars_of u.data_type) (roll-out-Field field)
    (fold-roll-Field Bars Bars bars_step (λ field. field.data_type) (out-Field field))

-- the bars of a schema's fields are those of the list of their types' bars
pub schema_bars_are : (fields : List Field) → schema_bars fields ≡ any_bars (map field_bars fields)
schema_bars_are [] = refl
schema_bars_are (field ∷ fields) =
    (λ j. any_bars (sym (field_bars_are field) j ∷ schema_bars_are fields j ∷ []))
    ∙ first_and_others (field_bars field) (map field_bars fields)

-- ---- one after another

any_more : (test : Bars → Bool) (xs : List Bars) (x : Bars) → list_any test (xs ++ x ∷ []) ≡ (list_any test xs || test x)
any_more test [] x = or_false (test x)
any_more test (y ∷ xs) x = ap (λ b. test y || b) (any_more test xs x) ∙ or_assoc (test y) (list_any test xs) (test x)

-- the bars of some types and of one more
pub bars_more : (xs : List Bars) (x : Bars) → any_bars (xs ++ x ∷ []) ≡ both_bars (any_bars xs) x
bars_more xs x = λ j. record {
  has_map = any_more (λ bars. bars.has_map) xs x j;
  has_union = any_more (λ bars. bars.has_union) xs x j;
  has_ordered = any_more (λ bars. bars.has_ordered) xs x j;
  has_empty = any_more (λ bars. bars.has_empty) xs x j;
}

-- as the code finds them
pub found_more : (fields before : List Field) (field : Field) (all found after : Bars) → fields ≡ before ++ field ∷ []
    → all ≡ any_bars (map field_bars before) → found ≡ field_bars field → after ≡ both_bars all found
    → after ≡ any_bars (map field_bars fields)
found_more fields before field all found after more so_far here is =
    is ∙ (λ j. both_bars (so_far j) (here j)) ∙ sym (bars_more (map field_bars before) (field_bars field))
    ∙ ap any_bars (sym (ap (map field_bars) more ∙ map-append field_bars before (field ∷ [])))
