-- Parts, choices and joins of tables.
use Rattle.std.proofs.Common.{◌≡◌, ℕ, ◌+◌, ◌-◌, List, ◌∷◌, ◌++◌, length, map, take, drop, sym, ap, ◌∙◌, arith}
use Rattle.std.specs.Prelude.{slice_range}
use Rattle.std.proofs.lemmas.List.{append_assoc, take-map, drop-map, take-append-drop, take_rest}
use Rattle.nested_arrays_columns.specs.Tables.{chosen}
use Rattle.nested_arrays_columns.specs.TableLaws.{PartsJoin, ChoiceOfPart, JoinsAssociate, LimitIsPart, PartsMakeWhole}
use Rattle.nested_arrays_columns.proofs.Windows.{cut_list-cut_list}

pub parts_join : PartsJoin
parts_join table o n p q h = λ j. record table { rows = cut_list-cut_list table.rows o n p q h j }

map-slice_range : {A B : Type 0} (f : A → B) (xs : List A) (o n : ℕ) → map f (slice_range xs o n) ≡ slice_range (map f xs) o n
map-slice_range f xs o n = sym (take-map f (n - o) (drop o xs)) ∙ ap (take (n - o)) (sym (drop-map f o xs))

pub choice_of_part : ChoiceOfPart
choice_of_part table column columns o n = λ j. record {
  schema = record table.schema { fields = chosen (column ∷ columns) table.schema.fields };
  rows = map-slice_range (chosen (column ∷ columns)) table.rows o (o + n) j;
}

pub joins_associate : JoinsAssociate
joins_associate a b c = λ j. record a { rows = append_assoc a.rows b.rows c.rows j }

pub limit_is_part : LimitIsPart
limit_is_part table k =
    let size : k ≡ 0 + k - 0 = omega arith in
    λ j. record table { rows = take (size j) table.rows }

pub parts_make_whole : PartsMakeWhole
parts_make_whole table n =
    let rows = table.rows in
    let first : 0 + n - 0 ≡ n = omega arith in
    let rest : n + (length rows - n) - n ≡ length rows - n = omega arith in
    let whole : take (0 + n - 0) rows ++ take (n + (length rows - n) - n) (drop n rows) ≡ rows =
    (λ j. take (first j) rows ++ take (rest j) (drop n rows)) ∙ ap (λ others. take n rows ++ others) (take_rest rows n) ∙ take-append-drop n rows in
    λ j. record table { rows = whole j }
