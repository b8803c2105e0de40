-- The nulls of a type, by the nulls of the types below it.
use Rattle.std.proofs.Common.{◌≡◌, ◌∙◌, sym, ap, subst, ℕ, ◌+◌, ◌*◌, ◌^◌, ◌<◌, ◌≤◌, List, [], ◌∷◌, ◌++◌, length, take, get_or, true, arith, Bool}
use Rattle.std.proofs.lemmas.List.{take_more}
use Rattle.std.proofs.Math.Nat.{lt_of_not-le}
use Rattle.std.specs.Prelude.{ℤ, pos, min, replicate, Option, Result}
use Rattle.nested_arrays_iterators.specs.columnar_memory.declared.DataType.{DataType}
use Rattle.nested_arrays_iterators.specs.columnar_memory.declared.DataType.TheVariants as types
use Rattle.nested_arrays_iterators.specs.columnar_memory.declared.Error.{Error}
use Rattle.nested_arrays_iterators.specs.columnar_memory.declared.Field.{Field}
use Rattle.nested_arrays_iterators.specs.columnar_memory.declared.IntegerType.{IntegerType}
use Rattle.nested_arrays_iterators.specs.columnar_memory.declared.UnionMode.{UnionMode}
use Rattle.nested_arrays_iterators.specs.columns.SoundColumns.{are_sound, is_sound}
use Rattle.nested_arrays_iterators.specs.columns.StoredColumns.{Column, lists, fixed_lists, records, unions, dictionary, in_columns}
use Rattle.nested_arrays_nulls.proofs.Made.{dictionary_refused, fixed_lists_refused, lists_refused, one_more_null, one_more_sound}
use Rattle.nested_arrays_nulls.proofs.Made.{records_refused, unions_refused}
use Rattle.nested_arrays_nulls.proofs.NullLayers.{extension_nulls}
use Rattle.nested_arrays_nulls.proofs.NullLayers.{dictionary_nulls, fixed_list_nulls, large_list_nulls, list_nulls, map_nulls}
use Rattle.nested_arrays_nulls.proofs.NullLayers.{struct_nulls, union_nulls}
use Rattle.nested_arrays_nulls.proofs.NullLengths.{most_of_nulls}
use Rattle.nested_arrays_nulls.specs.Lengths.{most_length, most_lengths}
use Rattle.nested_arrays_nulls.specs.NullAnswers.{IsMade, IsRefused}
use Rattle.nested_arrays_nulls.specs.NullColumns.{first_id, no_items, no_marks, null_column, null_columns, null_places, nulls_as}

-- why there is no array of a column
abbrev pub IsUnmade : Column → Error → Type 0
IsUnmade column e = IsRefused (is_sound column ≡ true) (most_length column) e

-- why there are no arrays of the nulls of some fields
abbrev pub AreUnmade : List Field → ℕ → Error → Type 0
AreUnmade fields n e = IsRefused (are_sound (in_columns (null_columns fields n)) ≡ true) (most_lengths (in_columns (null_columns fields n))) e

-- ---- lists of any length

-- nulls whose items are none
abbrev pub IsOfItems : DataType → DataType → ℕ → Field → Type 0
IsOfItems t whole n u = nulls_as t whole n ≡ lists whole (no_marks n) (no_items n) (null_column u.data_type 0)

pub at_list : (t whole : DataType) (item u : Field) (n : ℕ) → t ≡ types.List item → u ≡ item → IsOfItems t whole n u
at_list t whole item u n is got = ap (λ d. nulls_as d whole n) is ∙ list_nulls item whole n
    ∙ ap (λ (v : Field). lists whole (no_marks n) (no_items n) (null_column v.data_type 0)) (sym got)

pub at_large_list : (t whole : DataType) (item u : Field) (n : ℕ) → t ≡ types.LargeList item → u ≡ item → IsOfItems t whole n u
at_large_list t whole item u n is got = ap (λ d. nulls_as d whole n) is ∙ large_list_nulls item whole n
    ∙ ap (λ (v : Field). lists whole (no_marks n) (no_items n) (null_column v.data_type 0)) (sym got)

pub at_map : (t whole : DataType) (entry : Field) (is_sorted : Bool) (u : Field) (n : ℕ) → t ≡ types.Map entry is_sorted → u ≡ entry
    → IsOfItems t whole n u
at_map t whole entry is_sorted u n is got = ap (λ d. nulls_as d whole n) is ∙ map_nulls entry is_sorted whole n
    ∙ ap (λ (v : Field). lists whole (no_marks n) (no_items n) (null_column v.data_type 0)) (sym got)

pub items_unmade : (t whole : DataType) (n : ℕ) (u : Field) (e : Error) → IsOfItems t whole n u → IsUnmade (null_column u.data_type 0) e
    → IsUnmade (nulls_as t whole n) e
items_unmade t whole n u e is h =
    subst (λ (c : Column). IsUnmade c e) (sym is) (lists_refused whole (no_marks n) (no_items n) (null_column u.data_type 0) e h)

pub items_made : (t whole : DataType) (n : ℕ) (u : Field) (items : Column) (r : Result Column Error) → IsOfItems t whole n u
    → items ≡ null_column u.data_type 0 → IsMade (lists whole (no_marks n) (no_items n) items) r → IsMade (nulls_as t whole n) r
items_made t whole n u items r is made h =
    subst (λ (c : Column). IsMade c r) (ap (λ child. lists whole (no_marks n) (no_items n) child) made ∙ sym is) h

-- ---- lists of one size

abbrev pub IsOfSize : DataType → DataType → ℕ → ℕ → Field → Type 0
IsOfSize t whole n size u = nulls_as t whole n ≡ fixed_lists whole (no_marks n) size (null_column u.data_type (size * n))

pub at_fixed_list : (t whole : DataType) (item : Field) (size : ℕ) (u : Field) (n : ℕ) → t ≡ types.FixedSizeList item size → u ≡ item
    → IsOfSize t whole n size u
at_fixed_list t whole item size u n is got = ap (λ d. nulls_as d whole n) is ∙ fixed_list_nulls item size whole n
    ∙ ap (λ (v : Field). fixed_lists whole (no_marks n) size (null_column v.data_type (size * n))) (sym got)

pub fixed_items_unmade : (t whole : DataType) (n size count : ℕ) (u : Field) (e : Error) → IsOfSize t whole n size u → count ≡ size * n
    → IsUnmade (null_column u.data_type count) e → IsUnmade (nulls_as t whole n) e
fixed_items_unmade t whole n size count u e is counted h =
    subst (λ (c : Column). IsUnmade c e) (sym is) (fixed_lists_refused whole (no_marks n) size (null_column u.data_type (size * n)) e
    (subst (λ (k : ℕ). IsUnmade (null_column u.data_type k) e) counted h))

pub fixed_items_made : (t whole : DataType) (n size count own : ℕ) (u : Field) (items : Column) (r : Result Column Error)
    → IsOfSize t whole n size u → count ≡ size * n → own ≡ size → items ≡ null_column u.data_type count
    → IsMade (fixed_lists whole (no_marks n) own items) r → IsMade (nulls_as t whole n) r
fixed_items_made t whole n size count own u items r is counted sized made h =
    subst (λ (c : Column). IsMade c r) ((λ j. fixed_lists whole (no_marks n) (sized j) (made j))
    ∙ ap (λ (k : ℕ). fixed_lists whole (no_marks n) size (null_column u.data_type k)) counted ∙ sym is) h

-- too many items
pub too_many_items : (t whole : DataType) (n size : ℕ) (u : Field) → IsOfSize t whole n size u → (size * n < 2 ^ 64 → ⊥)
    → 2 ^ 64 ≤ most_length (nulls_as t whole n)
too_many_items t whole n size u is many =
    subst (λ (c : Column). 2 ^ 64 ≤ most_length c) (sym is) (omega (arith, lt_of_not-le many, most_of_nulls u.data_type (size * n)))

-- ---- structs and unions

abbrev pub IsOfFields : DataType → DataType → ℕ → List Field → Type 0
IsOfFields t whole n fields = nulls_as t whole n ≡ records whole (no_marks n) n (in_columns (null_columns fields n))

pub at_struct : (t whole : DataType) (fields own : List Field) (n : ℕ) → t ≡ types.Struct fields → own ≡ fields → IsOfFields t whole n own
at_struct t whole fields own n is got = ap (λ d. nulls_as d whole n) is ∙ struct_nulls fields whole n
    ∙ ap (λ (us : List Field). records whole (no_marks n) n (in_columns (null_columns us n))) (sym got)

pub values_unmade : (t whole : DataType) (n : ℕ) (fields : List Field) (e : Error) → IsOfFields t whole n fields → AreUnmade fields n e
    → IsUnmade (nulls_as t whole n) e
values_unmade t whole n fields e is h =
    subst (λ (c : Column). IsUnmade c e) (sym is) (records_refused whole (no_marks n) n (in_columns (null_columns fields n)) e h)

pub values_made : (t whole : DataType) (n : ℕ) (fields : List Field) (values : List Column) (r : Result Column Error)
    → IsOfFields t whole n fields → values ≡ null_columns fields n → IsMade (records whole (no_marks n) n (in_columns values)) r
    → IsMade (nulls_as t whole n) r
values_made t whole n fields values r is made h =
    subst (λ (c : Column). IsMade c r) (ap (λ columns. records whole (no_marks n) n (in_columns columns)) made ∙ sym is) h

abbrev pub IsOfChildren : DataType → DataType → ℕ → ℤ → UnionMode → List Field → Type 0
IsOfChildren t whole n id mode fields =
    nulls_as t whole n ≡ unions whole (replicate n id) (null_places mode n) (in_columns (null_columns fields n))

pub at_union : (t whole : DataType) (fields own : List Field) (ids : Option (List ℤ)) (id : ℤ) (mode : UnionMode) (n : ℕ)
    → t ≡ types.Union fields ids mode → own ≡ fields → id ≡ first_id ids → IsOfChildren t whole n id mode own
at_union t whole fields own ids id mode n is got first = ap (λ d. nulls_as d whole n) is ∙ union_nulls fields ids mode whole n
    ∙ ap (λ (us : List Field). unions whole (replicate n (first_id ids)) (null_places mode n) (in_columns (null_columns us n))) (sym got)
    ∙ ap (λ (i : ℤ). unions whole (replicate n i) (null_places mode n) (in_columns (null_columns own n))) (sym first)

pub children_unmade : (t whole : DataType) (n : ℕ) (id : ℤ) (mode : UnionMode) (fields : List Field) (e : Error)
    → IsOfChildren t whole n id mode fields → AreUnmade fields n e → IsUnmade (nulls_as t whole n) e
children_unmade t whole n id mode fields e is h = subst (λ (c : Column). IsUnmade c e) (sym is)
    (unions_refused whole (replicate n id) (null_places mode n) (in_columns (null_columns fields n)) e h)

pub children_made : (t whole : DataType) (n : ℕ) (id : ℤ) (mode : UnionMode) (fields : List Field) (children : List Column)
    (r : Result Column Error) → IsOfChildren t whole n id mode fields → children ≡ null_columns fields n
    → IsMade (unions whole (replicate n id) (null_places mode n) (in_columns children)) r → IsMade (nulls_as t whole n) r
children_made t whole n id mode fields children r is made h =
    subst (λ (c : Column). IsMade c r)
    (ap (λ columns. unions whole (replicate n id) (null_places mode n) (in_columns columns)) made ∙ sym is) h

-- ---- dictionaries

abbrev pub IsOfValues : DataType → DataType → ℕ → DataType → ℕ → Type 0
IsOfValues t whole n value count = nulls_as t whole n ≡ dictionary whole (no_marks n) (replicate n (pos 0)) (null_column value count)

pub at_dictionary : (t whole : DataType) (key : IntegerType) (value own : DataType) (is_ordered : Bool) (n count : ℕ)
    → t ≡ types.Dictionary key value is_ordered → own ≡ value → count ≡ min n 1 → IsOfValues t whole n own count
at_dictionary t whole key value own is_ordered n count is got counted = ap (λ d. nulls_as d whole n) is
    ∙ dictionary_nulls key value is_ordered whole n
    ∙ (λ j. dictionary whole (no_marks n) (replicate n (pos 0)) (null_column (sym got j) (sym counted j)))

-- the nulls of a type that is given twice
pub same_nulls : (own other value : DataType) (k n : ℕ) → own ≡ value → other ≡ value → k ≡ n → nulls_as own other k ≡ null_column value n
same_nulls own other value k n first second counted = λ j. nulls_as (first j) (second j) (counted j)

pub same_unmade : (b c : Column) (e : Error) → b ≡ c → IsUnmade b e → IsUnmade c e
same_unmade b c e is h = subst (λ (d : Column). IsUnmade d e) is h

pub named_unmade : (t whole : DataType) (n : ℕ) (value : DataType) (count : ℕ) (e : Error) → IsOfValues t whole n value count
    → IsUnmade (null_column value count) e → IsUnmade (nulls_as t whole n) e
named_unmade t whole n value count e is h =
    subst (λ (c : Column). IsUnmade c e) (sym is) (dictionary_refused whole (no_marks n) (replicate n (pos 0)) (null_column value count) e h)

pub named_made : (t whole : DataType) (n : ℕ) (value : DataType) (count : ℕ) (values : Column) (r : Result Column Error)
    → IsOfValues t whole n value count → values ≡ null_column value count
    → IsMade (dictionary whole (no_marks n) (replicate n (pos 0)) values) r → IsMade (nulls_as t whole n) r
named_made t whole n value count values r is made h =
    subst (λ (c : Column). IsMade c r) (ap (λ child. dictionary whole (no_marks n) (replicate n (pos 0)) child) made ∙ sym is) h

-- ---- other types

pub at_extension : (t whole : DataType) (name : List ℕ) (inner own : DataType) (more : Option (List ℕ)) (n : ℕ) → t ≡ types.Extension name inner more
    → own ≡ inner → nulls_as own whole n ≡ nulls_as t whole n
at_extension t whole name inner own more n is got =
    ap (λ d. nulls_as d whole n) got ∙ sym (ap (λ d. nulls_as d whole n) is ∙ extension_nulls name inner more whole n)

pub same_made : (b c : Column) (r : Result Column Error) → b ≡ c → IsMade b r → IsMade c r
same_made b c r is h = subst (λ (d : Column). IsMade d r) is h

-- ---- one field after another

more_nulls : (fields : List Field) (i n : ℕ) (field : Field) → i < length fields → get_or fields i field ≡ field
    → null_columns (take i fields) n ++ (null_column field.data_type n ∷ []) ≡ null_columns (take (i + 1) fields) n
more_nulls fields i n field lt there = sym (ap (λ us. null_columns us n) (take_more fields i field lt)
    ∙ one_more_null (take i fields) n (get_or fields i field)
    ∙ ap (λ (u : Field). null_columns (take i fields) n ++ (null_column u.data_type n ∷ [])) there)

pub more_made : (fields : List Field) (i n : ℕ) (field : Field) (column : Column) (before after : List Column) → i < length fields
    → get_or fields i field ≡ field → before ≡ null_columns (take i fields) n → column ≡ null_column field.data_type n
    → after ≡ before ++ (column ∷ []) → after ≡ null_columns (take (i + 1) fields) n
more_made fields i n field column before after lt there made more is =
    is ∙ (λ j. made j ++ (more j ∷ [])) ∙ more_nulls fields i n field lt there

pub more_sound : (fields : List Field) (i n : ℕ) (field : Field) → i < length fields → get_or fields i field ≡ field
    → are_sound (in_columns (null_columns (take i fields) n)) ≡ true → is_sound (null_column field.data_type n) ≡ true
    → are_sound (in_columns (null_columns (take (i + 1) fields) n)) ≡ true
more_sound fields i n field lt there sound more =
    ap (λ columns. are_sound (in_columns columns)) (sym (more_nulls fields i n field lt there))
    ∙ one_more_sound (null_columns (take i fields) n) (null_column field.data_type n) sound more
