-- The values of an id, layer by layer of a type.
use Rattle.std.proofs.Common.{◌≡◌, ◌∙◌, ℕ, zero, suc, ◌+◌, ◌<◌, ◌≤◌, ℤ, List, [], ◌∷◌, drop, length, map, get_or, Bool, true, false}
use Rattle.std.proofs.Common.{refl, sym, ap, subst, arith, inl, inr}
use Rattle.std.proofs.Math.Seq.{drop-cons}
use Rattle.std.proofs.lemmas.List.{drop_all}
use Rattle.std.specs.Prelude.{◌⊎◌, Option, Some, None}
use denote.Hole.Carrier
use Rattle.ipc_format_values.specs.columnar_memory.declared.DataType.{DataType, map-DataType}
use Rattle.ipc_format_values.specs.columnar_memory.declared.DataType.TheOpen as layer
use Rattle.ipc_format_values.specs.columnar_memory.declared.DataType.TheVariants as types
use Rattle.ipc_format_values.specs.columnar_memory.declared.DataType.TheViews.{roll-DataType, out-Field, roll-out-Field}
use Rattle.ipc_format_values.specs.columnar_memory.declared.DataType.TheFolds.{para-Field, para-roll-DataType, para-roll-Field}
use Rattle.ipc_format_values.specs.columnar_memory.declared.Field.{Field}
use Rattle.ipc_format_values.specs.columnar_memory.declared.IntegerType.{IntegerType}
use Rattle.ipc_format_values.specs.columnar_memory.declared.UnionMode.{UnionMode}
use Rattle.ipc_format_values.specs.grammar.Columns.{first_ids, other_ids}
use Rattle.ipc_format_values.specs.grammar.Dictionaries.{Finder, Values, find_step, find_field_step, first_found, or_else}
use Rattle.ipc_format_values.specs.grammar.Dictionaries.{values_in, values_of}
use Rattle.ipc_format_values.specs.grammar.Schemas.{Ids, IdsList, ids}
use Rattle.ipc_format_values.specs.metadata.Views.{ids_views}
use Rattle.ipc_format_values.specs.metadata.declared.ipc_schema.IpcField.{IpcField}
use Rattle.ipc_format_streams.specs.Values.{is_id, values_or_within}

abbrev field_finder : Field → Finder
field_finder = para-Field Finder Finder find_step find_field_step

at_layer : (x : layer.DataType-F DataType Field) → values_in (roll-DataType x)
    ≡ find_step (map-DataType DataType Field (DataType × Finder) (Field × Finder) (λ t. (t, values_in t)) (λ u. (u, field_finder u)) x)
at_layer = para-roll-DataType Finder Finder find_step find_field_step

-- what finds in a field finds in its type
by_type : (u : Field) → field_finder u ≡ values_in u.data_type
by_type u = subst (λ (v : Field). field_finder v ≡ values_in v.data_type) (roll-out-Field u)
    (para-roll-Field Finder Finder find_step find_field_step (out-Field u))

or_nothing : (x : Option Values) → or_else x None ≡ x
or_nothing None = refl
or_nothing (Some x) = refl

-- fields with what finds in each
abbrev finders : List Field → List (Field × Finder)
finders fields = map (λ u. (u, field_finder u)) fields

among : (fields : List Field) (id : ℤ) (below : IdsList) → first_found (finders fields) id below ≡ values_of fields id below
among [] id below = refl
among (u ∷ fields) id below =
    (λ i. or_else (by_type u i id (first_ids below)) (among fields id (other_ids below) i))

pub in_struct : (fields : List Field) (id : ℤ) (own : Option ℤ) (below : IdsList)
    → values_in (types.Struct fields) id (ids own below) ≡ values_of fields id below
unfolding roll-DataType denote.Hole.Carrier.roll
in_struct fields id own below = ap (λ (find : Finder). find id (ids own below)) (at_layer (layer.Struct fields)) ∙ among fields id below

pub in_union : (fields : List Field) (numbers : Option (List ℤ)) (mode : UnionMode) (id : ℤ) (own : Option ℤ) (below : IdsList)
    → values_in (types.Union fields numbers mode) id (ids own below) ≡ values_of fields id below
unfolding roll-DataType denote.Hole.Carrier.roll
in_union fields numbers mode id own below =
    ap (λ (find : Finder). find id (ids own below)) (at_layer (layer.Union fields numbers mode)) ∙ among fields id below

-- ---- the layers

pub in_dictionary : (key : IntegerType) (value : DataType) (is_ordered : Bool) (id : ℤ) (own : Option ℤ) (below : IdsList)
    → values_in (types.Dictionary key value is_ordered) id (ids own below)
    ≡ values_or_within value own id below
unfolding roll-DataType denote.Hole.Carrier.roll
in_dictionary key value is_ordered id own below =
    ap (λ (find : Finder). find id (ids own below)) (at_layer (layer.Dictionary key value is_ordered))

-- the values with the id, and those within them
pub own_values : (value : DataType) (own : Option ℤ) (id : ℤ) (below : IdsList) → is_id own id ≡ true
    → values_or_within value own id below ≡ Some (record { data_type = value; below = below })
own_values value None id below is = absurd cc
own_values value (Some own) id below is = rw is refl

pub inner_values : (value : DataType) (own : Option ℤ) (id : ℤ) (below : IdsList) → is_id own id ≡ false
    → values_or_within value own id below ≡ values_in value id (ids None below)
inner_values value None id below is = refl
inner_values value (Some own) id below is = rw is refl

one : (item : Field) (id : ℤ) (below : IdsList) → first_found ((item, field_finder item) ∷ []) id below
    ≡ values_in item.data_type id (first_ids below)
one item id below = ap (λ (find : Finder). or_else (find id (first_ids below)) None) (by_type item)
    ∙ or_nothing (values_in item.data_type id (first_ids below))

pub in_extension : (name : List ℕ) (inner : DataType) (more : Option (List ℕ)) (id : ℤ) (own : Option ℤ) (below : IdsList)
    → values_in (types.Extension name inner more) id (ids own below) ≡ values_in inner id (ids own below)
unfolding roll-DataType denote.Hole.Carrier.roll
in_extension name inner more id own below = ap (λ (find : Finder). find id (ids own below)) (at_layer (layer.Extension name inner more))

pub in_list : (item : Field) (id : ℤ) (own : Option ℤ) (below : IdsList)
    → values_in (types.List item) id (ids own below) ≡ values_in item.data_type id (first_ids below)
unfolding roll-DataType denote.Hole.Carrier.roll
in_list item id own below = ap (λ (find : Finder). find id (ids own below)) (at_layer (layer.List item)) ∙ one item id below

pub in_large_list : (item : Field) (id : ℤ) (own : Option ℤ) (below : IdsList)
    → values_in (types.LargeList item) id (ids own below) ≡ values_in item.data_type id (first_ids below)
unfolding roll-DataType denote.Hole.Carrier.roll
in_large_list item id own below = ap (λ (find : Finder). find id (ids own below)) (at_layer (layer.LargeList item)) ∙ one item id below

pub in_fixed_list : (item : Field) (size : ℕ) (id : ℤ) (own : Option ℤ) (below : IdsList)
    → values_in (types.FixedSizeList item size) id (ids own below) ≡ values_in item.data_type id (first_ids below)
unfolding roll-DataType denote.Hole.Carrier.roll
in_fixed_list item size id own below =
    ap (λ (find : Finder). find id (ids own below)) (at_layer (layer.FixedSizeList item size)) ∙ one item id below

pub in_map : (entry : Field) (is_sorted : Bool) (id : ℤ) (own : Option ℤ) (below : IdsList)
    → values_in (types.Map entry is_sorted) id (ids own below) ≡ values_in entry.data_type id (first_ids below)
unfolding roll-DataType denote.Hole.Carrier.roll
in_map entry is_sorted id own below =
    ap (λ (find : Finder). find id (ids own below)) (at_layer (layer.Map entry is_sorted)) ∙ one entry id below

-- ---- types without fields below

abbrev pub has_no_fields : layer.DataType-F DataType Field → Bool
has_no_fields (layer.List item) = false
has_no_fields (layer.LargeList item) = false
has_no_fields (layer.FixedSizeList item size) = false
has_no_fields (layer.Map entry is_sorted) = false
has_no_fields (layer.Struct fields) = false
has_no_fields (layer.Union fields numbers mode) = false
has_no_fields (layer.Dictionary key value is_ordered) = false
has_no_fields (layer.Extension name inner more) = false
has_no_fields _ = true

unlike : false ≡ true → ⊥
unlike e = cc

none_below : (x : layer.DataType-F DataType Field) → has_no_fields x ≡ true → (id : ℤ) (here : Ids)
    → find_step (map-DataType DataType Field (DataType × Finder) (Field × Finder) (λ t. (t, values_in t)) (λ u. (u, field_finder u)) x) id here ≡ None
none_below layer.Null is id here = refl
none_below layer.Boolean is id here = refl
none_below layer.Int8 is id here = refl
none_below layer.Int16 is id here = refl
none_below layer.Int32 is id here = refl
none_below layer.Int64 is id here = refl
none_below layer.UInt8 is id here = refl
none_below layer.UInt16 is id here = refl
none_below layer.UInt32 is id here = refl
none_below layer.UInt64 is id here = refl
none_below layer.Float16 is id here = refl
none_below layer.Float32 is id here = refl
none_below layer.Float64 is id here = refl
none_below (layer.Timestamp unit where_shown) is id here = refl
none_below layer.Date32 is id here = refl
none_below layer.Date64 is id here = refl
none_below (layer.Time32 unit) is id here = refl
none_below (layer.Time64 unit) is id here = refl
none_below (layer.Duration unit) is id here = refl
none_below (layer.Interval unit) is id here = refl
none_below layer.Binary is id here = refl
none_below (layer.FixedSizeBinary size) is id here = refl
none_below layer.LargeBinary is id here = refl
none_below layer.Utf8 is id here = refl
none_below layer.LargeUtf8 is id here = refl
none_below (layer.Decimal precision scale) is id here = refl
none_below (layer.Decimal256 precision scale) is id here = refl
none_below (layer.List item) is id here = absurd (unlike is)
none_below (layer.LargeList item) is id here = absurd (unlike is)
none_below (layer.FixedSizeList item size) is id here = absurd (unlike is)
none_below (layer.Map entry is_sorted) is id here = absurd (unlike is)
none_below (layer.Struct fields) is id here = absurd (unlike is)
none_below (layer.Union fields numbers mode) is id here = absurd (unlike is)
none_below (layer.Dictionary key value is_ordered) is id here = absurd (unlike is)
none_below (layer.Extension name inner more) is id here = absurd (unlike is)

-- one of two things
pub either : {A B C : Type 0} → A ⊎ B → (A → C) → (B → C) → C
either (inl a) f g = f a
either (inr b) f g = g b

pub no_values : (t : DataType) (x : layer.DataType-F DataType Field) → t ≡ roll-DataType x → has_no_fields x ≡ true → (id : ℤ) (here : Ids)
    → None ≡ values_in t id here
no_values t x same is id here =
    sym (ap (λ (of : DataType). values_in of id here) same ∙ ap (λ (find : Finder). find id here) (at_layer x) ∙ none_below x is id here)

-- ---- ids beside fields

ids_at_others : (fs : List IpcField) (k : ℕ) → other_ids (ids_views (drop k fs)) ≡ ids_views (drop (suc k) fs)
ids_at_others [] zero = refl
ids_at_others [] (suc k) = refl
ids_at_others (f ∷ fs) zero = refl
ids_at_others (f ∷ fs) (suc k) = ids_at_others fs k

-- ---- fields, one after another

-- none of the first k fields has the id
abbrev pub NoneBefore : List Field → ℤ → List IpcField → ℕ → Type 0
NoneBefore fields id ipc_fields k =
    values_of fields id (ids_views ipc_fields) ≡ values_of (drop k fields) id (ids_views (drop k ipc_fields))

pub none_before_first : (fields : List Field) (id : ℤ) (ipc_fields : List IpcField) → NoneBefore fields id ipc_fields 0
none_before_first [] id [] = refl
none_before_first [] id (f ∷ fs) = refl
none_before_first (u ∷ us) id [] = refl
none_before_first (u ∷ us) id (f ∷ fs) = refl

found_here : (fields : List Field) (id : ℤ) (ipc_fields : List IpcField) (k : ℕ) (u : Field) → k < length fields
    → u ≡ get_or fields k u → NoneBefore fields id ipc_fields k → values_of fields id (ids_views ipc_fields)
    ≡ or_else (values_in u.data_type id (first_ids (ids_views (drop k ipc_fields))))
    (values_of (drop (suc k) fields) id (ids_views (drop (suc k) ipc_fields)))
found_here fields id ipc_fields k u below is before =
    let here : drop k fields ≡ u ∷ drop (suc k) fields =
    drop-cons fields k u below ∙ ap (λ (v : Field). v ∷ drop (suc k) fields) (sym is) in
    before ∙ ap (λ us. values_of us id (ids_views (drop k ipc_fields))) here
    ∙ ap (λ rest. or_else (values_in u.data_type id (first_ids (ids_views (drop k ipc_fields)))) (values_of (drop (suc k) fields) id rest))
    (ids_at_others ipc_fields k)

pub found_at : (fields : List Field) (id : ℤ) (ipc_fields : List IpcField) (k : ℕ) (u : Field) (found : Values) → k < length fields
    → u ≡ get_or fields k u → NoneBefore fields id ipc_fields k
    → values_in u.data_type id (first_ids (ids_views (drop k ipc_fields))) ≡ Some found
    → values_of fields id (ids_views ipc_fields) ≡ Some found
found_at fields id ipc_fields k u found below is before some =
    found_here fields id ipc_fields k u below is before
    ∙ ap (λ x. or_else x (values_of (drop (suc k) fields) id (ids_views (drop (suc k) ipc_fields)))) some

pub none_at : (fields : List Field) (id : ℤ) (ipc_fields : List IpcField) (k : ℕ) (u : Field) → k < length fields
    → u ≡ get_or fields k u → NoneBefore fields id ipc_fields k
    → values_in u.data_type id (first_ids (ids_views (drop k ipc_fields))) ≡ None → NoneBefore fields id ipc_fields (k + 1)
none_at fields id ipc_fields k u below is before none =
    let next : k + 1 ≡ suc k = omega arith in
    let here = found_here fields id ipc_fields k u below is before
    ∙ ap (λ x. or_else x (values_of (drop (suc k) fields) id (ids_views (drop (suc k) ipc_fields)))) none in
    rw next here

pub none_found : (fields : List Field) (id : ℤ) (ipc_fields : List IpcField) (k : ℕ) → length fields ≤ k
    → NoneBefore fields id ipc_fields k → values_of fields id (ids_views ipc_fields) ≡ None
none_found fields id ipc_fields k all before =
    before ∙ ap (λ us. values_of us id (ids_views (drop k ipc_fields))) (drop_all k fields all)

pub ruleset fields_one_by_one = (none_before_first, found_at, none_at, none_found)

pub ruleset own_or_inner = (own_values, inner_values)
