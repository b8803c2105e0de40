-- The values of each id, put under it one after another.
use Rattle.std.proofs.Common.{◌≡◌, ◌∙◌, ℕ, zero, suc, ◌<◌, ◌≤◌, ℤ, List, [], ◌∷◌, drop, length, get_or, Bool, true, false}
use Rattle.std.proofs.Common.{refl, sym, ap}
use Rattle.std.proofs.Math.Seq.{drop-cons}
use Rattle.std.proofs.lemmas.List.{drop_all}
use Rattle.std.specs.BTreeMap.{BTreeMap}
use Rattle.std.specs.Map.{lookup}
use Rattle.std.specs.Option.{option_map}
use Rattle.std.specs.Ordering.{int_eq}
use Rattle.std.specs.Prelude.{◌⊎◌, Option, Some, None, Result, Ok, Err, IfOk, is_some, if◌then◌else◌}
use Rattle.std.proofs.lemmas.Bool.Decides.{Decides-int_eq}
use Rattle.std.specs.Bool.{one_answer}
use denote.Hole.Carrier
use Rattle.ipc_format_reading.specs.columnar_memory.declared.DataType.{DataType}
use Rattle.ipc_format_reading.specs.columnar_memory.declared.DataType.TheOpen as layer
use Rattle.ipc_format_reading.specs.columnar_memory.declared.DataType.TheVariants as types
use Rattle.ipc_format_reading.specs.columnar_memory.declared.DataType.TheViews.{roll-DataType}
use Rattle.ipc_format_reading.specs.columnar_memory.declared.Field.{Field}
use Rattle.ipc_format_reading.specs.columnar_memory.declared.IntervalUnit.{IntervalUnit}
use Rattle.ipc_format_reading.specs.columnar_memory.declared.TimeUnit.{TimeUnit}
use Rattle.ipc_format_reading.specs.grammar.Columns.{first_ids, other_ids}
use Rattle.ipc_format_reading.specs.grammar.Dictionaries.{Values, or_else, values_if, values_in, values_of}
use Rattle.ipc_format_reading.specs.grammar.Schemas.{Ids}
use Rattle.ipc_format_reading.specs.metadata.Views.{ids_views}
use Rattle.ipc_format_reading.specs.metadata.declared.ipc_schema.IpcField.{IpcField}
use Rattle.ipc_format_reading.specs.array_reading.column_writing.column_reading.column_bytes.streams.Values.{ids_beside}
use Rattle.ipc_format_batch_reading.specs.NamedValues.{GainsValues, values_under, known_view}
use Rattle.ipc_format_batch_reading.specs.declared.named_values.KnownValues.{KnownValues}
use Rattle.ipc_format_reading.proofs.Finding.{either, no_values}

-- ---- one or the other

or_nothing : (x : Option Values) → or_else x None ≡ x
or_nothing None = refl
or_nothing (Some x) = refl

first_of_three : (x y z : Option Values) → or_else (or_else x y) z ≡ or_else x (or_else y z)
first_of_three None y z = refl
first_of_three (Some x) y z = refl

pub nothing_more : (x y : Option Values) → None ≡ y → x ≡ or_else x y
nothing_more x y none = sym (or_nothing x) ∙ ap (or_else x) none

first_stays : (x : Option KnownValues) (y : Option Values) → is_some x ≡ true
    → option_map known_view x ≡ or_else (option_map known_view x) y
first_stays None y is = absurd cc
first_stays (Some x) y is = refl

second_comes : (x : Option KnownValues) (y : Option Values) → is_some x ≡ false → y ≡ or_else (option_map known_view x) y
second_comes None y is = refl
second_comes (Some x) y is = absurd cc

-- ---- what is gained

pub gains_as : {A E : Type 0} (r : Result A E) (old new : BTreeMap ℤ KnownValues) (f g : ℤ → Option Values) → ((id : ℤ) → f id ≡ g id)
    → IfOk r (λ _. GainsValues old new f) → IfOk r (λ _. GainsValues old new g)
gains_as (Ok a) old new f g same gains = λ id. gains id ∙ ap (or_else (values_under old id)) (same id)
gains_as (Err e) old new f g same gains = gains

-- what is gained by two calls
pub gains_both : (old between new : BTreeMap ℤ KnownValues) (f g : ℤ → Option Values) → GainsValues old between f
    → GainsValues between new g → GainsValues old new (λ id. or_else (f id) (g id))
gains_both old between new f g one other id =
    other id ∙ ap (λ x. or_else x (g id)) (one id) ∙ first_of_three (values_under old id) (f id) (g id)

-- ---- types without fields below

abbrev pub HasNoFields : DataType → Type 0
HasNoFields t =
    (t ≡ types.Null)
    ⊎ ((t ≡ types.Boolean)
    ⊎ ((t ≡ types.Int8)
    ⊎ ((t ≡ types.Int16)
    ⊎ ((t ≡ types.Int32)
    ⊎ ((t ≡ types.Int64)
    ⊎ ((t ≡ types.UInt8)
    ⊎ ((t ≡ types.UInt16)
    ⊎ ((t ≡ types.UInt32)
    ⊎ ((t ≡ types.UInt64)
    ⊎ ((t ≡ types.Float16)
    ⊎ ((t ≡ types.Float32)
    ⊎ ((t ≡ types.Float64)
    ⊎ (((unit : TimeUnit) × (zone : Option (List ℕ)) × (t ≡ types.Timestamp unit zone))
    ⊎ ((t ≡ types.Date32)
    ⊎ ((t ≡ types.Date64)
    ⊎ (((unit : TimeUnit) × (t ≡ types.Time32 unit))
    ⊎ (((unit : TimeUnit) × (t ≡ types.Time64 unit))
    ⊎ (((unit : TimeUnit) × (t ≡ types.Duration unit))
    ⊎ (((unit : IntervalUnit) × (t ≡ types.Interval unit))
    ⊎ (((precision : ℕ) × (scale : ℕ) × (t ≡ types.Decimal precision scale))
    ⊎ (((precision : ℕ) × (scale : ℕ) × (t ≡ types.Decimal256 precision scale))
    ⊎ ((t ≡ types.Binary)
    ⊎ ((t ≡ types.LargeBinary)
    ⊎ ((t ≡ types.Utf8)
    ⊎ ((t ≡ types.LargeUtf8)
    ⊎ (((size : ℕ) × (t ≡ types.FixedSizeBinary size))))))))))))))))))))))))))))

none_in : (t : DataType) → HasNoFields t → (id : ℤ) (here : Ids) → None ≡ values_in t id here
unfolding roll-DataType denote.Hole.Carrier.roll
none_in t is id here =
    either is (λ e. no_values t layer.Null e refl id here) (λ h.
    either h (λ e. no_values t layer.Boolean e refl id here) (λ h.
    either h (λ e. no_values t layer.Int8 e refl id here) (λ h.
    either h (λ e. no_values t layer.Int16 e refl id here) (λ h.
    either h (λ e. no_values t layer.Int32 e refl id here) (λ h.
    either h (λ e. no_values t layer.Int64 e refl id here) (λ h.
    either h (λ e. no_values t layer.UInt8 e refl id here) (λ h.
    either h (λ e. no_values t layer.UInt16 e refl id here) (λ h.
    either h (λ e. no_values t layer.UInt32 e refl id here) (λ h.
    either h (λ e. no_values t layer.UInt64 e refl id here) (λ h.
    either h (λ e. no_values t layer.Float16 e refl id here) (λ h.
    either h (λ e. no_values t layer.Float32 e refl id here) (λ h.
    either h (λ e. no_values t layer.Float64 e refl id here) (λ h.
    either h (λ e. no_values t (layer.Timestamp e.0 e.1) e.2 refl id here) (λ h.
    either h (λ e. no_values t layer.Date32 e refl id here) (λ h.
    either h (λ e. no_values t layer.Date64 e refl id here) (λ h.
    either h (λ e. no_values t (layer.Time32 e.0) e.1 refl id here) (λ h.
    either h (λ e. no_values t (layer.Time64 e.0) e.1 refl id here) (λ h.
    either h (λ e. no_values t (layer.Duration e.0) e.1 refl id here) (λ h.
    either h (λ e. no_values t (layer.Interval e.0) e.1 refl id here) (λ h.
    either h (λ e. no_values t (layer.Decimal e.0 e.1) e.2 refl id here) (λ h.
    either h (λ e. no_values t (layer.Decimal256 e.0 e.1) e.2 refl id here) (λ h.
    either h (λ e. no_values t layer.Binary e refl id here) (λ h.
    either h (λ e. no_values t layer.LargeBinary e refl id here) (λ h.
    either h (λ e. no_values t layer.Utf8 e refl id here) (λ h.
    either h (λ e. no_values t layer.LargeUtf8 e refl id here)
    (λ e. no_values t (layer.FixedSizeBinary e.0) e.1 refl id here))))))))))))))))))))))))))

-- nothing is put of them
pub none_put : (t : DataType) (found : BTreeMap ℤ KnownValues) (own : Option ℤ) (below : List IpcField) → HasNoFields t → (id : ℤ)
    → values_under found id ≡ or_else (values_under found id) (values_in t id (ids_beside own below))
none_put t found own below is id =
    nothing_more (values_under found id) (values_in t id (ids_beside own below)) (none_in t is id (ids_beside own below))

-- ---- values under their id

same_test : (key id : ℤ) → int_eq key id ≡ int_eq id key
same_test key id =
    one_answer (int_eq key id) (int_eq id key) (Decides-int_eq key id)
    (λ test. sym ((Decides-int_eq id key).0 test), λ is. (Decides-int_eq id key).1 (sym is))

kept_at : (b : Bool) (old : BTreeMap ℤ KnownValues) (key id : ℤ) (values : Values) → int_eq id key ≡ b
    → is_some (lookup (int_eq key) old.entries) ≡ true
    → values_under old id ≡ or_else (values_under old id) (values_if (Some key) id values)
kept_at true old key id values test there =
    first_stays (lookup (int_eq id) old.entries) (values_if (Some key) id values)
    (ap (λ (i : ℤ). is_some (lookup (int_eq i) old.entries)) ((Decides-int_eq id key).0 test) ∙ there)
kept_at false old key id values test there =
    nothing_more (values_under old id) (values_if (Some key) id values) (sym (ap (λ (b : Bool). if b then Some values else None) test))

pub keeps_under : (old : BTreeMap ℤ KnownValues) (number key : ℤ) (values : Values) → number ≡ key
    → is_some (lookup (int_eq number) old.entries) ≡ true → GainsValues old old (λ id. values_if (Some key) id values)
keeps_under old number key values same there id =
    kept_at (int_eq id key) old key id values refl
    (sym (ap (λ (i : ℤ). is_some (lookup (int_eq i) old.entries)) same) ∙ there)

put_at : (b : Bool) (old new : BTreeMap ℤ KnownValues) (key id : ℤ) (values : KnownValues) → int_eq id key ≡ b
    → is_some (lookup (int_eq key) old.entries) ≡ false
    → lookup (int_eq id) new.entries ≡ (if int_eq key id then Some values else lookup (int_eq id) old.entries)
    → values_under new id ≡ or_else (values_under old id) (values_if (Some key) id (known_view values))
put_at true old new key id values test none updates =
    let same : id ≡ key = (Decides-int_eq id key).0 test in
    let back : int_eq key id ≡ true = (Decides-int_eq key id).1 (sym same) in
    ap (option_map known_view) (updates ∙ ap (λ (b : Bool). if b then Some values else lookup (int_eq id) old.entries) back)
    ∙ sym (ap (λ (b : Bool). if b then Some (known_view values) else None) test)
    ∙ second_comes (lookup (int_eq id) old.entries) (values_if (Some key) id (known_view values))
    (ap (λ (i : ℤ). is_some (lookup (int_eq i) old.entries)) same ∙ none)
put_at false old new key id values test none updates =
    ap (option_map known_view) (updates ∙ ap (λ (b : Bool). if b then Some values else lookup (int_eq id) old.entries) (same_test key id ∙ test))
    ∙ nothing_more (values_under old id) (values_if (Some key) id (known_view values))
    (sym (ap (λ (b : Bool). if b then Some (known_view values) else None) test))

pub puts_under : (old new : BTreeMap ℤ KnownValues) (number key : ℤ) (values : KnownValues) (view : Values) → number ≡ key
    → known_view values ≡ view → is_some (lookup (int_eq number) old.entries) ≡ false
    → ((id : ℤ) → lookup (int_eq id) new.entries ≡ (if int_eq number id then Some values else lookup (int_eq id) old.entries))
    → GainsValues old new (λ id. values_if (Some key) id view)
puts_under old new number key values view same is none updates id =
    put_at (int_eq id key) old new key id values refl
    (sym (ap (λ (i : ℤ). is_some (lookup (int_eq i) old.entries)) same) ∙ none)
    (updates id ∙ ap (λ (i : ℤ). if int_eq i id then Some values else lookup (int_eq id) old.entries) same)
    ∙ ap (λ (of : Values). or_else (values_under old id) (values_if (Some key) id of)) is

-- ---- fields, one after another

ids_at_others : (fs : List IpcField) (k : ℕ) → other_ids (ids_views (drop k fs)) ≡ ids_views (drop (suc k) fs)
ids_at_others [] zero = refl
ids_at_others [] (suc k) = refl
ids_at_others (f ∷ fs) zero = refl
ids_at_others (f ∷ fs) (suc k) = ids_at_others fs k

-- what stands with what the fields from a place on have is what stood at first with what all have
abbrev pub GainsTo : BTreeMap ℤ KnownValues → BTreeMap ℤ KnownValues → List Field → List IpcField → ℕ → Type 0
GainsTo first now fields ipc_fields k = (id : ℤ) → or_else (values_under now id) (values_of (drop k fields) id (ids_views (drop k ipc_fields)))
    ≡ or_else (values_under first id) (values_of fields id (ids_views ipc_fields))

more_at : (fields : List Field) (id : ℤ) (ipc_fields : List IpcField) (k : ℕ) (u : Field) → k < length fields
    → u ≡ get_or fields k u → values_of (drop k fields) id (ids_views (drop k ipc_fields))
    ≡ or_else (values_in u.data_type id (first_ids (ids_views (drop k ipc_fields))))
    (values_of (drop (suc k) fields) id (ids_views (drop (suc k) ipc_fields)))
more_at fields id ipc_fields k u below is =
    let here : drop k fields ≡ u ∷ drop (suc k) fields =
    drop-cons fields k u below ∙ ap (λ (v : Field). v ∷ drop (suc k) fields) (sym is) in
    ap (λ us. values_of us id (ids_views (drop k ipc_fields))) here
    ∙ ap (λ rest. or_else (values_in u.data_type id (first_ids (ids_views (drop k ipc_fields)))) (values_of (drop (suc k) fields) id rest))
    (ids_at_others ipc_fields k)

pub gains_more : (first now next : BTreeMap ℤ KnownValues) (fields : List Field) (ipc_fields : List IpcField) (k : ℕ) (u : Field)
    → k < length fields → u ≡ get_or fields k u → GainsTo first now fields ipc_fields k
    → GainsValues now next (λ id. values_in u.data_type id (first_ids (ids_views (drop k ipc_fields))))
    → GainsTo first next fields ipc_fields (suc k)
gains_more first now next fields ipc_fields k u below is so_far gains id =
    let rest = values_of (drop (suc k) fields) id (ids_views (drop (suc k) ipc_fields)) in
    let here = values_in u.data_type id (first_ids (ids_views (drop k ipc_fields))) in
    ap (λ x. or_else x rest) (gains id) ∙ first_of_three (values_under now id) here rest
    ∙ ap (or_else (values_under now id)) (sym (more_at fields id ipc_fields k u below is)) ∙ so_far id

pub gains_all : (first now : BTreeMap ℤ KnownValues) (fields : List Field) (ipc_fields : List IpcField) (k : ℕ) → length fields ≤ k
    → GainsTo first now fields ipc_fields k → GainsValues first now (λ id. values_of fields id (ids_views ipc_fields))
gains_all first now fields ipc_fields k all so_far id =
    sym (or_nothing (values_under now id))
    ∙ ap (or_else (values_under now id)) (sym (ap (λ us. values_of us id (ids_views (drop k ipc_fields))) (drop_all k fields all))) ∙ so_far id
