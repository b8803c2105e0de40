-- The default ids of a schema are signed numbers of eight bytes, and no two dictionaries of a batch have one of them.
use Rattle.std.proofs.Common.{◌≡◌, ◌∙◌, ℕ, zero, suc, ◌+◌, ◌≤◌, ◌<◌, ◌^◌, ℤ, pos, negsuc, Bool, true, false, not, ◌&&◌, List, [], ◌∷◌, ◌++◌, map}
use Rattle.std.proofs.Common.{refl, sym, ap, subst, arith}
use Rattle.std.specs.Prelude.{◌||◌, Option, Some, None, nat_le}
use Rattle.std.specs.List.{list_all}
use Rattle.std.specs.Ordering.{int_eq}
use Rattle.std.specs.Cmp.{signed_Decides}
use Rattle.std.proofs.lemmas.Bool.{and_parts, and_from, lt-ltb, leb-true, false≢true}
use Rattle.std.proofs.lemmas.List.Folds.{list_all-append}
use Rattle.ipc_format_laws.specs.columnar_memory.declared.DataType.{DataType, map-DataType}
use Rattle.ipc_format_laws.specs.columnar_memory.declared.DataType.TheOpen as layer
use Rattle.ipc_format_laws.specs.columnar_memory.declared.DataType.TheViews.{roll-DataType, roll-Field}
use Rattle.ipc_format_laws.specs.columnar_memory.declared.DataType.TheFolds.{fold-Field, para-Field, fold-roll-DataType, fold-roll-Field, para-roll-DataType}
use Rattle.ipc_format_laws.specs.columnar_memory.declared.DataType.TheFolds.{para-roll-Field, ind-DataType}
use Rattle.ipc_format_laws.specs.columnar_memory.declared.Field.{Field, map-Field}
use Rattle.ipc_format_laws.specs.columnar_memory.declared.Schema.{Schema}
use Rattle.ipc_format_laws.specs.columns.Children.{joined_items, joined_fixed_items, field_slots, dictionary_values}
use Rattle.ipc_format_laws.specs.columns.Kinds.{is_signed}
use Rattle.ipc_format_laws.specs.columns.Slots.{Slot}
use Rattle.ipc_format_laws.proofs.columns_lemmas.Claims.{TypeWith, FieldWith, LayerWith, bare_layer}
use Rattle.ipc_format_laws.specs.grammar.Columns.{first_ids, ids_below, own_id}
use Rattle.ipc_format_laws.specs.grammar.Encoding.{encode}
use Rattle.ipc_format_laws.specs.grammar.GivenDictionaries.{Given, Giver, id_or_0, given_by, given_fields, givers, give_step, give_field_step}
use Rattle.ipc_format_laws.specs.grammar.GivenDictionaries.{says_same, agrees, agree}
use Rattle.ipc_format_laws.specs.grammar.Ids.{Fitting, fit_each, has_no_own, fit_value, fit_step, ids_fit, ids_fit_fields, default_ids, is_id, are_ids}
use Rattle.ipc_format_laws.specs.grammar.Ids.{all_are_ids}
use Rattle.ipc_format_laws.specs.grammar.Schemas.{Ids, IdsList, ids, no_ids, ids_then}
use Rattle.ipc_format_laws.specs.grammar.Writable.{plain, over_all, reports_of, is_writable}
use Rattle.ipc_format_laws.specs.grammar.WrittenStreams.{given_of_slots}
use Rattle.ipc_format_laws.specs.DefaultIds.{own_list, ids_in_order, all_in_order, ids_from, dictionary_count}
use Rattle.ipc_format_laws.proofs.DefaultIds.{defaults_fit, defaults_count}

-- ---- how often an id stands in a list

abbrev pub one_if : Bool → ℕ
one_if true = 1
one_if false = 0

abbrev pub times : ℤ → List ℤ → ℕ
times z [] = 0
times z (x ∷ xs) = one_if (int_eq z x) + times z xs

abbrev own_ids : List Given → List ℤ
own_ids given = map (λ (g : Given). g.id) given

-- how many dictionaries have an id
abbrev pub brought : ℤ → List Given → ℕ
brought z given = times z (own_ids given)

pub times-append : (z : ℤ) (xs ys : List ℤ) → times z (xs ++ ys) ≡ times z xs + times z ys
times-append z [] ys = omega arith
times-append z (x ∷ xs) ys = omega (arith, times-append z xs ys)

pub brought-append : (z : ℤ) (xs ys : List Given) → brought z (xs ++ ys) ≡ brought z xs + brought z ys
brought-append z [] ys = omega arith
brought-append z (x ∷ xs) ys = omega (arith, brought-append z xs ys)

-- ---- the ids of parts

pub below_within : (z : ℤ) (here : Ids) → times z (all_in_order (ids_below here)) ≤ times z (ids_in_order here)
below_within z (ids own below) = omega (arith, times-append z (own_list own) (all_in_order below))

pub first_within : (z : ℤ) (below : IdsList) → times z (ids_in_order (first_ids below)) ≤ times z (all_in_order below)
first_within z no_ids = omega arith
first_within z (ids_then first others) = omega (arith, times-append z (ids_in_order first) (all_in_order others))

-- the first child's ids
pub child_within : (z : ℤ) (here : Ids) → times z (ids_in_order (first_ids (ids_below here))) ≤ times z (ids_in_order here)
child_within z here = omega (arith, first_within z (ids_below here), below_within z here)

-- ---- a column brings each id no more often than it stands beside its field

abbrev Few : Fitting → Giver → Type 0
Few fits giver = (here : Ids) (xs : List Slot) (z : ℤ) → fits here ≡ true → brought z (giver here xs) ≤ times z (ids_in_order here)

abbrev fit_field : Field → Fitting
fit_field = fold-Field Fitting Fitting fit_step (λ field. field.data_type)

abbrev give_field : Field → Giver
give_field = para-Field Giver Giver give_step give_field_step

abbrev TypeFew : DataType → Type 0
TypeFew t = Few (ids_fit t) (given_by t)

abbrev FieldFew : Field → Type 0
FieldFew u = Few (fit_field u) (give_field u)

abbrev Layer : Type 0
Layer = layer.DataType-F DataType Field

at_roll : (x : Layer) → Few (fit_step (map-DataType DataType Field Fitting Fitting ids_fit fit_field x))
    (give_step (map-DataType DataType Field (DataType × Giver) (Field × Giver) (λ t. (t, given_by t)) (λ u. (u, give_field u)) x))
    → TypeFew (roll-DataType x)
at_roll x h =
    rw (fold-roll-DataType Fitting Fitting fit_step (λ field. field.data_type) x, para-roll-DataType Giver Giver give_step give_field_step x) h

abbrev Children : Type 0
Children = List (FieldWith FieldFew)

abbrev fields_of : Children → List Field
fields_of ys = map (λ e. e.0) ys

one_fits : (test : Fitting) (here : Ids) → (has_no_own here && fit_each (test ∷ []) (ids_below here)) ≡ true
    → test (first_ids (ids_below here)) ≡ true
one_fits test (ids own no_ids) h = absurd (false≢true (and_parts (has_no_own (ids own no_ids)) false h).1)
one_fits test (ids own (ids_then first others)) h =
    (and_parts (test first) (fit_each [] others) (and_parts (has_no_own (ids own (ids_then first others))) (test first && fit_each [] others) h).1).0

-- a child that is given some slots
child_few : (y : FieldWith FieldFew) (here : Ids) (xs : List Slot) (z : ℤ)
    → (has_no_own here && fit_each (fit_field y.0 ∷ []) (ids_below here)) ≡ true
    → brought z (give_field y.0 (first_ids (ids_below here)) xs) ≤ times z (ids_in_order here)
child_few y here xs z h =
    omega (arith, y.1 (first_ids (ids_below here)) xs z (one_fits (fit_field y.0) here h), child_within z here)

children_few : (ys : Children) (below : IdsList) (xs : List Slot) (k : ℕ) (z : ℤ) → fit_each (map fit_field (fields_of ys)) below ≡ true
    → brought z (given_fields (givers (map (λ u. (u, give_field u)) (fields_of ys))) below xs k) ≤ times z (all_in_order below)
children_few [] below xs k z h = omega arith
children_few (y ∷ ys) no_ids xs k z h = absurd (false≢true h)
children_few (y ∷ ys) (ids_then first others) xs k z h =
    let parts = and_parts (fit_field y.0 first) (fit_each (map fit_field (fields_of ys)) others) h in
    let here = give_field y.0 first (field_slots xs k) in
    let more = given_fields (givers (map (λ u. (u, give_field u)) (fields_of ys))) others xs (suc k) in
    omega (
      arith,
      y.1 first (field_slots xs k) z parts.0,
      children_few ys others xs (suc k) z parts.1,
      brought-append z here more,
      times-append z (ids_in_order first) (all_in_order others),
    )

fields_few : (ys : Children) (here : Ids) (xs : List Slot) (z : ℤ)
    → (has_no_own here && fit_each (map fit_field (fields_of ys)) (ids_below here)) ≡ true
    → brought z (given_fields (givers (map (λ u. (u, give_field u)) (fields_of ys))) (ids_below here) xs 0) ≤ times z (ids_in_order here)
fields_few ys here xs z h =
    let below = (and_parts (has_no_own here) (fit_each (map fit_field (fields_of ys)) (ids_below here)) h).1 in
    omega (arith, children_few ys (ids_below here) xs 0 z below, below_within z here)

values_few : (value : DataType) → TypeFew value → (here : Ids) (xs : List Slot) (z : ℤ) → fit_value (ids_fit value) here ≡ true
    → brought z (given_by value (ids None (ids_below here)) xs
    ++ record { id = id_or_0 (own_id here); data_type = value; slots = xs; column = encode value xs } ∷ []) ≤ times z (ids_in_order here)
values_few value few (ids None below) xs z h = absurd (false≢true h)
values_few value few (ids (Some id) below) xs z h =
    let last : Given = record { id = id; data_type = value; slots = xs; column = encode value xs } in
    omega (arith, few (ids None below) xs z h, brought-append z (given_by value (ids None below) xs) (last ∷ []))

roll_few : (y : LayerWith TypeFew FieldFew) → TypeFew (roll-DataType (bare_layer TypeFew FieldFew y))
roll_few (layer.List item) = at_roll (layer.List item.0) (λ here xs z h. child_few item here (joined_items xs) z h)
roll_few (layer.LargeList item) = at_roll (layer.LargeList item.0) (λ here xs z h. child_few item here (joined_items xs) z h)
roll_few (layer.FixedSizeList item size) =
    at_roll (layer.FixedSizeList item.0 size) (λ here xs z h. child_few item here (joined_fixed_items size xs) z h)
roll_few (layer.Map entry is_sorted) = at_roll (layer.Map entry.0 is_sorted) (λ here xs z h. child_few entry here (joined_items xs) z h)
roll_few (layer.Struct children) = at_roll (layer.Struct (fields_of children)) (λ here xs z h. fields_few children here xs z h)
roll_few (layer.Dictionary key value is_ordered) = at_roll (layer.Dictionary key value.0 is_ordered)
    (λ here xs z h. values_few value.0 value.1 here (dictionary_values xs) z h)
roll_few (layer.Extension name inner metadata) = at_roll (layer.Extension name inner.0 metadata) (λ here xs z h. inner.1 here xs z h)
roll_few y = at_roll (bare_layer TypeFew FieldFew y) (λ here xs z h. omega arith)

field_few : (x : layer.Field-F DataType Field) → TypeFew x.data_type → FieldFew (roll-Field x)
field_few x h =
    rw (fold-roll-Field Fitting Fitting fit_step (λ field. field.data_type) x, para-roll-Field Giver Giver give_step give_field_step x) h

type_few : (t : DataType) → TypeFew t
type_few = ind-DataType TypeFew FieldFew (λ x y is. subst (λ (x : Layer). TypeFew (roll-DataType x)) is (roll_few y))
    (λ x y is. subst (λ (x : layer.Field-F DataType Field). FieldFew (roll-Field x)) is
    (field_few (map-Field (TypeWith TypeFew) (FieldWith FieldFew) DataType Field (λ e. e.0) (λ e. e.0) y) y.data_type.1))

columns_few : (us : List Field) (below : IdsList) (columns : List (List Slot)) (z : ℤ) → ids_fit_fields us below ≡ true
    → brought z (given_of_slots us below columns) ≤ times z (all_in_order below)
columns_few [] below columns z h = omega arith
columns_few (u ∷ us) below [] z h = omega arith
columns_few (u ∷ us) no_ids (column ∷ columns) z h = absurd (false≢true h)
columns_few (u ∷ us) (ids_then first others) (column ∷ columns) z h =
    let parts = and_parts (ids_fit u.data_type first) (ids_fit_fields us others) h in
    omega (
      arith,
      type_few u.data_type first column z parts.0,
      columns_few us others columns z parts.1,
      brought-append z (given_by u.data_type first column) (given_of_slots us others columns),
      times-append z (ids_in_order first) (all_in_order others),
    )

-- ---- of numbers that ascend each stands once

abbrev natural : ℤ → ℕ
natural (pos n) = n
natural (negsuc n) = 0

none_after : (test : Bool) (k n m : ℕ) → (test ≡ true → pos k ≡ pos n) → k < n → m ≡ 0 → one_if test + m ≡ 0
none_after true k n m same less e = absurd (below_is_not k n less (ap natural (same refl)))
  where
    below_is_not : (k n : ℕ) → k < n → k ≡ n → ⊥
    below_is_not k n h e = omega arith
none_after false k n m same less e = omega (arith, e)

none_from : (k n count : ℕ) → k < n → times (pos k) (ids_from n count) ≡ 0
none_from k n zero h = refl
none_from k n (suc count) h =
    none_after (int_eq (pos k) (pos n)) k n (times (pos k) (ids_from (suc n) count)) (signed_Decides (pos k) (pos n)).0 h
    (none_from k (suc n) count (omega (arith, h)))

once_more : (test : Bool) (m : ℕ) → (test ≡ true → m ≡ 0) → m ≤ 1 → one_if test + m ≤ 1
once_more true m none few = omega (arith, none refl)
once_more false m none few = omega (arith, few)

pub once : (z : ℤ) (n count : ℕ) → times z (ids_from n count) ≤ 1
once z n zero = omega arith
once z n (suc count) = once_more (int_eq z (pos n)) (times z (ids_from (suc n) count))
    (λ same. subst (λ (w : ℤ). times w (ids_from (suc n) count) ≡ 0) (sym ((signed_Decides z (pos n)).0 same))
    (none_from n (suc n) count (omega arith))) (once z (suc n) count)

-- ---- dictionaries of different ids agree

differs : (test same : Bool) (m : ℕ) → one_if test + m ≤ 0 → ((not test || same) ≡ true) × (m ≤ 0)
differs true same m h = absurd (omega arith)
differs false same m h = (refl, omega (arith, h))

all_differ : (g : Given) (given : List Given) → brought g.id given ≤ 0 → list_all (agrees g) given ≡ true
all_differ g [] h = refl
all_differ g (other ∷ given) h =
    let parts = differs (int_eq g.id other.id) (says_same g other) (brought g.id given) h in
    and_from (agrees g other) (list_all (agrees g) given) parts.0 (all_differ g given parts.1)

pub agree_apart : (given : List Given) → ((z : ℤ) → brought z given ≤ 1) → agree given ≡ true
agree_apart [] few = refl
agree_apart (g ∷ given) few =
    let itself : one_if (int_eq g.id g.id) ≡ 1 = ap one_if ((signed_Decides g.id g.id).1 refl) in
    and_from (list_all (agrees g) given) (agree given) (all_differ g given (omega (arith, few g.id, itself)))
    (agree_apart given (λ z. omega (arith, few z)))

-- no two dictionaries of a batch have one of the default ids
pub defaults_agree : (schema : Schema) (columns : List (List Slot)) → is_writable schema ≡ true
    → agree (given_of_slots schema.fields (default_ids schema.fields) columns) ≡ true
defaults_agree schema columns h =
    let below = default_ids schema.fields in
    agree_apart (given_of_slots schema.fields below columns) (λ z.
    let order : times z (all_in_order below) ≡ times z (ids_from 0 (dictionary_count schema)) = ap (times z) (defaults_count schema h) in
    omega (arith, columns_few schema.fields below columns z (defaults_fit schema h), order, once z 0 (dictionary_count schema)))

-- ---- ids are signed numbers

abbrev signed : ℤ → Bool
signed = is_signed 64

own_signed : (own : Option ℤ) → list_all signed (own_list own) ≡ true → is_id own ≡ true
own_signed None h = refl
own_signed (Some id) h = (and_parts (signed id) true h).0

mutual
  ids_signed : (here : Ids) → list_all signed (ids_in_order here) ≡ true → are_ids here ≡ true
  ids_signed (ids own below) h =
      let parts = and_parts (list_all signed (own_list own)) (list_all signed (all_in_order below))
      (sym (list_all-append signed (own_list own) (all_in_order below)) ∙ h) in
      and_from (is_id own) (all_are_ids below) (own_signed own parts.0) (all_signed below parts.1)

  all_signed : (below : IdsList) → list_all signed (all_in_order below) ≡ true → all_are_ids below ≡ true
  all_signed no_ids h = refl
  all_signed (ids_then first others) h =
      let parts = and_parts (list_all signed (ids_in_order first)) (list_all signed (all_in_order others))
      (sym (list_all-append signed (ids_in_order first) (all_in_order others)) ∙ h) in
      and_from (are_ids first) (all_are_ids others) (ids_signed first parts.0) (all_signed others parts.1)

numbers_signed : (n count : ℕ) → n + count ≤ 2 ^ 63 → list_all signed (ids_from n count) ≡ true
numbers_signed n zero h = refl
numbers_signed n (suc count) h =
    and_from (signed (pos n)) (list_all signed (ids_from (suc n) count)) (lt-ltb n (2 ^ 63) (omega (arith, h)))
    (numbers_signed (suc n) count (omega (arith, h)))

few_dictionaries : (schema : Schema) → is_writable schema ≡ true → dictionary_count schema ≤ 65536
unfolding is_writable
few_dictionaries schema h =
    let all = over_all true plain (reports_of schema.fields) in
    leb-true (dictionary_count schema) 65536
    (and_parts (all.is_allowed && nat_le all.levels 64) (nat_le all.dictionaries 65536) h).1

-- the default ids of a schema that is written are signed numbers of eight bytes
pub defaults_signed : (schema : Schema) → is_writable schema ≡ true → all_are_ids (default_ids schema.fields) ≡ true
defaults_signed schema h =
    all_signed (default_ids schema.fields) (ap (list_all signed) (defaults_count schema h)
    ∙ numbers_signed 0 (dictionary_count schema) (omega (arith, few_dictionaries schema h)))
