-- The dictionaries that the columns of a batch bring may be read in their order: each fits, agrees with those before it, is found under its
-- id, and stands behind those within its values.
use Rattle.std.proofs.Common.{◌≡◌, ◌∙◌, List, [], ◌∷◌, ◌++◌, length, map, refl, sym, ap, ap₂, subst, Bool, true, false, arith, length-append}
use Rattle.std.specs.Prelude.{◌&&◌, ◌≤◌, ℤ, Option, Some, None, if◌then◌else◌, sum_by, nat_le}
use Rattle.std.specs.List.{list_all}
use Rattle.std.specs.Ordering.{int_eq}
use Rattle.std.specs.Cmp.{signed_Decides}
use Rattle.std.proofs.lemmas.Bool.{and_parts, false≢true, leb-true}
use Rattle.std.proofs.lemmas.List.{length-map, map-append}
use Rattle.std.proofs.lemmas.List.Sums.{sum_by-cons}
use Rattle.columnar_memory_types.specs.Equality.{same_type, same_type-Decides}
use Rattle.ipc_format_laws.specs.columnar_memory.declared.DataType.{DataType}
use Rattle.ipc_format_laws.specs.columnar_memory.declared.Field.{Field}
use Rattle.ipc_format_laws.specs.columnar_memory.declared.Schema.{Schema}
use Rattle.ipc_format_laws.specs.columns.StoredColumns.{Column, Columns, nulls, flat, lists, fixed_lists, records, unions, dictionary, no_column}
use Rattle.ipc_format_laws.specs.columns.StoredColumns.{column_then, column_type}
use Rattle.ipc_format_laws.specs.columns.SoundColumns.{is_sound}
use Rattle.ipc_format_laws.specs.grammar.Limits.{most_levels, most_dictionaries}
use Rattle.ipc_format_laws.specs.grammar.Schemas.{Ids, IdsList, ids, no_ids, ids_then}
use Rattle.ipc_format_laws.specs.grammar.Columns.{first_ids, other_ids, ids_below, own_id}
use Rattle.ipc_format_laws.specs.grammar.Dictionaries.{Values, or_else, values_in, values_of}
use Rattle.ipc_format_laws.specs.grammar.GivenDictionaries.{Given, id_or_0, given_stored, last_under, agrees, agree}
use Rattle.ipc_format_laws.specs.grammar.Ids.{fit_step, ids_fit, ids_fit_fields}
use Rattle.ipc_format_laws.specs.grammar.Writable.{Report, plain, over_all, report_step, report_of, reports_of, is_writable, normalised_type}
use Rattle.ipc_format_laws.specs.grammar.Writable.{normalised_field}
use Rattle.ipc_format_laws.specs.grammar.WrittenStreams.{given_of_stored, is_column_of, pass_each}
use Rattle.ipc_format_reading_laws.specs.NormalColumns.{normal_column}
use Rattle.ipc_format_reading_laws.proofs.NormalColumnsKept.{type_normal, sound_normal}
use Rattle.ipc_format_reading_laws.proofs.StoredGivenFolds.{fold_normal}
use Rattle.ipc_format_reading_laws.proofs.StoredGivenLists.{Each, all_each, each_more, each_front, each_so}
use Rattle.ipc_format_reading_laws.proofs.StoredGivenBrought.{Brought, given_of, brought, brought_each, given_brought}
use Rattle.ipc_format_reading_laws.proofs.StoredGivenBrought.{normal_brought, brought_normal, dictionaries_in, brought_count}
use Rattle.ipc_format_reading_laws.proofs.StoredGivenFits.{FitsColumn, IsGood, brought_good}
use Rattle.ipc_format_reading_laws.proofs.StoredGivenFound.{first_with, found_in, first_values, first_more, IsAlike, Alike, alike_front, alike_back}
use Rattle.ipc_format_reading_laws.proofs.StoredGivenFound.{found_first}
use Rattle.ipc_format_reading_laws.proofs.StoredGivenStanding.{StandsIn, agree_same, same_parts}
use Rattle.ipc_format_reading_laws.proofs.StoredGivenFold.{onto, Along, IsReady}

-- ---- the columns of a batch

-- a sound column of a field's type, whose ids fit
pub record IsColumn (u : Field) (here : Ids) (c : Column) : Type 0 where
  pub typed : normalised_type (column_type c) ≡ normalised_type u.data_type
  pub sound : is_sound c ≡ true
  pub fit : FitsColumn here c

abbrev pub AreColumns : List Field → IdsList → List Column → Type 0
AreColumns [] below [] = Unit {0}
AreColumns (u ∷ us) below (c ∷ cs) = IsColumn u (first_ids below) c × AreColumns us (other_ids below) cs
AreColumns _ below _ = ⊥

is_column : (u : Field) (here : Ids) (c : Column) → is_column_of u c ≡ true → ids_fit u.data_type here ≡ true → IsColumn u here c
is_column u here c h fit =
    let parts = and_parts (is_sound c) (same_type (normalised_type (column_type c)) (normalised_type u.data_type)) h in
    let typed = (same_type-Decides (normalised_type (column_type c)) (normalised_type u.data_type)).0 parts.1 in
    record {
      typed = typed;
      sound = parts.0;
      fit = ap (λ (fits : Ids → Bool). fits here) (sym (fold_normal fit_step (column_type c)) ∙ ap ids_fit typed ∙ fold_normal fit_step u.data_type)
          ∙ fit;
    }

pub are_columns : (us : List Field) (below : IdsList) (cs : List Column) → pass_each is_column_of us cs ≡ true → ids_fit_fields us below ≡ true
    → AreColumns us below cs
are_columns [] below [] h fit = tt
are_columns [] below (c ∷ cs) h fit = absurd (false≢true h)
are_columns (u ∷ us) below [] h fit = absurd (false≢true h)
are_columns (u ∷ us) no_ids (c ∷ cs) h fit = absurd (false≢true fit)
are_columns (u ∷ us) (ids_then first others) (c ∷ cs) h fit =
    let passes = and_parts (is_column_of u c) (pass_each is_column_of us cs) h in
    let fits = and_parts (ids_fit u.data_type first) (ids_fit_fields us others) fit in
    (is_column u first c passes.0 fits.0, are_columns us others cs passes.1 fits.1)

-- ---- the dictionaries that they bring

abbrev pub brought_of : IdsList → List Column → List Brought
brought_of below [] = []
brought_of below (c ∷ cs) = brought (first_ids below) c ++ brought_of (other_ids below) cs

pub given_brought_of : (below : IdsList) (cs : List Column) → map given_of (brought_of below cs) ≡ given_of_stored below cs
given_brought_of below [] = refl
given_brought_of below (c ∷ cs) =
    map-append given_of (brought (first_ids below) c) (brought_of (other_ids below) cs)
    ∙ ap₂ (λ (a b : List Given). a ++ b) (given_brought (first_ids below) c) (given_brought_of (other_ids below) cs)

pub brought_of_normal : (below : IdsList) (cs : List Column)
    → brought_of below (map normal_column cs) ≡ map normal_brought (brought_of below cs)
brought_of_normal below [] = refl
brought_of_normal below (c ∷ cs) =
    ap₂ (λ (a b : List Brought). a ++ b) (brought_normal (first_ids below) c) (brought_of_normal (other_ids below) cs)
    ∙ sym (map-append normal_brought (brought (first_ids below) c) (brought_of (other_ids below) cs))

good_of : (us : List Field) (below : IdsList) (cs : List Column) → AreColumns us below cs → Each IsGood (brought_of below cs)
good_of [] below [] are = tt
good_of [] below (c ∷ cs) are = absurd are
good_of (u ∷ us) below [] are = absurd are
good_of (u ∷ us) below (c ∷ cs) are =
    each_more IsGood (brought (first_ids below) c) (brought_of (other_ids below) cs)
    (all_each IsGood (brought (first_ids below) c) (brought_good (first_ids below) c are.0.sound are.0.fit)) (good_of us (other_ids below) cs are.1)

-- ---- they are few

count_is : (us : List Field) (below : IdsList) (cs : List Column) → AreColumns us below cs
    → length (brought_of below cs) ≡ sum_by (λ (report : Report). report.dictionaries) (reports_of us)
count_is [] below [] are = refl
count_is [] below (c ∷ cs) are = absurd are
count_is (u ∷ us) below [] are = absurd are
count_is (u ∷ us) below (c ∷ cs) are =
    let typed : dictionaries_in (column_type c) ≡ dictionaries_in u.data_type = ap (λ (report : Report). report.dictionaries)
    (sym (fold_normal report_step (column_type c)) ∙ ap report_of are.0.typed ∙ fold_normal report_step u.data_type) in
    omega (
      arith,
      length-append (brought (first_ids below) c) (brought_of (other_ids below) cs),
      brought_count (first_ids below) c are.0.sound,
      typed,
      count_is us (other_ids below) cs are.1,
      sum_by-cons (λ (report : Report). report.dictionaries) (report_of u.data_type) (reports_of us),
    )

pub given_few : (schema : Schema) (below : IdsList) (cs : List Column) → is_writable schema ≡ true → AreColumns schema.fields below cs
    → length (given_of_stored below cs) ≤ most_dictionaries
unfolding is_writable
given_few schema below cs writable are =
    let all = over_all true plain (reports_of schema.fields) in
    let first = and_parts (all.is_allowed && nat_le all.levels most_levels) (nat_le all.dictionaries most_dictionaries) writable in
    let few = leb-true all.dictionaries most_dictionaries first.1 in
    omega (
      arith,
      few,
      ap length (given_brought_of below cs),
      length-map (brought_of below cs) given_of,
      count_is schema.fields below cs are,
    )

-- ---- those of one id agree

-- each agrees with those behind it
abbrev pub AgreePairs : List Given → Type 0
AgreePairs [] = Unit {0}
AgreePairs (given ∷ others) = Each (λ (other : Given). agrees given other ≡ true) others × AgreePairs others

each_passes : (test : Given → Bool) (all : List Given) → list_all test all ≡ true → Each (λ (other : Given). test other ≡ true) all
each_passes test [] h = tt
each_passes test (given ∷ all) h = let parts = and_parts (test given) (list_all test all) h in (parts.0, each_passes test all parts.1)

pub agree_pairs : (all : List Given) → agree all ≡ true → AgreePairs all
agree_pairs [] h = tt
agree_pairs (given ∷ others) h =
    let parts = and_parts (list_all (agrees given) others) (agree others) h in
    (each_passes (agrees given) others parts.0, agree_pairs others parts.1)

pub pairs_front : (xs ys : List Given) → AgreePairs (xs ++ ys) → AgreePairs xs
pairs_front [] ys h = tt
pairs_front (x ∷ xs) ys h = (each_front (λ (other : Given). agrees x other ≡ true) xs ys h.0, pairs_front xs ys h.1)

pub pairs_back : (xs ys : List Given) → AgreePairs (xs ++ ys) → AgreePairs ys
pairs_back [] ys h = h
pairs_back (x ∷ xs) ys h = pairs_back xs ys h.1

-- some agree with all of others
abbrev pub AgreeWith : List Given → List Given → Type 0
AgreeWith others before = Each (λ (given : Given). Each (λ (other : Given). agrees given other ≡ true) others) before

alike_one : (b : Brought) (bs : List Brought) → Each (λ (other : Given). agrees (given_of b) other ≡ true) (map given_of bs)
    → Each (IsAlike (normal_brought b)) (map normal_brought bs)
alike_one b [] h = tt
alike_one b (c ∷ cs) h = (
  λ (same : b.id ≡ c.id).
      let says = same_parts (given_of b) (given_of c) (agree_same (given_of b) (given_of c) h.0 ((signed_Decides b.id c.id).1 same)) in
      ap dictionaries_in (type_normal b.values ∙ says.types ∙ sym (type_normal c.values)),
  alike_one b cs h.1,
)

pub alike_of : (bs : List Brought) → AgreePairs (map given_of bs) → Alike (map normal_brought bs)
alike_of [] h = tt
alike_of (b ∷ bs) h = (alike_one b bs h.0, alike_of bs h.1)

-- each agrees with those before it
abbrev AgreesBefore : List Given → Brought → Type 0
AgreesBefore before b = Each (λ (other : Given). agrees other (given_of b) ≡ true) before

along_agree : (before : List Given) (bs : List Brought) → AgreeWith (map given_of bs) before → AgreePairs (map given_of bs)
    → Along AgreesBefore before bs
along_agree before [] with_all pairs = tt
along_agree before (b ∷ bs) with_all pairs = (
  each_so (λ (given : Given). Each (λ (other : Given). agrees given other ≡ true) (map given_of (b ∷ bs)))
      (λ (given : Given). agrees given (given_of b) ≡ true) before (λ (given : Given) h. h.0) with_all,
  along_agree (given_of b ∷ before) bs (
    pairs.0,
    each_so (λ (given : Given). Each (λ (other : Given). agrees given other ≡ true) (map given_of (b ∷ bs)))
        (λ (given : Given). Each (λ (other : Given). agrees given other ≡ true) (map given_of bs)) before (λ (given : Given) h. h.1) with_all,
  ) pairs.1,
)

-- ---- each is found under its id

pub found_of : (us : List Field) (below : IdsList) (cs : List Column) (k : ℤ) → AreColumns us below cs
    → Alike (brought_of below (map normal_column cs))
    → values_of (map normalised_field us) k below ≡ first_values k (brought_of below (map normal_column cs))
found_of [] below [] k are alike = refl
found_of [] below (c ∷ cs) k are alike = absurd are
found_of (u ∷ us) below [] k are alike = absurd are
found_of (u ∷ us) below (c ∷ cs) k are alike =
    let within = normal_column c in
    let first = brought (first_ids below) within in
    let others = brought_of (other_ids below) (map normal_column cs) in
    let typed : normalised_type u.data_type ≡ column_type within = sym are.0.typed ∙ sym (type_normal c) in
    let fit : FitsColumn (first_ids below) within =
    ap (λ (t : DataType). ids_fit t (first_ids below)) (type_normal c)
    ∙ ap (λ (fits : Ids → Bool). fits (first_ids below)) (fold_normal fit_step (column_type c)) ∙ are.0.fit in
    let here : values_in (normalised_type u.data_type) k (first_ids below) ≡ first_values k first =
    ap (λ (t : DataType). values_in t k (first_ids below)) typed
    ∙ found_first (first_ids below) within k (sound_normal c are.0.sound) fit (alike_front first others alike) in
    let rest = found_of us (other_ids below) cs k are.1 (alike_back first others alike) in
    (λ j. or_else (here j) (rest j)) ∙ sym (first_more k first others)

abbrev FoundFirst : (ℤ → Option Values) → List Given → Brought → Type 0
FoundFirst values before b = last_under b.id before ≡ None
    → values b.id ≡ Some (record { data_type = normalised_type (column_type b.values); below = b.below })

pub skipped : (answer : Bool) (given : Given) (last : Option Given) → (if answer then Some given else last) ≡ None
    → (answer ≡ false) × (last ≡ None)
skipped true given last e = absurd cc
skipped false given last e = (refl, e)

along_found : (values : ℤ → Option Values) (before : List Given) (bs : List Brought)
    → ((k : ℤ) → last_under k before ≡ None → values k ≡ first_values k (map normal_brought bs)) → Along (FoundFirst values) before bs
along_found values before [] h = tt
along_found values before (b ∷ bs) h = (
  λ (none : last_under b.id before ≡ None).
      h b.id none
      ∙ ap (λ (answer : Bool). found_in (if answer then Some (normal_brought b) else first_with b.id (map normal_brought bs)))
      ((signed_Decides b.id b.id).1 refl)
      ∙ (λ j. Some (record { data_type = type_normal b.values j; below = b.below })),
  along_found values (given_of b ∷ before) bs (λ (k : ℤ) (none : last_under k (given_of b ∷ before) ≡ None).
      let parts = skipped (int_eq k b.id) (given_of b) (last_under k before) none in
      h k parts.1
      ∙ ap (λ (answer : Bool). found_in (if answer then Some (normal_brought b) else first_with k (map normal_brought bs))) parts.0),
)

-- ---- each stands behind those within its values

abbrev HasWithin : List Given → Brought → Type 0
HasWithin before b = (written : List Given) → Each (StandsIn written) before
    → Each (StandsIn written) (given_stored (ids None b.below) b.values)

along_more : (P : List Given → Brought → Type 0) (before : List Given) (xs ys : List Brought) → Along P before xs → Along P (onto before xs) ys
    → Along P before (xs ++ ys)
along_more P before [] ys h k = k
along_more P before (x ∷ xs) ys h k = (h.0, along_more P (given_of x ∷ before) xs ys h.1 k)

each_before : (P : Given → Type 0) (before : List Given) (xs : List Brought) → Each P (onto before xs) → Each P before
each_before P before [] h = h
each_before P before (x ∷ xs) h = (each_before P (given_of x ∷ before) xs h).1

-- what holds of all holds of those that came behind others
pub each_onto : (P : Given → Type 0) (before : List Given) (xs : List Brought) → Each P (onto before xs) → Each P (map given_of xs)
each_onto P before [] h = tt
each_onto P before (x ∷ xs) h = ((each_before P (given_of x ∷ before) xs h).0, each_onto P (given_of x ∷ before) xs h)

mutual
  within_column : (before : List Given) (here : Ids) (c : Column) → Along HasWithin before (brought here c)
  within_column before here (nulls t n) = tt
  within_column before here (flat t mask stored) = tt
  within_column before here (lists t mask offsets child) = within_column before (first_ids (ids_below here)) child
  within_column before here (fixed_lists t mask size child) = within_column before (first_ids (ids_below here)) child
  within_column before here (records t mask n children) = within_each before (ids_below here) children
  within_column before here (unions t own offsets children) = within_each before (ids_below here) children
  within_column before here (dictionary t mask keys values) =
      let inner = brought (ids None (ids_below here)) values in
      let this : Brought = record { id = id_or_0 (own_id here); below = ids_below here; values = values } in
      along_more HasWithin before inner (this ∷ []) (within_column before (ids None (ids_below here)) values) (
        λ (written : List Given) (stand : Each (StandsIn written) (onto before inner)).
            subst (λ (all : List Given). Each (StandsIn written) all) (given_brought (ids None (ids_below here)) values)
            (each_onto (StandsIn written) before inner stand),
        tt,
      )

  within_each : (before : List Given) (below : IdsList) (cs : Columns) → Along HasWithin before (brought_each below cs)
  within_each before below no_column = tt
  within_each before below (column_then c cs) =
      let first = brought (first_ids below) c in
      along_more HasWithin before first (brought_each (other_ids below) cs) (within_column before (first_ids below) c)
      (within_each (onto before first) (other_ids below) cs)

within_of : (before : List Given) (below : IdsList) (cs : List Column) → Along HasWithin before (brought_of below cs)
within_of before below [] = tt
within_of before below (c ∷ cs) =
    let first = brought (first_ids below) c in
    along_more HasWithin before first (brought_of (other_ids below) cs) (within_column before (first_ids below) c)
    (within_of (onto before first) (other_ids below) cs)

-- ---- all of it

ready_each : (fields : List Field) (below : IdsList) (before : List Given) (bs : List Brought) → Each IsGood bs → Along AgreesBefore before bs
    → Along (FoundFirst (λ k. values_of fields k below)) before bs → Along HasWithin before bs → Along (IsReady fields below) before bs
ready_each fields below before [] good agreed found within = tt
ready_each fields below before (b ∷ bs) good agreed found within = (
  record { good = good.0; agree = agreed.0; found = found.0; within = within.0 },
  ready_each fields below (given_of b ∷ before) bs good.1 agreed.1 found.1 within.1,
)

-- the dictionaries of a batch's columns may be read behind others with which they agree
pub ready_of : (us : List Field) (below : IdsList) (cs : List Column) (before : List Given) → AreColumns us below cs
    → AgreeWith (map given_of (brought_of below cs)) before → AgreePairs (map given_of (brought_of below cs))
    → Along (IsReady (map normalised_field us) below) before (brought_of below cs)
ready_of us below cs before are with_all pairs =
    let bs = brought_of below cs in
    let normal = brought_of_normal below cs in
    let alike : Alike (brought_of below (map normal_column cs)) = subst Alike (sym normal) (alike_of bs pairs) in
    ready_each (map normalised_field us) below before bs (good_of us below cs are) (along_agree before bs with_all pairs)
    (along_found (λ (k : ℤ). values_of (map normalised_field us) k below) before bs
    (λ (k : ℤ) none. found_of us below cs k are alike ∙ ap (first_values k) normal)) (within_of before below cs)
