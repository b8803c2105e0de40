-- Where no dictionary is replaced, those of the first batch are written, and those of later batches stand already.
use Rattle.std.proofs.Common.{◌≡◌, ◌∙◌, List, [], ◌∷◌, ◌++◌, map, refl, sym, ap, ap₂, subst, Bool, true, false}
use Rattle.std.specs.Prelude.{◌||◌, not, is_none, ℤ, Option, Some, None, if◌then◌else◌}
use Rattle.std.specs.Ordering.{int_eq}
use Rattle.std.specs.Cmp.{signed_Decides}
use Rattle.std.proofs.lemmas.Bool.{and_parts, false≢true}
use Rattle.ipc_format_laws.specs.columnar_memory.declared.Field.{Field}
use Rattle.ipc_format_laws.specs.columns.StoredColumns.{Column}
use Rattle.ipc_format_laws.specs.grammar.Schemas.{IdsList}
use Rattle.ipc_format_laws.specs.grammar.Writable.{normalised_field}
use Rattle.ipc_format_laws.specs.grammar.Dictionaries.{Values, values_of}
use Rattle.ipc_format_laws.specs.grammar.GivenDictionaries.{Given, says_same, last_under, stands_for, to_write, written_after, agrees}
use Rattle.ipc_format_laws.specs.grammar.WrittenStreams.{batch_of_stored, given_of_stored}
use Rattle.ipc_format_laws.specs.grammar.WrittenFiles.{is_first_or_same, none_replaced, all_given}
use Rattle.ipc_format_reading_laws.specs.NormalColumns.{normal_column}
use Rattle.ipc_format_reading_laws.proofs.StoredGivenLists.{Each, each_front, each_back, each_so, by_answer}
use Rattle.ipc_format_reading_laws.proofs.StoredGivenBrought.{Brought, given_of, normal_brought}
use Rattle.ipc_format_reading_laws.proofs.StoredGivenFold.{onto}
use Rattle.ipc_format_reading_laws.proofs.StoredGivenFound.{first_with, found_in, first_values, Alike}
use Rattle.ipc_format_reading_laws.proofs.StoredGivenReady.{AreColumns, brought_of, given_brought_of, brought_of_normal, AgreePairs, AgreeWith}
use Rattle.ipc_format_reading_laws.proofs.StoredGivenReady.{pairs_front, pairs_back, alike_of, found_of, skipped}
use Rattle.ipc_format_reading_laws.proofs.StoredGivenStanding.{StandsIn, same_parts, same_from, written_stands, still_stands, none_before}
use Rattle.ipc_format_reading_laws.proofs.StoredTablesBatches.{IsBatch}
use Rattle.ipc_format_reading_laws.proofs.StoredTablesBlocks.{all_written}

-- ---- where none is replaced, those of one id agree

says_by : (a b : Given) (last : Option Given) → stands_for a last ≡ true → (is_none last || stands_for b last) ≡ true → says_same a b ≡ true
says_by a b None h k = absurd (false≢true h)
says_by a b (Some last) h k =
    let first = same_parts a last h in
    let second = same_parts b last k in
    same_from a b (record { types = first.types ∙ sym second.types; slots = first.slots ∙ sym second.slots })

first_agrees : (written : List Given) (a b : Given) → StandsIn written a → is_first_or_same written b ≡ true → agrees a b ≡ true
first_agrees written a b stands h =
    by_answer (λ (answer : Bool). (not answer || says_same a b) ≡ true) (int_eq a.id b.id)
    (λ is. says_by a b (last_under b.id written) (ap (λ (id : ℤ). stands_for a (last_under id written)) (sym ((signed_Decides a.id b.id).0 is))
    ∙ stands) h) (λ is. refl)

stands_after : (written : List Given) (a b : Given) → StandsIn written a → agrees a b ≡ true → StandsIn (written_after written (b ∷ [])) a
stands_after written a b stands agree =
    by_answer (λ (answer : Bool). StandsIn (if answer then written else b ∷ written) a) (stands_for b (last_under b.id written))
    (λ is. stands) (λ is. still_stands b written a stands agree)

itself_after : (written : List Given) (a : Given) → StandsIn (written_after written (a ∷ [])) a
itself_after written a =
    by_answer (λ (answer : Bool). StandsIn (if answer then written else a ∷ written) a) (stands_for a (last_under a.id written))
    (λ is. is) (λ is. written_stands a written)

first_stays : (a : Given) (written all : List Given) → StandsIn written a → none_replaced written all ≡ true
    → Each (λ (other : Given). agrees a other ≡ true) all
first_stays a written [] stands h = tt
first_stays a written (b ∷ all) stands h =
    let now = written_after written (b ∷ []) in
    let parts = and_parts (is_first_or_same written b) (none_replaced now all) h in
    let agree = first_agrees written a b stands parts.0 in
    (agree, first_stays a now all (stands_after written a b stands agree) parts.1)

pub none_replaced_agree : (written all : List Given) → none_replaced written all ≡ true → AgreePairs all
none_replaced_agree written [] h = tt
none_replaced_agree written (a ∷ all) h =
    let now = written_after written (a ∷ []) in
    let parts = and_parts (is_first_or_same written a) (none_replaced now all) h in
    (first_stays a now all (itself_after written a) parts.1, none_replaced_agree now all parts.1)

-- ---- what agrees with some dictionaries that stand, each of its ids among theirs, stands

values_skipped : (answer : Bool) (b : Brought) (r : Option Brought) → found_in (if answer then Some b else r) ≡ None
    → (answer ≡ false) × (found_in r ≡ None)
values_skipped true b r e = absurd cc
values_skipped false b r e = (refl, e)

some_found : (answer : Bool) (b : Brought) (r : Option Brought) → answer ≡ true → found_in (if answer then Some b else r) ≡ None → ⊥
some_found true b r is e = absurd cc
some_found false b r is e = absurd cc

-- each is found under its own id
found_itself : (bs : List Brought) → Each (λ (b : Brought). first_values b.id (map normal_brought bs) ≡ None → ⊥) bs
found_itself [] = tt
found_itself (b ∷ bs) = (
  some_found (int_eq b.id b.id) (normal_brought b) (first_with b.id (map normal_brought bs)) ((signed_Decides b.id b.id).1 refl),
  each_so (λ (c : Brought). first_values c.id (map normal_brought bs) ≡ None → ⊥)
      (λ (c : Brought). first_values c.id (map normal_brought (b ∷ bs)) ≡ None → ⊥) bs
      (λ (c : Brought) never none. never (values_skipped (int_eq c.id b.id) (normal_brought b)
      (first_with c.id (map normal_brought bs)) none).1) (found_itself bs),
)

-- an id that is not among some dictionaries is not found
not_among : (k : ℤ) (before : List Given) (bs : List Brought) → last_under k (onto before bs) ≡ None
    → (last_under k before ≡ None) × (first_values k (map normal_brought bs) ≡ None)
not_among k before [] none = (none, refl)
not_among k before (b ∷ bs) none =
    let later = not_among k (given_of b ∷ before) bs none in
    let parts = skipped (int_eq k b.id) (given_of b) (last_under k before) later.0 in (
      parts.1,
      ap (λ (answer : Bool). found_in (if answer then Some (normal_brought b) else first_with k (map normal_brought bs))) parts.0 ∙ later.1,
    )

not_false : (answer : Bool) → (answer ≡ false → ⊥) → answer ≡ true
not_false true never = refl
not_false false never = absurd (never refl)

still_all : (values : ℤ → Option Values) (written before : List Given) (bs : List Brought)
    → ((k : ℤ) → last_under k before ≡ None → values k ≡ None) → Each (StandsIn written) before → AgreeWith (map given_of bs) before
    → Each (λ (b : Brought). values b.id ≡ None → ⊥) bs → Each (StandsIn written) (map given_of bs)
still_all values written before [] missing stand agree never = tt
still_all values written before (b ∷ bs) missing stand agree never =
    let given = given_of b in
    let AllAgree : Given → Type 0 = λ (e : Given). Each (λ (other : Given). agrees e other ≡ true) (map given_of (b ∷ bs)) in
    let here = each_so AllAgree (λ (e : Given). agrees e given ≡ true) before (λ (e : Given) h. h.0) agree in
    let rest = each_so AllAgree (λ (e : Given). Each (λ (other : Given). agrees e other ≡ true) (map given_of bs)) before
    (λ (e : Given) h. h.1) agree in (
      not_false (stands_for given (last_under given.id written)) (λ not_yet.
          never.0 (missing b.id (none_before given written before stand here not_yet))),
      still_all values written before bs missing stand rest never.1,
    )

-- ---- later batches

-- two batches of a schema bring dictionaries of the same ids
later_stand : (us : List Field) (below : IdsList) (first cs : List Column) (written : List Given) → AreColumns us below first
    → AreColumns us below cs → AgreePairs (map given_of (brought_of below first)) → AgreePairs (map given_of (brought_of below cs))
    → Each (StandsIn written) (onto [] (brought_of below first))
    → AgreeWith (map given_of (brought_of below cs)) (onto [] (brought_of below first))
    → Each (StandsIn written) (map given_of (brought_of below cs))
later_stand us below first cs written are_first are pairs_first pairs stand agree =
    let values : ℤ → Option Values = λ (k : ℤ). values_of (map normalised_field us) k below in
    let normal_first = brought_of_normal below first in
    let normal = brought_of_normal below cs in
    let alike_first : Alike (brought_of below (map normal_column first)) =
    subst Alike (sym normal_first) (alike_of (brought_of below first) pairs_first) in
    let alike : Alike (brought_of below (map normal_column cs)) = subst Alike (sym normal) (alike_of (brought_of below cs) pairs) in
    still_all values written (onto [] (brought_of below first)) (brought_of below cs)
    (λ (k : ℤ) none. found_of us below first k are_first alike_first ∙ ap (first_values k) normal_first
    ∙ (not_among k [] (brought_of below first) none).1) stand agree
    (each_so (λ (b : Brought). first_values b.id (map normal_brought (brought_of below cs)) ≡ None → ⊥)
    (λ (b : Brought). values b.id ≡ None → ⊥) (brought_of below cs)
    (λ (b : Brought) never none. never (sym (found_of us below cs b.id are alike ∙ ap (first_values b.id) normal) ∙ none))
    (found_itself (brought_of below cs)))

-- all dictionaries of some batches
abbrev pub given_of_all : IdsList → List (List Column) → List Given
given_of_all below [] = []
given_of_all below (cs ∷ batches) = given_of_stored below cs ++ given_of_all below batches

pub given_all : (below : IdsList) (batches : List (List Column)) → all_given (map (batch_of_stored below) batches) ≡ given_of_all below batches
unfolding batch_of_stored
given_all below [] = refl
given_all below (cs ∷ batches) = ap (λ (rest : List Given). given_of_stored below cs ++ rest) (given_all below batches)

pub later_batches : (us : List Field) (below : IdsList) (first : List Column) (batches : List (List Column)) (written : List Given)
    → AreColumns us below first → AgreePairs (map given_of (brought_of below first)) → Each (IsBatch us below) batches
    → AgreePairs (given_of_all below batches) → Each (StandsIn written) (onto [] (brought_of below first))
    → AgreeWith (given_of_all below batches) (onto [] (brought_of below first))
    → Each (λ (cs : List Column). Each (StandsIn written) (given_of_stored below cs)) batches
later_batches us below first [] written are_first pairs_first its pairs stand agree = tt
later_batches us below first (cs ∷ batches) written are_first pairs_first its pairs stand agree =
    let before = onto [] (brought_of below first) in
    let given = given_of_stored below cs in
    let others = given_of_all below batches in
    let same = given_brought_of below cs in
    let AllAgree : List Given → Given → Type 0 = λ (them : List Given) (e : Given). Each (λ (other : Given). agrees e other ≡ true) them in
    let here : AgreeWith given before = each_so (AllAgree (given ++ others)) (AllAgree given) before
    (λ (e : Given) h. each_front (λ (other : Given). agrees e other ≡ true) given others h) agree in
    let rest : AgreeWith others before = each_so (AllAgree (given ++ others)) (AllAgree others) before
    (λ (e : Given) h. each_back (λ (other : Given). agrees e other ≡ true) given others h) agree in (
      subst (λ (them : List Given). Each (StandsIn written) them) same (later_stand us below first cs written are_first its.0.columns pairs_first
          (subst AgreePairs (sym same) (pairs_front given others pairs)) stand
          (subst (λ (them : List Given). AgreeWith them before) (sym same) here)),
      later_batches us below first batches written are_first pairs_first its.1 (pairs_back given others pairs) stand rest,
    )

-- ---- those behind a first part agree with it

pairs_cross : (xs ys : List Given) → AgreePairs (xs ++ ys) → AgreeWith ys xs
pairs_cross [] ys h = tt
pairs_cross (x ∷ xs) ys h = (each_back (λ (other : Given). agrees x other ≡ true) xs ys h.0, pairs_cross xs ys h.1)

each_to_onto : (P : Given → Type 0) (before : List Given) (bs : List Brought) → Each P before → Each P (map given_of bs)
    → Each P (onto before bs)
each_to_onto P before [] h k = h
each_to_onto P before (b ∷ bs) h k = each_to_onto P (given_of b ∷ before) bs (k.0, h) k.1

pub agree_behind : (below : IdsList) (first : List Column) (others : List Given) → AgreePairs (given_of_stored below first ++ others)
    → AgreeWith others (onto [] (brought_of below first))
agree_behind below first others pairs =
    let All : Given → Type 0 = λ (e : Given). Each (λ (other : Given). agrees e other ≡ true) others in
    each_to_onto All [] (brought_of below first) tt
    (subst (λ (them : List Given). Each All them) (sym (given_brought_of below first)) (pairs_cross (given_of_stored below first) others pairs))

-- ---- none of those that stand is written

nothing_written : (written given : List Given) → Each (StandsIn written) given
    → (to_write written given ≡ []) × (written_after written given ≡ written)
nothing_written written [] stand = (refl, refl)
nothing_written written (next ∷ given) stand =
    let rest = nothing_written written given stand.1 in (
      ap (λ (answer : Bool). if answer then to_write written given else next ∷ to_write (next ∷ written) given) stand.0 ∙ rest.0,
      ap (λ (answer : Bool). if answer then written_after written given else written_after (next ∷ written) given) stand.0 ∙ rest.1,
    )

pub none_more : (below : IdsList) (batches : List (List Column)) (written : List Given)
    → Each (λ (cs : List Column). Each (StandsIn written) (given_of_stored below cs)) batches
    → all_written written (map (batch_of_stored below) batches) ≡ []
unfolding batch_of_stored
none_more below [] written stand = refl
none_more below (cs ∷ batches) written stand =
    let nothing = nothing_written written (given_of_stored below cs) stand.0 in
    ap₂ (λ (a b : List Given). a ++ all_written b (map (batch_of_stored below) batches)) nothing.0 nothing.1
    ∙ none_more below batches written stand.1
