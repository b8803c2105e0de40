-- Which dictionaries of a batch are written, one after another, and whether they agree.
use Rattle.std.proofs.Common.{◌≡◌, ◌∙◌, ℕ, Bool, true, false, not, ◌&&◌, ◌||◌, List, [], ◌∷◌, ◌++◌, map, refl, sym, ap, subst, inl, inr}
use Rattle.std.specs.Prelude.{ℤ, Option, Some, None, is_none, if◌then◌else◌}
use Rattle.std.specs.List.{list_all, list_any}
use Rattle.std.specs.Ordering.{int_eq}
use Rattle.std.specs.Cmp.{signed_Decides}
use Rattle.std.specs.Cmp.Lexicographic.{pointwise, pointwise_decides}
use Rattle.std.proofs.lemmas.Bool.{and_cases, and_from, and_left, and_parts, and_right, both_ways, false≢true, false_from_ne_true, or_right}
use Rattle.std.proofs.lemmas.List.Folds.{list_all-append}
use Rattle.ipc_format_batch_reading.proofs.SameSlotsDecide.{same_slot-Decides}
use Rattle.columnar_memory_types.specs.Equality.{same_type, same_type-Decides}
use Rattle.ipc_format_batch_reading.specs.columns.SameSlots.{same_slot}
use Rattle.ipc_format_batch_reading.specs.columns.Slots.{Slot}
use Rattle.ipc_format_batch_reading.specs.grammar.GivenDictionaries.{Given, agree, agrees, last_under, says_same, stands_for, to_write, written_after}
use Rattle.ipc_format_batch_reading.specs.grammar.Tables.{Form, stream, file}
use Rattle.ipc_format_batch_reading.specs.grammar.Writable.{normalised_type}
use Rattle.ipc_format_batch_reading.specs.grammar.WriterRuns.{may_tell}
use Rattle.ipc_format_batch_reading.specs.grammar.WrittenFiles.{is_first_or_same, none_replaced}

-- ---- tests

-- by what a test answers
pub by_answer : (P : Bool → Type 0) (b : Bool) → (b ≡ true → P true) → (b ≡ false → P false) → P b
by_answer P true when unless = when refl
by_answer P false when unless = unless refl

if_both : {A B : Type 0} (f : A → B) (test : Bool) (x y : A) → f (if test then x else y) ≡ (if test then f x else f y)
if_both f true x y = refl
if_both f false x y = refl

-- ---- dictionaries that say the same

pub same_said : (a b : Given) → says_same a b ≡ true → (normalised_type a.data_type ≡ normalised_type b.data_type) × (a.slots ≡ b.slots)
same_said a b h =
    let parts = and_parts (same_type (normalised_type a.data_type) (normalised_type b.data_type)) (pointwise same_slot a.slots b.slots) h in (
      (same_type-Decides (normalised_type a.data_type) (normalised_type b.data_type)).0 parts.0,
      (pointwise_decides same_slot-Decides a.slots b.slots).0 parts.1,
    )

pub said_same : (a b : Given) → normalised_type a.data_type ≡ normalised_type b.data_type → a.slots ≡ b.slots → says_same a b ≡ true
said_same a b types slots =
    and_from (same_type (normalised_type a.data_type) (normalised_type b.data_type)) (pointwise same_slot a.slots b.slots)
    ((same_type-Decides (normalised_type a.data_type) (normalised_type b.data_type)).1 types)
    ((pointwise_decides same_slot-Decides a.slots b.slots).1 slots)

pub says_itself : (a : Given) → says_same a a ≡ true
says_itself a = said_same a a refl refl

-- two that say the same as a third
says_alike : (a b last : Given) → says_same a last ≡ true → says_same b last ≡ true → says_same a b ≡ true
says_alike a b last first second =
    let of_a = same_said a last first in
    let of_b = same_said b last second in
    said_same a b (of_a.0 ∙ sym of_b.0) (of_a.1 ∙ sym of_b.1)

stand_alike : (a b : Given) (last : Option Given) → stands_for a last ≡ true → stands_for b last ≡ true → says_same a b ≡ true
stand_alike a b None first second = absurd (false≢true first)
stand_alike a b (Some last) first second = says_alike a b last first second

stand_both : (a b : Given) (last : Option Given) → stands_for a last ≡ true → says_same a b ≡ true → stands_for b last ≡ true
stand_both a b None first same = absurd (false≢true first)
stand_both a b (Some last) first same =
    let of_a = same_said a last first in
    let both = same_said a b same in
    said_same b last (sym both.0 ∙ of_a.0) (sym both.1 ∙ of_a.1)

id_is : (a b : ℤ) → int_eq a b ≡ true → a ≡ b
id_is a b h = (signed_Decides a b).0 h

id_itself : (a : ℤ) → int_eq a a ≡ true
id_itself a = (signed_Decides a a).1 refl

-- ---- one dictionary after another

pub after_one : (told : List Given) (next : Given) (given : List Given)
    → written_after (written_after told (next ∷ [])) given ≡ written_after told (next ∷ given)
after_one told next given =
    if_both (λ (others : List Given). written_after others given) (stands_for next (last_under next.id told)) told (next ∷ told)

pub after_more : (told a b : List Given) → written_after told (a ++ b) ≡ written_after (written_after told a) b
after_more told [] b = refl
after_more told (next ∷ a) b =
    sym (after_one told next (a ++ b)) ∙ after_more (written_after told (next ∷ [])) a b
    ∙ ap (λ (others : List Given). written_after others b) (after_one told next a)

-- the first of some, and the others
write_one : (told : List Given) (next : Given) (given : List Given)
    → to_write told (next ∷ given) ≡ to_write told (next ∷ []) ++ to_write (written_after told (next ∷ [])) given
write_one told next given = by_answer (λ (answer : Bool). (if answer then to_write told given else next ∷ to_write (next ∷ told) given)
    ≡ (if answer then [] else next ∷ []) ++ to_write (if answer then told else next ∷ told) given)
    (stands_for next (last_under next.id told)) (λ is. refl) (λ is. refl)

pub write_more : (told a b : List Given) → to_write told (a ++ b) ≡ to_write told a ++ to_write (written_after told a) b
write_more told [] b = refl
write_more told (next ∷ a) b = by_answer (λ (answer : Bool). (if answer then to_write told (a ++ b) else next ∷ to_write (next ∷ told) (a ++ b))
    ≡ (if answer then to_write told a else next ∷ to_write (next ∷ told) a)
    ++ to_write (if answer then written_after told a else written_after (next ∷ told) a) b)
    (stands_for next (last_under next.id told)) (λ is. write_more told a b)
    (λ is. ap (λ (more : List Given). next ∷ more) (write_more (next ∷ told) a b))

pub one_same : (told : List Given) (next : Given) → stands_for next (last_under next.id told) ≡ true → written_after told (next ∷ []) ≡ told
one_same told next same = ap (λ (answer : Bool). if answer then told else next ∷ told) same

pub one_new : (told : List Given) (next : Given) → stands_for next (last_under next.id told) ≡ false → written_after told (next ∷ []) ≡ next ∷ told
one_new told next differs = ap (λ (answer : Bool). if answer then told else next ∷ told) differs

pub none_written : (told : List Given) (next : Given) → stands_for next (last_under next.id told) ≡ true → to_write told (next ∷ []) ≡ []
none_written told next same = ap (λ (answer : Bool). if answer then [] else next ∷ []) same

pub one_written : (told : List Given) (next : Given) → stands_for next (last_under next.id told) ≡ false → to_write told (next ∷ []) ≡ next ∷ []
one_written told next differs = ap (λ (answer : Bool). if answer then [] else next ∷ []) differs

-- ---- dictionaries of which none is replaced

pub none_more : (told a b : List Given) → none_replaced told (a ++ b) ≡ (none_replaced told a && none_replaced (written_after told a) b)
none_more told [] b = refl
none_more told (next ∷ a) b = by_answer (λ (answer : Bool). (answer && none_replaced (written_after told (next ∷ [])) (a ++ b))
    ≡ ((answer && none_replaced (written_after told (next ∷ [])) a) && none_replaced (written_after told (next ∷ a)) b))
    (is_first_or_same told next)
    (λ is. none_more (written_after told (next ∷ [])) a b
    ∙ ap (λ (now : List Given). none_replaced (written_after told (next ∷ [])) a && none_replaced now b) (after_one told next a))
    (λ is. refl)

-- ---- dictionaries that agree

agree_with : Given → List Given → Bool
agree_with next given = list_all (λ (other : Given). agrees other next) given

agree_more : (given : List Given) (next : Given) → agree given ≡ true → list_all (λ (other : Given). agrees other next) given ≡ true
    → agree (given ++ next ∷ []) ≡ true
agree_more [] next all with_next = refl
agree_more (first ∷ given) next all with_next =
    let parts = and_parts (list_all (agrees first) given) (agree given) all in
    let nexts = and_parts (agrees first next) (list_all (λ (other : Given). agrees other next) given) with_next in
    and_from (list_all (agrees first) (given ++ next ∷ [])) (agree (given ++ next ∷ []))
    (list_all-append (agrees first) given (next ∷ [])
    ∙ and_from (list_all (agrees first) given) (agrees first next && true) parts.0 (and_from (agrees first next) true nexts.0 refl))
    (agree_more given next parts.1 nexts.1)

agree_apart : (given : List Given) (next : Given) (rest : List Given) → agree (given ++ next ∷ rest) ≡ true
    → list_all (λ (other : Given). agrees other next) given ≡ true
agree_apart [] next rest all = refl
agree_apart (first ∷ given) next rest all =
    let parts = and_parts (list_all (agrees first) (given ++ next ∷ rest)) (agree (given ++ next ∷ rest)) all in
    let sides = and_parts (list_all (agrees first) given) (list_all (agrees first) (next ∷ rest))
    (sym (list_all-append (agrees first) given (next ∷ rest)) ∙ parts.0) in
    let here = and_parts (agrees first next) (list_all (agrees first) rest) sides.1 in
    and_from (agrees first next) (list_all (λ (other : Given). agrees other next) given) here.0 (agree_apart given next rest parts.1)

-- ---- dictionaries that stand

-- each of some says the same as the last one under its id
abbrev pub all_stand : List Given → List Given → Bool
all_stand told given = list_all (λ (other : Given). stands_for other (last_under other.id told)) given

-- whether one of some has an id
abbrev pub has_id : List Given → ℤ → Bool
has_id given id = list_any (λ (other : Given). int_eq id other.id) given

id_apart : (id : ℤ) (first : Given) (given : List Given) → has_id (first ∷ given) id ≡ false
    → (int_eq id first.id ≡ false) × (has_id given id ≡ false)
id_apart id first given h = by_answer (λ (answer : Bool). (answer || has_id given id) ≡ false → (answer ≡ false) × (has_id given id ≡ false))
    (int_eq id first.id) (λ is k. absurd (false≢true (sym k))) (λ is k. (refl, k)) h

last_other : (id : ℤ) (next : Given) (told : List Given) → int_eq id next.id ≡ false → last_under id (next ∷ told) ≡ last_under id told
last_other id next told apart = ap (λ (answer : Bool). if answer then Some next else last_under id told) apart

last_here : (next : Given) (told : List Given) → last_under next.id (next ∷ told) ≡ Some next
last_here next told = ap (λ (answer : Bool). if answer then Some next else last_under next.id told) (id_itself next.id)

turned : (a b : ℤ) → int_eq a b ≡ false → int_eq b a ≡ false
turned a b h = false_from_ne_true (int_eq b a) (λ k. false≢true (sym h ∙ (signed_Decides a b).1 (sym (id_is b a k))))

-- a dictionary of another id changes nothing for those that stand
pub still_stand : (told : List Given) (next : Given) (given : List Given) → has_id given next.id ≡ false → all_stand told given ≡ true
    → all_stand (next ∷ told) given ≡ true
still_stand told next [] apart stand = refl
still_stand told next (first ∷ given) apart stand =
    let ids = id_apart next.id first given apart in
    let parts = and_parts (stands_for first (last_under first.id told)) (all_stand told given) stand in
    and_from (stands_for first (last_under first.id (next ∷ told))) (all_stand (next ∷ told) given)
    (ap (stands_for first) (last_other first.id next told (turned next.id first.id ids.0)) ∙ parts.0) (still_stand told next given ids.1 parts.1)

pub stand_more : (told given : List Given) (next : Given) → all_stand told given ≡ true → stands_for next (last_under next.id told) ≡ true
    → all_stand told (given ++ next ∷ []) ≡ true
stand_more told given next stand here =
    list_all-append (λ (other : Given). stands_for other (last_under other.id told)) given (next ∷ [])
    ∙ and_from (all_stand told given) (stands_for next (last_under next.id told) && true) stand
    (and_from (stands_for next (last_under next.id told)) true here refl)

pub new_stands : (next : Given) (told : List Given) → stands_for next (last_under next.id (next ∷ told)) ≡ true
new_stands next told = ap (stands_for next) (last_here next told) ∙ says_itself next

-- where one is the same as the last one under its id, it agrees with all that stand
agree_standing : (told given : List Given) (next : Given) → all_stand told given ≡ true → stands_for next (last_under next.id told) ≡ true
    → list_all (λ (other : Given). agrees other next) given ≡ true
agree_standing told [] next stand here = refl
agree_standing told (first ∷ given) next stand here =
    let parts = and_parts (stands_for first (last_under first.id told)) (all_stand told given) stand in
    let same : int_eq first.id next.id ≡ true → says_same first next ≡ true =
    λ is. stand_alike first next (last_under next.id told)
    (ap (λ (id : ℤ). stands_for first (last_under id told)) (sym (id_is first.id next.id is)) ∙ parts.0) here in
    and_from (agrees first next) (list_all (λ (other : Given). agrees other next) given)
    (by_answer (λ (answer : Bool). (not answer || says_same first next) ≡ true) (int_eq first.id next.id) same (λ is. refl))
    (agree_standing told given next parts.1 here)

-- one of another id agrees with all
agree_new : (given : List Given) (next : Given) → has_id given next.id ≡ false → list_all (λ (other : Given). agrees other next) given ≡ true
agree_new [] next apart = refl
agree_new (first ∷ given) next apart =
    let ids = id_apart next.id first given apart in
    and_from (agrees first next) (list_all (λ (other : Given). agrees other next) given)
    (ap (λ (answer : Bool). not answer || says_same first next) (turned next.id first.id ids.0)) (agree_new given next ids.1)

-- where all agree with one, of whose id there is one, it is the same as the last one under its id
stands_with : (told given : List Given) (next : Given) → all_stand told given ≡ true → has_id given next.id ≡ true
    → list_all (λ (other : Given). agrees other next) given ≡ true → stands_for next (last_under next.id told) ≡ true
stands_with told [] next stand has with_next = absurd (false≢true has)
stands_with told (first ∷ given) next stand has with_next =
    let parts = and_parts (stands_for first (last_under first.id told)) (all_stand told given) stand in
    let nexts = and_parts (agrees first next) (list_all (λ (other : Given). agrees other next) given) with_next in
    by_answer (λ (answer : Bool). int_eq next.id first.id ≡ answer → (answer || has_id given next.id) ≡ true
    → stands_for next (last_under next.id told) ≡ true) (int_eq next.id first.id)
    (λ here is some.
    let ids : first.id ≡ next.id = sym (id_is next.id first.id is) in
    let same : says_same first next ≡ true =
    sym (ap (λ (answer : Bool). not answer || says_same first next) ((signed_Decides first.id next.id).1 ids)) ∙ nexts.0 in
    stand_both first next (last_under next.id told) (ap (λ (id : ℤ). stands_for first (last_under id told)) (sym ids) ∙ parts.0) same)
    (λ other is some. stands_with told given next parts.1 some nexts.1) refl has

-- where one of its id stands, there is a last one under it
not_first : (told given : List Given) (id : ℤ) → all_stand told given ≡ true → has_id given id ≡ true → is_none (last_under id told) ≡ false
not_first told [] id stand has = absurd (false≢true has)
not_first told (first ∷ given) id stand has =
    let parts = and_parts (stands_for first (last_under first.id told)) (all_stand told given) stand in
    let some : (last : Option Given) → stands_for first last ≡ true → is_none last ≡ false = λ last. elim last as (λ (o : Option Given).
    stands_for first o ≡ true → is_none o ≡ false) [ None ↦ (λ h. absurd (false≢true h)) | Some x ↦ (λ h. refl) ] in
    by_answer (λ (answer : Bool). int_eq id first.id ≡ answer → (answer || has_id given id) ≡ true → is_none (last_under id told) ≡ false)
    (int_eq id first.id)
    (λ here is k. some (last_under id told) (ap (λ (n : ℤ). stands_for first (last_under n told)) (id_is id first.id is) ∙ parts.0))
    (λ other is k. not_first told given id parts.1 k) refl has

-- ---- whether dictionaries may be told

-- one more that is the same as the last one under its id
pub may_same : (form : Form) (told given : List Given) (next : Given) → may_tell form told given ≡ true
    → all_stand (written_after told given) given ≡ true → stands_for next (last_under next.id (written_after told given)) ≡ true
    → may_tell form told (given ++ next ∷ []) ≡ true
may_same stream told given next may stand here = agree_more given next may (agree_standing (written_after told given) given next stand here)
may_same file told given next may stand here =
    none_more told given (next ∷ [])
    ∙ and_from (none_replaced told given) (is_first_or_same (written_after told given) next && true) may
    (and_from (is_first_or_same (written_after told given) next) true
    (or_right (is_none (last_under next.id (written_after told given))) (stands_for next (last_under next.id (written_after told given))) here)
    refl)

-- whether one more may be told as far as the last one under its id says
abbrev pub may_put_in : Form → List Given → Given → Bool
may_put_in stream told next = true
may_put_in file told next = is_first_or_same told next

-- one more of another id
pub may_new : (form : Form) (told given : List Given) (next : Given) → may_tell form told given ≡ true → has_id given next.id ≡ false
    → may_put_in form (written_after told given) next ≡ true → may_tell form told (given ++ next ∷ []) ≡ true
may_new stream told given next may apart put = agree_more given next may (agree_new given next apart)
may_new file told given next may apart put =
    none_more told given (next ∷ [])
    ∙ and_from (none_replaced told given) (is_first_or_same (written_after told given) next && true) may
    (and_from (is_first_or_same (written_after told given) next) true put refl)

-- one that takes the place of another
pub may_not_put : (form : Form) (told given : List Given) (next : Given) (rest : List Given) → may_put_in form (written_after told given) next ≡ false
    → may_tell form told (given ++ next ∷ rest) ≡ false
may_not_put stream told given next rest put = absurd (false≢true (sym put))
may_not_put file told given next rest put =
    none_more told given (next ∷ rest)
    ∙ and_right (none_replaced told given) (none_replaced (written_after told given) (next ∷ rest))
    (and_left (is_first_or_same (written_after told given) next)
    (none_replaced (written_after (written_after told given) (next ∷ [])) rest) put)

-- one that differs from another of its id
pub may_not_differ : (form : Form) (told given : List Given) (next : Given) (rest : List Given)
    → all_stand (written_after told given) given ≡ true → has_id given next.id ≡ true
    → stands_for next (last_under next.id (written_after told given)) ≡ false → may_tell form told (given ++ next ∷ rest) ≡ false
may_not_differ stream told given next rest stand has differs =
    false_from_ne_true (agree (given ++ next ∷ rest)) (λ all. both_ways (stands_for next (last_under next.id (written_after told given))) differs
    (stands_with (written_after told given) given next stand has (agree_apart given next rest all)))
may_not_differ file told given next rest stand has differs =
    may_not_put file told given next rest
    (ap (λ (answer : Bool). answer || stands_for next (last_under next.id (written_after told given)))
    (not_first (written_after told given) given next.id stand has) ∙ differs)
