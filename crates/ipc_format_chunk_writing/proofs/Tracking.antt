-- What a tracker answers of one more dictionary.
use Rattle.std.proofs.Common.{◌≡◌, ◌∙◌, Bool, true, false, ◌&&◌, ◌||◌, List, refl, sym, ap, subst}
use Rattle.std.specs.Prelude.{ℤ, pos, IsTrue, ◌↔◌, Option, Some, None, option_map, Ok, Err, is_none}
use Rattle.std.specs.Cmp.Lexicographic.{pointwise, pointwise_decides}
use Rattle.std.specs.Map.{lookup}
use Rattle.std.specs.Ordering.{int_eq}
use Rattle.std.proofs.lemmas.Bool.{and_left, false≢true, false_from_ne_true}
use Rattle.ipc_format_batch_reading.proofs.SameSlotsDecide.{same_slot-Decides}
use Rattle.columnar_memory_types.specs.Error.{IsOutOfMemory}
use Rattle.ipc_format_batch_reading.specs.columnar_memory.declared.Error.{Error}
use Rattle.ipc_format_batch_reading.specs.columnar_memory.declared.Error.TheVariants as errors
use Rattle.ipc_format_batch_reading.specs.columnar_memory.declared.DataType.{DataType}
use Rattle.ipc_format_batch_reading.specs.columns.SameSlots.{same_slot}
use Rattle.ipc_format_batch_reading.specs.columns.Slots.{Slot}
use Rattle.ipc_format_batch_reading.specs.columns.StoredColumns.{Column, column_type, slots}
use Rattle.ipc_format_batch_reading.specs.grammar.GivenDictionaries.{Given, last_under, says_same, stands_for}
use Rattle.ipc_format_chunk_writing.specs.Tracking.{Compares, ComparesAfter, Inserts, InsertsAfter, IsTold, PutsValues, Tells, given_of, may_put, told_by}
use Rattle.ipc_format_chunk_writing.specs.Types.{have_one_form}
use Rattle.ipc_format_chunk_writing.proofs.ToldInTurn.{tells_more, told_under}

-- ---- dictionaries that say the same

pub apart_said : (a b : Column) (type_a type_b : DataType) (answer : Bool) → type_a ≡ column_type a → type_b ≡ column_type b
    → answer ≡ have_one_form type_a type_b → answer ≡ false → false ≡ says_same (given_of (pos 0) a) (given_of (pos 0) b)
apart_said a b type_a type_b answer is_a is_b is fails =
    sym (and_left (have_one_form (column_type a) (column_type b)) (pointwise same_slot (slots a) (slots b))
    ((λ i. have_one_form (sym is_a i) (sym is_b i)) ∙ sym is ∙ fails))

slots_told : (xs ys : List Slot) (same : Bool) → (IsTrue same ↔ (xs ≡ ys)) → same ≡ pointwise same_slot xs ys
slots_told xs ys true says = sym ((pointwise_decides same_slot-Decides xs ys).1 (says.0 refl))
slots_told xs ys false says =
    sym (false_from_ne_true (pointwise same_slot xs ys) (λ h. false≢true (says.1 ((pointwise_decides same_slot-Decides xs ys).0 h))))

pub slots_said : (a b : Column) (type_a type_b : DataType) (answer same : Bool) → type_a ≡ column_type a → type_b ≡ column_type b
    → answer ≡ have_one_form type_a type_b → answer ≡ true → (IsTrue same ↔ (slots a ≡ slots b))
    → same ≡ says_same (given_of (pos 0) a) (given_of (pos 0) b)
slots_said a b type_a type_b answer same is_a is_b is holds says =
    slots_told (slots a) (slots b) same says
    ∙ sym (ap (λ (form : Bool). form && pointwise same_slot (slots a) (slots b)) ((λ i. have_one_form (sym is_a i) (sym is_b i)) ∙ sym is ∙ holds))

-- ---- what is told

-- the last dictionary under an id that was told, by the map
last_is : (entries : List (ℤ × Column)) (id : ℤ) (found : Option Column) (told : List Given) → lookup (int_eq id) entries ≡ found
    → Tells entries told → last_under id told ≡ option_map (given_of id) found
last_is entries id found told is tells = sym (tells id) ∙ told_under id entries ∙ ap (option_map (given_of id)) is

-- none is told under the id
pub first_compares : (tracker : List (ℤ × Column) × Bool) (id : ℤ) (values : Column) → lookup (int_eq id) tracker.0 ≡ None
    → Compares tracker (given_of id values) (Ok true)
first_compares tracker id values none told tells =
    let given = given_of id values in
    let last : last_under id told ≡ None = last_is tracker.0 id None told none tells in
    (ap (stands_for given) last, may tracker.1 (ap (λ (o : Option Given). is_none o || stands_for given o) last))
  where
    may : (cannot_replace : Bool) → (is_none (last_under id told) || stands_for (given_of id values) (last_under id told)) ≡ true
        → may_put cannot_replace told (given_of id values) ≡ true
    may true first = first
    may false first = refl

-- the one that is told says the same
pub same_compares : (tracker : List (ℤ × Column) × Bool) (id : ℤ) (values last : Column) → lookup (int_eq id) tracker.0 ≡ Some last
    → says_same (given_of id values) (given_of id last) ≡ true → Compares tracker (given_of id values) (Ok false)
same_compares tracker id values last some same told tells =
    ap (stands_for (given_of id values)) (last_is tracker.0 id (Some last) told some tells) ∙ same

-- it says something else, and may be replaced
pub other_compares : (tracker : List (ℤ × Column) × Bool) (id : ℤ) (values last : Column) → lookup (int_eq id) tracker.0 ≡ Some last
    → says_same (given_of id values) (given_of id last) ≡ false → tracker.1 ≡ false → Compares tracker (given_of id values) (Ok true)
other_compares tracker id values last some differs replaces told tells = (
  ap (stands_for (given_of id values)) (last_is tracker.0 id (Some last) told some tells) ∙ differs,
  ap (λ (b : Bool). may_put b told (given_of id values)) replaces,
)

-- and may not
pub refused_compares : (tracker : List (ℤ × Column) × Bool) (id : ℤ) (values last : Column) → lookup (int_eq id) tracker.0 ≡ Some last
    → says_same (given_of id values) (given_of id last) ≡ false → tracker.1 ≡ true → (told : List Given) → Tells tracker.0 told
    → may_put tracker.1 told (given_of id values) ≡ false
refused_compares tracker id values last some differs keeps told tells =
    let given = given_of id values in
    ap (λ (b : Bool). may_put b told given) keeps
    ∙ ap (λ (o : Option Given). is_none o || stands_for given o) (last_is tracker.0 id (Some last) told some tells) ∙ differs

pub no_comparison : (tracker : List (ℤ × Column) × Bool) (given : Given) (error : Error) → IsOutOfMemory error → Compares tracker given (Err error)
no_comparison tracker given errors.OutOfMemory memory told tells = tt
no_comparison tracker given _ memory told tells = absurd memory

-- ---- insert

pub inserts_same : (old new : List (ℤ × Column) × Bool) (given : Given) (answer : Bool) → Compares old given (Ok answer) → answer ≡ false → new ≡ old
    → Inserts old new given (Ok false)
inserts_same old new given answer compares is kept told tells =
    (subst (λ (b : Bool). ComparesAfter old.1 given told (Ok b)) is (compares told tells), kept)

pub inserts_new : (old new : List (ℤ × Column) × Bool) (id : ℤ) (values : Column) (answer : Bool) → Compares old (given_of id values) (Ok answer)
    → answer ≡ true → PutsValues old new id values (Ok tt) → Inserts old new (given_of id values) (Ok true)
inserts_new old new id values answer compares is puts told tells =
    let answered = subst (λ (b : Bool). ComparesAfter old.1 (given_of id values) told (Ok b)) is (compares told tells) in
    record { differs = answered.0; may = answered.1; tells = tells_more old.0 new.0 id values told puts.0 tells; kind = puts.1 }

pub not_inserted : (old new : List (ℤ × Column) × Bool) (given : Given) (error : Error) → Compares old given (Err error) → new ≡ old
    → Inserts old new given (Err error)
not_inserted old new given (errors.InvalidArgumentError what) compares kept told tells = (compares told tells, kept)
not_inserted old new given errors.OutOfMemory compares kept told tells = kept
not_inserted old new given _ compares kept told tells = absurd (compares told tells)

pub not_put : (old new : List (ℤ × Column) × Bool) (id : ℤ) (values : Column) (given : Given) (error : Error)
    → PutsValues old new id values (Err error) → Inserts old new given (Err error)
not_put old new id values given errors.OutOfMemory puts told tells = puts.1
not_put old new id values given _ puts told tells = absurd puts.0
