-- Which dictionaries stand where some were written: those, the latest first, under their normalised types.
use Rattle.std.proofs.Common.{◌≡◌, ◌∙◌, List, [], ◌∷◌, map, refl, sym, ap, subst, Bool, true, false}
use Rattle.std.specs.Prelude.{◌||◌, not, ℤ, Option, Some, None, if◌then◌else◌}
use Rattle.std.specs.Ordering.{int_eq}
use Rattle.std.specs.Bool.{Decides}
use Rattle.std.specs.Cmp.{signed_Decides}
use Rattle.std.specs.Cmp.Lexicographic.{pointwise, pointwise_decides}
use Rattle.std.proofs.lemmas.Bool.{and_parts, and_from, false≢true}
use Rattle.columnar_memory_types.specs.Equality.{same_type, same_type-Decides}
use Rattle.ipc_format_laws.specs.columns.Slots.{Slot}
use Rattle.ipc_format_laws.specs.columns.SameSlots.{same_slot}
use Rattle.ipc_format_laws.proofs.columns_lemmas.SameSlotsDecide.{same_slot-Decides}
use Rattle.ipc_format_laws.specs.columns.StoredColumns.{Column, Columns, nulls, flat, lists, fixed_lists, records, unions, dictionary, no_column}
use Rattle.ipc_format_laws.specs.columns.StoredColumns.{column_then}
use Rattle.ipc_format_laws.specs.columns.SoundColumns.{is_sound, are_sound}
use Rattle.ipc_format_laws.specs.grammar.Schemas.{Ids, IdsList, ids}
use Rattle.ipc_format_laws.specs.grammar.Columns.{Dictionary, standing_for, first_ids, other_ids, ids_below, own_id}
use Rattle.ipc_format_laws.specs.grammar.Writable.{normalised_type}
use Rattle.ipc_format_laws.specs.grammar.GivenDictionaries.{Given, id_or_0, given_stored, given_each, says_same, last_under, stands_for, agrees}
use Rattle.ipc_format_reading_laws.specs.NormalColumns.{normal_slot, normal_column, normal_columns}
use Rattle.ipc_format_reading_laws.specs.StoredColumns.{HasDictionaries, HaveDictionaries}
use Rattle.ipc_format_reading_laws.proofs.NormalColumnsKept.{type_normal, all_slots_normal}
use Rattle.ipc_format_reading_laws.proofs.StoredGivenLists.{Each, each_both, each_front, each_back, not_true, not_both}
use Rattle.ipc_format_reading_laws.proofs.StoredGivenBrought.{Brought, given_of, sound_item, sound_fixed_item, sound_fields, sound_children}
use Rattle.ipc_format_reading_laws.proofs.StoredGivenFits.{FitsColumn, FitColumns, fits_item, fits_fixed_item, fits_fields, fits_children}
use Rattle.ipc_format_reading_laws.proofs.StoredGivenFits.{fits_values}

-- ---- dictionaries that say the same

-- a dictionary as it is read
abbrev pub as_read : Given → Dictionary
as_read given = record { id = given.id; data_type = normalised_type given.data_type; slots = map normal_slot given.slots }

pub record SaysSame (a b : Given) : Type 0 where
  pub types : normalised_type a.data_type ≡ normalised_type b.data_type
  pub slots : a.slots ≡ b.slots

slots_decide : (xs ys : List Slot) → Decides (pointwise same_slot xs ys) (xs ≡ ys)
slots_decide xs ys = pointwise_decides same_slot-Decides xs ys

pub same_parts : (a b : Given) → says_same a b ≡ true → SaysSame a b
same_parts a b h =
    let parts = and_parts (same_type (normalised_type a.data_type) (normalised_type b.data_type)) (pointwise same_slot a.slots b.slots) h in
    record {
      types = (same_type-Decides (normalised_type a.data_type) (normalised_type b.data_type)).0 parts.0;
      slots = (slots_decide a.slots b.slots).0 parts.1;
    }

pub same_from : (a b : Given) → SaysSame a b → says_same a b ≡ true
same_from a b same = and_from (same_type (normalised_type a.data_type) (normalised_type b.data_type)) (pointwise same_slot a.slots b.slots)
    ((same_type-Decides (normalised_type a.data_type) (normalised_type b.data_type)).1 same.types) ((slots_decide a.slots b.slots).1 same.slots)

same_itself : (a : Given) → says_same a a ≡ true
same_itself a = same_from a a (record { types = refl; slots = refl })

-- where two say the same and one says what a third says, so does the other
same_third : (a b c : Given) → says_same a b ≡ true → says_same a c ≡ true → says_same b c ≡ true
same_third a b c h k =
    let ab = same_parts a b h in
    let ac = same_parts a c k in
    same_from b c (record { types = sym ab.types ∙ ac.types; slots = sym ab.slots ∙ ac.slots })

pub stands_too : (a b : Given) (last : Option Given) → says_same a b ≡ true → stands_for a last ≡ true → stands_for b last ≡ true
stands_too a b None h k = absurd (false≢true k)
stands_too a b (Some last) h k = same_third a b last h k

pub agree_same : (a b : Given) → agrees a b ≡ true → int_eq a.id b.id ≡ true → says_same a b ≡ true
agree_same a b h is = subst (λ (answer : Bool). (not answer || says_same a b) ≡ true) is h

-- ---- what stands where some were written

-- the dictionary that was written last under its id says the same
abbrev pub StandsIn : List Given → Given → Type 0
StandsIn written given = stands_for given (last_under given.id written) ≡ true

-- where it is written, it stands, and those that agree with it stand as before
pub written_stands : (given : Given) (written : List Given) → StandsIn (given ∷ written) given
written_stands given written =
    ap (λ (answer : Bool). stands_for given (if answer then Some given else last_under given.id written))
    ((signed_Decides given.id given.id).1 refl) ∙ same_itself given

pub still_stands : (given : Given) (written : List Given) (other : Given) → StandsIn written other → agrees other given ≡ true
    → StandsIn (given ∷ written) other
still_stands given written other stands agree =
    by_if (int_eq other.id given.id) (agree_same other given agree)
  where
    by_if : (answer : Bool) → (answer ≡ true → says_same other given ≡ true)
        → stands_for other (if answer then Some given else last_under other.id written) ≡ true
    by_if true same = same refl
    by_if false same = stands

pub all_still_stand : (given : Given) (written before : List Given) → Each (StandsIn written) before
    → Each (λ (other : Given). agrees other given ≡ true) before → Each (StandsIn (given ∷ written)) (given ∷ before)
all_still_stand given written before stand agree = (
  written_stands given written,
  each_both (StandsIn written) (λ (other : Given). agrees other given ≡ true) (StandsIn (given ∷ written)) before
      (still_stands given written) stand agree,
)

-- a dictionary that does not stand is the first of its id among those that do
pub none_before : (given : Given) (written before : List Given) → Each (StandsIn written) before
    → Each (λ (other : Given). agrees other given ≡ true) before → stands_for given (last_under given.id written) ≡ false
    → last_under given.id before ≡ None
none_before given written [] stand agree not_yet = refl
none_before given written (other ∷ before) stand agree not_yet =
    let apart : int_eq given.id other.id ≡ false = not_true (int_eq given.id other.id) (λ is.
    let same : other.id ≡ given.id = sym ((signed_Decides given.id other.id).0 is) in
    let says = agree_same other given agree.0 ((signed_Decides other.id given.id).1 same) in
    not_both (stands_for given (last_under given.id written))
    (ap (λ (id : ℤ). stands_for given (last_under id written)) (sym same)
    ∙ stands_too other given (last_under other.id written) says stand.0) not_yet) in
    ap (λ (answer : Bool). if answer then Some other else last_under given.id before) apart
    ∙ none_before given written before stand.1 agree.1 not_yet

-- ---- what is found under an id

abbrev pub read_if : Option Given → Option Dictionary
read_if None = None
read_if (Some given) = Some (as_read given)

pub standing_is : (id : ℤ) (written : List Given) → standing_for id (map as_read written) ≡ read_if (last_under id written)
standing_is id [] = refl
standing_is id (given ∷ written) =
    by_if (int_eq id given.id) (standing_for id (map as_read written)) (last_under id written) (standing_is id written)
  where
    by_if : (answer : Bool) (standing : Option Dictionary) (last : Option Given) → standing ≡ read_if last
        → (if answer then Some (as_read given) else standing) ≡ read_if (if answer then Some given else last)
    by_if true standing last e = refl
    by_if false standing last e = e

-- the last one under an id has the id
last_has_id : (id : ℤ) (written : List Given) (last : Given) → last_under id written ≡ Some last → last.id ≡ id
last_has_id id [] last e = absurd cc
last_has_id id (given ∷ written) last e =
    by_if (int_eq id given.id) (λ is. sym ((signed_Decides id given.id).0 is)) (last_has_id id written last) e
  where
    by_if : (answer : Bool) → (answer ≡ true → given.id ≡ id) → (last_under id written ≡ Some last → last.id ≡ id)
        → (if answer then Some given else last_under id written) ≡ Some last → last.id ≡ id
    by_if true is others e =
        let same : given ≡ last = cc in ap (λ (g : Given). g.id) (sym same) ∙ is refl
    by_if false is others e = others e

pub stands_read : (written : List Given) (given : Given) → StandsIn written given
    → standing_for given.id (map as_read written) ≡ Some (as_read given)
stands_read written given stands =
    standing_is given.id written ∙ by_last (last_under given.id written) (last_has_id given.id written) stands
  where
    by_last : (last : Option Given) → ((found : Given) → last ≡ Some found → found.id ≡ given.id) → stands_for given last ≡ true
        → read_if last ≡ Some (as_read given)
    by_last None has h = absurd (false≢true h)
    by_last (Some found) has h =
        let same = same_parts given found h in
        let id_is = has found refl in
        λ j. Some (record { id = id_is j; data_type = sym same.types j; slots = map normal_slot (sym same.slots j) })

-- ---- the dictionaries of a column stand

mutual
  pub has_dictionaries : (written : List Given) (here : Ids) (c : Column) → is_sound c ≡ true → FitsColumn here c
      → Each (StandsIn written) (given_stored here c) → HasDictionaries (map as_read written) here (normal_column c)
  has_dictionaries written here (nulls t n) h fit stand = tt
  has_dictionaries written here (flat t mask stored) h fit stand = tt
  has_dictionaries written here (lists t mask offsets child) h fit stand =
      has_dictionaries written (first_ids (ids_below here)) child (sound_item t mask offsets child h).1 (fits_item here t mask offsets child h fit)
      stand
  has_dictionaries written here (fixed_lists t mask size child) h fit stand =
      has_dictionaries written (first_ids (ids_below here)) child (sound_fixed_item t mask size child h).1
      (fits_fixed_item here t mask size child h fit) stand
  has_dictionaries written here (records t mask n children) h fit stand =
      have_dictionaries written (ids_below here) children (sound_fields t mask n children h).1 (fits_fields here t mask n children h fit) stand
  has_dictionaries written here (unions t own offsets children) h fit stand =
      have_dictionaries written (ids_below here) children (sound_children t own offsets children h).1
      (fits_children here t own offsets children h fit) stand
  has_dictionaries written here (dictionary t mask keys values) h fit stand =
      let fits = fits_values here t mask keys values h fit in
      let this : Brought = record { id = id_or_0 (own_id here); below = ids_below here; values = values } in
      let id_is : fits.id ≡ this.id = ap id_or_0 (sym fits.own) in
      let found = stands_read written (given_of this) (each_back (StandsIn written) (given_stored (ids None (ids_below here)) values)
      (given_of this ∷ []) stand).0 in
      let typed = type_normal values in
      let same = all_slots_normal values in
      record {
        id = fits.id;
        own = fits.own;
        found = ap (λ (id : ℤ). standing_for id (map as_read written)) id_is ∙ found
            ∙ (λ j. Some (record { id = sym id_is j; data_type = sym typed j; slots = sym same j }));
      }

  pub have_dictionaries : (written : List Given) (below : IdsList) (cs : Columns) → are_sound cs ≡ true → FitColumns below cs
      → Each (StandsIn written) (given_each below cs) → HaveDictionaries (map as_read written) below (normal_columns cs)
  have_dictionaries written below no_column h fit stand = tt
  have_dictionaries written below (column_then c cs) h fit stand =
      let sounds = and_parts (is_sound c) (are_sound cs) h in
      let first = given_stored (first_ids below) c in
      let others = given_each (other_ids below) cs in (
        has_dictionaries written (first_ids below) c sounds.0 fit.0 (each_front (StandsIn written) first others stand),
        have_dictionaries written (other_ids below) cs sounds.1 fit.1 (each_back (StandsIn written) first others stand),
      )
