-- Where no dictionary is replaced, those that stand still stand behind new ones, which are read under them.
use Rattle.std.proofs.Common.{◌≡◌, ◌∙◌, List, [], ◌∷◌, ◌++◌, map, refl, sym, ap, subst, Bool, true, false}
use Rattle.std.specs.Prelude.{◌||◌, is_none, ℤ, Option, Some, None, if◌then◌else◌}
use Rattle.std.specs.Ordering.{int_eq}
use Rattle.std.specs.Cmp.{signed_Decides}
use Rattle.std.proofs.lemmas.Bool.{and_parts, and_from}
use Rattle.std.proofs.lemmas.Option.{same_Some}
use Rattle.ipc_format_laws.specs.flatbuffers.FlatBuffers.{TablePlace}
use Rattle.ipc_format_laws.specs.grammar.Messages as grammar
use Rattle.ipc_format_laws.specs.grammar.Messages.{Header}
use Rattle.ipc_format_laws.specs.grammar.Columns.{Dictionary}
use Rattle.ipc_format_laws.specs.grammar.Dictionaries.{Entry, Layout, values_of, dictionary_in}
use Rattle.ipc_format_laws.specs.grammar.Schemas.{IdsList, ids}
use Rattle.ipc_format_laws.specs.columnar_memory.declared.Field.{Field}
use Rattle.ipc_format_laws.specs.grammar.Writable.{normalised_type}
use Rattle.ipc_format_laws.specs.grammar.GivenDictionaries.{Given, given_stored, last_under, stands_for, to_write, written_after}
use Rattle.ipc_format_laws.specs.grammar.WrittenFiles.{is_first_or_same, none_replaced}
use Rattle.ipc_format_laws.specs.grammar.AppendedFiles.{standing_with, standing_behind}
use Rattle.ipc_format_laws.specs.Contents.{dictionary}
use Rattle.ipc_format_laws.proofs.Firsts.{bind_is}
use Rattle.ipc_format_laws.specs.columns.StoredColumns.{column_type}
use Rattle.ipc_format_reading_laws.specs.StoredColumns.{StoredColumnsReadBack}
use Rattle.ipc_format_reading_laws.proofs.IsolatedBuffers.{Extends}
use Rattle.ipc_format_reading_laws.proofs.StoredGivenLists.{Each, AreEach, by_answer}
use Rattle.ipc_format_reading_laws.proofs.StoredGivenBrought.{Brought, given_of}
use Rattle.ipc_format_reading_laws.proofs.StoredGivenFits.{IsGood}
use Rattle.ipc_format_reading_laws.proofs.StoredGivenFold.{onto, Along, IsReady}
use Rattle.ipc_format_reading_laws.proofs.StoredGivenStanding.{as_read, StandsIn, all_still_stand, none_before, read_if, standing_is}
use Rattle.ipc_format_reading_laws.proofs.StoredTablesEntries.{IsSent, dictionary_reads}

-- ---- none is replaced

-- the first of its id hides no other one
still_under : (given : Given) (written : List Given) (id : ℤ) (last : Given) → last_under given.id written ≡ None
    → last_under id written ≡ Some last → last_under id (given ∷ written) ≡ Some last
still_under given written id last first e =
    by_answer (λ (answer : Bool). (if answer then Some given else last_under id written) ≡ Some last) (int_eq id given.id)
    (λ is. absurd (none_some (sym (ap (λ (k : ℤ). last_under k written) ((signed_Decides id given.id).0 is) ∙ first) ∙ e)))
    (λ is. e)
  where
    none_some : None ≡ Some last → ⊥
    none_some e = absurd cc

no_last : (last : Option Given) → (is_none last || false) ≡ true → last ≡ None
no_last None h = refl
no_last (Some given) h = absurd cc

first_of : (given : Given) (written : List Given) → is_first_or_same written given ≡ true → stands_for given (last_under given.id written) ≡ false
    → last_under given.id written ≡ None
first_of given written h is =
    no_last (last_under given.id written) (subst (λ (answer : Bool). (is_none (last_under given.id written) || answer) ≡ true) is h)

-- the last dictionary of an id stays the last
pub last_stays : (written given : List Given) (id : ℤ) (last : Given) → none_replaced written given ≡ true → last_under id written ≡ Some last
    → last_under id (written_after written given) ≡ Some last
last_stays written [] id last h e = e
last_stays written (next ∷ given) id last h e =
    let first = and_parts (is_first_or_same written next) (none_replaced (written_after written (next ∷ [])) given) h in
    by_answer (λ (answer : Bool). none_replaced (if answer then written else next ∷ written) given ≡ true
    → (answer ≡ false → last_under next.id written ≡ None)
    → last_under id (if answer then written_after written given else written_after (next ∷ written) given) ≡ Some last)
    (stands_for next (last_under next.id written))
    (λ is none_is none_before. last_stays written given id last none_is e)
    (λ is none_is none_before. last_stays (next ∷ written) given id last none_is (still_under next written id last (none_before refl) e))
    first.1 (first_of next written first.0)

read_some : (last : Option Given) (found : Dictionary) → read_if last ≡ Some found → (given : Given) × (last ≡ Some given) × (as_read given ≡ found)
read_some None found e = absurd cc
read_some (Some given) found e = (given, refl, same_Some (as_read given) found e)

pub still_standing : (written given : List Given) → none_replaced written given ≡ true
    → Extends (map as_read written) (map as_read (written_after written given))
still_standing written given h id found e =
    let last = read_some (last_under id written) found (sym (standing_is id written) ∙ e) in
    standing_is id (written_after written given) ∙ ap read_if (last_stays written given id last.0 h last.1) ∙ ap Some last.2

-- those before others
pub front_kept : (written some others : List Given) → none_replaced written (some ++ others) ≡ true → none_replaced written some ≡ true
front_kept written [] others h = refl
front_kept written (next ∷ some) others h =
    let now = written_after written (next ∷ []) in
    let parts = and_parts (is_first_or_same written next) (none_replaced now (some ++ others)) h in
    and_from (is_first_or_same written next) (none_replaced now some) parts.0 (front_kept now some others parts.1)

-- ---- the dictionaries of a batch stand behind those that stood

standing_next : (layout : Layout) (standing : List Dictionary) (entry : Entry) (others : List Entry) (table : TablePlace) (found : Dictionary)
    → entry.header ≡ grammar.dictionary_batch table → dictionary_in layout standing entry table ≡ Some found
    → standing_behind layout standing (entry ∷ others) ≡ standing_behind layout (found ∷ standing) others
standing_next layout standing entry others table found header read =
    ap (λ (h : Header). standing_with layout standing entry (λ (now : List Dictionary). standing_behind layout now others) h) header
    ∙ bind_is (dictionary_in layout standing entry table) _ found read

none_sent : (layout : Layout) (standing : List Dictionary) (entries : List Entry) → AreEach IsSent [] entries
    → standing_behind layout standing entries ≡ Some standing
none_sent layout standing [] are = refl
none_sent layout standing (entry ∷ entries) are = absurd are

-- each dictionary of a batch stands behind those that were written
pub stand_after : (fields : List Field) (below : IdsList) (before written : List Given) (bs : List Brought) → Along (IsReady fields below) before bs
    → Each (StandsIn written) before → Each (StandsIn (written_after written (map given_of bs))) (onto before bs)
stand_after fields below before written [] ready stand = stand
stand_after fields below before written (b ∷ bs) ready stand =
    let given = given_of b in
    let rest = map given_of bs in
    by_answer (λ (answer : Bool).
    Each (StandsIn (if answer then written_after written rest else written_after (given ∷ written) rest)) (onto (given ∷ before) bs))
    (stands_for given (last_under given.id written))
    (λ stands. stand_after fields below (given ∷ before) written bs ready.1 (stands, stand))
    (λ not_yet. stand_after fields below (given ∷ before) (given ∷ written) bs ready.1
    (all_still_stand given written before stand ready.0.agree))

module _ (stored : StoredColumnsReadBack) (layout : Layout) (little : layout.is_little_endian ≡ true) where
  one_stands : (written now : List Given) (b : Brought) (more : List Given) (entries : List Entry) → IsGood b
      → values_of layout.fields b.id layout.below ≡ Some (record { data_type = normalised_type (column_type b.values); below = b.below })
      → Each (StandsIn written) (given_stored (ids None b.below) b.values)
      → ((others : List Entry) → AreEach IsSent (map dictionary more) others
      → standing_behind layout (map as_read (given_of b ∷ written)) others ≡ Some (map as_read now))
      → AreEach IsSent (map dictionary (given_of b ∷ more)) entries → standing_behind layout (map as_read written) entries ≡ Some (map as_read now)
  one_stands written now b more [] good values within rest are = absurd are
  one_stands written now b more (entry ∷ others) good values within rest are =
      let read = dictionary_reads stored layout written b entry little are.0 good values within in
      standing_next layout (map as_read written) entry others are.0.table (as_read (given_of b)) are.0.header read ∙ rest others are.1

  pub dictionaries_stand : (before written : List Given) (bs : List Brought) (entries : List Entry)
      → Along (IsReady layout.fields layout.below) before bs → Each (StandsIn written) before
      → AreEach IsSent (map dictionary (to_write written (map given_of bs))) entries
      → standing_behind layout (map as_read written) entries ≡ Some (map as_read (written_after written (map given_of bs)))
  dictionaries_stand before written [] entries ready stand are = none_sent layout (map as_read written) entries are
  dictionaries_stand before written (b ∷ bs) entries ready stand are =
      let given = given_of b in
      let rest = map given_of bs in
      by_answer (λ (answer : Bool).
      AreEach IsSent (map dictionary (if answer then to_write written rest else given ∷ to_write (given ∷ written) rest)) entries
      → standing_behind layout (map as_read written) entries
      ≡ Some (map as_read (if answer then written_after written rest else written_after (given ∷ written) rest)))
      (stands_for given (last_under given.id written))
      (λ stands here. dictionaries_stand (given ∷ before) written bs entries ready.1 (stands, stand) here)
      (λ not_yet here. one_stands written (written_after (given ∷ written) rest) b (to_write (given ∷ written) rest) entries ready.0.good
      (ready.0.found (none_before given written before stand ready.0.agree not_yet)) (ready.0.within written stand)
      (λ (others : List Entry) they. dictionaries_stand (given ∷ before) (given ∷ written) bs others ready.1
      (all_still_stand given written before stand ready.0.agree) they) here)
      are
