-- The dictionaries of a batch, read one after another: each that is written stands afterwards, and so does each that is not.
use Rattle.std.proofs.Common.{◌≡◌, ◌∙◌, List, [], ◌∷◌, ◌++◌, map, refl, Bool, true}
use Rattle.std.specs.Prelude.{Some, None, if◌then◌else◌}
use Rattle.ipc_format_laws.specs.columnar_memory.declared.Field.{Field}
use Rattle.ipc_format_laws.specs.columns.StoredColumns.{column_type}
use Rattle.ipc_format_laws.specs.grammar.Schemas.{IdsList, ids}
use Rattle.ipc_format_laws.specs.grammar.Writable.{normalised_type}
use Rattle.ipc_format_laws.specs.grammar.Dictionaries.{Entry, Layout, values_of}
use Rattle.ipc_format_laws.specs.grammar.Tables.{batches_of}
use Rattle.ipc_format_laws.specs.grammar.GivenDictionaries.{Given, given_stored, last_under, stands_for, to_write, written_after, agrees}
use Rattle.ipc_format_laws.specs.Contents.{Sent, dictionary}
use Rattle.ipc_format_reading_laws.specs.StoredColumns.{StoredColumnsReadBack}
use Rattle.ipc_format_reading_laws.proofs.StoredGivenLists.{Each, AreEach, by_answer}
use Rattle.ipc_format_reading_laws.proofs.StoredGivenBrought.{Brought, given_of}
use Rattle.ipc_format_reading_laws.proofs.StoredGivenFits.{IsGood}
use Rattle.ipc_format_reading_laws.proofs.StoredGivenStanding.{as_read, StandsIn, all_still_stand, none_before}
use Rattle.ipc_format_reading_laws.proofs.StoredTablesEntries.{IsSent, dictionary_reads, dictionary_then}

-- some dictionaries behind others, the latest first
abbrev pub onto : List Given → List Brought → List Given
onto before [] = before
onto before (b ∷ bs) = onto (given_of b ∷ before) bs

-- a property of each of some dictionaries, behind those before it
abbrev pub Along : (List Given → Brought → Type 0) → List Given → List Brought → Type 0
Along P before [] = Unit {0}
Along P before (b ∷ bs) = P before b × Along P (given_of b ∷ before) bs

-- A dictionary may be read behind others: its ids fit, it agrees with them, where it is the first of its id the fields have its values under
-- the id, and the dictionaries within its values are among them.
pub record IsReady (fields : List Field) (below : IdsList) (before : List Given) (b : Brought) : Type 0 where
  pub good : IsGood b
  pub agree : Each (λ (other : Given). agrees other (given_of b) ≡ true) before
  pub found : last_under b.id before ≡ None
      → values_of fields b.id below ≡ Some (record { data_type = normalised_type (column_type b.values); below = b.below })
  pub within : (written : List Given) → Each (StandsIn written) before
      → Each (StandsIn written) (given_stored (ids None b.below) b.values)

-- What is sent behind some dictionaries stands in other entries, before which the dictionaries are read: those that were written, and those
-- that are written now; and each of some dictionaries stands.
pub record Behind (layout : Layout) (written now all : List Given) (sent : List Sent) (entries : List Entry) : Type 0 where
  pub others : List Entry
  pub are : AreEach IsSent sent others
  pub reads : batches_of layout (map as_read written) entries ≡ batches_of layout (map as_read now) others
  pub stand : Each (StandsIn now) all

module _ (stored : StoredColumnsReadBack) (layout : Layout) (little : layout.is_little_endian ≡ true) where
  -- one that is written
  write_one : (written now all : List Given) (b : Brought) (more : List Given) (sent : List Sent) (entries : List Entry) → IsGood b
      → values_of layout.fields b.id layout.below ≡ Some (record { data_type = normalised_type (column_type b.values); below = b.below })
      → Each (StandsIn written) (given_stored (ids None b.below) b.values)
      → ((others : List Entry) → AreEach IsSent (map dictionary more ++ sent) others → Behind layout (given_of b ∷ written) now all sent others)
      → AreEach IsSent (map dictionary (given_of b ∷ more) ++ sent) entries → Behind layout written now all sent entries
  write_one written now all b more sent [] good values within rest are = absurd are
  write_one written now all b more sent (entry ∷ others) good values within rest are =
      let behind = rest others are.1 in
      let read = dictionary_reads stored layout written b entry little are.0 good values within in
      record {
        others = behind.others;
        are = behind.are;
        reads = dictionary_then layout (map as_read written) entry others are.0.table (as_read (given_of b)) are.0.header read ∙ behind.reads;
        stand = behind.stand;
      }

  pub dictionaries_read : (before written : List Given) (bs : List Brought) (sent : List Sent) (entries : List Entry)
      → Along (IsReady layout.fields layout.below) before bs → Each (StandsIn written) before
      → AreEach IsSent (map dictionary (to_write written (map given_of bs)) ++ sent) entries
      → Behind layout written (written_after written (map given_of bs)) (onto before bs) sent entries
  dictionaries_read before written [] sent entries ready stand are = record { others = entries; are = are; reads = refl; stand = stand }
  dictionaries_read before written (b ∷ bs) sent entries ready stand are =
      let given = given_of b in
      let rest = map given_of bs in
      by_answer (λ (answer : Bool).
      AreEach IsSent (map dictionary (if answer then to_write written rest else given ∷ to_write (given ∷ written) rest) ++ sent) entries
      → Behind layout written (if answer then written_after written rest else written_after (given ∷ written) rest)
      (onto (given ∷ before) bs) sent entries)
      (stands_for given (last_under given.id written))
      (λ stands here. dictionaries_read (given ∷ before) written bs sent entries ready.1 (stands, stand) here)
      (λ not_yet here. write_one written (written_after (given ∷ written) rest) (onto (given ∷ before) bs) b
      (to_write (given ∷ written) rest) sent entries ready.0.good
      (ready.0.found (none_before given written before stand ready.0.agree not_yet)) (ready.0.within written stand)
      (λ (others : List Entry) they. dictionaries_read (given ∷ before) (given ∷ written) bs sent others ready.1
      (all_still_stand given written before stand ready.0.agree) they) here)
      are
