-- What the new messages of a file give to which batches of stored columns were appended: their dictionaries stand behind the file's own, and
-- each batch is read under them.
use Rattle.std.proofs.Common.{◌≡◌, ◌∙◌, List, [], ◌∷◌, ◌++◌, map, refl, sym, ap, subst, true, append-nil}
use Rattle.std.specs.Prelude.{Some}
use Rattle.ipc_format_laws.specs.columnar_memory.declared.Field.{Field}
use Rattle.ipc_format_laws.specs.columns.StoredColumns.{Column}
use Rattle.ipc_format_laws.specs.grammar.Writable.{normalised_field}
use Rattle.ipc_format_laws.specs.grammar.Dictionaries.{Entry, Layout}
use Rattle.ipc_format_laws.specs.grammar.Tables.{batches_of}
use Rattle.ipc_format_laws.specs.grammar.GivenDictionaries.{Given, to_write, written_after}
use Rattle.ipc_format_laws.specs.grammar.WrittenStreams.{Batch, batch_of_stored, given_of_stored}
use Rattle.ipc_format_laws.specs.grammar.WrittenFiles.{none_replaced}
use Rattle.ipc_format_laws.specs.grammar.AppendedFiles.{standing_behind}
use Rattle.ipc_format_laws.specs.Contents.{dictionary, batch}
use Rattle.ipc_format_reading_laws.specs.StoredColumns.{StoredColumnsReadBack}
use Rattle.ipc_format_reading_laws.specs.StoredTables.{read_batches}
use Rattle.ipc_format_reading_laws.proofs.AppendedStanding.{still_standing, front_kept, stand_after, dictionaries_stand}
use Rattle.ipc_format_reading_laws.proofs.IsolatedBuffers.{Extends, unchanged}
use Rattle.ipc_format_reading_laws.proofs.StoredGivenBrought.{given_of}
use Rattle.ipc_format_reading_laws.proofs.StoredGivenFold.{onto, Along, IsReady}
use Rattle.ipc_format_reading_laws.proofs.StoredGivenLists.{Each, AreEach}
use Rattle.ipc_format_reading_laws.proofs.StoredGivenReady.{brought_of, given_brought_of, AgreePairs, pairs_front, pairs_back, ready_of}
use Rattle.ipc_format_reading_laws.proofs.StoredGivenStanding.{as_read, StandsIn}
use Rattle.ipc_format_reading_laws.proofs.StoredTablesBatches.{IsBatch}
use Rattle.ipc_format_reading_laws.proofs.StoredTablesBlocks.{all_written}
use Rattle.ipc_format_reading_laws.proofs.StoredTablesEntries.{IsSent}
use Rattle.ipc_format_reading_laws.proofs.StoredTablesFiles.{batches_sent, columns_sent}
use Rattle.ipc_format_reading_laws.proofs.StoredTablesOnce.{none_replaced_agree, given_of_all, later_batches, agree_behind, none_more}
use Rattle.ipc_format_reading_laws.proofs.StoredTablesStreams.{all_stand}

dictionaries_sent : (given : List Given) (values : List Entry) → AreEach (λ (g : Given). IsSent (dictionary g)) given values
    → AreEach IsSent (map dictionary given) values
dictionaries_sent [] [] are = tt
dictionaries_sent [] (entry ∷ values) are = absurd are
dictionaries_sent (g ∷ given) [] are = absurd are
dictionaries_sent (g ∷ given) (entry ∷ values) are = (are.0, dictionaries_sent given values are.1)

-- The dictionaries that stand behind the new ones, among them each that stood before, and what is read under them: new batches, of which none
-- but the first brings a dictionary that does not stand.
pub record NewReads (layout : Layout) (told : List Given) (batches : List (List Column)) (values columns : List Entry) : Type 0 where
  pub now : List Given
  pub stands : standing_behind layout (map as_read told) values ≡ Some (map as_read now)
  pub extends : Extends (map as_read told) (map as_read now)
  pub reads : batches_of layout (map as_read now) columns ≡ Some (read_batches batches)

module _ (stored : StoredColumnsReadBack) (layout : Layout) (us : List Field) (little : layout.is_little_endian ≡ true)
    (fields : layout.fields ≡ map normalised_field us) where
  no_batches : (told : List Given) (values columns : List Entry) → AreEach (λ (g : Given). IsSent (dictionary g)) [] values
      → AreEach (λ (b : Batch). IsSent (batch b)) [] columns → NewReads layout told [] values columns
  no_batches told [] columns are they = record {
    now = told;
    stands = refl;
    extends = unchanged (map as_read told);
    reads = columns_sent stored layout us little fields told [] columns tt tt (batches_sent [] columns they);
  }
  no_batches told (entry ∷ values) columns are they = absurd are

  -- the dictionaries of the first batch
  first_stands : (told : List Given) (first : List Column) (values : List Entry)
      → Along (IsReady (map normalised_field us) layout.below) [] (brought_of layout.below first)
      → AreEach (λ (g : Given). IsSent (dictionary g)) (to_write told (given_of_stored layout.below first)) values
      → standing_behind layout (map as_read told) values ≡ Some (map as_read (written_after told (given_of_stored layout.below first)))
  first_stands told first values ready are =
      let bs = brought_of layout.below first in
      let it : Along (IsReady layout.fields layout.below) [] bs =
      subst (λ (all : List Field). Along (IsReady all layout.below) [] bs) (sym fields) ready in
      subst (λ (given : List Given). AreEach IsSent (map dictionary (to_write told given)) values
      → standing_behind layout (map as_read told) values ≡ Some (map as_read (written_after told given))) (given_brought_of layout.below first)
      (dictionaries_stand stored layout little [] told bs values it tt)
      (dictionaries_sent (to_write told (given_of_stored layout.below first)) values are)

  some_batches : (told : List Given) (first : List Column) (batches : List (List Column)) (values columns : List Entry)
      → IsBatch us layout.below first → Each (IsBatch us layout.below) batches
      → none_replaced told (given_of_all layout.below (first ∷ batches)) ≡ true
      → AreEach (λ (g : Given). IsSent (dictionary g)) (all_written told (map (batch_of_stored layout.below) (first ∷ batches))) values
      → AreEach (λ (b : Batch). IsSent (batch b)) (map (batch_of_stored layout.below) (first ∷ batches)) columns
      → NewReads layout told (first ∷ batches) values columns
  unfolding batch_of_stored
  some_batches told first batches values columns its_first its once are they =
      let below = layout.below in
      let given = given_of_stored below first in
      let others = given_of_all below batches in
      let now = written_after told given in
      let bs = brought_of below first in
      let same = given_brought_of below first in
      let pairs = none_replaced_agree told (given ++ others) once in
      let pairs_first : AgreePairs (map given_of bs) = subst AgreePairs (sym same) (pairs_front given others pairs) in
      let ready = ready_of us below first [] its_first.columns tt pairs_first in
      let stand : Each (StandsIn now) (onto [] bs) =
      subst (λ (all : List Given). Each (StandsIn (written_after told all)) (onto [] bs)) same
      (stand_after (map normalised_field us) below [] told bs ready tt) in
      let later = later_batches us below first batches now its_first.columns pairs_first its (pairs_back given others pairs) stand
      (agree_behind below first others pairs) in
      let none : all_written now (map (batch_of_stored below) batches) ≡ [] = none_more below batches now later in
      let written : all_written told (map (batch_of_stored below) (first ∷ batches)) ≡ to_write told given =
      ap (λ (more : List Given). to_write told given ++ more) none ∙ append-nil (to_write told given) in
      let sent : AreEach (λ (g : Given). IsSent (dictionary g)) (to_write told given) values =
      subst (λ (all : List Given). AreEach (λ (g : Given). IsSent (dictionary g)) all values) written are in
      record {
        now = now;
        stands = first_stands told first values ready sent;
        extends = still_standing told given (front_kept told given others once);
        reads = columns_sent stored layout us little fields now (first ∷ batches) columns (its_first, its)
            (all_stand stored layout us little fields now [] first stand, later)
            (batches_sent (map (batch_of_stored below) (first ∷ batches)) columns they);
      }

  pub new_reads : (told : List Given) (batches : List (List Column)) (values columns : List Entry) → Each (IsBatch us layout.below) batches
      → none_replaced told (given_of_all layout.below batches) ≡ true
      → AreEach (λ (g : Given). IsSent (dictionary g)) (all_written told (map (batch_of_stored layout.below) batches)) values
      → AreEach (λ (b : Batch). IsSent (batch b)) (map (batch_of_stored layout.below) batches) columns
      → NewReads layout told batches values columns
  new_reads told [] values columns its once are they = no_batches told values columns are they
  new_reads told (first ∷ batches) values columns its once are they = some_batches told first batches values columns its.0 its.1 once are they
