-- Batches that stand one behind the other behind what was written of a file.
use Rattle.std.proofs.Common.{◌≡◌, ◌∙◌, ℕ, List, [], ◌∷◌, ◌++◌, refl, sym, ap, subst, append_assoc}
use Rattle.std.proofs.Math.Nat.{add-zero}
use Rattle.std.proofs.lemmas.Grind.{flat_map-append}
use Rattle.std.proofs.lemmas.List.{append-nil}
use Rattle.ipc_format_readers.specs.chunk_writing.Tracking.{Tells}
use Rattle.ipc_format_readers.specs.chunk_writing.grammar.GivenDictionaries.{Given, written_after}
use Rattle.ipc_format_readers.specs.chunk_writing.grammar.WrittenFiles.{batch_blocks}
use Rattle.ipc_format_readers.specs.chunk_writing.grammar.WrittenMessages.{Written, message_bytes}
use Rattle.ipc_format_readers.specs.chunk_writing.grammar.WrittenStreams.{Batch, batch_messages, bytes_of_messages, messages_after}
use Rattle.ipc_format.specs.Adding.{IsBehind}
use Rattle.ipc_format.specs.Growing.{StandBehind}
use Rattle.ipc_format.specs.FilePhases.{Progress}
use Rattle.ipc_format.specs.BlockPlacing.{joined_blocks, place_behind}
use Rattle.ipc_format.specs.FileRuns.{told_with}
use Rattle.ipc_format.proofs.FilePlaced.{place_both}
use Rattle.ipc_format.proofs.FileRunBytes.{blocks_more, joined_thrice, messages_more, told_more}

-- ---- messages

-- the messages of batches, and those of others behind them
pub messages_both : (told : List Given) (batches others : List Batch)
    → messages_after told (batches ++ others) ≡ messages_after told batches ++ messages_after (told_with told batches) others
messages_both told [] others = refl
messages_both told (first ∷ batches) others =
    let later = written_after told first.given in
    ap (λ (messages : List Written). batch_messages told first ++ messages) (messages_both later batches others)
    ∙ sym (append_assoc (batch_messages told first) (messages_after later batches) (messages_after (told_with later batches) others))

pub bytes_with : (told : List Given) (batches : List Batch) (batch : Batch)
    → bytes_of_messages (messages_after told (batches ++ batch ∷ []))
    ≡ bytes_of_messages (messages_after told batches) ++ bytes_of_messages (batch_messages (told_with told batches) batch)
bytes_with told batches batch =
    ap bytes_of_messages (messages_more told batches batch)
    ∙ flat_map-append message_bytes (messages_after told batches) (batch_messages (told_with told batches) batch)

-- ---- batches

pub none_stand : (before : Progress) (told : List Given) → Tells before.told told → StandBehind before before told []
none_stand before told tells = record {
  tells = tells;
  place = sym (add-zero before.place);
  size = refl;
  blocks = sym (λ j. record {
    dictionaries = append-nil before.blocks.dictionaries j;
    record_batches = append-nil before.blocks.record_batches j;
  });
}

-- one batch more behind those that stand: the place behind it, and the blocks
module _ (before now : Progress) (told : List Given) (batches : List Batch) (batch : Batch) (stand : StandBehind before now told batches) where
  pub place_with : place_behind now.place (batch_messages (told_with told batches) batch)
      ≡ place_behind before.place (messages_after told (batches ++ batch ∷ []))
  place_with =
      let next = batch_messages (told_with told batches) batch in
      ap (λ (place : ℕ). place_behind place next) stand.place
      ∙ sym (place_both before.place (messages_after told batches) next)
      ∙ ap (place_behind before.place) (sym (messages_more told batches batch))

  pub blocks_with : joined_blocks now.blocks (batch_blocks now.place (told_with told batches) (batch ∷ []))
      ≡ joined_blocks before.blocks (batch_blocks before.place told (batches ++ batch ∷ []))
  blocks_with =
      let next = λ (place : ℕ). batch_blocks place (told_with told batches) (batch ∷ []) in
      (λ j. joined_blocks (stand.blocks j) (next (stand.place j)))
      ∙ joined_thrice before.blocks (batch_blocks before.place told batches) (next (place_behind before.place (messages_after told batches)))
      ∙ ap (joined_blocks before.blocks) (sym (blocks_more before.place told batches batch))

  pub one_stands : (after : Progress) → IsBehind now after (told_with told batches) batch → StandBehind before after told (batches ++ batch ∷ [])
  one_stands after behind = record {
    tells = subst (λ (them : List Given). Tells after.told them) (sym (told_more told batches batch)) behind.tells;
    place = behind.place ∙ place_with;
    size = behind.size ∙ stand.size;
    blocks = behind.blocks ∙ blocks_with;
  }
