-- A message that is compressed, or that adds to an earlier dictionary.
use Rattle.std.proofs.Common.{◌≡◌, ℕ, true, List, refl, sym, subst, inl}
use Rattle.std.specs.Prelude.{Some, IsSome, ◌⊎◌}
use Rattle.ipc_format.specs.DictionaryReads.{is_unread}
use Rattle.ipc_format.specs.FlatBuffers.{TablePlace}
use Rattle.ipc_format.specs.Framing.{Framed, message_then, next_at}
use Rattle.ipc_format.specs.Messages.{Header, record_batch, dictionary_batch}
use Rattle.ipc_format.specs.Messages.{dictionary_batch_in}
use Rattle.ipc_format.specs.Refusals.{compression_in, is_delta}
use Rattle.ipc_format.specs.streams.Queues.{is_compressed}
use Rattle.ipc_format.specs.Behind.{IsUnreadThere}
use Rattle.ipc_format.proofs.UnreadBlocks.{compressed, either_by}

pub batch_unread : (bytes : List ℕ) (place after : ℕ) (framed : Framed) (table : TablePlace) → next_at bytes place ≡ Some (message_then framed after)
    → framed.header ≡ record_batch table → is_compressed framed.metadata table ≡ true → IsUnreadThere (next_at bytes place)
batch_unread bytes place after framed table there is unread =
    rw there (inl (subst (λ (h : Header). IsSome (compression_in (framed.metadata, h))) (sym is) (compressed framed.metadata table unread)))

pub dictionary_unread : (bytes : List ℕ) (place after : ℕ) (framed : Framed) (table : TablePlace)
    → next_at bytes place ≡ Some (message_then framed after) → framed.header ≡ dictionary_batch table → is_unread framed.metadata table ≡ true
    → IsUnreadThere (next_at bytes place)
dictionary_unread bytes place after framed table there is unread =
    rw there (subst (λ (h : Header). IsSome (compression_in (framed.metadata, h)) ⊎ (is_delta framed.metadata h ≡ Some true)) (sym is)
    (either_by framed.metadata table (dictionary_batch_in framed.metadata table) refl unread))
