-- A stream that begins with its schema.
use Rattle.std.proofs.Common.{◌≡◌, ℕ, true, List, []}
use Rattle.std.proofs.lemmas.Bool.{and_from}
use Rattle.ipc_format_batch_reading.specs.columnar_memory.declared.Schema.{Schema}
use Rattle.ipc_format_batch_reading.specs.grammar.Ids.{all_are_ids}
use Rattle.ipc_format_batch_reading.specs.grammar.Schemas.{IdsList}
use Rattle.ipc_format_batch_reading.specs.grammar.WrittenMessages.{Written, schema_written}
use Rattle.ipc_format_batch_reading.specs.grammar.WrittenStreams.{is_written_with}
use Rattle.ipc_format_batch_reading.specs.streams.owned.writing.Writing.{may_write}

pub written_with : (schema : Schema) (ids : IdsList) → may_write schema ids ≡ true → all_are_ids ids ≡ true → is_written_with schema ids ≡ true
written_with schema ids may are = and_from (may_write schema ids) (all_are_ids ids) may are

-- a message of some metadata and a body
abbrev message_of_parts : List ℕ → List ℕ → Written
message_of_parts metadata body = record { metadata = metadata; body = body }

-- its message has the metadata, and no body
pub schema_message : (schema : Schema) (ids : IdsList) (metadata body : List ℕ) → metadata ≡ (schema_written schema ids).metadata → body ≡ []
    → message_of_parts metadata body ≡ schema_written schema ids
unfolding schema_written
schema_message schema ids metadata body same none = λ j. message_of_parts (same j) (none j)
