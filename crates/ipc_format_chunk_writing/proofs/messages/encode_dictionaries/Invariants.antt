-- The dictionaries before a place are encoded.
use Rattle.std.proofs.Common.{◌≡◌, map, take, true}
use Rattle.std.specs.List.{list_all}
use Rattle.ipc_format_batch_reading.specs.grammar.WrittenMessages.{dictionary_message}
use Rattle.ipc_format_chunk_writing.specs.EncodedChunks.{is_given_within, messages_in}
use Rattle.ipc_format_chunk_writing.specs.Found.{given_in}
use Rattle.ipc_format_chunk_writing.proofs.messages.encode_dictionaries.Given as goal

abbrev pub invariant-loop-dictionary : goal.invariant-loop-dictionary
invariant-loop-dictionary l = record {
  encoded : messages_in l.messages.items ≡ map dictionary_message (map given_in (take l.dictionary-index l.found));
  within : list_all is_given_within (map given_in (take l.dictionary-index l.found)) ≡ true;
}
