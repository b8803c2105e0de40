-- Codes of readers of streams, by which proofs tell them apart.
use Rattle.std.specs.Prelude.{ℕ, ℤ, Bool, List, Option}
use Rattle.std.proofs.Common.{refl}
use Rattle.std.specs.Coded.{Coded, code_by, coded×, coded_list, coded_option, coded_ℕ, coded_ℤ, coded_bool}
use Rattle.columnar_memory_types.specs.contracts.data_type.DataType as data_type
use Rattle.ipc_format_chunk_writing.specs.columnar_memory.declared.DataType.{DataType}
use Rattle.ipc_format_chunk_writing.specs.columns.SlotCodes.{slot_code}
use Rattle.ipc_format_chunk_writing.specs.columns.Slots.{Slot}
use Rattle.ipc_format_chunk_writing.specs.grammar.Columns.{Dictionary}
use Rattle.ipc_format_chunk_writing.specs.streams.contracts.stream_metadata.StreamMetadata as stream_metadata
use Rattle.ipc_format_chunk_writing.specs.streams.declared.stream_metadata.StreamMetadata.{StreamMetadata}
use Rattle.ipc_format_readers.specs.Hearing.{Spot}
use Rattle.ipc_format_readers.specs.Readings.{Reading}

abbrev pub dictionary_code : Coded Dictionary
dictionary_code = code_by (ℤ × (DataType × List Slot)) (coded× coded_ℤ (coded× data_type.the_row.coded (coded_list slot_code)))
    (λ d. (d.id, (d.data_type, d.slots))) (λ p. record { id = p.0; data_type = p.1.0; slots = p.1.1 }) (λ _. refl)

abbrev pub spot_code : Coded Spot
spot_code = code_by (Option (List ℕ) × (List Dictionary × ℕ))
    (coded× (coded_option (coded_list coded_ℕ)) (coded× (coded_list dictionary_code) coded_ℕ))
    (λ s. (s.left, (s.standing, s.in_a_row))) (λ p. record { left = p.0; standing = p.1.0; in_a_row = p.1.1 }) (λ _. refl)

abbrev pub reading_code : Coded Reading
reading_code = code_by (Spot × (ℕ × (StreamMetadata × (Option (List ℕ) × Bool))))
    (coded× spot_code (coded× coded_ℕ (coded× stream_metadata.the_row.coded (coded× (coded_option (coded_list coded_ℕ)) coded_bool))))
    (λ r. (r.spot, (r.failures, (r.metadata, (r.columns, r.is_finished)))))
    (λ p. record { spot = p.0; failures = p.1.0; metadata = p.1.1.0; columns = p.1.1.1.0; is_finished = p.1.1.1.1 }) (λ _. refl)
