-- Codes of readers of files, by which proofs tell them apart.
use Rattle.std.specs.Prelude.{ℕ, ℤ, List, Option}
use Rattle.std.proofs.Common.{refl}
use Rattle.std.specs.Coded.{Coded, code_by, coded×, coded_list, coded_option, coded_ℕ}
use Rattle.ipc_format_readers.specs.ReadingCodes.{dictionary_code}
use Rattle.ipc_format_chunk_writing.specs.grammar.Columns.{Dictionary}
use Rattle.ipc_format_readers.specs.FileReadings.{FileReading}
use Rattle.ipc_format_readers.specs.contracts.file_metadata.FileMetadata as file_metadata
use Rattle.ipc_format_readers.specs.declared.file_metadata.FileMetadata.{FileMetadata}

abbrev pub file_reading_code : {R : Type 0} → Coded R → Coded (FileReading R)
file_reading_code {R} room = code_by (R × (FileMetadata × (Option (List ℕ) × (Option ℕ × (Option (List Dictionary) × ℕ)))))
    (coded× room (coded× file_metadata.the_row.coded (coded× (coded_option (coded_list coded_ℕ)) (coded× (coded_option coded_ℕ)
    (coded× (coded_option (coded_list dictionary_code)) coded_ℕ)))))
    (λ r. (r.room, (r.metadata, (r.columns, (r.limit, (r.standing, r.next))))))
    (λ p. record { room = p.0; metadata = p.1.0; columns = p.1.1.0; limit = p.1.1.1.0; standing = p.1.1.1.1.0; next = p.1.1.1.1.1 }) (λ _. refl)
