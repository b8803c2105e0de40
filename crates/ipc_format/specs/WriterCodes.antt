-- Codes of writers and of how far their files are, by which proofs tell them apart.
use Rattle.std.specs.Prelude.{ℕ, zero, suc, ℤ, List, Option, Some, None}
use Rattle.std.proofs.Common.{◌≡◌, refl}
use Rattle.std.specs.Coded.{Coded, code_by, coded×, coded_list, coded_option, coded_ℕ, coded_ℤ}
use Rattle.columnar_memory_types.specs.contracts.schema.Schema as schema_row
use Rattle.ipc_format_readers.specs.chunk_writing.WriterCodes.{compression_code}
use Rattle.ipc_format_readers.specs.chunk_writing.columnar_memory.declared.Schema.{Schema}
use Rattle.ipc_format_readers.specs.chunk_writing.columns.ColumnCodes.{column_code}
use Rattle.ipc_format_readers.specs.chunk_writing.columns.StoredColumns.{Column}
use Rattle.ipc_format_readers.specs.chunk_writing.declared.Compression.{Compression}
use Rattle.ipc_format_readers.specs.chunk_writing.grammar.WrittenFiles.{WrittenBlock, Blocks}
use Rattle.ipc_format_readers.specs.chunk_writing.metadata.contracts.ipc_schema.IpcField as field_row
use Rattle.ipc_format_readers.specs.chunk_writing.metadata.declared.ipc_schema.IpcField.{IpcField}
use Rattle.ipc_format.specs.FilePhases.{Phase, Progress, Writer, broken, finished, fresh, started}

abbrev pub block_code : Coded WrittenBlock
block_code = code_by (ℕ × (ℕ × ℕ)) (coded× coded_ℕ (coded× coded_ℕ coded_ℕ)) (λ b. (b.offset, (b.metadata_length, b.body_length)))
    (λ p. record { offset = p.0; metadata_length = p.1.0; body_length = p.1.1 }) (λ _. refl)

abbrev pub blocks_code : Coded Blocks
blocks_code = code_by (List WrittenBlock × List WrittenBlock) (coded× (coded_list block_code) (coded_list block_code))
    (λ b. (b.dictionaries, b.record_batches))
    (λ p. record { dictionaries = p.0; record_batches = p.1 }) (λ _. refl)

abbrev pub progress_code : Coded Progress
progress_code = code_by (List (ℤ × Column) × (ℕ × (ℕ × Blocks)))
    (coded× (coded_list (coded× coded_ℤ column_code)) (coded× coded_ℕ (coded× coded_ℕ blocks_code)))
    (λ it. (it.told, (it.place, (it.size, it.blocks))))
    (λ p. record { told = p.0; place = p.1.0; size = p.1.1.0; blocks = p.1.1.1 }) (λ _. refl)

abbrev pub phase_parts : Phase → ℕ × Option Progress
phase_parts fresh = (0, None)
phase_parts (started progress) = (0, Some progress)
phase_parts finished = (1, None)
phase_parts broken = (2, None)

abbrev pub phase_from : ℕ × Option Progress → Phase
phase_from (n, Some progress) = started progress
phase_from (zero, None) = fresh
phase_from (suc zero, None) = finished
phase_from (suc (suc n), None) = broken

pub phase_again : (phase : Phase) → phase_from (phase_parts phase) ≡ phase
phase_again fresh = refl
phase_again (started progress) = refl
phase_again finished = refl
phase_again broken = refl

abbrev pub phase_code : Coded Phase
phase_code = code_by (ℕ × Option Progress) (coded× coded_ℕ (coded_option progress_code)) phase_parts phase_from phase_again

abbrev pub writer_code : {W : Type 0} → Coded W → Coded (Writer W)
writer_code device = code_by (_ × (Schema × (List IpcField × (Option Compression × Phase))))
    (coded× device (coded× schema_row.the_row.coded (coded× (coded_list field_row.the_row.coded)
    (coded× compression_code phase_code))))
    (λ w. (w.device, (w.schema, (w.ids, (w.compression, w.phase)))))
    (λ p. record { device = p.0; schema = p.1.0; ids = p.1.1.0; compression = p.1.1.1.0; phase = p.1.1.1.1 }) (λ _. refl)
