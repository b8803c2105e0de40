-- Codes of writers and of how far their streams are, by which proofs tell them apart.
use Rattle.std.specs.Prelude.{ℕ, zero, suc, ℤ, List, Option, Some, None}
use Rattle.std.proofs.Common.{◌≡◌, refl}
use Rattle.std.specs.Coded.{Coded, code_by, coded×, coded_list, coded_option, coded_ℕ, coded_ℤ}
use Rattle.columnar_memory_types.specs.contracts.schema.Schema as schema_row
use Rattle.ipc_format_batch_reading.specs.columnar_memory.declared.Schema.{Schema}
use Rattle.ipc_format_batch_reading.specs.columns.ColumnCodes.{column_code}
use Rattle.ipc_format_batch_reading.specs.columns.StoredColumns.{Column}
use Rattle.ipc_format_batch_reading.specs.reading.array_reading.column_writing.declared.Compression.{Compression}
use Rattle.ipc_format_batch_reading.specs.reading.array_reading.column_writing.declared.Compression.TheVariants as compressions
use Rattle.ipc_format_batch_reading.specs.metadata.contracts.ipc_schema.IpcField as field_row
use Rattle.ipc_format_batch_reading.specs.metadata.declared.ipc_schema.IpcField.{IpcField}
use Rattle.ipc_format_chunk_writing.specs.Phases.{Phase, fresh, started, finished, broken, Writer}

abbrev pub PhaseParts : Type 0
PhaseParts = ℕ × Option (Schema × (List IpcField × List (ℤ × Column)))

abbrev pub phase_parts : Phase → PhaseParts
phase_parts fresh = (0, None)
phase_parts (started schema fields told) = (0, Some (schema, (fields, told)))
phase_parts finished = (1, None)
phase_parts broken = (2, None)

abbrev pub phase_from : PhaseParts → Phase
phase_from (n, Some parts) = started parts.0 parts.1.0 parts.1.1
phase_from (zero, None) = fresh
phase_from (suc zero, None) = finished
phase_from (suc (suc n), None) = broken

pub phase_again : (phase : Phase) → phase_from (phase_parts phase) ≡ phase
phase_again fresh = refl
phase_again (started schema fields told) = refl
phase_again finished = refl
phase_again broken = refl

abbrev pub phase_code : Coded Phase
phase_code = code_by PhaseParts (coded× coded_ℕ (coded_option (coded× schema_row.the_row.coded
    (coded× (coded_list field_row.the_row.coded) (coded_list (coded× coded_ℤ column_code)))))) phase_parts phase_from phase_again

abbrev pub compression_number : Option Compression → ℕ
compression_number None = 0
compression_number (Some compressions.LZ4) = 1
compression_number (Some compressions.ZSTD) = 2

abbrev pub compression_from : ℕ → Option Compression
compression_from zero = None
compression_from (suc zero) = Some compressions.LZ4
compression_from (suc (suc n)) = Some compressions.ZSTD

pub compression_again : (compression : Option Compression) → compression_from (compression_number compression) ≡ compression
compression_again None = refl
compression_again (Some compressions.LZ4) = refl
compression_again (Some compressions.ZSTD) = refl

abbrev pub compression_code : Coded (Option Compression)
compression_code = code_by ℕ coded_ℕ compression_number compression_from compression_again

abbrev pub writer_code : {W : Type 0} → Coded W → Coded (Writer W)
writer_code device = code_by (_ × (Option Compression × Phase)) (coded× device (coded× compression_code phase_code))
    (λ w. (w.device, (w.compression, w.phase))) (λ p. record { device = p.0; compression = p.1.0; phase = p.1.1 }) (λ _. refl)
