-- The parts of a file's end.
use Rattle.std.proofs.Common.{◌≡◌, ◌∙◌, ℕ, List, ◌++◌, length, sym, ap, append_assoc, arith}
use Rattle.std.specs.Int.{w32, to_le_bytes}
use Rattle.std.proofs.lemmas.List.{append-nil}
use Rattle.ipc_format_readers.specs.chunk_writing.grammar.Files.{file_mark}
use Rattle.ipc_format_readers.specs.chunk_writing.grammar.WrittenFiles.{file_end}
use Rattle.ipc_format_readers.specs.chunk_writing.grammar.WrittenMessages.{end_mark}
use Rattle.ipc_format.specs.Ends.{end_of, end_with, end_with_zeros, file_tail, zeros_before}
use Rattle.ipc_format.specs.FilePhases.{Progress}

pub end_parts : (footer : List ℕ) → footer ++ file_tail (length footer) ≡ file_end footer
end_parts footer = sym (append_assoc footer (to_le_bytes w32 (length footer)) file_mark)

-- behind some bytes
pub parts_behind : (before footer : List ℕ) → before ++ footer ++ file_tail (length footer) ≡ before ++ file_end footer
parts_behind before footer =
    append_assoc before footer (file_tail (length footer)) ∙ ap (λ (bytes : List ℕ). before ++ bytes) (end_parts footer)

pub end_behind : (footer : List ℕ) → end_mark ++ footer ++ file_tail (length footer) ≡ end_with footer
end_behind footer = parts_behind end_mark footer

-- no zeros stand in the end of a new file
pub end_of_new : (progress : Progress) (footer : List ℕ) → progress.size ≡ 0 → end_of progress footer ≡ end_with footer
end_of_new progress footer new =
    let none : zeros_before progress footer ≡ 0 = omega (arith, new) in
    ap (λ (count : ℕ). end_with_zeros count footer) none ∙ ap (λ (bytes : List ℕ). bytes ++ file_end footer) (append-nil end_mark)
