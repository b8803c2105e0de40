-- Definitions of the packages below that attributes name.
unfoldable pub use Rattle.ipc_format_chunk_writing.specs.grammar.Files.{block_at, header_in}
unfoldable pub use Rattle.ipc_format_chunk_writing.specs.grammar.Framing.{first_of, frame_at}
