-- The two forms of Arrow's bytes, as the program tells them apart (Arrow IPC, "IPC File Format").
use Rattle.std.specs.Prelude.{ℕ, List, codes, nat_eq, if◌then◌else◌}
use Rattle.std.specs.List.{starts_with}
use Rattle.tables_rows.specs.chunks.declared.read.Form.{Form}
use Rattle.tables_rows.specs.chunks.declared.read.Form.TheVariants as forms

-- bytes that begin with the mark of a file are one, and all others are taken for a stream
abbrev pub form_in : List ℕ → Form
form_in bytes = if starts_with nat_eq bytes (codes "ARROW1") then forms.File else forms.Stream
