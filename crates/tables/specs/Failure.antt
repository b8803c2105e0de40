-- The lines of the program's failures.
use Rattle.std.specs.Prelude.{ℕ, List, ◌++◌, codes}
use Rattle.tables_rows.specs.chunks.Texts.{text_of}
use Rattle.tables.specs.declared.program.Failure.{Failure}
use Rattle.tables.specs.declared.program.Failure.TheVariants.{Fault, UnreadableInput, UnwritableOutput, RangeOutsideRows, SchemasDiffer, RepeatedColumn}

-- a failure in words
abbrev pub failure_text : Failure → List ℕ
failure_text (Fault fault) = text_of fault
failure_text UnreadableInput = codes "cannot read the input"
failure_text UnwritableOutput = codes "cannot write the output"
failure_text RangeOutsideRows = codes "range outside the rows"
failure_text SchemasDiffer = codes "schemas differ"
failure_text RepeatedColumn = codes "column named twice"

-- the line that tells a failure
abbrev pub failure_line : Failure → List ℕ
failure_line failure = codes "tables: " ++ failure_text failure ++ codes "\n"

-- the line that tells how the program is called
abbrev pub usage_line : List ℕ
usage_line = codes "usage: tables seal|same|pick|cut|join\n"

-- the line that the program writes of a failure; a column named twice is a misuse of it
abbrev pub line_of : Failure → List ℕ
line_of RepeatedColumn = usage_line
line_of failure = failure_line failure
