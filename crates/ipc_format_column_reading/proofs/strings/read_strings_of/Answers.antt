-- Where the type is of the kind, what is read is what the call answers.
use Rattle.std.proofs.Common.{inl}
use Rattle.ipc_format_column_reading.proofs.strings.read_strings_of.Goals as goal

pub returns-clause-read : goal.returns-clause-read
returns-clause-read g c =
    inl (
      c.in_ok-refuse_other.ensures,
      c.read_strings.ensures.read,
      c.read_strings.ensures.nodes,
      c.read_strings.ensures.buffers,
    )
