-- The dictionaries that were read lead from where the reader stood to where it stands, and their number is bounded.
use Rattle.std.proofs.Common.{◌-◌, ◌<◌, length}
use Rattle.std.specs.Option.{ForSome, option_copied}
use Rattle.std.specs.Io.KnownBytes.{prepend_known}
use Rattle.ipc_format_chunk_writing.specs.ReadArrays.{standing_in}
use Rattle.ipc_format_chunk_writing.specs.grammar.Limits.{most_dictionaries}
use Rattle.ipc_format_chunk_writing.specs.messages.MessageViews.{version_view}
use Rattle.ipc_format_chunk_writing.specs.metadata.Views.{ids_views}
use Rattle.ipc_format_chunk_writing.specs.NamedValues.{AreValuesOf}
use Rattle.ipc_format_readers.proofs.Turning.{Leads}
use Rattle.ipc_format_readers.proofs.turns.take_turn.Given as goal

abbrev pub invariant-messages : goal.invariant-messages
invariant-messages g l = record {
  held : length l.standing.held.items < 4;
  known : ForSome l.known (AreValuesOf l.fields (ids_views l.ipc_schema.fields));
  leads : Leads (option_copied l.columns)
      (record { fields = l.fields; below = ids_views l.ipc_schema.fields; is_little_endian = l.ipc_schema.is_little_endian }) (version_view l.version)
      (record {
        left = prepend_known l.initial.standing.held.items (g.R.Read.remaining l.initial.device);
        standing = standing_in l.initial.standing.dictionaries;
        in_a_row = l.initial.standing.in_a_row;
      })
      (record {
        left = prepend_known l.standing.held.items (g.R.Read.remaining l.device);
        standing = standing_in l.standing.dictionaries;
        in_a_row = l.standing.in_a_row;
      });
}

abbrev pub decreases-messages : goal.decreases-messages
decreases-messages g l = most_dictionaries - l.standing.in_a_row
