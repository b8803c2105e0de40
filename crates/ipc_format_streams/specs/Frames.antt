-- How far a message reaches.
use Rattle.std.specs.Prelude.{ℕ, ◌<◌, ◌≤◌}
use Rattle.ipc_format_streams.specs.declared.frames.Frame.{Frame}
use Rattle.ipc_format_streams.specs.declared.frames.Frame.TheVariants.{Truncated, End, Metadata}
use Rattle.ipc_format_values.specs.grammar.Framing as format
use Rattle.ipc_format_values.specs.messages.MessageViews.{kind_view}
use Rattle.ipc_format_streams.specs.declared.frames.Framed.{Framed}
use Rattle.ipc_format_streams.specs.declared.frames.NextMessage.{NextMessage}
use Rattle.ipc_format_streams.specs.declared.frames.NextMessage.TheVariants as messages

-- a message's body begins behind a place, within the input
abbrev pub ReachesFrom : ℕ → ℕ → Frame → Type 0
ReachesFrom place size Truncated = Unit {0}
ReachesFrom place size End = Unit {0}
ReachesFrom place size (Metadata metadata body) = (place < body) × (body ≤ size)

-- what stands at a message's place, as the definition has it
abbrev pub frame_view : Frame → format.Frame
frame_view Truncated = format.truncated
frame_view End = format.end_mark
frame_view (Metadata metadata body) = format.metadata_then metadata.now body

-- the next message stands behind a place, within the input
abbrev pub ReachesBehind : ℕ → ℕ → NextMessage → Type 0
ReachesBehind place size messages.Truncated = Unit {0}
ReachesBehind place size messages.End = Unit {0}
ReachesBehind place size (messages.Message framed after) = (place < after) × (after ≤ size)

-- a message, and where the next one stands, as the definition has them
abbrev pub framed_view : Framed × ℕ → format.Framed × ℕ
framed_view found = (record { metadata = found.0.metadata.now; header = kind_view found.0.header; body = found.0.body.now }, found.1)

-- what stands at a place, as the definition has it
abbrev pub next_view : NextMessage → format.Next
next_view messages.Truncated = format.nothing_whole
next_view messages.End = format.at_end
next_view (messages.Message framed after) =
    format.message_then (record { metadata = framed.metadata.now; header = kind_view framed.header; body = framed.body.now }) after
