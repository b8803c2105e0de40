use Rattle.ipc_format_laws.proofs.stream_laws.messages_read_back.Goals as goal
use Rattle.ipc_format_laws.proofs.StreamMessages as messages

pub returns : goal.returns
returns c = messages.messages_read_back
