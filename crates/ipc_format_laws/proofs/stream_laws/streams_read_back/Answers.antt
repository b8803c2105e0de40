use Rattle.ipc_format_laws.proofs.stream_laws.streams_read_back.Goals as goal
use Rattle.ipc_format_laws.proofs.StreamContents as contents

pub returns : goal.returns
returns c = contents.streams_read_back
