-- Under a schema without dictionaries no batch brings one.
use Rattle.ipc_format_grammar.specs.WrittenStreams.{batch_of_slots}
use Rattle.ipc_format_laws.specs.Tables.{NoDictionariesGiven}
use Rattle.ipc_format_laws.proofs.NoDictionaries.{none_given}

pub no_dictionaries_given : NoDictionariesGiven
unfolding batch_of_slots
no_dictionaries_given schema below columns none = none_given schema.fields below columns none
