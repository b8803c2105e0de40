-- What is read beside a field's type, as the definitions have it.
use Rattle.ipc_format_grammar.specs.Schemas as format
use Rattle.ipc_format_metadata.specs.Parts as parts
use Rattle.ipc_format_metadata.specs.declared.pairs.Encoding.{Encoding}
use Rattle.ipc_format_metadata.specs.declared.pairs.Encoded.{Encoded}

abbrev pub encoding_view : Encoding → parts.Encoding
encoding_view encoding = record { id = encoding.id; keys = encoding.keys; is_ordered = encoding.is_ordered }

abbrev pub encoded_view : Encoded → format.EncodedType
encoded_view encoded = record { data_type = encoded.data_type; id = encoded.id }
