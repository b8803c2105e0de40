-- The names of the kinds of broken rules.
use Rattle.std.specs.Prelude.{◌≡◌, ℕ, List, codes}
use Rattle.ipc_format_grammar.specs.columnar_memory.declared.Error.{Error}
use Rattle.ipc_format_grammar.specs.columnar_memory.declared.Error.TheVariants.{OutOfSpec}
use Rattle.ipc_format_metadata.specs.declared.out_of_spec.OutOfSpecKind.{OutOfSpecKind}
use Rattle.ipc_format_metadata.specs.declared.out_of_spec.OutOfSpecKind.TheVariants as kinds

abbrev pub name_of : OutOfSpecKind → List ℕ
name_of kinds.InvalidHeader = codes "InvalidHeader"
name_of kinds.InvalidFooter = codes "InvalidFooter"
name_of kinds.NegativeFooterLength = codes "NegativeFooterLength"
name_of (kinds.InvalidFlatbufferFooter a) = codes "InvalidFlatbufferFooter"
name_of kinds.MissingRecordBatches = codes "MissingRecordBatches"
name_of (kinds.InvalidFlatbufferRecordBatches a) = codes "InvalidFlatbufferRecordBatches"
name_of kinds.MissingSchema = codes "MissingSchema"
name_of (kinds.InvalidFlatbufferSchema a) = codes "InvalidFlatbufferSchema"
name_of kinds.MissingFields = codes "MissingFields"
name_of (kinds.InvalidFlatbufferDictionaries a) = codes "InvalidFlatbufferDictionaries"
name_of (kinds.InvalidFlatbufferBlock a) = codes "InvalidFlatbufferBlock"
name_of (kinds.InvalidFlatbufferMessage a) = codes "InvalidFlatbufferMessage"
name_of kinds.MissingMessageHeader = codes "MissingMessageHeader"
name_of (kinds.InvalidFlatbufferHeader a) = codes "InvalidFlatbufferHeader"
name_of kinds.UnexpectedNegativeInteger = codes "UnexpectedNegativeInteger"
name_of kinds.UnexpectedMessageType = codes "UnexpectedMessageType"
name_of kinds.MissingMessageBuffers = codes "MissingMessageBuffers"
name_of (kinds.InvalidFlatbufferBuffers a) = codes "InvalidFlatbufferBuffers"
name_of kinds.MissingMessageNodes = codes "MissingMessageNodes"
name_of (kinds.InvalidFlatbufferNodes a) = codes "InvalidFlatbufferNodes"
name_of (kinds.InvalidFlatbufferBodyLength a) = codes "InvalidFlatbufferBodyLength"
name_of kinds.MissingData = codes "MissingData"
name_of (kinds.InvalidFlatbufferData a) = codes "InvalidFlatbufferData"
name_of (kinds.InvalidFlatbufferVersion a) = codes "InvalidFlatbufferVersion"
name_of (kinds.InvalidFlatbufferCompression a) = codes "InvalidFlatbufferCompression"
name_of kinds.ExpectedBuffer = codes "ExpectedBuffer"
name_of (kinds.InvalidBuffer a b c d) = codes "InvalidBuffer"
name_of (kinds.InvalidBuffersLength a b) = codes "InvalidBuffersLength"
name_of (kinds.InvalidBitmap a b) = codes "InvalidBitmap"
name_of (kinds.InvalidFlatbufferIsDelta a) = codes "InvalidFlatbufferIsDelta"
name_of (kinds.InvalidFlatbufferId a) = codes "InvalidFlatbufferId"
name_of (kinds.InvalidId a) = codes "InvalidId"
name_of (kinds.InvalidIdDataType a) = codes "InvalidIdDataType"
name_of kinds.InvalidDataType = codes "InvalidDataType"

-- an error that says a rule's name
abbrev pub IsNamed : List ℕ → Error → Type 0
IsNamed name (OutOfSpec text) = text.now ≡ name
IsNamed name _ = ⊥

abbrev pub IsOutOfSpecBy : OutOfSpecKind → Error → Type 0
IsOutOfSpecBy kind error = IsNamed (name_of kind) error
