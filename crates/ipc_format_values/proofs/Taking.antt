-- What is taken is what its view says.
use Rattle.std.proofs.Common.{◌≡◌, refl}
use Rattle.ipc_format_writing.specs.messages.MessageViews.{version_view}
use Rattle.ipc_format_writing.specs.messages.SchemaRefs.{is_little}
use Rattle.ipc_format_writing.specs.messages.TypeRefs.{is_day}
use Rattle.ipc_format_writing.specs.messages.declared.DateUnit.{DateUnit}
use Rattle.ipc_format_writing.specs.messages.declared.DateUnit.TheVariants.{Day, Millisecond}
use Rattle.ipc_format_writing.specs.messages.declared.Endianness.{Endianness}
use Rattle.ipc_format_writing.specs.messages.declared.Endianness.TheVariants.{Little, Big}
use Rattle.ipc_format_writing.specs.messages.declared.MetadataVersion.{MetadataVersion}
use Rattle.ipc_format_writing.specs.messages.declared.MetadataVersion.TheVariants.{V1, V2, V3, V4, V5}
use Rattle.ipc_format_values.specs.Owned.{date_unit_of}
use Rattle.ipc_format_values.specs.OwnedFields.{order_of}
use Rattle.ipc_format_values.specs.OwnedMessages.{version_of}

pub date_unit_is : (unit : DateUnit) → date_unit_of (is_day unit) ≡ unit
date_unit_is Day = refl
date_unit_is Millisecond = refl

pub order_is : (order : Endianness) → order_of (is_little order) ≡ order
order_is Little = refl
order_is Big = refl

pub version_is : (version : MetadataVersion) → version_of (version_view version) ≡ version
version_is V1 = refl
version_is V2 = refl
version_is V3 = refl
version_is V4 = refl
version_is V5 = refl
