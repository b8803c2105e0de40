use Rattle.std.proofs.Common.{ap, sym}
use Rattle.nested_arrays_builders.specs.arrays.columnar_memory.declared.PrimitiveType.TheVariants as kinds
use Rattle.nested_arrays_builders.specs.arrays.columnar_memory.Conversions.{type_of_primitive}
use Rattle.nested_arrays_builders.specs.arrays.parts.Keys.{kind_of_keys}
use Rattle.nested_arrays_builder_arrays.proofs.FrozenParts.{frozen_keys}
use Rattle.nested_arrays_builder_arrays.proofs.keys.freeze_keys.Goals as goal

pub returns-in-Int8 : goal.returns-in-Int8
returns-in-Int8 c = frozen_keys c.args.key kinds.Int8 (type_of_primitive kinds.Int8) c.args.validity c.args.uses c.keys_array.result
    (sym (ap kind_of_keys c.in-Int8.is)) c.keys_array.ensures

pub returns-in-Int16 : goal.returns-in-Int16
returns-in-Int16 c = frozen_keys c.args.key kinds.Int16 (type_of_primitive kinds.Int16) c.args.validity c.args.uses c.keys_array-in-Int16.result
    (sym (ap kind_of_keys c.in-Int16.is)) c.keys_array-in-Int16.ensures

pub returns-in-Int32 : goal.returns-in-Int32
returns-in-Int32 c = frozen_keys c.args.key kinds.Int32 (type_of_primitive kinds.Int32) c.args.validity c.args.uses c.keys_array-in-Int32.result
    (sym (ap kind_of_keys c.in-Int32.is)) c.keys_array-in-Int32.ensures

pub returns-in-Int64 : goal.returns-in-Int64
returns-in-Int64 c = frozen_keys c.args.key kinds.Int64 (type_of_primitive kinds.Int64) c.args.validity c.args.uses c.keys_array-in-Int64.result
    (sym (ap kind_of_keys c.in-Int64.is)) c.keys_array-in-Int64.ensures

pub returns-in-UInt8 : goal.returns-in-UInt8
returns-in-UInt8 c = frozen_keys c.args.key kinds.UInt8 (type_of_primitive kinds.UInt8) c.args.validity c.args.uses c.keys_array-in-UInt8.result
    (sym (ap kind_of_keys c.in-UInt8.is)) c.keys_array-in-UInt8.ensures

pub returns-in-UInt16 : goal.returns-in-UInt16
returns-in-UInt16 c = frozen_keys c.args.key kinds.UInt16 (type_of_primitive kinds.UInt16) c.args.validity c.args.uses c.keys_array-in-UInt16.result
    (sym (ap kind_of_keys c.in-UInt16.is)) c.keys_array-in-UInt16.ensures

pub returns-in-UInt32 : goal.returns-in-UInt32
returns-in-UInt32 c = frozen_keys c.args.key kinds.UInt32 (type_of_primitive kinds.UInt32) c.args.validity c.args.uses c.keys_array-in-UInt32.result
    (sym (ap kind_of_keys c.in-UInt32.is)) c.keys_array-in-UInt32.ensures

pub returns-in-UInt64 : goal.returns-in-UInt64
returns-in-UInt64 c = frozen_keys c.args.key kinds.UInt64 (type_of_primitive kinds.UInt64) c.args.validity c.args.uses c.keys_array-in-UInt64.result
    (sym (ap kind_of_keys c.in-UInt64.is)) c.keys_array-in-UInt64.ensures
