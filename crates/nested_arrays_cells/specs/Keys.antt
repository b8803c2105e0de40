-- Numbers that are keys of dictionaries.
use Rattle.std.specs.Prelude.{Bool, true, false}
use Rattle.nested_arrays_builder_arrays.specs.arrays.columnar_memory.declared.PrimitiveType.{PrimitiveType}
use Rattle.nested_arrays_builder_arrays.specs.arrays.columnar_memory.declared.PrimitiveType.TheVariants as kinds

-- whether keys may be of a kind: whole numbers of at most 64 bits
abbrev pub is_key_kind : PrimitiveType → Bool
is_key_kind kinds.Int8 = true
is_key_kind kinds.Int16 = true
is_key_kind kinds.Int32 = true
is_key_kind kinds.Int64 = true
is_key_kind kinds.UInt8 = true
is_key_kind kinds.UInt16 = true
is_key_kind kinds.UInt32 = true
is_key_kind kinds.UInt64 = true
is_key_kind _ = false
