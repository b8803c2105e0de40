-- Dictionaries of nulls, by their arrays of keys.
use Rattle.std.proofs.Common.{◌≡◌, ◌∙◌, refl, sym, ap, ℕ, List}
use Rattle.std.specs.Prelude.{ℤ, pos, replicate}
use Rattle.nested_arrays_iterators.specs.columnar_memory.Numbers.{Numbers, one, first_number, zeros}
use Rattle.nested_arrays_iterators.specs.columnar_memory.declared.DataType.{DataType}
use Rattle.nested_arrays_iterators.specs.columnar_memory.declared.IntegerType.{IntegerType}
use Rattle.nested_arrays_iterators.specs.columnar_memory.declared.IntegerType.TheVariants as integers
use Rattle.nested_arrays_iterators.specs.columnar_memory.declared.PrimitiveType.{PrimitiveType}
use Rattle.nested_arrays_iterators.specs.flat_arrays.Flat as arrays
use Rattle.nested_arrays_iterators.specs.flat_arrays.Flat.{Flat}
use Rattle.nested_arrays_iterators.specs.flat_arrays.Results.{ForZero}
use Rattle.nested_arrays_iterators.specs.columns.StoredColumns.{Column, dictionary}
use Rattle.nested_arrays_iterators.specs.generic.Dictionaries.{keyed_by}
use Rattle.nested_arrays_iterators.specs.parts.Keys.{kind_of_keys}
use Rattle.nested_arrays_nulls.proofs.FlatNulls.{map_replicate}
use Rattle.nested_arrays_nulls.specs.NullColumns.{no_marks}

zero_key : (key : IntegerType) → zeros (kind_of_keys key) ≡ one (pos 0)
zero_key integers.Int8 = refl
zero_key integers.Int16 = refl
zero_key integers.Int32 = refl
zero_key integers.Int64 = refl
zero_key integers.UInt8 = refl
zero_key integers.UInt16 = refl
zero_key integers.UInt32 = refl
zero_key integers.UInt64 = refl

pub zeros_keyed : {K : Type 0} (key : IntegerType) (kind : PrimitiveType) (numbers : K → Numbers) (value : K → ℤ) (t keys_type : DataType) (n : ℕ)
    (keys : Flat K) (values : Column) → kind ≡ kind_of_keys key → ((x : K) → numbers x ≡ one (value x))
    → ForZero numbers kind (λ x. keys ≡ arrays.nulls keys_type x n)
    → keyed_by value t keys values ≡ dictionary t (no_marks n) (replicate n (pos 0)) values
zeros_keyed key kind numbers value t keys_type n keys values kept law h =
    let zeroed : one (value h.0) ≡ one (pos 0) = sym (law h.0) ∙ h.1 ∙ ap zeros kept ∙ zero_key key in
    ap (λ (k : Flat _). keyed_by value t k values) h.2
    ∙ ap (λ (numbers : List ℤ). dictionary t (no_marks n) numbers values)
    (map_replicate value n h.0 ∙ ap (λ (number : ℤ). replicate n number) (ap first_number zeroed))
