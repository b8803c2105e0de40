-- Whole numbers of a width, as ids, places and keys are written, give themselves back (Arrow columnar format, "Fixed-size Primitive Layout").
use Rattle.std.proofs.Common.{◌≡◌, ◌∙◌, ℕ, ◌-◌, ◌*◌, ◌<◌, ◌^◌, ℤ, pos, negsuc, true, List, [], ◌∷◌, length, get_or, refl, ap, subst}
use Rattle.std.proofs.Common.{FitsSigned}
use Rattle.std.specs.List.{list_all}
use Rattle.std.specs.Int.{Width, w8, w16, w32, w64, byte_len, to_le_bytes, cast_unsigned, FitsUnsignedBits}
use mir.Val.{bits, hbits}
use Rattle.std.proofs.lemmas.Bool.{ltb-true}
use Rattle.ipc_format_laws.proofs.flatbuffers_lemmas.Numbers.{length-to_le_bytes}
use Rattle.ipc_format_laws.specs.columnar_memory.declared.IntegerType.{IntegerType}
use Rattle.ipc_format_laws.specs.columnar_memory.declared.IntegerType.TheVariants as integers
use Rattle.ipc_format_laws.specs.columnar_memory.NumberLaws.{signed_in-number_bytes, unsigned_in-number_bytes}
use Rattle.ipc_format_laws.specs.columns.Kinds.{is_signed, is_unsigned, is_key}
use Rattle.ipc_format_laws.specs.grammar.Values.{signed_of, unsigned_of, element_bytes, key_at, key_size}
use Rattle.ipc_format_laws.specs.grammar.Buffers.{key_width}
use Rattle.ipc_format_laws.specs.grammar.StoredEncoding.{integer_bytes}
use Rattle.ipc_format_laws.proofs.Elements.{passes_at, element_back, elements_size}

-- ---- ranges

pub signed_fits : (w : Width) (width : ℕ) → width - 1 ≡ hbits w → (n : ℤ) → is_signed width n ≡ true → FitsSigned w n
signed_fits w width e (pos n) h = record { sfits = subst (λ (k : ℕ). n < 2 ^ k) e (ltb-true n (2 ^ (width - 1)) h) }
signed_fits w width e (negsuc n) h = record { sfits = subst (λ (k : ℕ). n < 2 ^ k) e (ltb-true n (2 ^ (width - 1)) h) }

pub unsigned_fits : (width : ℕ) (n : ℤ) → is_unsigned width n ≡ true → FitsUnsignedBits width n
unsigned_fits width (pos n) h = ltb-true n (2 ^ width) h
unsigned_fits width (negsuc n) h = absurd cc

-- ---- integers

all_any : (values : List ℤ) → list_all (λ (n : ℤ). true) values ≡ true
all_any [] = refl
all_any (n ∷ values) = all_any values

-- how many bytes
pub integers_size : (w : Width) (values : List ℤ) → length values * byte_len w ≡ length (integer_bytes true w values)
integers_size w values =
    elements_size (λ n. to_le_bytes w (cast_unsigned w n)) (byte_len w) (λ n. true) (λ n h. length-to_le_bytes w (cast_unsigned w n)) values
    (all_any values)

-- the bytes of number i
pub integer_element : (w : Width) (values : List ℤ) (i : ℕ) → i < length values
    → element_bytes (byte_len w) (integer_bytes true w values) i ≡ to_le_bytes w (cast_unsigned w (get_or values i (pos 0)))
integer_element w values i inside =
    element_back (λ n. to_le_bytes w (cast_unsigned w n)) (byte_len w) (λ n. true) (λ n h. length-to_le_bytes w (cast_unsigned w n)) values i
    (pos 0) (all_any values) inside

-- number i, of so many bits with a sign
pub signed_back : (w : Width) (width : ℕ) → width - 1 ≡ hbits w → (values : List ℤ) (i : ℕ) → list_all (is_signed width) values ≡ true
    → i < length values → signed_of true w (element_bytes (byte_len w) (integer_bytes true w values) i) ≡ get_or values i (pos 0)
signed_back w width e values i fit inside =
    ap (signed_of true w) (integer_element w values i inside)
    ∙ signed_in-number_bytes true w (get_or values i (pos 0))
    (signed_fits w width e (get_or values i (pos 0)) (passes_at (is_signed width) values i (pos 0) fit inside))

-- number i, of so many bits without a sign
pub unsigned_back : (w : Width) (values : List ℤ) (i : ℕ) → list_all (is_unsigned (bits w)) values ≡ true → i < length values
    → pos (unsigned_of true w (element_bytes (byte_len w) (integer_bytes true w values) i)) ≡ get_or values i (pos 0)
unsigned_back w values i fit inside =
    ap (λ bytes. pos (unsigned_of true w bytes)) (integer_element w values i inside)
    ∙ unsigned_in-number_bytes true w (get_or values i (pos 0))
    (unsigned_fits (bits w) (get_or values i (pos 0)) (passes_at (is_unsigned (bits w)) values i (pos 0) fit inside))

-- the ids of a union's slots, and their places in its children
pub id_back : (values : List ℤ) (i : ℕ) → list_all (is_signed 8) values ≡ true → i < length values
    → signed_of true w8 (element_bytes 1 (integer_bytes true w8 values) i) ≡ get_or values i (pos 0)
id_back values i fit inside = signed_back w8 8 refl values i fit inside

pub place_back : (values : List ℤ) (i : ℕ) → list_all (is_signed 32) values ≡ true → i < length values
    → signed_of true w32 (element_bytes 4 (integer_bytes true w32 values) i) ≡ get_or values i (pos 0)
place_back values i fit inside = signed_back w32 32 refl values i fit inside

-- ---- keys

pub keys_size : (key : IntegerType) (keys : List ℤ) → length keys * key_size key ≡ length (integer_bytes true (key_width key) keys)
keys_size integers.Int8 keys = integers_size w8 keys
keys_size integers.Int16 keys = integers_size w16 keys
keys_size integers.Int32 keys = integers_size w32 keys
keys_size integers.Int64 keys = integers_size w64 keys
keys_size integers.UInt8 keys = integers_size w8 keys
keys_size integers.UInt16 keys = integers_size w16 keys
keys_size integers.UInt32 keys = integers_size w32 keys
keys_size integers.UInt64 keys = integers_size w64 keys

-- key i of an integer type
pub key_back : (key : IntegerType) (keys : List ℤ) (i : ℕ) → list_all (is_key key) keys ≡ true → i < length keys
    → key_at key true (integer_bytes true (key_width key) keys) i ≡ get_or keys i (pos 0)
key_back integers.Int8 keys i fit inside = signed_back w8 8 refl keys i fit inside
key_back integers.Int16 keys i fit inside = signed_back w16 16 refl keys i fit inside
key_back integers.Int32 keys i fit inside = signed_back w32 32 refl keys i fit inside
key_back integers.Int64 keys i fit inside = signed_back w64 64 refl keys i fit inside
key_back integers.UInt8 keys i fit inside = unsigned_back w8 keys i fit inside
key_back integers.UInt16 keys i fit inside = unsigned_back w16 keys i fit inside
key_back integers.UInt32 keys i fit inside = unsigned_back w32 keys i fit inside
key_back integers.UInt64 keys i fit inside = unsigned_back w64 keys i fit inside
