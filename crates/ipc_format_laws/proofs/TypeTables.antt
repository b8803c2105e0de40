-- What the tables of types give back.
use Rattle.std.proofs.Common.{to_z-of_z, get_or, ◌≡◌, ℕ, suc, ◌+◌, ◌*◌, ◌<◌, ◌^◌, ℤ, pos, Bool, true, false, List, [], ◌∷◌, length, refl, ap, ◌∙◌}
use Rattle.std.proofs.Common.{arith}
use Rattle.std.specs.Prelude.{Option, Some, None, FitsSigned}
use Rattle.std.specs.List.{flat_map}
use Rattle.std.proofs.Math.Facts.{Fits-of_z, Fits-lt-pow}
use Rattle.std.specs.Int.{w8, w16, w32, to_le_bytes, cast_unsigned}
use Rattle.std.proofs.lemmas.Int.{to_z_pos}
use Rattle.ipc_format_grammar.specs.flatbuffers.FlatBuffers.{TablePlace, signed_at, signed_field, truth_field, string_field}
use Rattle.ipc_format_grammar.specs.flatbuffers.Objects.{Fields, no_field, number_then}
use Rattle.ipc_format_laws.specs.Spelling.{SpellsFields, SpellsNumber}
use Rattle.ipc_format_laws.proofs.Places.{Stands, front, back}
use Rattle.ipc_format_laws.proofs.Contents.{signed_stands, stands_window}
use Rattle.ipc_format_laws.proofs.Readers.{elements_read, absent_reads, numbers_read, truths_read, texts_read}
use Rattle.ipc_format_grammar.specs.columnar_memory.declared.DataType.TheVariants as types
use Rattle.ipc_format_grammar.specs.columnar_memory.declared.TimeUnit.{TimeUnit}
use Rattle.ipc_format_grammar.specs.columnar_memory.declared.TimeUnit.TheVariants as units
use Rattle.ipc_format_grammar.specs.columnar_memory.declared.UnionMode.{UnionMode}
use Rattle.ipc_format_grammar.specs.columnar_memory.declared.UnionMode.TheVariants as modes
use Rattle.ipc_format_grammar.specs.Types.{integer_in, integer_of, decimal_in, decimal_of, time_in, time_of, time_unit_of, timestamp_in, mode_of}
use Rattle.ipc_format_grammar.specs.Types.{numbers_from, union_in}
use Rattle.ipc_format_grammar.specs.SchemaObjects.{truth, unit_number, refers_if, text_if, mode_number, numbers_if}

-- a number of a slot, as a signed one
pub signed_reads : (bytes : List ℕ) (found : TablePlace) (slot n : ℕ) (absent : ℤ) → n < 2 ^ 31 → SpellsNumber bytes found slot w32 n
    → signed_field w32 bytes found slot absent ≡ Some (pos n)
signed_reads bytes found slot n absent small s = (numbers_read bytes found slot w32 n s).signed absent ∙ ap Some (to_z_pos w32 n small)

pub short_reads : (bytes : List ℕ) (found : TablePlace) (slot n : ℕ) (absent : ℤ) → n < 2 ^ 15 → SpellsNumber bytes found slot w16 n
    → signed_field w16 bytes found slot absent ≡ Some (pos n)
short_reads bytes found slot n absent small s = (numbers_read bytes found slot w16 n s).signed absent ∙ ap Some (to_z_pos w16 n small)

pub truth_reads : (bytes : List ℕ) (found : TablePlace) (slot : ℕ) (b : Bool) → SpellsNumber bytes found slot w8 (truth b)
    → truth_field bytes found slot ≡ Some b
truth_reads bytes found slot true s = truths_read bytes found slot 1 s
truth_reads bytes found slot false s = truths_read bytes found slot 0 s

-- an Int table
abbrev pub int_fields : ℕ → Bool → Fields
int_fields bits is_signed = number_then w32 bits (number_then w8 (truth is_signed) no_field)

pub int_reads : (bytes : List ℕ) (found : TablePlace) (bits : ℕ) (is_signed : Bool) → bits < 2 ^ 31
    → SpellsFields bytes found 0 (int_fields bits is_signed) → integer_in bytes found ≡ integer_of (pos bits) is_signed
unfolding integer_in
int_reads bytes found bits is_signed small s = rw (
  signed_reads bytes found 0 bits (pos 0) small s.here,
  truth_reads bytes found 1 is_signed s.rest.here,
) refl

-- a Decimal table
abbrev pub decimal_fields : ℕ → ℕ → ℕ → Fields
decimal_fields precision scale bits = number_then w32 precision (number_then w32 scale (number_then w32 bits no_field))

pub decimal_reads : (bytes : List ℕ) (found : TablePlace) (precision scale bits : ℕ) → precision < 2 ^ 31 → scale < 2 ^ 31 → bits < 2 ^ 31
    → SpellsFields bytes found 0 (decimal_fields precision scale bits) → decimal_in bytes found ≡ decimal_of (pos bits) precision scale
unfolding decimal_in
decimal_reads bytes found precision scale bits small small-too short s =
    rw (
      signed_reads bytes found 0 precision (pos 0) small s.here,
      signed_reads bytes found 1 scale (pos 0) small-too s.rest.here,
      signed_reads bytes found 2 bits (pos 128) short s.rest.rest.here,
    ) refl

-- units of time
pub unit_small : (unit : TimeUnit) → unit_number unit < 2 ^ 15
unit_small units.Second = omega arith
unit_small units.Millisecond = omega arith
unit_small units.Microsecond = omega arith
unit_small units.Nanosecond = omega arith

pub unit_back : (unit : TimeUnit) → time_unit_of (pos (unit_number unit)) ≡ Some unit
unit_back units.Second = refl
unit_back units.Millisecond = refl
unit_back units.Microsecond = refl
unit_back units.Nanosecond = refl

-- a Time table
abbrev pub time_fields : ℕ → ℕ → Fields
time_fields unit bits = number_then w16 unit (number_then w32 bits no_field)

pub time_reads : (bytes : List ℕ) (found : TablePlace) (unit : TimeUnit) (bits : ℕ) → bits < 2 ^ 31
    → SpellsFields bytes found 0 (time_fields (unit_number unit) bits) → time_in bytes found ≡ time_of (pos bits) unit
unfolding time_in
time_reads bytes found unit bits small s =
    rw (
      short_reads bytes found 0 (unit_number unit) (pos 1) (unit_small unit) s.here,
      unit_back unit,
      signed_reads bytes found 1 bits
          (pos 32) small s.rest.here,
    ) refl

-- a Timestamp table
abbrev pub timestamp_fields : TimeUnit → Option (List ℕ) → Fields
timestamp_fields unit timezone = number_then w16 (unit_number unit) (refers_if (text_if timezone) no_field)

text_slot_reads : (bytes : List ℕ) (found : TablePlace) (slot : ℕ) (content : Option (List ℕ)) (fields : Fields)
    → SpellsFields bytes found slot (refers_if (text_if content) fields) → string_field bytes found slot ≡ Some content
text_slot_reads bytes found slot None fields s = (absent_reads bytes found slot s.here).string
text_slot_reads bytes found slot (Some content) fields s = texts_read bytes found slot content s.here

pub timestamp_reads : (bytes : List ℕ) (found : TablePlace) (unit : TimeUnit) (timezone : Option (List ℕ))
    → SpellsFields bytes found 0 (timestamp_fields unit timezone) → timestamp_in bytes found ≡ Some (types.Timestamp unit timezone)
unfolding timestamp_in
timestamp_reads bytes found unit timezone s =
    rw (
      short_reads bytes found 0 (unit_number unit) (pos 0) (unit_small unit) s.here,
      unit_back unit,
      text_slot_reads bytes found 1 timezone no_field s.rest,
    ) refl

-- ---- unions

abbrev id_bytes : ℤ → List ℕ
id_bytes z = to_le_bytes w32 (cast_unsigned w32 z)

-- signed numbers of four bytes, one behind the other
ids_stand : (bytes : List ℕ) (zs : List ℤ) (place : ℕ) → ((k : ℕ) (d : ℤ) → k < length zs → FitsSigned w32 (get_or zs k d))
    → Stands bytes place (flat_map id_bytes zs) → numbers_from bytes place (length zs) ≡ Some zs
ids_stand bytes [] place fit s = refl
ids_stand bytes (z ∷ zs) place fit s =
    let small : FitsSigned w32 z = fit 0 z (omega arith) in
    let first : signed_at w32 bytes place ≡ Some z =
    signed_stands w32 (cast_unsigned w32 z) (Fits-lt-pow (Fits-of_z small)) (front (id_bytes z) (flat_map id_bytes zs) refl s) ∙ ap Some
    (to_z-of_z small) in
    let others = ids_stand bytes zs (place + 4) (λ (k : ℕ) (d : ℤ) (inside : k < length zs). fit (suc k) d (omega arith))
    (back (id_bytes z) (flat_map id_bytes zs) (place + 4) refl refl s) in
    rw (first, others) refl

pub ids_length : (zs : List ℤ) → length (flat_map id_bytes zs) ≡ 4 * length zs
ids_length [] = refl
ids_length (z ∷ zs) = omega (arith, ids_length zs)

-- a Union table
abbrev pub union_fields : UnionMode → Option (List ℤ) → Fields
union_fields mode numbers = number_then w16 (mode_number mode) (refers_if (numbers_if numbers) no_field)

mode_reads : (bytes : List ℕ) (found : TablePlace) (mode : UnionMode) → SpellsNumber bytes found 0 w16 (mode_number mode)
    → signed_field w16 bytes found 0 (pos 0) ≡ Some (pos (mode_number mode))
mode_reads bytes found modes.Sparse s = short_reads bytes found 0 0 (pos 0) (omega arith) s
mode_reads bytes found modes.Dense s = short_reads bytes found 0 1 (pos 0) (omega arith) s

mode_back : (mode : UnionMode) → mode_of (pos (mode_number mode)) ≡ Some mode
mode_back modes.Sparse = refl
mode_back modes.Dense = refl

abbrev pub FitIds : Option (List ℤ) → Type 0
FitIds None = Unit {0}
FitIds (Some zs) = (k : ℕ) (d : ℤ) → k < length zs → FitsSigned w32 (get_or zs k d)

pub union_reads : (bytes : List ℕ) (found : TablePlace) (mode : UnionMode) (numbers : Option (List ℤ)) → FitIds numbers
    → SpellsFields bytes found 0 (union_fields mode numbers) → union_in bytes found ≡ Some (record { mode = mode; ids = numbers })
unfolding union_in
union_reads bytes found mode None fit s = rw (
  mode_reads bytes found mode s.here,
  mode_back mode,
  (absent_reads bytes found 1 s.rest.here).vector 4,
) refl
union_reads bytes found mode (Some zs) fit s =
    let read = elements_read bytes found 1 (length zs) (flat_map id_bytes zs) s.rest.here in
    let ids = ids_stand bytes zs read.place fit (stands_window (length (flat_map id_bytes zs)) (flat_map id_bytes zs) read.holds) in
    rw (mode_reads bytes found mode s.here, mode_back mode, read.vector 4 (omega (arith, ids_length zs)), ids) refl
