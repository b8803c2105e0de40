-- Which variant an error is, whatever its text.
use Rattle.std.specs.Prelude.{◌≡◌, ℕ, List}
use Rattle.std.specs.String.{string_bytes}
use Rattle.columnar_memory_types.specs.declared.error.Error.{Error}
use Rattle.columnar_memory_types.specs.declared.error.Error.TheVariants.{NotYetImplemented, InvalidArgumentError, ExternalFormat, OutOfSpec}
use Rattle.columnar_memory_types.specs.declared.error.Error.TheVariants.{External, Io, Overflow, OutOfMemory}

-- the format allows it, and these crates do not do it
abbrev pub IsNotYetImplemented : Error → Type 0
IsNotYetImplemented (NotYetImplemented what) = Unit {0}
IsNotYetImplemented _ = ⊥

-- an argument breaks a rule of the call
abbrev pub IsInvalidArgument : Error → Type 0
IsInvalidArgument (InvalidArgumentError what) = Unit {0}
IsInvalidArgument _ = ⊥

-- bytes of another format are not what that format allows
abbrev pub IsExternalFormat : Error → Type 0
IsExternalFormat (ExternalFormat what) = Unit {0}
IsExternalFormat _ = ⊥

-- bytes or parts are not what the Arrow format allows
abbrev pub IsOutOfSpec : Error → Type 0
IsOutOfSpec (OutOfSpec what) = Unit {0}
IsOutOfSpec _ = ⊥

-- an error of other code
abbrev pub IsExternal : Error → Type 0
IsExternal (External from what) = Unit {0}
IsExternal _ = ⊥

-- an error of other code that came from this place and says this
abbrev pub IsExternalOf : List ℕ → List ℕ → Error → Type 0
IsExternalOf place text (External from what) = (from.now ≡ place) × (string_bytes what ≡ text)
IsExternalOf place text _ = ⊥

-- an error of reading or writing
abbrev pub IsIo : Error → Type 0
IsIo (Io error) = Unit {0}
IsIo _ = ⊥

-- a number passes the type that has to hold it
abbrev pub IsOverflow : Error → Type 0
IsOverflow Overflow = Unit {0}
IsOverflow _ = ⊥

-- the allocator had no memory
abbrev pub IsOutOfMemory : Error → Type 0
IsOutOfMemory OutOfMemory = Unit {0}
IsOutOfMemory _ = ⊥
