-- Which fault a growth has that would fit.
use Rattle.std.proofs.Common.{◌≡◌, ℕ, ◌+◌, ◌≤◌, List, Option, ap, subst, arith}
use Rattle.std.specs.Iterator.{Yields}
use Rattle.columnar_memory_buffer.specs.Spans.{Spans, last_of}
use Rattle.columnar_memory_native.specs.types.declared.error.Error.{Error}
use Rattle.columnar_memory_native.specs.types.declared.error.Error.TheVariants.{NotYetImplemented, InvalidArgumentError, ExternalFormat, OutOfSpec}
use Rattle.columnar_memory_native.specs.types.declared.error.Error.TheVariants.{External, Io, Overflow, OutOfMemory}
use Rattle.columnar_memory_native.specs.types.Error.{IsOutOfMemory}
use Rattle.columnar_memory_buffer.specs.Growth.{IsGrowthFault}

-- where the last offset is within the greatest, memory ran out
pub IsOutOfMemory-from_fault : (greatest last : ℕ) (e : Error) → last ≤ greatest → IsGrowthFault greatest last e → IsOutOfMemory e
IsOutOfMemory-from_fault greatest last Overflow le h = absurd (omega arith)
IsOutOfMemory-from_fault greatest last OutOfMemory le h = tt
IsOutOfMemory-from_fault greatest last (NotYetImplemented what) le h = h
IsOutOfMemory-from_fault greatest last (InvalidArgumentError what) le h = h
IsOutOfMemory-from_fault greatest last (ExternalFormat what) le h = h
IsOutOfMemory-from_fault greatest last (OutOfSpec what) le h = h
IsOutOfMemory-from_fault greatest last (External from what) le h = h
IsOutOfMemory-from_fault greatest last (Io error) le h = h

-- the fault of one more span, from where the spans stand that did not change
pub fault-unchanged : (greatest l : ℕ) (old new : Spans) (e : Error) → new ≡ old → IsGrowthFault greatest (last_of old + (0 + l)) e
    → IsGrowthFault greatest (last_of new + l) e
fault-unchanged greatest l old new e same h =
    let last : last_of old + (0 + l) ≡ last_of new + l = omega (arith, ap last_of same) in subst (λ (n : ℕ). IsGrowthFault greatest n e) last h

-- the items that an iterator gave are those that it gives where it came from
pub yields-from : {S : Type 0} (steps : S → Option ℕ → S → Type 0) (first it : S) (xs : List ℕ) (rest : S) → it ≡ first → Yields steps it xs rest
    → Yields steps first xs rest
yields-from steps first it xs rest same h = subst (λ s. Yields steps s xs rest) same h
