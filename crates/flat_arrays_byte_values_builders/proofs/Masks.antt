-- Masks of builders of byte strings, as the marks that grow and change.
use Rattle.std.proofs.Common.{◌≡◌, ℕ, ◌+◌, ◌<◌, ◌≤◌, ◌⊎◌, inl, inr, List, ◌++◌, length, take, refl, ap, sym, ◌∙◌, arith, subst}
use Rattle.std.proofs.lemmas.Bool.{cases_lt}
use Rattle.std.proofs.Math.Seq.{take-append_seam}
use Rattle.std.specs.Prelude.{Bool, true, false, Option, Some, None, is_some, unwrap_or, if◌then◌else◌, Result, Ok, Err, IsTrue, ◌↔◌}
use Rattle.std.specs.Option.{ForSome}
use Rattle.std.specs.Result.{is_err}
use Rattle.flat_arrays_bytes.specs.columnar_memory.Error.{IsOutOfMemory}
use Rattle.flat_arrays_bytes.specs.columnar_memory.Growth as offsets
use Rattle.flat_arrays_bytes.specs.columnar_memory.Growth.{IsGrowthFault}
use Rattle.flat_arrays_bytes.specs.columnar_memory.Spans.{Spans}
use Rattle.flat_arrays_bytes.specs.columnar_memory.declared.Error.{Error}
use Rattle.flat_arrays_bytes.specs.columnar_memory.declared.Error.TheVariants.{NotYetImplemented, InvalidArgumentError, ExternalFormat, OutOfSpec}
use Rattle.flat_arrays_bytes.specs.columnar_memory.declared.Error.TheVariants.{External, Io, Overflow, OutOfMemory}
use Rattle.flat_arrays_bytes.specs.ByteStrings.{ByteStrings, byte_strings, cut_mask, marks}
use Rattle.flat_arrays_bytes.specs.Fits.{IsMaskOf}
use Rattle.flat_arrays_bytes.specs.values.Growth.{with_marks}
use Rattle.flat_arrays_byte_values_builders.proofs.Growth.{mask_of-grown}
use Rattle.flat_arrays_bytes.specs.values.Flat as flat
use mathlib.Core.Bool.{true≢false}

pub flat_mask : (n : ℕ) (mask : Option (List Bool)) → IsMaskOf n mask → flat.IsMaskOf n mask
flat_mask n None h other some = absurd (true≢false (sym (ap is_some some)))
flat_mask n (Some mask) h other some = ap length (sym (ap (λ o. unwrap_or o mask) some)) ∙ h

pub mask_of_flat : (n : ℕ) (mask : Option (List Bool)) → flat.IsMaskOf n mask → IsMaskOf n mask
mask_of_flat n None h = tt
mask_of_flat n (Some mask) h = h mask refl

pub same_marks : (n : ℕ) (mask : Option (List Bool)) → flat.marks n mask ≡ marks n mask
same_marks n None = refl
same_marks n (Some mask) = refl

-- a mask that grew holds the marks that stood before
pub held_marks : (n m : ℕ) (mask grown : Option (List Bool)) (bits : List Bool) → length bits ≡ m → IsMaskOf n mask → grown ≡ with_marks n mask bits
    → ForSome grown (λ held. n ≤ length held)
held_marks n m mask grown bits long h was held some =
    let whole = subst (IsMaskOf (n + m)) (sym was) (mask_of-grown n m (n + m) mask bits long refl h) in
    let count = flat_mask (n + m) grown whole held some in omega (arith, count)

-- marks that came are taken off again
pub undone_marks : (n : ℕ) (mask grown after : Option (List Bool)) (bits : List Bool) (had : Bool) → IsMaskOf n mask → had ≡ is_some mask
    → grown ≡ with_marks n mask bits → after ≡ (if had then cut_mask grown 0 n else None) → after ≡ mask
undone_marks n None grown after bits had h is was cut = cut ∙ ap (λ b. if b then cut_mask grown 0 n else None) is
undone_marks n (Some mask) grown after bits had h is was cut =
    cut ∙ ap (λ b. if b then cut_mask grown 0 n else None) is ∙ ap (λ g. cut_mask g 0 n) was
    ∙ ap (λ k. Some (take k (mask ++ bits))) (sym h) ∙ ap (λ xs. Some xs) (take-append_seam mask bits)

-- ---- parts that are as they were

pub restored : (a : ByteStrings) (offsets : Spans) (bytes : List ℕ) (mask : Option (List Bool)) → offsets ≡ a.offsets → bytes ≡ a.bytes
    → mask ≡ a.validity → byte_strings a.data_type offsets bytes mask ≡ a
restored a offsets bytes mask same_offsets same_bytes same_mask = (λ i. byte_strings a.data_type (same_offsets i) (same_bytes i) (same_mask i))

-- what stood in front is left
pub kept_front : (xs ys zs kept : List ℕ) (n : ℕ) → zs ≡ xs ++ ys → kept ≡ take n zs → n ≡ length xs → kept ≡ xs
kept_front xs ys zs kept n whole cut held = cut ∙ ap (take n) whole ∙ ap (λ k. take k (xs ++ ys)) held ∙ take-append_seam xs ys

-- offsets that did not grow are as they were
pub unmoved : {U : Type 0} (greatest : ℕ) (old : Spans) (ls : List ℕ) (new : Spans) (r : Result U Error) → offsets.Grows greatest old ls new r
    → is_err r ≡ true → new ≡ old
unmoved greatest old ls new (Ok u) h failed = absurd (true≢false (sym failed))
unmoved greatest old ls new (Err e) h failed = h.0

-- ---- faults

pub not_past : (b : Bool) (greatest n : ℕ) → (IsTrue b ↔ (greatest < n)) → b ≡ false → n ≤ greatest
not_past b greatest n tells is_not = which (cases_lt greatest n)
  where
    which : (greatest < n) ⊎ (n ≤ greatest) → n ≤ greatest
    which (inl past) = absurd (true≢false (sym (tells.1 past) ∙ is_not))
    which (inr within) = within

-- memory ran out, and the greatest offset would not be passed
pub memory_fault : (greatest last : ℕ) (e : Error) → IsOutOfMemory e → last ≤ greatest → IsGrowthFault greatest last e
memory_fault greatest last OutOfMemory h within = within
memory_fault greatest last Overflow h within = absurd h
memory_fault greatest last (NotYetImplemented what) h within = h
memory_fault greatest last (InvalidArgumentError what) h within = h
memory_fault greatest last (ExternalFormat what) h within = h
memory_fault greatest last (OutOfSpec what) h within = h
memory_fault greatest last (External from what) h within = h
memory_fault greatest last (Io error) h within = h
