-- Writes after one another.
use Rattle.std.proofs.Common.{◌≡◌, ◌∙◌, ℕ, List, [], ◌++◌, refl, take, drop, ap, sym, append_assoc, length, ◌-◌, subst}
use Rattle.std.specs.Prelude.{Option, Some, None, Result, Ok, Err}
use Rattle.std.specs.Io.KnownBytes.{Appends, Keeps}
use Rattle.ipc_format_values.specs.columnar_memory.Error.{IsIo}
use Rattle.ipc_format_values.specs.columnar_memory.declared.Error.{Error}
use Rattle.ipc_format_streams.specs.Devices.{AppendsBeginning, Puts}
use Rattle.std.proofs.lemmas.List.{append-nil, take-append-drop, take_rest}

-- two writes append the bytes of both
pub appends_both : (old between new : Option (List ℕ)) (xs ys : List ℕ) → Appends old between xs → Appends between new ys →
    Appends old new (xs ++ ys)
appends_both None between new xs ys first second = tt
appends_both (Some known) (Some middle) (Some end) xs ys first second = second ∙ ap (λ bytes. bytes ++ ys) first ∙ append_assoc known xs ys
appends_both (Some known) (Some middle) None xs ys first second = second
appends_both (Some known) None new xs ys first second = absurd first

-- nothing was written
pub appends_nothing : (contents : Option (List ℕ)) → Appends contents contents []
appends_nothing None = tt
appends_nothing (Some known) = sym (append-nil known)

-- what was written is kept
appends_kept : (old between new : Option (List ℕ)) (bytes : List ℕ) → Appends old between bytes → Keeps between new → Appends old new bytes
appends_kept None between new bytes first second = tt
appends_kept (Some known) (Some middle) (Some end) bytes first second = second ∙ first
appends_kept (Some known) (Some middle) None bytes first second = absurd second
appends_kept (Some known) None new bytes first second = absurd first

-- a part of what is left was written, behind what was done
pub appends_part : (old between new : Option (List ℕ)) (bytes rest : List ℕ) (n : ℕ)
    → ((done : List ℕ) × (bytes ≡ done ++ rest) × Appends old between done) → Appends between new (take n rest)
    → ((done : List ℕ) × (bytes ≡ done ++ take (length rest - n) (drop n rest)) × Appends old new done)
appends_part old between new bytes rest n before written =
    let parts : rest ≡ take n rest ++ take (length rest - n) (drop n rest) =
    sym (ap (λ (left : List ℕ). take n rest ++ left) (take_rest rest n) ∙ take-append-drop n rest) in
    let done : List ℕ = before.0 in (
      done ++ take n rest,
      before.1 ∙ ap (λ (left : List ℕ). done ++ left) parts ∙ sym (append_assoc done (take n rest) (take (length rest - n) (drop n rest))),
      appends_both old between new done (take n rest) before.2 written,
    )

-- ---- beginnings

-- nothing is a beginning
pub begins_nothing : (contents : Option (List ℕ)) (bytes : List ℕ) → AppendsBeginning contents contents bytes
begins_nothing contents bytes = ([], bytes, refl, appends_nothing contents)

-- what was done before a write that appended nothing is a beginning
pub begins_kept : (old between new : Option (List ℕ)) (bytes rest : List ℕ) → ((done : List ℕ) × (bytes ≡ done ++ rest) × Appends old between done)
    → Keeps between new → AppendsBeginning old new bytes
begins_kept old between new bytes rest before kept = (before.0, rest, before.1, appends_kept old between new before.0 before.2 kept)

-- a beginning of the first of two
pub begins_first : (old new : Option (List ℕ)) (xs ys : List ℕ) → AppendsBeginning old new xs → AppendsBeginning old new (xs ++ ys)
begins_first old new xs ys written =
    let first : List ℕ = written.0 in
    let rest : List ℕ = written.1 in
    (first, rest ++ ys, ap (λ (bytes : List ℕ). bytes ++ ys) written.2 ∙ append_assoc first rest ys, written.3)

-- the first of two, and a beginning of the second
pub begins_behind : (old between new : Option (List ℕ)) (xs ys : List ℕ) → Appends old between xs → AppendsBeginning between new ys
    → AppendsBeginning old new (xs ++ ys)
begins_behind old between new xs ys written behind =
    let first : List ℕ = behind.0 in
    let rest : List ℕ = behind.1 in (
      xs ++ first,
      rest,
      ap (λ (bytes : List ℕ). xs ++ bytes) behind.2 ∙ sym (append_assoc xs first rest),
      appends_both old between new xs first written behind.3,
    )

-- the same bytes
pub begins_same : (old new : Option (List ℕ)) (xs ys : List ℕ) → xs ≡ ys → AppendsBeginning old new xs → AppendsBeginning old new ys
begins_same old new xs ys same written = (written.0, written.1, sym same ∙ written.2, written.3)

pub refused_same : (error : Error) (old new : Option (List ℕ)) (xs ys : List ℕ) → xs ≡ ys → IsIo error × AppendsBeginning old new xs
    → IsIo error × AppendsBeginning old new ys
refused_same error old new xs ys same refused = (refused.0, begins_same old new xs ys same refused.1)

pub appends_same : (old new : Option (List ℕ)) (xs ys : List ℕ) → xs ≡ ys → Appends old new xs → Appends old new ys
appends_same old new xs ys same written = subst (λ (bytes : List ℕ). Appends old new bytes) same written

-- ---- answers

-- the first of two was written, and then the second, or a beginning of it
pub puts_behind : {A : Type 0} (result : Result A Error) (old between new : Option (List ℕ)) (xs ys : List ℕ) → Appends old between xs
    → Puts result between new ys → Puts result old new (xs ++ ys)
puts_behind (Ok done) old between new xs ys first second = appends_both old between new xs ys first second
puts_behind (Err error) old between new xs ys first second = (second.0, begins_behind old between new xs ys first second.1)

-- a refusal within the first of two
pub puts_first : (error : Error) (old new : Option (List ℕ)) (xs ys : List ℕ) → IsIo error × AppendsBeginning old new xs
    → IsIo error × AppendsBeginning old new (xs ++ ys)
puts_first error old new xs ys first = (first.0, begins_first old new xs ys first.1)

-- a refusal behind what was written, before more
pub puts_between : (error : Error) (old between new : Option (List ℕ)) (xs ys zs : List ℕ) → Appends old between xs
    → IsIo error × AppendsBeginning between new ys → IsIo error × AppendsBeginning old new (xs ++ ys ++ zs)
puts_between error old between new xs ys zs first second =
    (second.0, begins_first old new (xs ++ ys) zs (begins_behind old between new xs ys first second.1))

-- the same bytes
pub puts_same : {A : Type 0} (result : Result A Error) (old new : Option (List ℕ)) (xs ys : List ℕ) → xs ≡ ys → Puts result old new xs
    → Puts result old new ys
puts_same result old new xs ys same written = subst (λ (bytes : List ℕ). Puts result old new bytes) same written

-- nothing stands behind the bytes
pub append-empty : (bytes : List ℕ) → bytes ≡ bytes ++ []
append-empty bytes = sym (append-nil bytes)

-- a part of a block that is known
pub appends_known : (old new : Option (List ℕ)) (n m : ℕ) (block bytes : List ℕ) → n ≡ m → take m block ≡ bytes →
    Appends old new (take n block) → Appends old new bytes
appends_known old new n m block bytes same known written =
    subst (λ (part : List ℕ). Appends old new part) (ap (λ k. take k block) same ∙ known) written

-- a beginning of it
pub refused_known : (error : Error) (old new : Option (List ℕ)) (n m : ℕ) (block bytes : List ℕ) → n ≡ m → take m block ≡ bytes →
    IsIo error × AppendsBeginning old new (take n block) → IsIo error × AppendsBeginning old new bytes
refused_known error old new n m block bytes same known refused =
    (refused.0, begins_same old new (take n block) bytes (ap (λ k. take k block) same ∙ known) refused.1)
