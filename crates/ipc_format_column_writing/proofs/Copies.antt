-- Arrays that are cloned, one for one.
use Rattle.std.proofs.Common.{◌≡◌, List, Ok, Err, Result}
use Rattle.std.specs.List.{AllZip}
use Rattle.std.specs.Result.{MatchResult, IfOk}
use Rattle.std.proofs.lemmas.List.Elements.{same_from_all_zip}

-- clones of some arrays are these, where a clone of each is the same
pub copies_are_same : {A V E : Type 0} (IsClone : A → A → Type 0) (items : V → List A) (Rest : V → Type 0) (Refused : E → Type 0)
    (arrays : List A) (result : Result V E) → ((array copy : A) → IsClone array copy → copy ≡ array)
    → MatchResult result (λ copies. AllZip IsClone arrays (items copies) × Rest copies) Refused
    → IfOk result (λ copies. items copies ≡ arrays)
copies_are_same IsClone items Rest Refused arrays (Ok copies) same h = same_from_all_zip IsClone arrays (items copies) h.0 same
copies_are_same IsClone items Rest Refused arrays (Err error) same h = tt
