-- Texts one behind the other.
use Rattle.std.proofs.Common.{◌≡◌, ◌∙◌, ℕ, ◌+◌, List, [], ◌∷◌, ◌++◌, ap, sym}
use Rattle.std.specs.List.{flat_map}
use Rattle.std.proofs.lemmas.Grind.{flat_map-append}
use Rattle.std.proofs.lemmas.List.{append-nil}
use Rattle.columnar_memory_bits.specs.Windows.{window}
use Rattle.columnar_memory_bits.proofs.Windows.{window_next}

-- the texts of the first m places and then that of the next
pub text_next : (f : ℕ → List ℕ) (m : ℕ) → flat_map f (window (λ j. j) 0 m) ++ f m ≡ flat_map f (window (λ j. j) 0 (m + 1))
text_next f m =
    let places : List ℕ = window (λ j. j) 0 m in
    sym (ap (flat_map f) (window_next (λ (j : ℕ). j) m) ∙ flat_map-append f places (m ∷ [])
    ∙ ap (λ (text : List ℕ). flat_map f places ++ text) (append-nil (f m)))
