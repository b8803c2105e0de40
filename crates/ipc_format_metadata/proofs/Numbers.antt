-- The numbers of a vector, one after another.
use Rattle.std.proofs.Common.{◌≡◌, ◌∙◌, ℕ, suc, ◌+◌, ◌-◌, ◌*◌, ◌<◌, List, [], ◌∷◌, ◌++◌, refl, sym, ap, arith, append_assoc}
use Rattle.std.proofs.lemmas.List.{append-nil}
use Rattle.std.specs.Prelude.{Option, Some, None, ℤ}
use Rattle.std.specs.Int.{w32}
use Rattle.ipc_format_grammar.specs.flatbuffers.Reading.{◌>>=◌}
use Rattle.ipc_format_grammar.specs.flatbuffers.FlatBuffers.{signed_at}
use Rattle.ipc_format_grammar.specs.Types.{numbers_from}
use Rattle.ipc_format_metadata.proofs.Options.{bind-some}

abbrev pub put_behind : List ℤ → List ℤ → Option (List ℤ)
put_behind made others = Some (made ++ others)

-- what is given is what was made, and what stands from the k-th on
abbrev pub NumbersLeft : List ℕ → ℕ → ℕ → List ℤ → ℕ → Type 0
NumbersLeft bytes place count made k = (m : ℕ) → k + m ≡ count → numbers_from bytes place count ≡
    (numbers_from bytes (place + 4 * k) m >>= put_behind made)

pub numbers-init : (bytes : List ℕ) (place count : ℕ) → NumbersLeft bytes place count [] 0
numbers-init bytes place count m all =
    let same : m ≡ count = omega arith in
    let here : place + 4 * 0 ≡ place = omega arith in
    rw (same, here) (sym (bind-some (numbers_from bytes place count)))

move : (made : List ℤ) (x : ℤ) (o : Option (List ℤ)) → ((o >>= (λ others. Some (x ∷ others))) >>= put_behind made) ≡
    (o >>= put_behind (made ++ x ∷ []))
move made x None = refl
move made x (Some others) = ap Some (sym (append_assoc made (x ∷ []) others))

pub numbers-next : (bytes : List ℕ) (place count : ℕ) (made : List ℤ) (x : ℤ) (k : ℕ) → signed_at w32 bytes (place + 4 * k) ≡ Some x → NumbersLeft
    bytes place count made k → NumbersLeft bytes place count (made ++ x ∷ []) (k + 1)
numbers-next bytes place count made x k e left m all =
    let before : k + suc m ≡ count = omega arith in
    let next : place + 4 * k + 4 ≡ place + 4 * (k + 1) = omega arith in
    left (suc m) before ∙ rw (e, next) (move made x (numbers_from bytes (place + 4 * (k + 1)) m))

pub numbers-none : (bytes : List ℕ) (place count : ℕ) (made : List ℤ) (k : ℕ) → k < count → signed_at w32 bytes (place + 4 * k) ≡ None →
    NumbersLeft bytes place count made k → numbers_from bytes place count ≡ None
numbers-none bytes place count made k lt e left =
    let before : k + suc (count - k - 1) ≡ count = omega arith in
    left (suc (count - k - 1)) before ∙ rw e refl

pub numbers-done : (bytes : List ℕ) (place count : ℕ) (made : List ℤ) (k : ℕ) → k ≡ count → NumbersLeft bytes place count made k → numbers_from
    bytes place count ≡ Some made
numbers-done bytes place count made k done left = left 0 (omega arith) ∙ ap Some (append-nil made)
