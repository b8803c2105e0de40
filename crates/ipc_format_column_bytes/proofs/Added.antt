-- Bytes that are added behind others.
use Rattle.std.proofs.Common.{◌≡◌, ◌∙◌, ℕ, ◌+◌, ◌≤◌, ◌<◌, List, [], ◌∷◌, ◌++◌, length, take, get_or, ap, arith, sym}
use Rattle.std.specs.List.{flat_map}
use Rattle.std.specs.Prelude.{Result, Ok, Err, min}
use Rattle.std.proofs.lemmas.List.{append_assoc, flat_map_more, length-take, take_more, take-take}
use Rattle.std.proofs.Math.Seq.{take-append_seam, take-length}
use Rattle.ipc_format_streams.specs.columnar_memory.declared.Error.{Error}
use Rattle.ipc_format_column_bytes.specs.Appends.{Appends, BeginsWith}

pub begins_with_itself : {A : Type 0} (old new : List A) → new ≡ old → BeginsWith old new
begins_with_itself old new same = ap (λ (xs : List _). take (length old) xs) same ∙ take-length old

pub begins : {A : Type 0} (old more new : List A) → new ≡ old ++ more → BeginsWith old new
begins old more new same = ap (λ (xs : List _). take (length old) xs) same ∙ take-append_seam old more

pub begins_behind : {A : Type 0} (old mid more new : List A) → mid ≡ old ++ more → new ≡ mid → BeginsWith old new
begins_behind old mid more new so_far same = begins old more new (same ∙ so_far)

pub begins_through : {A : Type 0} (old mid new : List A) → BeginsWith old mid → BeginsWith mid new → BeginsWith old new
begins_through {A} old mid new first second =
    let size : min (length old) (length mid) ≡ length old = sym (length-take (length old) mid) ∙ ap (λ (xs : List A). length xs) first in
    let within : length old ≤ length mid = omega arith in
    sym (take-take (length old) (length mid) new within) ∙ ap (λ (xs : List A). take (length old) xs) second ∙ first

-- bytes that stand there, and others behind them
pub appends_then : (r : Result (Unit {0}) Error) (old mid new a b : List ℕ) → mid ≡ old ++ a → Appends r mid new b → Appends r old new (a ++ b)
appends_then (Ok x) old mid new a b is added = added ∙ ap (λ (front : List ℕ). front ++ b) is ∙ append_assoc old a b
appends_then (Err e) old mid new a b is why = (why.0, begins_through old mid new (begins old a mid is) why.1)

-- the bytes of one thing more
pub one_more : {X : Type 0} (f : X → List ℕ) (xs : List X) (i : ℕ) (x : X) (old mid new more : List ℕ) → i < length xs → x ≡ get_or xs i x
    → mid ≡ old ++ flat_map f (take i xs) → new ≡ mid ++ more → more ≡ f x → new ≡ old ++ flat_map f (take (i + 1) xs)
one_more {X} f xs i x old mid new more inside is so_far added same =
    added ∙ (λ j. so_far j ++ same j) ∙ flat_map_more f old (take i xs) x
    ∙ ap (λ (ys : List X). old ++ flat_map f ys) (ap (λ (y : X). take i xs ++ y ∷ []) is ∙ sym (take_more xs i x inside))

-- one item more
pub one_item_more : {X : Type 0} (xs : List X) (i : ℕ) (x : X) (old mid new : List X) → i < length xs
    → mid ≡ old ++ take i xs → new ≡ mid ++ get_or xs i x ∷ [] → new ≡ old ++ take (i + 1) xs
one_item_more {X} xs i x old mid new inside so_far added =
    added ∙ ap (λ (front : List X). front ++ get_or xs i x ∷ []) so_far ∙ append_assoc old (take i xs) (get_or xs i x ∷ [])
    ∙ ap (λ (ys : List X). old ++ ys) (sym (take_more xs i x inside))
