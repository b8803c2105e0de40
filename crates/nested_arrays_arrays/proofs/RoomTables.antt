-- Tables of rooms, made from the last id to the first.
use Rattle.std.proofs.Common.{◌≡◌, ◌∙◌, ◌<◌, ◌≤◌, ◌+◌, ℕ, ℤ, pos, negsuc, Bool, true, false, List, length, drop, set, replicate, refl, sym, ap, subst}
use Rattle.std.proofs.Common.{arith}
use Rattle.std.specs.Prelude.{slice_index, slice_index_or, FitsSigned, if◌then◌else◌}
use Rattle.std.specs.Int.{cast_signed, cast_unsigned, w8}
use Rattle.std.specs.Ordering.{int_eq}
use Rattle.std.proofs.lemmas.Bool.{false_from_ne_true, false≢true}
use Rattle.std.proofs.lemmas.Bool.Decides.{Decides-int_eq}
use Rattle.std.proofs.lemmas.Int.{to_z-of_z}
use Rattle.std.proofs.lemmas.List.{at_drop_all, at_drop_more, get_or-replicate, get_or-set_other, get_or-set_same}
use Rattle.nested_arrays_parts.specs.columns.StoredColumns.{place_of_id}

-- a table has at the byte of each id of 8 bits the number that stands where the id stands first, of the ids from a place on
abbrev pub HoldsFrom : List ℕ → List ℤ → List ℕ → ℕ → Type 0
HoldsFrom rooms ids lens place = (id : ℤ) → FitsSigned w8 id
    → slice_index rooms (cast_unsigned w8 id) ≡ slice_index lens (place + place_of_id (drop place ids) id)

-- ---- bytes

byte_below : (id : ℤ) → FitsSigned w8 id → cast_unsigned w8 id < 256
byte_below (pos n) fits = omega (arith, fits.sfits)
byte_below (negsuc n) fits = omega arith

same_byte : (a b : ℤ) → FitsSigned w8 a → FitsSigned w8 b → cast_unsigned w8 a ≡ cast_unsigned w8 b → a ≡ b
same_byte a b left right is = sym (to_z-of_z w8 a left) ∙ ap (cast_signed w8) is ∙ to_z-of_z w8 b right

-- ---- places

module _ (ids : List ℤ) (n : ℕ) (id : ℤ) (within : n < length ids) where
  first_place : place_of_id (drop n ids) id
      ≡ (if int_eq (slice_index_or ids n (pos 0)) id then 0 else place_of_id (drop (n + 1) ids) id + 1)
  first_place = at_drop_more (λ rest. place_of_id rest id) ids n (pos 0) within

  -- an id that stands at a place, and one that does not
  found_here : slice_index_or ids n (pos 0) ≡ id → n + place_of_id (drop n ids) id ≡ n
  found_here is =
      let here : place_of_id (drop n ids) id ≡ 0 = first_place
      ∙ ap (λ (b : Bool). if b then 0 else place_of_id (drop (n + 1) ids) id + 1) ((Decides-int_eq (slice_index_or ids n (pos 0)) id).1 is) in
      omega (arith, here)

  found_behind : (slice_index_or ids n (pos 0) ≡ id → ⊥) → n + place_of_id (drop n ids) id ≡ n + 1 + place_of_id (drop (n + 1) ids) id
  found_behind other =
      let test = int_eq (slice_index_or ids n (pos 0)) id in
      let fails : test ≡ false = false_from_ne_true test (λ e. other ((Decides-int_eq (slice_index_or ids n (pos 0)) id).0 e)) in
      let behind : place_of_id (drop n ids) id ≡ place_of_id (drop (n + 1) ids) id + 1 = first_place
      ∙ ap (λ (b : Bool). if b then 0 else place_of_id (drop (n + 1) ids) id + 1) fails in
      omega (arith, behind)

-- ---- tables

-- where no ids are left, each room is the one behind the last
pub no_ids : (n room : ℕ) (ids : List ℤ) (lens : List ℕ) → 256 ≤ n → room ≡ slice_index lens (length ids)
    → HoldsFrom (replicate n room) ids lens (length ids)
no_ids n room ids lens long is id fits =
    let none : place_of_id (drop (length ids) ids) id ≡ 0 = at_drop_all (λ rest. place_of_id rest id) ids (length ids) (omega arith) in
    get_or-replicate n (cast_unsigned w8 id) room 0 (omega (arith, long, byte_below id fits)) ∙ is ∙ ap (slice_index lens) (omega (arith, none))

-- one id more
pub with_id : (rooms lens : List ℕ) (ids : List ℤ) (n : ℕ) (own : ℤ) (room : ℕ) → n < length ids → length rooms ≡ 256 → FitsSigned w8 own
    → slice_index_or ids n (pos 0) ≡ own → room ≡ slice_index lens n → HoldsFrom rooms ids lens (n + 1)
    → HoldsFrom (set rooms (cast_unsigned w8 own) room) ids lens n
with_id rooms lens ids n own room within long fits is has held id small =
    let byte = cast_unsigned w8 own in
    let rest = n + place_of_id (drop n ids) id in
    elim (int_eq own id) as (λ b. int_eq own id ≡ b → slice_index (set rooms byte room) (cast_unsigned w8 id) ≡ slice_index lens rest) [
      | true ↦ λ e.
          let same : own ≡ id = (Decides-int_eq own id).0 e in
          ap (λ z. slice_index (set rooms byte room) (cast_unsigned w8 z)) (sym same)
          ∙ get_or-set_same rooms byte room 0 (omega (arith, long, byte_below own fits)) ∙ has
          ∙ ap (slice_index lens) (sym (found_here ids n id within (is ∙ same)))
      | false ↦ λ e.
          let other : own ≡ id → ⊥ = λ same. false≢true (sym e ∙ (Decides-int_eq own id).1 same) in
          get_or-set_other rooms byte (cast_unsigned w8 id) room 0 (λ at. other (same_byte own id fits small (sym at)))
          ∙ held id small ∙ ap (slice_index lens) (sym (found_behind ids n id within (λ same. other (sym is ∙ same))))
    ] refl

-- an id that has more than 8 bits is none of those that are asked for
pub without_id : (rooms lens : List ℕ) (ids : List ℤ) (n : ℕ) → n < length ids → (FitsSigned w8 (slice_index_or ids n (pos 0)) → ⊥)
    → HoldsFrom rooms ids lens (n + 1) → HoldsFrom rooms ids lens n
without_id rooms lens ids n within large held id small =
    let P : ℤ → Type 0 = λ z. FitsSigned w8 z in
    held id small ∙ ap (slice_index lens) (sym (found_behind ids n id within (λ same. large (subst P (sym same) small))))

-- all ids
pub all_ids : (rooms lens : List ℕ) (ids : List ℤ) (n : ℕ) → n ≡ 0 → HoldsFrom rooms ids lens n → (id : ℤ) → FitsSigned w8 id
    → slice_index rooms (cast_unsigned w8 id) ≡ slice_index lens (place_of_id ids id)
all_ids rooms lens ids n none held id small =
    let start : n + place_of_id (drop n ids) id ≡ place_of_id ids id = ap (λ k. k + place_of_id (drop k ids) id) none ∙ omega arith in
    held id small ∙ ap (slice_index lens) start
