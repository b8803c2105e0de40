-- Columns that become others step by step: nulls that are pushed one after another, and are taken off again.
use Rattle.std.proofs.Common.{◌≡◌, ◌∙◌, ◌<◌, ◌≤◌, ◌+◌, ◌-◌, ℕ, List, [], ◌∷◌, ◌++◌, length, take, replicate, get_or, Bool, true, false, refl, sym, ap, arith}
use Rattle.std.proofs.Common.{subst}
use Rattle.std.specs.Prelude.{min, ◌⊎◌}
use mathlib.Core.Logic.{inl, inr}
use Rattle.nested_arrays_generic_builders.specs.nulls.columnar_memory.declared.Error.{Error}
use Rattle.std.proofs.lemmas.List.{append_assoc, append-nil, get_or_append_left, length-append, length-take, replicate-append-replicate, take_at}
use Rattle.nested_arrays_generic_builders.specs.nulls.columnar_memory.Error.{IsOutOfMemory, IsOverflow}
use Rattle.nested_arrays_generic_builders.specs.nulls.columns.OpenBatch.{fits}
use Rattle.nested_arrays_generic_builders.specs.nulls.columns.Slots.{Slot, null}
use Rattle.nested_arrays_generic_builders.specs.nulls.columns.SoundColumns.{is_sound}
use Rattle.nested_arrays_generic_builders.specs.nulls.columns.StoredColumns.{Column, column_len, column_type, slot_at, slots}
use Rattle.nested_arrays_generic_builders.specs.cells.parts.Open.{opened}
use Rattle.nested_arrays_generic_builders.specs.cells.taken.OpenColumns.{Becomes, IsFresh, KeepsFirst, slots_and}
use Rattle.nested_arrays_generic_builders.proofs.OpenLists.{same_becomes}
use Rattle.nested_arrays_generic_builders.proofs.cells_lemmas.taken_lemmas.OpenColumns.{open_sound}
use Rattle.nested_arrays_generic_builders.proofs.cells_lemmas.columns_lemmas.ColumnSizes.{slots_lengths}
use Rattle.nested_arrays_generic_builders.proofs.cells_lemmas.columns_lemmas.FreshPlaces.{at_window}
use Rattle.nested_arrays_generic_builders.proofs.cells_lemmas.columns_lemmas.Limits.{fits_not_with_more}

-- fresh columns are sound
pub fresh_sound : (c : Column) → IsFresh c → is_sound c ≡ true
fresh_sound c f = ap is_sound f.stored ∙ open_sound (opened (column_type c) (slots c)) f.fit f.can

-- a column that became another, which then became a third by its own slots
pub becomes_by : (f : List Slot → List Slot) (a b c : Column) (xs : List Slot) → length (f (slots b)) ≡ length (f xs) → Becomes a xs b
    → Becomes b (f (slots b)) c → Becomes a (f xs) c
becomes_by f a b c xs long first then = record {
  typed = then.typed ∙ first.typed;
  long = then.long ∙ long;
  sound = λ h. let own = first.sound h in let next = then.sound own.0 in (next.0, next.1 ∙ ap f own.1);
  fresh = λ h. then.fresh (first.fresh h);
}

-- what stands at a place of a column with more slots behind
pub begins : (a b : Column) (more : List Slot) → slots b ≡ slots a ++ more → (i : ℕ) → i < column_len a → slot_at b i ≡ slot_at a i
begins a b more same i h =
    let long : column_len b ≡ column_len a + length more =
    omega (arith, slots_lengths a, slots_lengths b, ap length same, length-append (slots a) more) in
    at_window (slot_at b) (column_len b) (slots b) i null refl (omega (arith, h, long))
    ∙ ap (λ (xs : List Slot). get_or xs i null) same
    ∙ get_or_append_left (slots a) more null i (omega (arith, h, slots_lengths a))
    ∙ sym (at_window (slot_at a) (column_len a) (slots a) i null refl h)

-- as many first ones of lists that are as long
firsts : (n : ℕ) (xs ys : List Slot) → length xs ≡ length ys → length (take n xs) ≡ length (take n ys)
firsts n xs ys same = length-take n xs ∙ ap (min n) same ∙ sym (length-take n ys)

-- ---- nulls

nulls_more : (n : ℕ) → replicate n null ++ null ∷ [] ≡ replicate (n + 1) null
nulls_more n = replicate-append-replicate n 1 null

module _ (a b : Column) (n : ℕ) (h : Becomes a (slots a ++ replicate n null) b) where
  one_behind : (slots a ++ replicate n null) ++ null ∷ [] ≡ slots a ++ replicate (n + 1) null
  one_behind = append_assoc (slots a) (replicate n null) (null ∷ []) ∙ ap (λ (xs : List Slot). slots a ++ xs) (nulls_more n)

  -- one null more
  pub null_behind : (c : Column) → Becomes b (slots_and b null) c → Becomes a (slots a ++ replicate (n + 1) null) c
  null_behind c more =
      let long : length (slots b ++ null ∷ []) ≡ length ((slots a ++ replicate n null) ++ null ∷ []) =
      omega (
        arith,
        length-append (slots b) (null ∷ []),
        length-append (slots a ++ replicate n null) (null ∷ []),
        slots_lengths b,
        h.long,
      ) in
      subst (λ (xs : List Slot). Becomes a xs c) one_behind
      (becomes_by (λ (xs : List Slot). xs ++ null ∷ []) a b c (slots a ++ replicate n null) long h more)

  -- the nulls are taken off again
  pub nulls_off : (c d : Column) → Becomes b (slots b) c → KeepsFirst c (column_len a) d → Becomes a (slots a) d
  nulls_off c d same kept =
      let all = slots a ++ replicate n null in
      let again : Becomes a all c = becomes_by (λ (xs : List Slot). xs) a b c all (slots_lengths b ∙ h.long) h same in
      let long : length (take (column_len a) (slots c)) ≡ length (take (column_len a) all) =
      firsts (column_len a) (slots c) all (slots_lengths c ∙ again.long) in
      subst (λ (xs : List Slot). Becomes a xs d) (take_at (slots a) (replicate n null) (column_len a) (slots_lengths a))
      (becomes_by (take (column_len a)) a c d all long again kept)

  -- where one null more does not fit, neither do more of them
  pub no_room : (count : ℕ) → n < count → (IsFresh b → fits (column_type b) (slots_and b null) ≡ false) → IsFresh a
      → fits (column_type a) (slots a ++ replicate count null) ≡ false
  no_room count less why f =
      let own = (h.sound (fresh_sound a f)).1 in
      let unfit : fits (column_type a) (slots a ++ replicate (n + 1) null) ≡ false =
      ap (fits (column_type a)) (sym one_behind) ∙ (λ j. fits (sym h.typed j) (sym own j ++ null ∷ [])) ∙ why (h.fresh f) in
      let rest : replicate (n + 1) null ++ replicate (count - (n + 1)) null ≡ replicate count null =
      replicate-append-replicate (n + 1) (count - (n + 1)) null ∙ ap (λ (k : ℕ). replicate k null) (sum less) in
      ap (fits (column_type a)) (sym (append_assoc (slots a) (replicate (n + 1) null) (replicate (count - (n + 1)) null)
      ∙ ap (λ (xs : List Slot). slots a ++ xs) rest))
      ∙ fits_not_with_more (column_type a) (slots a ++ replicate (n + 1) null) (replicate (count - (n + 1)) null) unfit
    where
      sum : n < count → n + 1 + (count - (n + 1)) ≡ count
      sum less = omega (arith, less)

-- ---- nulls that are pushed in a loop

pub nulls_begun : (c : Column) → Becomes c (slots c ++ replicate 0 null) c
nulls_begun c = subst (λ (xs : List Slot). Becomes c xs c) (sym (append-nil (slots c))) (same_becomes c)

pub nulls_counted : (a b : Column) (n count : ℕ) → n ≡ count → Becomes a (slots a ++ replicate n null) b
    → Becomes a (slots a ++ replicate count null) b
nulls_counted a b n count all h = subst (λ (k : ℕ). Becomes a (slots a ++ replicate k null) b) all h

-- one is refused, and those before it are taken off
pub nulls_stopped : (a b c d : Column) (n count held : ℕ) (e : Error) → Becomes a (slots a ++ replicate n null) b → n < count
    → Becomes b (slots b) c → IsOutOfMemory e ⊎ (IsOverflow e × (IsFresh b → fits (column_type b) (slots_and b null) ≡ false))
    → held ≡ column_len a → KeepsFirst c held d
    → Becomes a (slots a) d
    × (IsOutOfMemory e ⊎ (IsOverflow e × (IsFresh a → fits (column_type a) (slots a ++ replicate count null) ≡ false)))
nulls_stopped a b c d n count held e h less same why is kept = (
  nulls_off a b n h c d same (subst (λ (k : ℕ). KeepsFirst c k d) is kept),
  elim why [ inl memory ↦ inl memory | inr over ↦ inr (over.0, no_room a b n h count less over.1) ],
)

-- there are as many slots left as before
pub nulls_held : (a b c : Column) (n held : ℕ) → held ≡ column_len a → Becomes a (slots a ++ replicate n null) b → Becomes b (slots b) c
    → held ≤ column_len c
nulls_held a b c n held is h same =
    omega (arith, is, same.long, slots_lengths b, h.long, length-append (slots a) (replicate n null), slots_lengths a)
