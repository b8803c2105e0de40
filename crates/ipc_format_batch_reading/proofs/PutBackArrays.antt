-- The arrays of columns that are read as they stand, and then put where they were asked for, are those that are read in the asked order.
use Rattle.std.proofs.Common.{◌≡◌, ◌∙◌, ◌==◌, ℕ, zero, suc, Bool, true, false, List, [], ◌∷◌, get_or, length, refl, sym, ap, subst}
use Rattle.std.specs.Prelude.{All, Option, Some, None, slice_get}
use Rattle.std.specs.List.{AllByRecursion, AllZip, Contains}
use Rattle.std.specs.Option.{option_map}
use Rattle.std.proofs.lemmas.Bool.{and_from, and_parts}
use Rattle.std.proofs.lemmas.Bool.Decides.{Decides-eqb}
use Rattle.std.proofs.lemmas.Option.{get_or_from_slice_get, none-some, same_Some, slice_get-get_or, slice_get_within}
use Rattle.ipc_format_reading.specs.array_reading.ArrayReads.{array_slots}
use Rattle.ipc_format_reading.specs.columns.Slots.{Slot}
use Rattle.ipc_format_reading.specs.flatbuffers.FlatBuffers.{TablePlace}
use Rattle.ipc_format_reading.specs.flatbuffers.Reading.{◌>>=◌, guard}
use Rattle.ipc_format_reading.specs.grammar.Columns.{Dictionary, Source, have_length}
use Rattle.ipc_format_reading.specs.grammar.Dictionaries.{Entry, Layout, source_in}
use Rattle.ipc_format_reading.specs.grammar.Tables.{agree_in_length, column_place}
use Rattle.ipc_format_batch_reading.specs.BatchReads.{chosen_arrays, chosen_record_arrays, ids_beside}
use Rattle.ipc_format_batch_reading.specs.Projections.{ChoicesArePutBack, put_back}
use Rattle.ipc_format_batch_reading.proofs.PutBack.{all_back, zip_back}

-- ---- each of some numbers gives something

-- what each of some numbers gives, where each gives something
abbrev each : {A : Type 0} → (ℕ → Option A) → List ℕ → Option (List A)
each give [] = Some []
each give (k ∷ ks) = give k >>= (λ x. each give ks >>= (λ xs. Some (x ∷ xs)))

-- a number gives something
abbrev Gives : {A : Type 0} → (ℕ → Option A) → ℕ → A → Type 0
Gives give k x = give k ≡ Some x

each_given : {A : Type 0} (give : ℕ → Option A) (ks : List ℕ) (xs : List A) → AllZip (Gives give) ks xs → each give ks ≡ Some xs
each_given give [] [] all = refl
each_given give [] (x ∷ xs) all = absurd all
each_given give (k ∷ ks) [] all = absurd all
each_given give (k ∷ ks) (x ∷ xs) all =
    ap (λ found. found >>= (λ first. each give ks >>= (λ others. Some (first ∷ others)))) all.0
    ∙ ap (λ found. found >>= (λ others. Some (x ∷ others))) (each_given give ks xs all.1)

-- what a first and other things are, where both are there
both_there : {A : Type 0} (give : ℕ → Option A) (k : ℕ) (ks : List ℕ) (first : Option A) (others : Option (List A)) (xs : List A)
    → give k ≡ first → each give ks ≡ others → ((zs : List A) → each give ks ≡ Some zs → AllZip (Gives give) ks zs)
    → (first >>= (λ y. others >>= (λ ys. Some (y ∷ ys)))) ≡ Some xs → AllZip (Gives give) (k ∷ ks) xs
both_there give k ks None others xs one more rest is = absurd (none-some xs is)
both_there give k ks (Some y) None xs one more rest is = absurd (none-some xs is)
both_there give k ks (Some y) (Some ys) xs one more rest is =
    subst (AllZip (Gives give) (k ∷ ks)) (same_Some (y ∷ ys) xs is) (one, rest ys more)

given_each : {A : Type 0} (give : ℕ → Option A) (ks : List ℕ) (xs : List A) → each give ks ≡ Some xs → AllZip (Gives give) ks xs
given_each give [] [] is = tt
given_each give [] (x ∷ xs) is = absurd (nothing (same_Some [] (x ∷ xs) is))
  where
    nothing : [] ≡ x ∷ xs → ⊥
    nothing same = absurd cc
given_each give (k ∷ ks) xs is = both_there give k ks (give k) (each give ks) xs refl refl (given_each give ks) is

-- one of the numbers gives nothing
abbrev Fails : {A : Type 0} → (ℕ → Option A) → List ℕ → Type 0
Fails give ks = (i : ℕ) × (k : ℕ) × (slice_get ks i ≡ Some k) × (give k ≡ None)

later_fails : {A : Type 0} (give : ℕ → Option A) (k : ℕ) (ks : List ℕ) → Fails give ks → Fails give (k ∷ ks)
later_fails give k ks fails = (suc fails.0, fails.1, fails.2, fails.3)

one_fails : {A : Type 0} (give : ℕ → Option A) (k : ℕ) (ks : List ℕ) (first : Option A) (others : Option (List A))
    → give k ≡ first → each give ks ≡ others → (each give ks ≡ None → Fails give ks)
    → (first >>= (λ y. others >>= (λ ys. Some (y ∷ ys)))) ≡ None → Fails give (k ∷ ks)
one_fails give k ks None others one more rest is = (0, k, refl, one)
one_fails give k ks (Some y) None one more rest is = later_fails give k ks (rest more)
one_fails give k ks (Some y) (Some ys) one more rest is = absurd (none-some (y ∷ ys) (sym is))

fails_each : {A : Type 0} (give : ℕ → Option A) (ks : List ℕ) → each give ks ≡ None → Fails give ks
fails_each give [] is = absurd (none-some [] (sym is))
fails_each give (k ∷ ks) is = one_fails give k ks (give k) (each give ks) refl refl (fails_each give ks) is

nothing_after : {A B C : Type 0} (found : Option A) (next : Option B) → next ≡ None → (f : A → B → Option C)
    → (found >>= (λ x. next >>= f x)) ≡ None
nothing_after None next is f = refl
nothing_after (Some x) next is f = ap (λ rest. rest >>= f x) is

each_fails : {A : Type 0} (give : ℕ → Option A) (ks : List ℕ) (i k : ℕ) → slice_get ks i ≡ Some k → give k ≡ None → each give ks ≡ None
each_fails give [] i k is none = absurd (none-some k is)
each_fails give (first ∷ ks) zero k is none =
    ap (λ found. found >>= (λ x. each give ks >>= (λ xs. Some (x ∷ xs)))) (ap give (same_Some first k is) ∙ none)
each_fails give (first ∷ ks) (suc i) k is none =
    nothing_after (give first) (each give ks) (each_fails give ks i k is none) (λ x xs. Some (x ∷ xs))

-- ---- lengths

-- each column of one list stands in the other
abbrev StandIn : List (List Slot) → List (List Slot) → Type 0
StandIn columns others = (i : ℕ) (column : List Slot) → slice_get columns i ≡ Some column → (j : ℕ) × (slice_get others j ≡ Some column)

long_each : (count : ℕ) (columns : List (List Slot)) → have_length count columns ≡ true → (i : ℕ) (column : List Slot)
    → slice_get columns i ≡ Some column → length column ≡ count
long_each count [] long i column is = absurd (none-some column is)
long_each count (first ∷ columns) long zero column is =
    ap length (sym (same_Some first column is))
    ∙ (Decides-eqb (length first) count).0 (and_parts (length first == count) (have_length count columns) long).0
long_each count (first ∷ columns) long (suc i) column is =
    long_each count columns (and_parts (length first == count) (have_length count columns) long).1 i column is

each_long : (count : ℕ) (columns : List (List Slot))
    → ((i : ℕ) (column : List Slot) → slice_get columns i ≡ Some column → length column ≡ count) → have_length count columns ≡ true
each_long count [] long = refl
each_long count (first ∷ columns) long =
    and_from (length first == count) (have_length count columns) ((Decides-eqb (length first) count).1 (long 0 first refl))
    (each_long count columns (λ i column is. long (suc i) column is))

agreed : (columns : List (List Slot)) → agree_in_length columns ≡ true
    → (count : ℕ) × ((i : ℕ) (column : List Slot) → slice_get columns i ≡ Some column → length column ≡ count)
agreed [] agree = (0, λ i column is. absurd (none-some column is))
agreed (first ∷ columns) agree = (length first, long)
  where
    long : (i : ℕ) (column : List Slot) → slice_get (first ∷ columns) i ≡ Some column → length column ≡ length first
    long zero column is = ap length (sym (same_Some first column is))
    long (suc i) column is = long_each (length first) columns agree i column is

agree_from : (count : ℕ) (columns : List (List Slot))
    → ((i : ℕ) (column : List Slot) → slice_get columns i ≡ Some column → length column ≡ count) → agree_in_length columns ≡ true
agree_from count [] long = refl
agree_from count (first ∷ columns) long =
    each_long (length first) columns (λ i column is. long (suc i) column is ∙ sym (long 0 first refl))

agree_among : (columns others : List (List Slot)) → StandIn columns others → agree_in_length others ≡ true → agree_in_length columns ≡ true
agree_among columns others stand agree =
    let long = agreed others agree in
    agree_from long.0 columns (λ i column is. long.1 (stand i column is).0 column (stand i column is).1)

same_test : (a b : Bool) → (a ≡ true → b ≡ true) → (b ≡ true → a ≡ true) → a ≡ b
same_test true b forth back = sym (forth refl)
same_test false true forth back = back refl
same_test false false forth back = refl

-- ---- what was read, and what was asked for

-- each number among others gives what one of the others gives
given_among : (give : ℕ → Option (List Slot)) (ks js : List ℕ) (xs ys : List (List Slot)) → AllZip (Gives give) ks xs → AllZip (Gives give) js ys
    → ((i k : ℕ) → slice_get ks i ≡ Some k → (j : ℕ) × (slice_get js j ≡ Some k)) → StandIn xs ys
given_among give ks js xs ys all others among i x is =
    let named = at_right ks xs i x all is in
    let there = among i named.0 named.1 in
    let found = at_left js ys there.0 named.0 others there.1 in
    (there.0, found.1 ∙ sym found.2 ∙ named.2)
  where
    at_right : (ks : List ℕ) (xs : List (List Slot)) (i : ℕ) (x : List Slot) → AllZip (Gives give) ks xs → slice_get xs i ≡ Some x
        → (k : ℕ) × (slice_get ks i ≡ Some k) × (give k ≡ Some x)
    at_right [] [] i x all is = absurd (none-some x is)
    at_right [] (first ∷ xs) i x all is = absurd all
    at_right (k ∷ ks) [] i x all is = absurd all
    at_right (k ∷ ks) (first ∷ xs) zero x all is = (k, refl, all.0 ∙ is)
    at_right (k ∷ ks) (first ∷ xs) (suc i) x all is = at_right ks xs i x all.1 is

    at_left : (ks : List ℕ) (xs : List (List Slot)) (i k : ℕ) → AllZip (Gives give) ks xs → slice_get ks i ≡ Some k
        → (x : List Slot) × (slice_get xs i ≡ Some x) × (give k ≡ Some x)
    at_left [] [] i k all is = absurd (none-some k is)
    at_left [] (first ∷ xs) i k all is = absurd all
    at_left (j ∷ ks) [] i k all is = absurd all
    at_left (j ∷ ks) (first ∷ xs) zero k all is = (first, refl, ap give (sym (same_Some j k is)) ∙ all.0)
    at_left (j ∷ ks) (first ∷ xs) (suc i) k all is = at_left ks xs i k all.1 is

contained : (ks js : List ℕ) → All (Contains js) ks → (i k : ℕ) → slice_get ks i ≡ Some k → (j : ℕ) × (slice_get js j ≡ Some k)
contained ks js all i k is =
    let there = all i k (slice_get_within ks i k is) in
    let named = get_or_from_slice_get ks i k k is in
    (there.0, slice_get-get_or js there.0 (get_or ks i k) there.1 ∙ ap Some (there.2 ∙ named))

kept : (ks : List ℕ) (entries : List (ℕ × ℕ)) (i k : ℕ) → slice_get (put_back entries ks) i ≡ Some k → (j : ℕ) × (slice_get ks j ≡ Some k)
kept ks entries i k is =
    at_place (put_back entries ks) (all_back (λ (k : ℕ). (j : ℕ) × (slice_get ks j ≡ Some k)) ks entries (all_there ks ks (λ j k is. (j, is)))) i is
  where
    all_there : (js ks : List ℕ) → ((j k : ℕ) → slice_get js j ≡ Some k → (i : ℕ) × (slice_get ks i ≡ Some k))
        → AllByRecursion (λ (k : ℕ). (i : ℕ) × (slice_get ks i ≡ Some k)) js
    all_there [] ks there = tt
    all_there (j ∷ js) ks there = (there 0 j refl, all_there js ks (λ i k is. there (suc i) k is))

    at_place : (js : List ℕ) → AllByRecursion (λ (k : ℕ). (j : ℕ) × (slice_get ks j ≡ Some k)) js → (i : ℕ) → slice_get js i ≡ Some k
        → (j : ℕ) × (slice_get ks j ≡ Some k)
    at_place [] all i is = absurd (none-some k is)
    at_place (j ∷ js) all zero is = (all.0.0, all.0.1 ∙ is)
    at_place (j ∷ js) all (suc i) is = at_place js all.1 i is

-- arrays, where they are of one length
abbrev checked : List (List Slot) → Option (List (List Slot))
checked arrays = guard (agree_in_length arrays) >>= (λ _. Some arrays)

checked_back : (entries : List (ℕ × ℕ)) (arrays : List (List Slot)) (test : Bool) → agree_in_length (put_back entries arrays) ≡ test
    → agree_in_length arrays ≡ test → checked (put_back entries arrays) ≡ option_map (put_back entries) (checked arrays)
checked_back entries arrays true one other =
    ap (λ test. guard test >>= (λ _. Some (put_back entries arrays))) one
    ∙ sym (ap (λ test. option_map (put_back entries) (guard test >>= (λ _. Some arrays))) other)
checked_back entries arrays false one other =
    ap (λ test. guard test >>= (λ _. Some (put_back entries arrays))) one
    ∙ sym (ap (λ test. option_map (put_back entries) (guard test >>= (λ _. Some arrays))) other)

each_back : (give : ℕ → Option (List Slot)) (entries : List (ℕ × ℕ)) (rising : List ℕ) → All (Contains (put_back entries rising)) rising
    → (found : Option (List (List Slot))) → each give rising ≡ found
    → (each give (put_back entries rising) >>= checked) ≡ option_map (put_back entries) (found >>= checked)
each_back give entries rising wanted None is =
    let fails = fails_each give rising is in
    let there = contained rising (put_back entries rising) wanted fails.0 fails.1 fails.2 in
    ap (λ found. found >>= checked) (each_fails give (put_back entries rising) there.0 fails.1 there.1 fails.3)
each_back give entries rising wanted (Some arrays) is =
    let columns : List ℕ = put_back entries rising in
    let asked : List (List Slot) = put_back entries arrays in
    let all = given_each give rising arrays is in
    let back = zip_back (Gives give) rising arrays entries all in
    let forth = agree_among arrays asked (given_among give rising columns arrays asked all back (contained rising columns wanted)) in
    let again = agree_among asked arrays (given_among give columns rising asked arrays back all (kept rising entries)) in
    ap (λ found. found >>= checked) (each_given give columns asked back)
    ∙ checked_back entries arrays (agree_in_length arrays) (same_test (agree_in_length asked) (agree_in_length arrays) forth again) refl

-- ---- chosen arrays

-- the slots of the array of a chosen column
abbrev array_at : Layout → List Dictionary → Source → Option ℕ → ℕ → Option (List Slot)
array_at layout standing source limit k = do
  field ← slice_get layout.fields k
  here ← ids_beside layout.below k
  array_slots field.data_type (record (column_place layout standing source limit k) { ids = here })

joined : {A B C D : Type 0} (a : Option A) (b : Option B) (f : A → B → Option C) (g : C → Option D)
    → (a >>= (λ x. b >>= (λ y. f x y >>= g))) ≡ ((a >>= (λ x. b >>= (λ y. f x y))) >>= g)
joined None b f g = refl
joined (Some x) None f g = refl
joined (Some x) (Some y) f g = refl

chosen_each : (layout : Layout) (standing : List Dictionary) (source : Source) (limit : Option ℕ) (ks : List ℕ)
    → chosen_arrays layout standing source limit ks ≡ each (array_at layout standing source limit) ks
chosen_each layout standing source limit [] = refl
chosen_each layout standing source limit (k ∷ ks) =
    joined (slice_get layout.fields k) (ids_beside layout.below k)
    (λ field here. array_slots field.data_type (record (column_place layout standing source limit k) { ids = here }))
    (λ column. chosen_arrays layout standing source limit ks >>= (λ others. Some (column ∷ others)))
    ∙ ap (λ rest. array_at layout standing source limit k >>= (λ column. rest >>= (λ others. Some (column ∷ others))))
    (chosen_each layout standing source limit ks)

chosen_back : (layout : Layout) (standing : List Dictionary) (source : Source) (limit : Option ℕ) (entries : List (ℕ × ℕ)) (rising : List ℕ)
    → All (Contains (put_back entries rising)) rising
    → (chosen_arrays layout standing source limit (put_back entries rising) >>= checked)
    ≡ option_map (put_back entries) (chosen_arrays layout standing source limit rising >>= checked)
chosen_back layout standing source limit entries rising wanted =
    let give = array_at layout standing source limit in
    ap (λ found. found >>= checked) (chosen_each layout standing source limit (put_back entries rising))
    ∙ each_back give entries rising wanted (each give rising) refl
    ∙ sym (ap (λ found. option_map (put_back entries) (found >>= checked)) (chosen_each layout standing source limit rising))

-- what is mapped within is mapped behind
mapped : {A B C : Type 0} (o : Option A) (f : A → Option C) (g : A → Option B) (h : B → C) → ((x : A) → f x ≡ option_map h (g x))
    → (o >>= f) ≡ option_map h (o >>= g)
mapped None f g h same = refl
mapped (Some x) f g h same = same x

pub choices_are_put_back : ChoicesArePutBack
choices_are_put_back layout standing limit entry table columns rising entries back wanted =
    ap (λ asked. chosen_record_arrays layout standing limit asked entry table) (sym back)
    ∙ mapped (source_in layout.is_little_endian entry table)
    (λ source. chosen_arrays layout standing source limit (put_back entries rising) >>= checked)
    (λ source. chosen_arrays layout standing source limit rising >>= checked) (put_back entries)
    (λ source. chosen_back layout standing source limit entries rising (subst (λ asked. All (Contains asked) rising) (sym back) wanted))
