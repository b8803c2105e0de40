-- Lists of given lengths, closed one after another.
use Rattle.std.proofs.Common.{◌≡◌, ◌∙◌, ◌<◌, ◌≤◌, ◌+◌, ℕ, List, [], ◌∷◌, ◌++◌, length, map, take, get_or, Bool, sym, ap, subst, arith}
use Rattle.std.specs.Prelude.{◌⊎◌, Option, None, is_some}
use Rattle.std.proofs.lemmas.List.{append_assoc, append-nil, map-append, take_all, take_more}
use Rattle.nested_arrays_nulls.specs.columnar_memory.declared.Error.{Error}
use Rattle.nested_arrays_nulls.specs.columnar_memory.Error.{IsOutOfMemory, IsOverflow}
use Rattle.nested_arrays_nulls.specs.columnar_memory.Spans.{Spans, extended, last_of}
use Rattle.nested_arrays_generic_builders.specs.ListBuilders.{IsRefusedAt, LacksRoom, count_of}

-- a list with what stands behind some that a function was mapped over
behind : {A B : Type 0} (f : A → B) (before : List B) (xs : List A) (n : ℕ) (d : A) → n < length xs
    → (before ++ map f (take n xs)) ++ f (get_or xs n d) ∷ [] ≡ before ++ map f (take (n + 1) xs)
behind f before xs n d lt =
    append_assoc before (map f (take n xs)) (f (get_or xs n d) ∷ [])
    ∙ ap (λ ys. before ++ ys) (sym (map-append f (take n xs) (get_or xs n d ∷ [])) ∙ ap (map f) (sym (take_more xs n d lt)))

-- what is known of the lists so far
abbrev pub Added : List Bool → Spans → List (Option ℕ) → ℕ → ℕ → List Bool → Spans → Type 0
Added marks spans lengths held n new_marks new_spans =
    (new_marks ≡ marks ++ map is_some (take n lengths)) × (new_spans ≡ extended spans (map count_of (take n lengths)))
    × (0 < n → last_of new_spans ≤ held)

pub none_added : (marks : List Bool) (spans : Spans) (lengths : List (Option ℕ)) (held : ℕ) → Added marks spans lengths held 0 marks spans
none_added marks spans lengths held = (
  sym (append-nil marks),
  ap (λ (ls : List ℕ). record { start = spans.start; lengths = ls }) (sym (append-nil spans.lengths)),
  λ h. absurd (omega (arith, h)),
)

module _ (marks : List Bool) (spans : Spans) (lengths : List (Option ℕ)) (held n : ℕ) (lt : n < length lengths)
    (now_marks : List Bool) (now_spans : Spans) (h : Added marks spans lengths held n now_marks now_spans) where
  abbrev one : Option ℕ
  one = get_or lengths n None

  pub one_added : (new_marks : List Bool) (new_spans : Spans) → new_marks ≡ now_marks ++ is_some one ∷ []
      → new_spans ≡ extended now_spans (count_of one ∷ []) → last_of new_spans ≤ held
      → Added marks spans lengths held (n + 1) new_marks new_spans
  one_added new_marks new_spans marked spanned within = (
    marked ∙ ap (λ (ms : List Bool). ms ++ is_some one ∷ []) h.0 ∙ behind is_some marks lengths n None lt,
    spanned ∙ ap (λ (s : Spans). extended s (count_of one ∷ [])) h.1
        ∙ ap (λ (ls : List ℕ). record { start = spans.start; lengths = ls }) (behind count_of spans.lengths lengths n None lt),
    λ _. within,
  )

  pub one_refused : (greatest : ℕ) (e : Error) (new_marks : List Bool) (new_spans : Spans) → new_marks ≡ now_marks → new_spans ≡ now_spans
      → IsOutOfMemory e ⊎ (IsOverflow e × LacksRoom greatest held now_marks now_spans (count_of one))
      → (k : ℕ) × (k < length lengths) × (new_marks ≡ marks ++ map is_some (take k lengths))
      × (new_spans ≡ extended spans (map count_of (take k lengths))) × IsRefusedAt greatest held marks spans lengths k e
  one_refused greatest e new_marks new_spans marked spanned why =
      let refused : List Bool → Spans → Type 0 =
      λ ms s. IsOutOfMemory e ⊎ (IsOverflow e × LacksRoom greatest held ms s (count_of one)) in
      let first = extended spans (map count_of (take n lengths)) in (
        n,
        lt,
        marked ∙ h.0,
        spanned ∙ h.1,
        subst (λ (ms : List Bool). refused ms first) h.0 (subst (λ (s : Spans). refused now_marks s) h.1 why),
      )

pub all_added : (marks : List Bool) (spans : Spans) (lengths : List (Option ℕ)) (held n : ℕ) → length lengths ≤ n
    → (now_marks : List Bool) (now_spans : Spans) → Added marks spans lengths held n now_marks now_spans
    → (now_marks ≡ marks ++ map is_some lengths) × (now_spans ≡ extended spans (map count_of lengths))
    × (0 < length lengths → last_of now_spans ≤ held)
all_added marks spans lengths held n all now_marks now_spans h =
    let is = take_all n lengths all in (
      h.0 ∙ ap (λ (ls : List (Option ℕ)). marks ++ map is_some ls) is,
      h.1 ∙ ap (λ (ls : List (Option ℕ)). extended spans (map count_of ls)) is,
      λ some. h.2 (omega (arith, some, all)),
    )
