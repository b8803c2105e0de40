-- The places whose items come to stand at each place by a map.
use Rattle.std.proofs.Common.{◌≡◌, ◌∙◌, ℕ, zero, suc, ◌+◌, ◌<◌, true, ◌&&◌, List, [], ◌∷◌, ◌++◌, length, refl, sym, ap, subst, arith}
use Rattle.std.specs.Prelude.{Some, nat_lt, slice_get}
use Rattle.std.specs.List.{fold, range_with_len, slice_set}
use Rattle.std.proofs.lemmas.Bool.{and_parts, ltb-true}
use Rattle.std.proofs.lemmas.List.{length-set}
use Rattle.ipc_format_batch_reading.specs.Projections.{fits_map, put, put_back, put_one}

length_range : (from count : ℕ) → length (range_with_len from count) ≡ count
length_range from zero = refl
length_range from (suc count) = ap suc (length_range (from + 1) count)

get_range : (from count k : ℕ) → k < count → slice_get (range_with_len from count) k ≡ Some (from + k)
get_range from zero k inside = absurd (omega arith)
get_range from (suc count) zero inside = let same : from ≡ from + zero = omega arith in ap Some same
get_range from (suc count) (suc k) inside =
    let same : from + 1 + k ≡ from + suc k = omega arith in get_range (from + 1) count k (omega arith) ∙ ap Some same

range_suc : (from count : ℕ) → range_with_len from (suc count) ≡ range_with_len from count ++ (from + count) ∷ []
range_suc from zero = let same : from ≡ from + zero = omega arith in ap (λ (k : ℕ). k ∷ []) same
range_suc from (suc count) =
    let same : from + 1 + count ≡ from + suc count = omega arith in
    ap (λ (ks : List ℕ). from ∷ ks) (range_suc (from + 1) count ∙ ap (λ (k : ℕ). range_with_len (from + 1) count ++ k ∷ []) same)

-- one place more
pub range_more : (count : ℕ) → range_with_len 0 (count + 1) ≡ range_with_len 0 count ++ count ∷ []
range_more count =
    let more : count + 1 ≡ suc count = omega arith in
    let same : 0 + count ≡ count = omega arith in
    ap (range_with_len 0) more ∙ range_suc 0 count ∙ ap (λ (k : ℕ). range_with_len 0 count ++ k ∷ []) same

-- What stands before the entries that are left: of each place a source, entries that fit, and what they make of it.
pub record IsPut (count : ℕ) (entries : List (ℕ × ℕ)) (sources : List ℕ) (left : List (ℕ × ℕ)) : Type 0 where
  pub long : length sources ≡ count
  pub fit : fits_map count left ≡ true
  pub back : fold (put_one (range_with_len 0 count)) sources left ≡ put_back entries (range_with_len 0 count)

pub put_first : (count place : ℕ) (entries left : List (ℕ × ℕ)) (sources : List ℕ) → sources ≡ range_with_len 0 place → place ≡ count
    → left ≡ entries → fits_map count entries ≡ true → IsPut count entries sources left
put_first count place entries left sources made all same fit =
    let is : sources ≡ range_with_len 0 count = made ∙ ap (range_with_len 0) all in
    record {
      long = ap length is ∙ length_range 0 count;
      fit = ap (fits_map count) same ∙ fit;
      back = ap (λ (ks : List ℕ). fold (put_one (range_with_len 0 count)) ks left) is
          ∙ ap (λ (es : List (ℕ × ℕ)). put_back es (range_with_len 0 count)) same;
    }

pub put_next : (count : ℕ) (entries left rest : List (ℕ × ℕ)) (sources : List ℕ) (old new : ℕ) → left ≡ (old, new) ∷ rest
    → IsPut count entries sources left → IsPut count entries (slice_set sources new old) rest
put_next count entries left rest sources old new is put_so_far =
    let at = subst (IsPut count entries sources) is put_so_far in
    let parts = and_parts (nat_lt old count && nat_lt new count) (fits_map count rest) at.fit in
    let same : 0 + old ≡ old = omega arith in
    let there : slice_get (range_with_len 0 count) old ≡ Some old =
    get_range 0 count old (ltb-true old count (and_parts (nat_lt old count) (nat_lt new count) parts.0).0) ∙ ap Some same in
    record {
      long = length-set sources new old ∙ at.long;
      fit = parts.1;
      back = sym (ap (λ item. fold (put_one (range_with_len 0 count)) (put sources new item) rest) there) ∙ at.back;
    }

pub put_all : (count : ℕ) (entries left : List (ℕ × ℕ)) (sources : List ℕ) → left ≡ [] → IsPut count entries sources left
    → sources ≡ put_back entries (range_with_len 0 count)
put_all count entries left sources none put_so_far = (subst (IsPut count entries sources) none put_so_far).back
