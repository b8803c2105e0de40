-- A text is made of bytes.
use Rattle.std.proofs.Common.{◌≡◌, ◌∙◌, ℕ, ◌+◌, ◌/◌, ◌%◌, ◌<◌, true, false, List, [], ◌∷◌, refl, sym, ap, arith, ⊎_elim}
use Rattle.std.specs.Char.{encode_utf8}
use Rattle.std.specs.List.{list_all}
use Rattle.std.specs.Str.{encode_utf8_all, is_utf8}
use Rattle.std.proofs.lemmas.Bool.{cases_lt, cond-true, cond-false, and_parts, and_from, lt-ltb}
use Rattle.std.proofs.lemmas.Bool.Decides.{nat_tests}
use Rattle.std.proofs.lemmas.List.Folds.{list_all-append}
use Rattle.std.proofs.lemmas.Str.{IsUtf8-from_is_utf8}
use lib.Dec.{ltb}
use lib.Utf8.{scalar, scalars, scalar_cases}
use Rattle.nested_arrays_columns.specs.SoundColumns.{is_byte}

-- a term of the type given
abbrev by : (A : Type 0) → A → A
by A a = a

one : (a : ℕ) → a < 256 → list_all is_byte (a ∷ []) ≡ true
one a h = and_from (is_byte a) true (lt-ltb a 256 h) refl

more : (a : ℕ) (rest : List ℕ) → a < 256 → list_all is_byte rest ≡ true → list_all is_byte (a ∷ rest) ≡ true
more a rest h g = and_from (is_byte a) (list_all is_byte rest) (lt-ltb a 256 h) g

two : (a b : ℕ) → a < 256 → b < 256 → list_all is_byte (a ∷ b ∷ []) ≡ true
two a b h g = more a (b ∷ []) h (one b g)

three : (a b d : ℕ) → a < 256 → b < 256 → d < 256 → list_all is_byte (a ∷ b ∷ d ∷ []) ≡ true
three a b d h g k = more a (b ∷ d ∷ []) h (two b d g k)

char_bytes : (c : ℕ) → scalar c ≡ true → list_all is_byte (encode_utf8 c) ≡ true
unfolding encode_utf8
char_bytes c is =
    let top : c < 1114112 = ⊎_elim (λ low. omega arith) (λ high. high.1) (scalar_cases c is) in
    ⊎_elim
    (λ in_one.
    let e : encode_utf8 c ≡ c ∷ [] = cond-true _ _ _ (by (ltb c 128 ≡ true) (grind (arith, nat_tests))) in
    ap (list_all is_byte) e ∙ one c (omega arith))
    (λ above.
    let not_one : ltb c 128 ≡ false = grind (arith, nat_tests) in
    ⊎_elim
    (λ in_two.
    let e : encode_utf8 c ≡ (192 + c / 64) ∷ (128 + c % 64) ∷ [] =
    cond-false _ _ _ not_one ∙ cond-true _ _ _ (by (ltb c 2048 ≡ true) (grind (arith, nat_tests))) in
    ap (list_all is_byte) e ∙ two (192 + c / 64) (128 + c % 64) (omega arith) (omega arith))
    (λ wide.
    let not_two : ltb c 2048 ≡ false = grind (arith, nat_tests) in
    ⊎_elim
    (λ in_three.
    let e : encode_utf8 c ≡ (224 + c / 4096) ∷ (128 + (c / 64) % 64) ∷ (128 + c % 64) ∷ [] =
    cond-false _ _ _ not_one ∙ cond-false _ _ _ not_two ∙ cond-true _ _ _ (by (ltb c 65536 ≡ true) (grind (arith, nat_tests))) in
    ap (list_all is_byte) e
    ∙ three (224 + c / 4096) (128 + (c / 64) % 64) (128 + c % 64) (omega arith) (omega arith) (omega arith))
    (λ in_four.
    let not_three : ltb c 65536 ≡ false = grind (arith, nat_tests) in
    let e : encode_utf8 c ≡ (240 + c / 262144) ∷ (128 + (c / 4096) % 64) ∷ (128 + (c / 64) % 64) ∷ (128 + c % 64) ∷ [] =
    cond-false _ _ _ not_one ∙ cond-false _ _ _ not_two ∙ cond-false _ _ _ not_three in
    ap (list_all is_byte) e
    ∙ more (240 + c / 262144) ((128 + (c / 4096) % 64) ∷ (128 + (c / 64) % 64) ∷ (128 + c % 64) ∷ []) (omega arith)
    (three (128 + (c / 4096) % 64) (128 + (c / 64) % 64) (128 + c % 64) (omega arith) (omega arith) (omega arith)))
    (cases_lt c 65536))
    (cases_lt c 2048))
    (cases_lt c 128)

chars_bytes : (cs : List ℕ) → scalars cs ≡ true → list_all is_byte (encode_utf8_all cs) ≡ true
chars_bytes [] all = refl
chars_bytes (c ∷ cs) all =
    let both = and_parts (scalar c) (scalars cs) all in
    list_all-append is_byte (encode_utf8 c) (encode_utf8_all cs)
    ∙ and_from (list_all is_byte (encode_utf8 c)) (list_all is_byte (encode_utf8_all cs)) (char_bytes c both.0) (chars_bytes cs both.1)

pub text_bytes : (bytes : List ℕ) → is_utf8 bytes ≡ true → list_all is_byte bytes ≡ true
text_bytes bytes h =
    let text = IsUtf8-from_is_utf8 bytes h in ap (list_all is_byte) (sym text.1.1) ∙ chars_bytes text.0 text.1.0
