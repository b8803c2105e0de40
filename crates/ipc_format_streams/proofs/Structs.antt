-- The structs of a vector, taken one after another.
use Rattle.std.proofs.Common.{◌≡◌, ◌∙◌, ℕ, suc, ◌+◌, ◌-◌, ◌*◌, ◌<◌, List, [], ◌∷◌, ◌++◌, map, true, refl, sym, ap, arith, rules, nat_lt}
use Rattle.std.proofs.Common.{append-nil, append_assoc}
use Rattle.std.proofs.lemmas.List.{map-append}
use Rattle.std.specs.Prelude.{Option, Some, None}
use Rattle.ipc_format_values.specs.flatbuffers.Reading.{◌>>=◌}
use Rattle.ipc_format_values.specs.flatbuffers.FlatBuffers.{Vector}
use Rattle.ipc_format_values.specs.grammar.Messages.{Pair, struct_at, structs_from, structs_in}

-- m structs from struct k on
unfoldable pub structs_left : {B : Type 0} → (Pair → B) → List ℕ → Vector → ℕ → ℕ → Option (List B)
structs_left make bytes v k m = structs_from make bytes (v.place + 16 * k) m

abbrev pub behind : {B : Type 0} → List B → Option (List B) → Option (List B)
behind before rest = rest >>= (λ others. Some (before ++ others))

-- what was made of the first k structs, and what the others give, is what all give
abbrev pub AreTaken : {A B : Type 0} → (A → B) → (Pair → B) → List ℕ → Vector → List A → ℕ → Type 0
AreTaken view make bytes v found k = (m : ℕ) → k + m ≡ v.count → structs_in make bytes v ≡ behind (map view found) (structs_left make bytes v k m)

behind_none : {B : Type 0} (rest : Option (List B)) → behind [] rest ≡ rest
behind_none None = refl
behind_none (Some rest) = refl

pub taken_none : {A B : Type 0} (view : A → B) (make : Pair → B) (bytes : List ℕ) (v : Vector) → AreTaken view make bytes v [] 0
unfolding structs_in structs_left
taken_none view make bytes v m e =
    let all : m ≡ v.count = omega arith in
    let here : v.place + 16 * 0 ≡ v.place = omega arith in
    rw (all, here) (sym (behind_none (structs_from make bytes v.place v.count)))

next_left : {B : Type 0} (make : Pair → B) (bytes : List ℕ) (v : Vector) (k m : ℕ) → k < v.count
    → structs_left make bytes v k (suc m)
    ≡ (struct_at bytes v k >>= (λ pair. structs_left make bytes v (k + 1) m >>= (λ others. Some (make pair ∷ others))))
unfolding struct_at structs_left
next_left make bytes v k m h =
    let is : nat_lt k v.count ≡ true = search (rules, h) in
    let next : v.place + 16 * (k + 1) ≡ v.place + 16 * k + 16 = omega arith in
    rw (is, next) refl

one_more : {A B : Type 0} (view : A → B) (found : List A) (x : A) (rest : Option (List B))
    → behind (map view found) (rest >>= (λ others. Some (view x ∷ others))) ≡ behind (map view (found ++ x ∷ [])) rest
one_more view found x None = refl
one_more view found x (Some others) =
    ap Some (sym (append_assoc (map view found) (view x ∷ []) others)
    ∙ ap (λ before. before ++ others) (sym (map-append view found (x ∷ []))))

-- a struct that is taken
pub taken_more : {A B : Type 0} (view : A → B) (make : Pair → B) (bytes : List ℕ) (v : Vector) (found : List A) (k : ℕ) (x : A) (pair : Pair)
    → k < v.count → struct_at bytes v k ≡ Some pair → make pair ≡ view x → AreTaken view make bytes v found k
    → AreTaken view make bytes v (found ++ x ∷ []) (k + 1)
taken_more view make bytes v found k x pair h is same taken m e =
    let before : k + suc m ≡ v.count = omega arith in
    let made : structs_left make bytes v k (suc m) ≡ (structs_left make bytes v (k + 1) m >>= (λ others. Some (view x ∷ others))) =
    next_left make bytes v k m h
    ∙ ap (λ (o : Option Pair). o >>= (λ pair. structs_left make bytes v (k + 1) m >>= (λ others. Some (make pair ∷ others)))) is
    ∙ ap (λ first. structs_left make bytes v (k + 1) m >>= (λ others. Some (first ∷ others))) same in
    taken (suc m) before ∙ ap (behind (map view found)) made ∙ one_more view found x (structs_left make bytes v (k + 1) m)

-- a struct that does not stand there
pub taken_missing : {A B : Type 0} (view : A → B) (make : Pair → B) (bytes : List ℕ) (v : Vector) (found : List A) (k : ℕ)
    → k < v.count → struct_at bytes v k ≡ None → AreTaken view make bytes v found k → structs_in make bytes v ≡ None
taken_missing view make bytes v found k h is taken =
    let m = v.count - k - 1 in
    let before : k + suc m ≡ v.count = omega arith in
    let made : structs_left make bytes v k (suc m) ≡ None =
    next_left make bytes v k m h
    ∙ ap (λ (o : Option Pair). o >>= (λ pair. structs_left make bytes v (k + 1) m >>= (λ others. Some (make pair ∷ others)))) is in
    taken (suc m) before ∙ ap (behind (map view found)) made

-- all of them
pub taken_all : {A B : Type 0} (view : A → B) (make : Pair → B) (bytes : List ℕ) (v : Vector) (found : List A) (k : ℕ) → k ≡ v.count
    → AreTaken view make bytes v found k → structs_in make bytes v ≡ Some (map view found)
unfolding structs_left
taken_all view make bytes v found k done taken =
    let e : k + 0 ≡ v.count = omega arith in
    taken 0 e ∙ ap Some (append-nil (map view found))

pub ruleset taken = (taken_none, taken_more, taken_missing, taken_all)
