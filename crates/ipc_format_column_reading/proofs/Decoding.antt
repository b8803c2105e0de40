-- The values that bytes spell, chunk by chunk.
use Rattle.std.proofs.Common.{◌≡◌, ◌∙◌, ◌+◌, ◌*◌, ◌<◌, ℕ, zero, suc, List, [], ◌∷◌, ◌++◌, length, take, drop, map, refl, sym, ap, arith}
use Rattle.std.proofs.Common.{length-append}
use Rattle.std.proofs.lemmas.List.{append-nil, append_assoc, drop-drop, drop_at, map-append, take_at}
use Rattle.std.proofs.Math.Nat.{suc-mul}
use Rattle.ipc_format_column_bytes.specs.streams.columnar_memory.Numbers.{kind_size}
use Rattle.ipc_format_column_bytes.specs.streams.columnar_memory.Windows.{window}
use Rattle.ipc_format_column_bytes.specs.streams.columnar_memory.declared.PrimitiveType.{PrimitiveType}
use Rattle.ipc_format_column_bytes.specs.streams.columnar_memory.declared.PrimitiveType.TheVariants as kinds
use Rattle.ipc_format_column_bytes.specs.streams.grammar.Values.{element_bytes}

-- the elements of so many bytes each, by a function
unfoldable pub elements : {A : Type 0} → (List ℕ → A) → ℕ → ℕ → List ℕ → List A
elements f size zero bytes = []
elements f size (suc n) bytes = f (take size bytes) ∷ elements f size n (drop size bytes)

-- one element more
elements_next : {A : Type 0} (f : List ℕ → A) (size m : ℕ) (done : List A) (chunk rest others all : List ℕ) (count : ℕ) (x : A)
    → rest ≡ chunk ++ others → length chunk ≡ size → x ≡ f chunk → done ++ elements f size (suc m) rest ≡ elements f size count all
    → (done ++ x ∷ []) ++ elements f size m others ≡ elements f size count all
unfolding elements
elements_next f size m done chunk rest others all count x parts sized is before =
    let first : take size rest ≡ chunk = ap (take size) parts ∙ take_at chunk others size sized in
    let behind : drop size rest ≡ others = ap (drop size) parts ∙ drop_at chunk others size sized in
    append_assoc done (x ∷ []) (elements f size m others)
    ∙ (λ i. done ++ (is ∙ ap f (sym first)) i ∷ elements f size m (sym behind i)) ∙ before

-- elements one after another stand at their places
elements_window : {A : Type 0} (f : List ℕ → A) (size n k : ℕ) (bytes all : List ℕ) → bytes ≡ drop (size * k) all
    → elements f size n bytes ≡ window (λ i. f (element_bytes size all i)) k n
unfolding elements
elements_window f size zero k bytes all at = refl
elements_window f size (suc n) k bytes all at =
    let places : size * k + size ≡ size * (k + 1) = omega arith in
    let next : drop size bytes ≡ drop (size * (k + 1)) all = ap (drop size) at ∙ drop-drop size (size * k) all ∙ ap (λ p. drop p all) places in
    λ i. f (take size (at i)) ∷ elements_window f size n (k + 1) (drop size bytes) all next i

-- a value of one chunk more
pub decoded_next : {A V : Type 0} (f : List ℕ → A) (numbers : V → A) (size count m : ℕ) (values : List V) (value : V)
    (chunk rest others all : List ℕ) → 0 < size → rest ≡ chunk ++ others → length chunk ≡ size → numbers value ≡ f chunk → length rest ≡ m * size
    → map numbers values ++ elements f size m rest ≡ elements f size count all
    → (p : ℕ) × (p + 1 ≡ m) × (length others ≡ p * size)
    × (map numbers (values ++ value ∷ []) ++ elements f size p others ≡ elements f size count all)
decoded_next f numbers size count zero values value chunk rest others all some parts sized is left before =
    let both : length rest ≡ length chunk + length others = ap length parts ∙ length-append chunk others in
    absurd (omega arith)
decoded_next f numbers size count (suc p) values value chunk rest others all some parts sized is left before =
    let both : length rest ≡ length chunk + length others = ap length parts ∙ length-append chunk others in
    let more : suc p * size ≡ p * size + size = suc-mul p size in (
      p,
      omega arith,
      omega arith,
      ap (λ done. done ++ elements f size p others) (map-append numbers values (value ∷ []))
          ∙ elements_next f size p (map numbers values) chunk rest others all count (numbers value) parts sized is before,
    )

-- while a chunk comes, there is room for a value
pub room_left : (size m len capacity : ℕ) (chunk rest others : List ℕ) → 0 < size → rest ≡ chunk ++ others → length chunk ≡ size
    → length rest ≡ m * size → len + m ≡ capacity → len < capacity
room_left size zero len capacity chunk rest others some parts sized left room =
    let both : length rest ≡ length chunk + length others = ap length parts ∙ length-append chunk others in
    absurd (omega arith)
room_left size (suc p) len capacity chunk rest others some parts sized left room = omega arith

-- all values, once fewer bytes are left than one takes
pub decoded_all : {A V : Type 0} (f : List ℕ → A) (numbers : V → A) (size count m : ℕ) (values : List V) (rest all : List ℕ) → length rest < size
    → length rest ≡ m * size → map numbers values ++ elements f size m rest ≡ elements f size count all
    → map numbers values ≡ window (λ i. f (element_bytes size all i)) 0 count
unfolding elements
decoded_all f numbers size count zero values rest all few left before =
    let first : 0 ≡ size * 0 = omega arith in
    sym (append-nil (map numbers values)) ∙ before ∙ elements_window f size count 0 all all (ap (λ n. drop n all) first)
decoded_all f numbers size count (suc p) values rest all few left before =
    let more : suc p * size ≡ p * size + size = suc-mul p size in
    absurd (omega arith)

-- a value takes a byte or more
pub kind_size_positive : (kind : PrimitiveType) → 0 < kind_size kind
kind_size_positive kinds.Int8 = omega arith
kind_size_positive kinds.Int16 = omega arith
kind_size_positive kinds.Int32 = omega arith
kind_size_positive kinds.Int64 = omega arith
kind_size_positive kinds.Int128 = omega arith
kind_size_positive kinds.Int256 = omega arith
kind_size_positive kinds.UInt8 = omega arith
kind_size_positive kinds.UInt16 = omega arith
kind_size_positive kinds.UInt32 = omega arith
kind_size_positive kinds.UInt64 = omega arith
kind_size_positive kinds.Float16 = omega arith
kind_size_positive kinds.Float32 = omega arith
kind_size_positive kinds.Float64 = omega arith
kind_size_positive kinds.DaysMs = omega arith
kind_size_positive kinds.MonthDayNano = omega arith
