-- Windows on windows.
use Rattle.std.proofs.Common.{◌≡◌, ℕ, ◌+◌, ◌-◌, ◌≤◌, List, length, drop, refl, arith, length-drop}
use Rattle.std.proofs.lemmas.List.{take-take, take_all, drop-drop, drop-take, length-take-le}
use Rattle.columnar_memory_buffer.specs.Window.{window}

windows_join-plus : {T : Type 0} (xs : List T) (a b k m : ℕ) → m ≤ k → window (window xs a (b + k)) b m ≡ window xs (a + b) m
windows_join-plus xs a b k m h = rw (drop-take b k (drop a xs), take-take m k (drop b (drop a xs)) h, drop-drop b a xs) refl

-- a window on a window is one window
pub windows_join : {T : Type 0} (xs : List T) (a n b m : ℕ) → b + m ≤ n → window (window xs a n) b m ≡ window xs (a + b) m
windows_join xs a n b m h =
    let e : n ≡ b + (n - b) = omega arith in
    let le : m ≤ n - b = omega arith in
    rw e (windows_join-plus xs a b (n - b) m le)

pub length-window : {T : Type 0} (xs : List T) (a n : ℕ) → a + n ≤ length xs → length (window xs a n) ≡ n
length-window xs a n h =
    let le : n ≤ length (drop a xs) = omega (arith, length-drop a xs) in length-take-le n (drop a xs) le

-- a window of all elements
pub window_whole : {T : Type 0} (xs : List T) (a n : ℕ) → a + n ≤ length xs → n ≡ length xs → window xs a n ≡ xs
window_whole xs a n within all =
    let first : a ≡ 0 = omega arith in
    rw (first, all) (take_all (length xs) xs (omega arith))
