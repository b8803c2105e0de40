-- Counts of failures.
use Rattle.std.specs.Prelude.{◌≡◌, ℕ, ◌+◌, ◌-◌, ◌^◌, Bool, true, false, nat_lt, Result, if◌then◌else◌}
use Rattle.std.specs.Result.{is_err}

-- the count after a call: one more where it failed, unless the count is at its greatest number
abbrev pub count_after : Bool → ℕ → ℕ
count_after false before = before
count_after true before = if nat_lt before (2 ^ 64 - 1) then before + 1 else before

abbrev pub Counts : {A E : Type 0} → Result A E → ℕ → ℕ → Type 0
Counts result before after = after ≡ count_after (is_err result) before
