-- The first serial that passes a test, and the last one.
use Rattle.std.specs.Prelude.{◌≡◌, Bool, true, false, ℕ, ◌<◌, ◌≤◌, min, Option, None, Some}

-- the lesser of two numbers, where there are two
abbrev pub sooner : Option ℕ → Option ℕ → Option ℕ
sooner None y = y
sooner (Some a) None = Some a
sooner (Some a) (Some b) = Some (min a b)

-- the least number above another one that passes a test, if one does
abbrev pub IsFirst : (ℕ → Bool) → ℕ → Option ℕ → Type 0
IsFirst test above None = (s : ℕ) → above < s → test s ≡ false
IsFirst test above (Some t) = (above < t) × (test t ≡ true) × ((s : ℕ) → above < s → s < t → test s ≡ false)

-- the greatest number that passes a test, if one does
abbrev pub IsGreatest : (ℕ → Bool) → Option ℕ → Type 0
IsGreatest test None = (s : ℕ) → test s ≡ false
IsGreatest test (Some t) = (test t ≡ true) × ((s : ℕ) → test s ≡ true → s ≤ t)
