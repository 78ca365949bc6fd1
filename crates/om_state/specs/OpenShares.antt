-- What is true of each place in a loop or in sections.
use Rattle.std.specs.Prelude.{◌≡◌, ℕ, ◌<◌, ◌≤◌, ℤ, pos, ◌+ℤ◌, ◌*ℤ◌, Bool, true, false}
use Rattle.om_code.specs.Arithmetic.{is_int}
use Rattle.om_state.specs.declared.control.Share.{Share}
use Rattle.om_state.specs.declared.control.Sharing as sharings
use Rattle.om_state.specs.declared.control.Sharing.TheVariants as sharing

-- from -2 ^ 31 to 2 ^ 31 - 1
abbrev pub IsInt : ℤ → Type 0
IsInt v = is_int v ≡ true

-- the value of an iteration (OpenMP 5.2, 4.4.2)
abbrev pub value_of : ℤ → ℤ → ℕ → ℤ
value_of lower step iteration = lower +ℤ pos iteration *ℤ step

abbrev pub is_loop : sharings.Sharing → Bool
is_loop sharing.Loop = true
is_loop sharing.Sections = false

-- each iteration of a loop has an int as its value, and none behind the last one is ever given out
pub record ShareHasInts (share : Share) : Type 0 where
  pub within : share.end ≤ share.count
  pub values : is_loop share.sharing ≡ true → (iteration : ℕ) → iteration < share.count
      → IsInt (value_of share.lower share.step iteration)
