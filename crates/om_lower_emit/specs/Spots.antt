-- Where a statement stands.
use Rattle.std.specs.Prelude.{ℕ, Option}
use Rattle.om_lower_rules.specs.declared.tables.Numbers.{Numbers}
use Rattle.om_lower_emit.specs.declared.spot.Spot.{Spot}

-- with these numbers, and these labels for `break` and `continue`
abbrev pub spot_with : Numbers → (over next : Option ℕ) → Spot
spot_with numbers over next = record { numbers = numbers; jumps = record { over = over; next = next } }
