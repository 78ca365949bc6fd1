-- The first text that a format prints (C17 7.21.6.1).
use Rattle.std.specs.Prelude.{ℕ, Bool, false, List, [], ◌∷◌, ◌+◌, ◌==◌, ◌||◌, ◌&&◌, not, if◌then◌else◌, Option, None, Some}
use Rattle.std.specs.List.{list_any}
use Rattle.lab_port_tokens.specs.Characters.{is_digit}
use Rattle.lab_port_context.specs.Contexts.{deeper}
use Rattle.lab_port_prints.specs.declared.format.Slot.{Slot}

-- how many conversions stand before the next byte, where this one stands in a conversion or not
abbrev pub number_behind : Bool → ℕ → ℕ → ℕ
number_behind inside number b = if inside && not (b == 37) then deeper number else number

-- the first `%s` of the bytes from a place on, behind so many conversions; `inside` directly behind a percent sign
abbrev pub slot_from : Bool → ℕ → ℕ → List ℕ → Option Slot
slot_from inside at number [] = None
slot_from inside at number (b ∷ rest) =
    if inside && b == 115 then Some (record { end = at + 1; number = number })
    else slot_from (not inside && b == 37) (at + 1) (number_behind inside number b) rest

-- the first `%s` of a format
abbrev pub slot_of : List ℕ → Option Slot
slot_of format = slot_from false 0 0 format

-- C17 6.4.4.4: with which an escape of a number begins
abbrev pub begins_number : ℕ → Bool
begins_number b = is_digit b || b == 120

-- an escape of a number stands here, which more digits behind it would change; `escaped` directly behind a backslash
abbrev pub has_number_from : Bool → List ℕ → Bool
has_number_from escaped [] = false
has_number_from escaped (b ∷ rest) =
    (escaped && begins_number b) || has_number_from (not escaped && b == 92) rest

abbrev pub has_number : List ℕ → Bool
has_number text = has_number_from false text

-- a text that a format would print otherwise: with a percent sign, or an escape of a number
abbrev pub is_odd : List ℕ → Bool
is_odd text = has_number text || list_any (λ b. b == 37) text
