-- Numbers that the length of an array is made of (C17 6.4.4.1, 6.5.5, 6.5.6).
use Rattle.std.specs.Prelude.{ℕ, ◌+◌, ◌*◌, ◌-◌, ◌==◌, ◌||◌, ◌&&◌, nat_lt, if◌then◌else◌, codes, length, slice_index, Option, None, Some, List, [], ◌∷◌}
use Rattle.std.specs.Str.{bytes_eq}
use Rattle.lab_port_tokens.specs.Characters.{is_digit}

-- a number with one digit more; lengths are below 65536
abbrev pub with_digit : ℕ → ℕ → Option ℕ
with_digit value b =
    if is_digit b && nat_lt (value * 10 + (b - 48)) 65536 then Some (value * 10 + (b - 48)) else None

abbrev pub number_from : ℕ → List ℕ → Option ℕ
number_from value [] = Some value
number_from value (b ∷ rest) = elim (with_digit value b) [ None ↦ None | Some next ↦ number_from next rest ]

-- the number of a decimal constant without a suffix; none for 0
abbrev pub number_of : List ℕ → Option ℕ
number_of text = if length text == 0 || slice_index text 0 == 48 then None else number_from 0 text

abbrev pub within : ℕ → Option ℕ
within n = if nat_lt 0 n && nat_lt n 65536 then Some n else None

-- a sum, a difference or a product that is a length
abbrev pub combined : List ℕ → ℕ → ℕ → Option ℕ
combined sign a b =
    if bytes_eq sign (codes "+") then within (a + b)
    else if bytes_eq sign (codes "-") then within (a - b)
    else if bytes_eq sign (codes "*") then within (a * b)
    else None

abbrev pub combined_by : List ℕ → Option ℕ → Option ℕ → Option ℕ
combined_by sign None b = None
combined_by sign (Some a) None = None
combined_by sign (Some a) (Some b) = combined sign a b
