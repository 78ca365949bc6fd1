-- What rules write for a number, a character or a format.
use Rattle.std.specs.Prelude.{ℕ, Bool, true, false, List, [], ◌∷◌, ◌++◌, ◌==◌, ◌||◌, ◌&&◌, not, if◌then◌else◌, codes, filter, flat_map, Option, None, Some, length, slice_index, take, nat_lt, ◌-◌}
use Rattle.std.specs.Str.{bytes_eq}
use Rattle.std.specs.List.{list_any}
use Rattle.lab_port_words.specs.declared.class.Form.{Form}
use Rattle.lab_port_words.specs.declared.class.Form.TheVariants as forms
use Rattle.lab_port_words.specs.declared.class.Format.{Format}
use Rattle.lab_port_words.specs.declared.class.Format.TheVariants as formats

-- the byte is one of these
abbrev pub is_one_of : List ℕ → ℕ → Bool
is_one_of bytes b = list_any (λ y. y == b) bytes

-- one of these stands among the bytes of a text
abbrev pub has_one_of : List ℕ → List ℕ → Bool
has_one_of bytes text = list_any (λ b. is_one_of bytes b) text

-- C17 6.4.4.1: a suffix
abbrev pub is_suffix : ℕ → Bool
is_suffix b = is_one_of (codes "uUlL") b

-- C17 6.4.4.1: hexadecimal
abbrev pub is_hexadecimal : List ℕ → Bool
is_hexadecimal text = slice_index text 1 == 120 || slice_index text 1 == 88

-- C17 6.4.4.2: a number with a point or an exponent
abbrev pub is_floating : List ℕ → Bool
is_floating text =
    if is_hexadecimal text then has_one_of (codes ".pP") text else has_one_of (codes ".eE") text

abbrev pub form_of : List ℕ → Form
form_of text =
    if is_floating text then forms.Floating
    else if has_one_of (codes "uU") text then forms.Unsigned
    else if has_one_of (codes "lL") text then forms.Long
    else if bytes_eq text (codes "1") then forms.One
    else forms.Plain

-- a whole number without its suffix
abbrev pub without_suffix : List ℕ → List ℕ
without_suffix text = filter (λ b. not (is_suffix b)) text

-- C17 6.4.4.4: the number of the escape with this letter
abbrev pub escape_number : ℕ → Option ℕ
escape_number letter =
    if letter == 110 then Some 10
    else if letter == 116 then Some 9
    else if letter == 114 then Some 13
    else if letter == 48 then Some 0
    else if is_one_of (92 ∷ 39 ∷ 34 ∷ []) letter then Some letter
    else None

-- C17 6.4.4.4: the number of a character of one ASCII byte, or of one escape
abbrev pub character_number : List ℕ → Option ℕ
character_number text =
    if length text == 3 then (if nat_lt (slice_index text 1) 128 then Some (slice_index text 1) else None)
    else if length text == 4 && slice_index text 1 == 92 then escape_number (slice_index text 2)
    else None

-- C17 7.21.6.1: what may stand between `%` and `d`: flags, a width, a precision, a length
abbrev pub is_modifier : ℕ → Bool
is_modifier b = is_one_of (codes "-+ #0123456789.hljzt") b

-- a format with `%d` in place of each conversion of a whole number; `inside` of a conversion
abbrev pub plain_format : Bool → List ℕ → List ℕ
plain_format inside [] = []
plain_format true (b ∷ rest) =
    if is_modifier b then plain_format true rest
    else (if is_one_of (codes "iu") b then 100 else b) ∷ plain_format false rest
plain_format false (b ∷ rest) = b ∷ plain_format (b == 37) rest

-- each conversion is one of a whole number, or a percent sign
abbrev pub has_whole_numbers : Bool → List ℕ → Bool
has_whole_numbers inside [] = true
has_whole_numbers true (b ∷ rest) =
    if is_modifier b then has_whole_numbers true rest
    else is_one_of (codes "diu%") b && has_whole_numbers false rest
has_whole_numbers false (b ∷ rest) = has_whole_numbers (b == 37) rest

-- some conversion is spelled otherwise than in the subset
abbrev pub is_respelled : Bool → List ℕ → Bool
is_respelled inside [] = false
is_respelled true (b ∷ rest) = is_modifier b || (is_one_of (codes "iu") b || is_respelled false rest)
is_respelled false (b ∷ rest) = is_respelled (b == 37) rest

-- which conversions a text has, as a format
abbrev pub format_of : List ℕ → Format
format_of text =
    if not (has_whole_numbers false text) then formats.Lacking
    else if is_respelled false text then formats.Respelled
    else formats.Same

-- each percent sign is doubled
abbrev pub doubled : List ℕ → List ℕ
doubled text = flat_map (λ b. if b == 37 then 37 ∷ 37 ∷ [] else b ∷ []) text

-- a text of `puts` as one of `printf`: each percent sign is doubled, and `\n` stands before the last quote
abbrev pub line_text : List ℕ → List ℕ
line_text text = doubled (take (length text - 1) text) ++ 92 ∷ 110 ∷ 34 ∷ []
