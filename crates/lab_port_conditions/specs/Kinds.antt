-- What a `#` line is to conditions (C17 6.10, 6.10.1).
use Rattle.std.specs.Prelude.{ℕ, Bool, ◌+◌, ◌==◌, ◌||◌, ◌&&◌, not, if◌then◌else◌, nat_lt, codes, length, slice_index, List, [], ◌∷◌}
use Rattle.std.specs.Str.{bytes_eq}
use Rattle.std.specs.List.{list_any}
use Rattle.lab_port_tokens.specs.declared.piece.Piece.{Piece}
use Rattle.lab_port_context.specs.Ahead.{nth_text}
use Rattle.lab_port_rules.specs.declared.rule.Meaning.{Meaning}
use Rattle.lab_port_conditions.specs.declared.kind.Kind.{Kind}
use Rattle.lab_port_conditions.specs.declared.kind.Kind.TheVariants as kinds
use Rattle.lab_port_conditions.specs.Headers.{is_header, is_of_header}

abbrev pub is_nth : ℕ → List ℕ → List Piece → Bool
is_nth n text line = bytes_eq (nth_text n line) text

-- the line has no n-th token
abbrev pub ends_at : ℕ → List Piece → Bool
ends_at n line = length (nth_text n line) == 0

-- it is the name of one of these macros
abbrev pub is_known : List ℕ → List Meaning → Bool
is_known name names = list_any (λ next. bytes_eq next.name name) names

-- the body of the macro with this name, if it is one token; else nothing
abbrev pub body_of : List ℕ → List Meaning → List ℕ
body_of name [] = []
body_of name (next ∷ rest) = if bytes_eq next.name name then next.text else body_of name rest

abbrev pub is_letter : ℕ → Bool
is_letter byte = (nat_lt 64 byte && nat_lt byte 91) || (nat_lt 96 byte && nat_lt byte 123)

-- what no program may define, a header may define, or is no name
abbrev pub is_reserved : List ℕ → Bool
is_reserved name = not (is_letter (slice_index name 0)) || is_of_header name

-- a name that the program does not define so far; behind a header that is not known, it may be that header's
abbrev pub undefined : Bool → List ℕ → Kind
undefined unknown name = if unknown || is_reserved name then kinds.Unknown else kinds.Denied

-- a name is defined: by the program so far, or as OpenMP says (OpenMP 5.2 section 3.3)
abbrev pub asked : Bool → List Meaning → List ℕ → Kind
asked unknown names name =
    if is_known name names || bytes_eq name (codes "_OPENMP") then kinds.Chosen else undefined unknown name

-- the other condition
abbrev pub denied : Kind → Kind
denied kinds.Chosen = kinds.Denied
denied kinds.Denied = kinds.Chosen
denied kind = kind

-- nothing else stands on the line
abbrev pub if_ended : ℕ → List Piece → Kind → Kind
if_ended n line kind = if ends_at n line then kind else kinds.Unknown

-- a number above 0, by its first digit
abbrev pub is_positive : List ℕ → Bool
is_positive text = nat_lt 48 (slice_index text 0) && nat_lt (slice_index text 0) 58

abbrev pub number_kind : List ℕ → Kind
number_kind text =
    if bytes_eq text (codes "0") then kinds.Denied
    else if is_positive text then kinds.Chosen
    else kinds.Unknown

-- C17 6.10.1p4: a name that is no macro is 0
abbrev pub name_kind : Bool → List Meaning → List ℕ → Kind
name_kind unknown names name =
    if is_known name names then number_kind (body_of name names) else undefined unknown name

abbrev pub is_digit_first : List ℕ → Bool
is_digit_first text = nat_lt 47 (slice_index text 0) && nat_lt (slice_index text 0) 58

-- a token as a value: a number, or the name of a macro
abbrev pub value_of : Bool → List Meaning → List ℕ → Kind
value_of unknown names text = if is_digit_first text then number_kind text else name_kind unknown names text

-- behind `defined`, where it is the token before the n-th: a name, in parentheses or not
abbrev pub defined_at : ℕ → Bool → List Meaning → List Piece → Kind
defined_at n unknown names line =
    if is_nth n (codes "(") line && is_nth (n + 2) (codes ")") line
    then if_ended (n + 3) line (asked unknown names (nth_text (n + 1) line))
    else if_ended (n + 1) line (asked unknown names (nth_text n line))

-- what `#if` asks, from the token of this number on
abbrev pub condition_at : ℕ → Bool → List Meaning → List Piece → Kind
condition_at n unknown names line =
    if is_nth n (codes "defined") line then defined_at (n + 1) unknown names line
    else if_ended (n + 1) line (value_of unknown names (nth_text n line))

abbrev pub condition_of : Bool → List Meaning → List Piece → Kind
condition_of unknown names line =
    if is_nth 1 (codes "!") line then denied (condition_at 2 unknown names line)
    else condition_at 1 unknown names line

-- the first 256 macros are kept
abbrev pub definition_kind : List Meaning → Kind
definition_kind names = if nat_lt (length names) 256 then kinds.Defined else kinds.Foreign

-- the header in angle brackets is one whose macros are known
abbrev pub includes_known : List Piece → Bool
includes_known line =
    (is_nth 1 (codes "<") line && is_header (nth_text 2 line))
    && (is_nth 3 (codes ".") line && (is_nth 4 (codes "h") line && is_nth 5 (codes ">") line))

abbrev pub header_kind : List Piece → Kind
header_kind line = if includes_known line then kinds.Plain else kinds.Included

-- a line without a condition
abbrev pub plain_kind : List Meaning → List Piece → Kind
plain_kind names line =
    if is_nth 0 (codes "define") line then definition_kind names
    else if is_nth 0 (codes "include") line then header_kind line
    else if is_nth 0 (codes "pragma") line then kinds.Plain
    else kinds.Foreign

-- a line that turns or ends a condition, or has none
abbrev pub other_kind : List Meaning → List Piece → Kind
other_kind names line =
    if is_nth 0 (codes "else") line then kinds.Otherwise
    else if is_nth 0 (codes "endif") line then kinds.Ended
    else if is_nth 0 (codes "elif") line then kinds.Turned
    else plain_kind names line

-- what the line is whose `#` stands before these pieces, where these macros are defined, and headers that are not known
-- may define more
abbrev pub kind_of : Bool → List Meaning → List Piece → Kind
kind_of unknown names line =
    if is_nth 0 (codes "ifdef") line then if_ended 2 line (asked unknown names (nth_text 1 line))
    else if is_nth 0 (codes "ifndef") line then denied (if_ended 2 line (asked unknown names (nth_text 1 line)))
    else if is_nth 0 (codes "if") line then condition_of unknown names line
    else other_kind names line
