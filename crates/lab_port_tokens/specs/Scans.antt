-- How far a piece of a source goes (C17 6.4: a token is the longest that could be one), byte by byte. What differs from
-- C17: `..` is one piece, digraphs are none, and a byte above 127 is a piece of its own.
use Rattle.std.specs.Prelude.{ℕ, Bool, true, false, List, [], ◌∷◌, ◌==◌, ◌||◌, ◌&&◌, not, if◌then◌else◌, suc, codes}
use Rattle.std.specs.List.{list_any}
use Rattle.lab_port_tokens.specs.declared.scan.Scan.{Scan}
use Rattle.lab_port_tokens.specs.declared.scan.Scan.TheVariants.{Blank, Splice, Word, Number, Quoted, Slash, Block, Line, Point, Points, Shift, Mark}
use Rattle.lab_port_tokens.specs.declared.scan.Next.{Next}
use Rattle.lab_port_tokens.specs.declared.scan.Next.TheVariants.{Stops, Ends, Goes}
use Rattle.lab_port_tokens.specs.Characters.{is_blank, is_digit, is_word_byte, is_doubled, takes_equal}

-- what a piece is behind its first byte
abbrev pub scan_after : ℕ → Scan
scan_after first =
    if is_digit first then Number false
    else if is_word_byte first then Word
    else if is_blank first then Blank
    else if first == 92 then Splice
    else if first == 34 || first == 39 then Quoted first false
    else if first == 47 then Slash
    else if first == 46 then Point
    else Mark first

abbrev pub goes_if : Bool → Scan → Next
goes_if goes next = if goes then Goes next else Stops

abbrev pub ends_if : Bool → Next
ends_if ends = if ends then Ends else Stops

-- C17 5.1.1.2, phase 2: a backslash and a line end join two lines; a carriage return may stand between them
abbrev pub step_after_backslash : ℕ → Next
step_after_backslash b = if b == 13 then Goes Splice else ends_if (b == 10)

-- C17 6.4.8: letters, digits, `_`, points, and a sign behind the letter of an exponent
abbrev pub step_in_number : Bool → ℕ → Next
step_in_number exponent b =
    goes_if ((is_word_byte b || b == 46) || (exponent && list_any (λ y. y == b) (codes "+-")))
    (Number (list_any (λ y. y == b) (codes "eEpP")))

-- C17 6.4.4.4 and 6.4.5: up to the quote, or up to the end of the line where none stands
abbrev pub step_in_quotes : ℕ → Bool → ℕ → Next
step_in_quotes quote escaped b =
    if escaped then Goes (Quoted quote (b == 13))
    else if b == quote then Ends
    else goes_if (not (b == 10)) (Quoted quote (b == 92))

abbrev pub step_after_slash : ℕ → Next
step_after_slash b =
    if b == 42 then Goes (Block false) else if b == 47 then Goes (Line false) else ends_if (b == 61)

-- C17 6.4.9: up to the first star and slash
abbrev pub step_in_block : Bool → ℕ → Next
step_in_block star b = if star && b == 47 then Ends else Goes (Block (b == 42))

-- C17 6.4.9: up to the end of the line, which is no part of it; a backslash before it joins the next line
abbrev pub step_in_line : Bool → ℕ → Next
step_in_line spliced b = goes_if (spliced || not (b == 10)) (Line (b == 92 || (spliced && b == 13)))

abbrev pub step_after_point : ℕ → Next
step_after_point b = if is_digit b then Goes (Number false) else goes_if (b == 46) Points

abbrev pub step_after_two : ℕ → Next
step_after_two mark = if list_any (λ y. y == mark) (codes "<>") then Goes Shift else Ends

-- C17 6.4.6
abbrev pub step_after_mark : ℕ → ℕ → Next
step_after_mark mark b =
    if b == 61 then ends_if (takes_equal mark)
    else if b == mark && is_doubled mark then step_after_two mark
    else ends_if (mark == 45 && b == 62)

-- what the next byte is to a piece
abbrev pub step : Scan → ℕ → Next
step Blank b = goes_if (is_blank b) Blank
step Splice b = step_after_backslash b
step Word b = goes_if (is_word_byte b) Word
step (Number exponent) b = step_in_number exponent b
step (Quoted quote escaped) b = step_in_quotes quote escaped b
step Slash b = step_after_slash b
step (Block star) b = step_in_block star b
step (Line spliced) b = step_in_line spliced b
step Point b = step_after_point b
step Points b = ends_if (b == 46)
step Shift b = ends_if (b == 61)
step (Mark mark) b = step_after_mark mark b

-- how many of the bytes belong to a piece that is this so far
abbrev pub size_from : Scan → List ℕ → ℕ
size_from scan [] = 0
size_from scan (b ∷ bs) = elim (step scan b) [ Stops ↦ 0 | Ends ↦ 1 | Goes next ↦ suc (size_from next bs) ]
