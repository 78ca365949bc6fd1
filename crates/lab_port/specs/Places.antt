-- Lines and columns of a source, and how a place of it is shown.
use Rattle.std.specs.Prelude.{ℕ, List, [], ◌∷◌, ◌++◌, ◌+◌, ◌-◌, ◌==◌, ◌||◌, ◌&&◌, ◌≤◌, ◌≡◌, if◌then◌else◌, nat_lt, min, codes, decimal, length, take, drop, map, flat_map}
use Rattle.lab_port.specs.declared.place.Seen.{Seen}
use Rattle.lab_port.specs.Written.{blank, part, line_feeds}

-- the line of a byte of a source, from 1
abbrev pub line_of : List ℕ → ℕ → ℕ
line_of source at = line_feeds (take at source) + 1

-- how many bytes stand behind the last line feed of some bytes, before which so many stand on their line
abbrev pub front_behind : ℕ → List ℕ → ℕ
front_behind size [] = size
front_behind size (b ∷ rest) = front_behind (if b == 10 then 0 else size + 1) rest

-- how many bytes stand before a byte on its line
abbrev pub front_of : List ℕ → ℕ → ℕ
front_of source at = front_behind 0 (take at source)

-- a place of the source; what is behind its end is the end
abbrev pub place_in : List ℕ → ℕ → ℕ
place_in source at = min at (length source)

-- a place whose line is known
abbrev pub IsSeen : List ℕ → Seen → Type 0
IsSeen source seen =
    (seen.at ≤ length source) × (seen.line ≡ line_of source seen.at) × (seen.front ≡ front_of source seen.at)

-- some bytes up to a line end
abbrev pub line_rest : List ℕ → List ℕ
line_rest [] = []
line_rest (b ∷ rest) = if b == 10 || b == 13 then [] else b ∷ line_rest rest

-- what stands under a byte before the caret: a tab under a tab, and nothing under the later bytes of a character
abbrev pub below : ℕ → List ℕ
below b = if b == 9 then 9 ∷ [] else if nat_lt 127 b && nat_lt b 192 then [] else 32 ∷ []

-- the margin of a line with this number, or that of a line below it
abbrev pub margin : List ℕ → List ℕ
margin number = codes " " ++ number ++ codes " | "

-- a line with its number, in two parts
abbrev pub line_shown : ℕ → List ℕ → List ℕ → List ℕ
line_shown line front rest = margin (decimal line) ++ front ++ rest ++ codes "\n"

-- a caret under the place behind these bytes of a line, in a margin as wide as that of the line
abbrev pub caret_below : ℕ → List ℕ → List ℕ
caret_below line front = margin (map blank (decimal line)) ++ flat_map below front ++ codes "^\n"

-- a line with its number, and a caret under the place between these parts of it
abbrev pub shown : ℕ → List ℕ → List ℕ → List ℕ
shown line front rest = line_shown line front rest ++ caret_below line front

-- the line of a place, with a caret under it, if no more than 200 bytes stand before it on its line; 200 of those from it
-- on are shown at most
abbrev pub excerpt : List ℕ → ℕ → List ℕ
excerpt source at =
    if nat_lt 200 (front_of source at) then []
    else shown (line_of source at) (part source (at - front_of source at) at) (line_rest (take 200 (drop at source)))
