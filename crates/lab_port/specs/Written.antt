-- The text that a source becomes by some changes.
use Rattle.std.specs.Prelude.{ℕ, Bool, List, [], ◌∷◌, ◌++◌, ◌==◌, ◌||◌, ◌+◌, ◌-◌, ◌≤◌, ◌≡◌, if◌then◌else◌, length, take, drop, count_by}
use Rattle.lab_port.specs.declared.ported.Change.{Change}

-- white space that stays
abbrev pub is_white : ℕ → Bool
is_white b = (b == 10 || b == 32) || (b == 9 || b == 13)

-- bytes as white space: line feeds, spaces, tabs and carriage returns stay
abbrev pub blank : ℕ → ℕ
blank b = if is_white b then b else 32

-- bytes that are replaced, as white space, without the first ones, whose columns the new text takes; each line feed stays
abbrev pub blanks_behind : ℕ → List ℕ → List ℕ
blanks_behind owed [] = []
blanks_behind owed (b ∷ rest) =
    if b == 10 || owed == 0 then blank b ∷ blanks_behind owed rest else blanks_behind (owed - 1) rest

-- the bytes of a source from one place up to another
abbrev pub part : List ℕ → ℕ → ℕ → List ℕ
part source from to = take (to - from) (drop from source)

-- the place behind what a change replaces
abbrev pub end_of : Change → ℕ
end_of change = change.at + length change.old

-- what stands in place of the old bytes: the new text, and white space up to their end; each line feed of theirs stays
abbrev pub written_for : Change → List ℕ
written_for change = change.new ++ blanks_behind (length change.new) change.old

-- a source from a place on, with the changes that follow there: all else is kept byte for byte
abbrev pub with_changes : List ℕ → ℕ → List Change → List ℕ
with_changes source from [] = drop from source
with_changes source from (change ∷ more) =
    part source from change.at ++ (written_for change ++ with_changes source (end_of change) more)

-- how many line feeds stand among some bytes
abbrev pub line_feeds : List ℕ → ℕ
line_feeds bytes = count_by (λ byte. byte == 10) bytes

-- a change from a place of a source on: what it replaces stands there, and what it writes has no line feed
abbrev pub Stands : List ℕ → ℕ → Change → Type 0
Stands source from change =
    (from ≤ change.at) × (end_of change ≤ length source)
    × (part source change.at (end_of change) ≡ change.old) × (line_feeds change.new ≡ 0)

-- the changes stand in a source from a place on, one behind another
abbrev pub Stand : List ℕ → ℕ → List Change → Type 0
Stand source from [] = Unit
Stand source from (change ∷ more) = Stands source from change × Stand source (end_of change) more
