-- What of a source is not accepted, once a kind.
use Rattle.std.specs.Prelude.{ℕ, Bool, true, false, List, [], ◌∷◌, ◌++◌, ◌+◌, ◌-◌, ◌==◌, ◌&&◌, if◌then◌else◌, nat_lt, codes, decimal, map, flat_map, count_by, length, take}
use Rattle.std.specs.Str.{bytes_eq}
use Rattle.std.specs.List.{list_any}
use Rattle.lab_port_rules.specs.declared.rule.Rule.{Rule}
use Rattle.lab_port_rules.specs.declared.rule.Rule.TheVariants as rules
use Rattle.lab_port.specs.declared.ported.Change.{Change}
use Rattle.lab_port.specs.declared.ported.Refusal.{Refusal}
use Rattle.lab_port.specs.declared.ported.Ported.{Ported}
use Rattle.lab_port.specs.Names.{name_of, lack_words}
use Rattle.lab_port.specs.Places.{line_of, place_in}
use Rattle.lab_port_kinds.specs.declared.found.Found.{Found}

-- a place where a rule of the port applies
abbrev pub changed_words : Change → List ℕ
changed_words change = name_of change.rule ++ codes ": omplab port does this"

abbrev pub changed_place : List ℕ → Change → Found
changed_place text change =
    record { words = changed_words change; line = line_of text (place_in text change.at) }

-- the change that stores the values of lists is of a text that the port wrote: the lists have places of their own
abbrev pub is_fill : Rule → Bool
is_fill rules.Fill = true
is_fill _ = false

abbrev pub places_at : List ℕ → Change → List Found
places_at text change = if is_fill change.rule then [] else changed_place text change ∷ []

abbrev pub changed_places : List ℕ → List Change → List Found
changed_places text changes = flat_map (places_at text) changes

-- a token without a form
abbrev pub lacking_place : List ℕ → Refusal → Found
lacking_place text refusal =
    record { words = lack_words refusal.lack; line = line_of text (place_in text refusal.at) }

-- the places of a source where a rule applies, stage by stage, and then those without a form
abbrev pub places_of : List ℕ → Ported → List Found
places_of source ported =
    changed_places source ported.conditions.changes.items
    ++ changed_places ported.conditions.text.items ported.calls.changes.items
    ++ changed_places ported.calls.text.items ported.names.changes.items
    ++ changed_places ported.names.text.items ported.arguments.changes.items
    ++ changed_places ported.arguments.text.items ported.arrays.changes.items
    ++ changed_places ported.arrays.text.items ported.lists.changes.items
    ++ changed_places ported.lists.text.items ported.sizes.changes.items
    ++ changed_places ported.sizes.text.items ported.texts.changes.items
    ++ changed_places ported.texts.text.items ported.again.changes.items
    ++ changed_places ported.again.text.items ported.rules.changes.items
    ++ map (lacking_place ported.again.text.items) ported.refusals.items

abbrev pub is_like : Found → Found → Bool
is_like one other = bytes_eq other.words one.words

-- a place of this kind stands among these
abbrev pub has_like : Found → List Found → Bool
has_like one places = list_any (λ other. is_like one other) places

-- how many places are of this kind
abbrev pub count_like : Found → List Found → ℕ
count_like one places = count_by (λ other. is_like one other) places

-- a number and a word, with an `s` unless there is one
abbrev pub counted : ℕ → List ℕ → List ℕ
counted count word = decimal count ++ codes " " ++ word ++ (if count == 1 then [] else codes "s")

abbrev pub line_words : Found → List ℕ
line_words found = codes " " ++ decimal found.line

-- the lines of the places of this kind, so many at most
abbrev pub lines_like : ℕ → Found → List Found → List ℕ
lines_like left one [] = []
lines_like left one (place ∷ rest) =
    if nat_lt 0 left && is_like one place then line_words place ++ lines_like (left - 1) one rest
    else lines_like left one rest

-- how many places there are of the kind of a place, behind it and with it, and the lines of the first four
abbrev pub places_words : Found → List Found → List ℕ
places_words one rest =
    codes "  " ++ counted (count_like one rest + 1) (codes "place") ++ codes ", in line" ++ line_words one
    ++ lines_like 3 one rest

-- the same, and what they are
abbrev pub kind_line : Found → List Found → List ℕ
kind_line one rest = places_words one rest ++ codes ": " ++ one.words ++ codes "\n"

-- the line of the kind of a place before these; nothing where one of its kind stands before it
abbrev pub line_by : List Found → Found → List Found → List ℕ
line_by before one rest = if has_like one before then [] else kind_line one rest

-- a line for each kind, in the order of the first place of each, from the place with this number on
abbrev pub lines_from : List Found → ℕ → List Found → List ℕ
lines_from places number [] = []
lines_from places number (one ∷ rest) =
    line_by (take number places) one rest ++ lines_from places (number + 1) rest

-- what stands before the lines of some places; nothing where there is none
abbrev pub heading : List Found → List ℕ
heading places =
    if length places == 0 then [] else codes "by the words alone these places are not accepted:\n"

-- a line for each kind; nothing where there is none
abbrev pub kinds_text : List Found → List ℕ
kinds_text places = heading places ++ lines_from places 0 places
