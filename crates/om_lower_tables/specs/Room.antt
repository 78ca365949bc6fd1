-- Whether numbers of 32 bits are enough for what a part of a tree mentions, and for the regions in it.
use Rattle.std.specs.Prelude.{◌+◌, ◌<◌, ◌^◌, ℕ, List, length}
use Rattle.om_lower_rules.specs.declared.tables.Numbers.{Numbers}
use Rattle.om_lower_tables.specs.declared.mentions.Mentions.{Mentions}
use Rattle.om_lower_tables.specs.declared.mentions.Walk.{Walk}

-- how many texts, bodies and lists of PICK have a number
abbrev pub texts_in : Mentions → ℕ
texts_in found = length found.formats + length found.locks

abbrev pub given_numbers : Numbers → ℕ
given_numbers numbers = numbers.bodies + numbers.picks

-- a part of this weight has numbers behind so many
unfoldable pub IsRoomFor : (weight : ℕ) → (given : ℕ) → Type 0
IsRoomFor weight given = given + weight < 2 ^ 32

-- it has numbers behind these texts
abbrev pub HasRoomBehind : (weight : ℕ) → (texts : List (List ℕ)) → Type 0
HasRoomBehind weight texts = IsRoomFor weight (length texts)

abbrev pub HasTextRoom : (weight : ℕ) → Mentions → Type 0
HasTextRoom weight found = IsRoomFor weight (texts_in found)

abbrev pub HasNumbers : (weight : ℕ) → Numbers → Type 0
HasNumbers weight numbers = IsRoomFor weight (given_numbers numbers)

abbrev pub HasRoom : (weight : ℕ) → Walk → Type 0
HasRoom weight walk = IsRoomFor weight (given_numbers walk.numbers + texts_in walk.found)
