-- The values of a list, and the stores that take its place.
use Rattle.std.specs.Prelude.{ℕ, Bool, true, false, ◌+◌, ◌-◌, ◌==◌, ◌||◌, ◌&&◌, not, if◌then◌else◌, List, [], ◌∷◌, ◌++◌, codes, decimal}
use Rattle.lab_port_tokens.specs.declared.piece.Piece.{Piece}
use Rattle.lab_port_words.specs.declared.class.Class.{Class}
use Rattle.lab_port_words.specs.declared.class.Class.TheVariants as classes
use Rattle.lab_port_words.specs.declared.class.Sign.{Sign}
use Rattle.lab_port_words.specs.declared.class.Sign.TheVariants as signs
use Rattle.lab_port_words.specs.Classes.{is_gap}
use Rattle.lab_port_words.specs.Tables.{class_of}
use Rattle.lab_port_context.specs.Contexts.{deeper}
use Rattle.lab_port_context.specs.Ahead.{is_comma}
use Rattle.lab_port_lists.specs.declared.value.Values.{Values}

abbrev pub is_open_brace : Class → Bool
is_open_brace (classes.Sign signs.OpenBrace) = true
is_open_brace _ = false

abbrev pub is_close_brace : Class → Bool
is_close_brace (classes.Sign signs.CloseBrace) = true
is_close_brace _ = false

-- how many brackets are open behind a token
abbrev pub depth_behind : ℕ → Class → ℕ
depth_behind depth (classes.Sign signs.Open) = deeper depth
depth_behind depth (classes.Sign signs.OpenBracket) = deeper depth
depth_behind depth (classes.Sign signs.Close) = depth - 1
depth_behind depth (classes.Sign signs.CloseBracket) = depth - 1
depth_behind depth _ = depth

-- a comma outside of brackets, which ends a value
abbrev pub parts_values : Values → Class → Bool
parts_values values class = values.depth == 0 && is_comma class

-- a token of a value
abbrev pub is_of_value : Values → Class → Bool
is_of_value values class = not (is_gap class || (parts_values values class || is_close_brace class))

-- the values behind a token
abbrev pub values_with : Values → Class → Values
values_with values class =
    if is_of_value values class
    then record {
      count = if values.begun then values.count else deeper values.count;
      depth = depth_behind values.depth class;
      begun = true;
    }
    else record {
      count = values.count;
      depth = values.depth;
      begun = values.begun && not (parts_values values class);
    }

abbrev pub no_values : Values
no_values = record { count = 0; depth = 0; begun = false }

-- what stands before the value with this number
abbrev pub store_head : List ℕ → ℕ → List ℕ
store_head name number =
    (if number == 0 then [] else codes ";") ++ codes " " ++ name ++ codes "[" ++ decimal number ++ codes "] ="

-- what a piece of a value is in its store
abbrev pub value_part : List ℕ → Values → Piece → List ℕ
value_part name values piece =
    if is_of_value values (class_of piece)
    then (if values.begun then [] else store_head name values.count) ++ codes " " ++ piece.text
    else []

-- a store for each value of a list, whose `{` stands before these pieces
abbrev pub stores_from : List ℕ → Values → List Piece → List ℕ
stores_from name values [] = []
stores_from name values (piece ∷ rest) =
    value_part name values piece ++ stores_from name (values_with values (class_of piece)) rest

abbrev pub values_from : Values → List Piece → Values
values_from values [] = values
values_from values (piece ∷ rest) = values_from (values_with values (class_of piece)) rest

-- the pieces behind the first `{`
abbrev pub behind_brace : List Piece → List Piece
behind_brace [] = []
behind_brace (piece ∷ rest) = if is_open_brace (class_of piece) then rest else behind_brace rest

-- how many values stand in a list
abbrev pub count_of : List Piece → ℕ
count_of list = (values_from no_values (behind_brace list)).count

-- a store for each value of a list
abbrev pub stores_of : List ℕ → List Piece → List ℕ
stores_of name list = stores_from name no_values (behind_brace list)
